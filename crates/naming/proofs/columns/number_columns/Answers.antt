use mathlib.Core.Path.{◌≡◌, refl, sym, ap, ◌∙◌}
use mathlib.Core.List.{List}
use Prim.Native.Nat.{ℕ, ◌+◌, ◌*◌, ◌≤◌}
use native.Mathlib.Omega.{arith}
use lib.ListN.{length, replicate}
use Rattle.rules.specs.Factor.{Column, number}
use Rattle.rules.specs.Family.{members_of}
use Rattle.factor.specs.Lent.{column_at}
use Rattle.levels.proofs.Numbered.{Numbered, column_numbered}
use Rattle.decimal.specs.Writing.{written}
use Rattle.decimal.proofs.Writing.{length_written}
use Rattle.naming.proofs.Tables.{none_yet, table_turn}
use Rattle.naming.proofs.columns.number_columns.Goals as goal
use Rattle.naming.proofs.columns.number_columns.Goals.{After-column_numbers}

-- the column at hand, numbered
module _ (c : After-column_numbers) where
  abbrev n : ℕ
  n = c.args.n

  abbrev place : ℕ
  place = c.args.first + c.loop-c.c

  abbrev levels : List ℕ
  levels = c.args.levels.now

  abbrev column : Column
  column = c.column_numbers.new.out

  inside : 240 * place + n ≤ length levels
  inside = omega (arith, c.requires.0.few_plots)

  made : Numbered n (column_at n levels place) column c.column_numbers.result
  made =
      let zeros : List ℕ = replicate 240 0 in
      column_numbered n place levels zeros column c.column_numbers.result c.requires.0.few_plots inside
      c.column_numbers.ensures.answer c.column_numbers.ensures.numbers

pub loop-c-init : goal.loop-c-init
loop-c-init c =
    let a = c.args in
    (omega arith, refl, none_yet a.n a.out.now a.levels.now a.first)

pub slice_bounds-column-end : goal.slice_bounds-column-end
slice_bounds-column-end c = (made c).room

pub slice_bounds-write_bytes-end : goal.slice_bounds-write_bytes-end
slice_bounds-write_bytes-end c = sym (made (goal.at.slice_bounds-write_bytes-end c).After-column_numbers).lent_plots

pub overflow_mul-c : goal.overflow_mul-c
overflow_mul-c c = omega (arith, c.requires.0.few)

pub loop-c-preserved : goal.loop-c-preserved
loop-c-preserved c =
    let k = (goal.at.loop-c-preserved c).After-column_numbers in
    let a = c.args in
    let out = c.loop-c.out in
    let few = c.requires.0.few in
    let long = c.requires.0.long in
    let w : c.write_bytes.new.out ≡ written out (240 * c.loop-c.c) (number (column_at a.n (levels k) (place k))) =
    c.write_bytes.ensures.bytes ∙ ap (written out (240 * c.loop-c.c)) (made k).numbers in (
      omega arith,
      ap length w ∙ length_written out (240 * c.loop-c.c) (number (column_at a.n (levels k) (place k))) ∙ c.loop-c.invariant.1,
      ap (λ (o : List ℕ). members_of a.n o (c.loop-c.c + 1)) w ∙ table_turn a.n c.requires.0.few_plots out (levels k) a.first c.loop-c.c (omega arith) (inside k) c.loop-c.invariant.2,
    )

pub shape_of-out : goal.shape_of-out
shape_of-out c = c.loop-c.invariant.1

pub returns : goal.returns
returns c =
    let a = c.args in
    let e : c.loop-c.c ≡ a.count = omega arith in
    rw e at c.loop-c.invariant.2
