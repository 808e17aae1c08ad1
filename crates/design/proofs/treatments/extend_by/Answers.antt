-- `extend_by` meets its contract: the infima are extended by the numbered column of the table.
use mathlib.Core.Path.{sym, subst}
use mathlib.Core.List.{List}
use Prim.Native.Nat.{ℕ}
use native.Mathlib.Omega.{arith}
use lib.ListN.{take, replicate}
use Rattle.rules.specs.Factor.{Column}
use Rattle.levels.proofs.Numbered.{Numbered, column_numbered}
use Rattle.design.specs.State.{column_at}
use Rattle.design.specs.Treatments.{extended, Room, Infima}
use Rattle.design.proofs.treatments.extend_by.Goals as goal
use Rattle.design.proofs.treatments.extend_by.Goals.{After-column_numbers}

-- the column of the table
abbrev column : After-column_numbers → Column
column c = column_at c.args.n c.args.levels.now c.args.c

-- the part of the array that is lent: that column, numbered
abbrev lent : After-column_numbers → Column
lent c = take c.args.n c.column_numbers.new.out

made : (c : After-column_numbers) → Numbered c.args.n (column c) c.column_numbers.new.out c.column_numbers.result
made c =
    let s = c in
    let zeros : List ℕ = replicate 240 0 in
    column_numbered s.args.n s.args.c s.args.levels.now zeros c.column_numbers.new.out c.column_numbers.result
    s.requires.0.most (omega (arith, s.requires.0.most, s.requires.3)) c.column_numbers.ensures.answer c.column_numbers.ensures.numbers

pub slice_bounds-column-end : goal.slice_bounds-column-end
slice_bounds-column-end c = (made (goal.at.slice_bounds-column-end c).After-column_numbers).room

pub slice_bounds-extend-end : goal.slice_bounds-extend-end
slice_bounds-extend-end c = sym (made (goal.at.slice_bounds-extend-end c).After-column_numbers).lent_plots

pub extend-requires : goal.extend-requires
extend-requires c =
    let w = (goal.at.extend-requires c).After-column_numbers in
    (subst (λ (m : ℕ). Room m c.args.lengths.now) (sym (made w).lent_plots) c.requires.0, c.requires.1, c.requires.2, c.requires.4)

pub returns : goal.returns
returns c =
    let w = (goal.at.returns c).After-column_numbers in
    let k = c.args.k in record {
      kept = (subst (λ (m : ℕ). Room m c.extend.new.lengths) (made w).lent_plots c.extend.ensures.kept.0, c.extend.ensures.kept.1);
      extends = λ Cs i. subst (λ (m : ℕ). Infima m c.extend.new.infima c.extend.new.lengths c.extend.result (extended k (column w) Cs)) (made w).lent_plots
          (c.extend.ensures.extends (column w) Cs (sym (made w).numbers) (subst (λ (m : ℕ). Infima m c.args.infima.now c.args.lengths.now c.args.total Cs) (sym (made w).lent_plots) i));
    }
