-- `place_column` meets its contract: the column that is placed is the numbered column of the table.
use mathlib.Core.Path.{sym, ap, ◌∙◌, subst}
use mathlib.Core.List.{List, [], ◌∷◌, ◌++◌}
use Prim.Native.Nat.{ℕ, ◌+◌, ◌≤◌}
use native.Mathlib.Omega.{arith}
use lib.ListN.{take, replicate}
use Rattle.rules.specs.Factor.{Column, number, classes}
use Rattle.rules.proofs.Numbering.{number_number}
use Rattle.levels.proofs.Numbered.{Numbered, column_numbered}
use Rattle.design.specs.State.{column_at, Held, Begun}
use Rattle.design.proofs.Start.{after_placed, begun_more, placed_on, held_on}
use Rattle.design.proofs.columns.place_column.Goals as goal
use Rattle.design.proofs.columns.place_column.Goals.{After-column_numbers-k}

-- the column of the table
abbrev entered : After-column_numbers-k → Column
entered c = column_at c.args.n c.args.levels.now c.args.c

-- the same, numbered: it is what is placed
abbrev column : After-column_numbers-k → Column
column c = number (entered c)

made : (c : After-column_numbers-k) → Numbered c.args.n (entered c) c.column_numbers-k.new.out c.column_numbers-k.result
made c =
    let s = c in
    let zeros : List ℕ = replicate 240 0 in
    column_numbered s.args.n s.args.c s.args.levels.now zeros c.column_numbers-k.new.out c.column_numbers-k.result
    s.requires.0.most (omega (arith, s.requires.0.most, s.requires.2)) c.column_numbers-k.ensures.answer c.column_numbers-k.ensures.numbers

pub slice_bounds-column-end : goal.slice_bounds-column-end
slice_bounds-column-end c = (made (goal.at.slice_bounds-column-end c).After-column_numbers-k).room

pub slice_bounds-place-end : goal.slice_bounds-place-end
slice_bounds-place-end c = sym (made (goal.at.slice_bounds-place-end c).After-column_numbers-k).lent_plots

pub overflow_cast-k : goal.overflow_cast-k
overflow_cast-k c = omega (arith, (made (goal.at.overflow_cast-k c).After-column_numbers-k).few)

pub place-p-requires : goal.place-p-requires
place-p-requires c =
    let w = (goal.at.place-p-requires c).After-column_numbers-k in (
      held_on c.args.n c.args.store.now c.args.counts.now c.args.size (take c.args.n w.column_numbers-k.new.out) (column w) (made w).numbers (made w).numbered_plots c.requires.0,
      (made w).count ∙ ap classes (sym (made w).numbers),
      c.requires.1,
    )

pub returns : goal.returns
returns c =
    let w = (goal.at.returns c).After-column_numbers-k in
    let p = placed_on c.args.n c.args.store.now c.args.size (take c.args.n w.column_numbers-k.new.out) (column w) c.place-p.result c.place-p.new.store c.place-p.new.counts (made w).numbers (made w).numbered_plots c.place-p.ensures in
    let a = after_placed c.args.n c.args.store.now c.args.counts.now c.args.size c.requires.0 c.requires.1 (column w) c.place-p.result c.place-p.new.store c.place-p.new.counts p in
    let e = c.grown.ensures in record {
      kept = (subst (λ (k : ℕ). Held c.args.n c.place-p.new.store c.place-p.new.counts k) (sym e) a.held, subst (λ (k : ℕ). k ≤ c.args.size + 1) (sym e) a.most);
      begun = λ As b. subst (λ (k : ℕ). Begun c.args.n (As ++ column w ∷ []) c.place-p.new.store c.place-p.new.counts k) (sym e)
          (begun_more c.args.n As c.args.store.now c.args.counts.now c.args.size b c.requires.1 (column w) (number_number (entered w)) c.place-p.result c.place-p.new.store c.place-p.new.counts p);
    }
