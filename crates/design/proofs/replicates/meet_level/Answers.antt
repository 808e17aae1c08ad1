-- `meet_level` meets its contract: the numbered column of the table is met.
use mathlib.Core.Path.{◌≡◌, sym, ap, ap₂, ◌∙◌}
use mathlib.Core.List.{List}
use Prim.Native.Nat.{ℕ}
use native.Mathlib.Omega.{arith}
use borrow.Author.Rules.{rules}
use lib.ListN.{length, take, replicate}
use lib.Seq.{length-take-le}
use Rattle.rules.specs.Factor.{Column, classes, infimum}
use Rattle.rules.proofs.Bounds.{infimum_number}
use Rattle.design.specs.State.{column_at}
use Rattle.levels.proofs.Numbered.{Numbered, column_numbered}
use Rattle.design.proofs.replicates.meet_level.Goals as goal
use Rattle.design.proofs.replicates.meet_level.Goals.{After-column_numbers}

-- the column of the table
abbrev column : After-column_numbers → Column
column c = column_at c.args.n c.args.levels.now c.args.c

-- the part of the array that is lent is that column, numbered
made : (c : After-column_numbers) → Numbered c.args.n (column c) c.column_numbers.new.out c.column_numbers.result
made c =
    let zeros : List ℕ = replicate 240 0 in
    column_numbered c.args.n c.args.c c.args.levels.now zeros c.column_numbers.new.out c.column_numbers.result
    c.requires.0 (omega (arith, c.requires.0, c.requires.1)) c.column_numbers.ensures.answer c.column_numbers.ensures.numbers

pub slice_bounds-column-end : goal.slice_bounds-column-end
slice_bounds-column-end c = (made (goal.at.slice_bounds-column-end c).After-column_numbers).room

pub meet-requires : goal.meet-requires
meet-requires c = omega (arith, (made (goal.at.meet-requires c).After-column_numbers).lent_plots, c.requires.0)

pub returns : goal.returns
returns c =
    let w = (goal.at.returns c).After-column_numbers in
    let n = c.args.n in
    let F = column w in
    let M = c.args.points.now in
    let lM : length M ≡ 240 = search rules in
    let same : infimum (take n w.column_numbers.new.out) (take (length (take n w.column_numbers.new.out)) M) ≡ infimum F (take n M) =
    ap₂ (λ (X : Column) (k : ℕ). infimum X (take k M)) (made w).numbers (made w).lent_plots ∙ infimum_number n F (take n M) (made w).plots (length-take-le n M (omega arith)) in record {
      answer = c.meet.ensures.answer ∙ ap classes same;
      met = sym (ap (λ (k : ℕ). take k c.meet.new.points) (made w).lent_plots) ∙ c.meet.ensures.met ∙ same;
    }
