-- `combine_row` meets its contract. The loop's invariant: the store has not shrunk, whatever the work is towards, it has come to the pair i, j, and what is known of the order is true.
use mathlib.Core.List.{List}
use Prim.Native.Nat.{◌≤◌, ◌-◌}
use Rattle.rules.specs.Factor.{Column}
use Rattle.design.specs.State.{Held, Known, Work}
use Rattle.design.proofs.closing.combine_row.Given as goal

abbrev pub invariant-loop-j : goal.invariant-loop-j
invariant-loop-j l =
    (l.j ≤ l.i) × Held l.n l.store l.counts l.now × (l.size ≤ l.now) × ((Gs : List Column) → Work l.n l.infima Gs l.initial.store l.initial.counts l.initial.marks l.size l.i 0 → Work l.n l.infima Gs l.store l.counts l.marks l.now l.i l.j) × Known l.n l.store l.above l.now

abbrev pub decreases-loop-j : goal.decreases-loop-j
decreases-loop-j l = l.i - l.j
