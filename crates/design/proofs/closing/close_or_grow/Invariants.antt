-- `close_or_grow` meets its contract. The loop's invariant: no member is new, whatever the work is towards, it has come to row i, and what is known of the order is true.
use mathlib.Core.Bool.{false}
use mathlib.Core.List.{List}
use Prim.Native.Nat.{◌-◌, ◌≤◌}
use Rattle.rules.specs.Factor.{Column}
use Rattle.design.specs.State.{Held, Known, Work}
use Rattle.design.proofs.closing.close_or_grow.Given as goal

abbrev pub invariant-loop-i : goal.invariant-loop-i
invariant-loop-i l =
    (l.i ≤ l.size) × Held l.n l.store l.counts l.size × ((Gs : List Column) → Work l.n false Gs l.initial.store l.initial.counts l.initial.marks l.size 0 0 → Work l.n false Gs l.store l.counts l.marks l.size l.i 0) × Known l.n l.store l.above l.size

abbrev pub decreases-loop-i : goal.decreases-loop-i
decreases-loop-i l = l.size - l.i
