-- `close` meets its contract. The loop's invariant: the store has not shrunk, whatever the work is towards, it has come to row i, and what is known of the order is true.
use mathlib.Core.List.{List}
use Prim.Native.Nat.{◌≤◌, ◌-◌}
use Rattle.rules.specs.Factor.{Column}
use Rattle.design.specs.State.{Held, Known, Work}
use Rattle.design.proofs.closing.close.Given as goal

abbrev pub invariant-loop-i : goal.invariant-loop-i
invariant-loop-i l =
    (l.i ≤ l.now) × Held l.n l.store l.counts l.now × (l.size ≤ l.now) × ((Gs : List Column) → Work l.n l.infima Gs l.initial.store l.initial.counts l.initial.marks l.size l.from 0 → Work l.n l.infima Gs l.store l.counts l.marks l.now l.i 0) × Known l.n l.store l.above l.now

abbrev pub decreases-loop-i : goal.decreases-loop-i
decreases-loop-i l = 33 - l.i
