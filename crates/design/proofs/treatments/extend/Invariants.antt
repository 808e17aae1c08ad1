-- `extend` meets its contract: after each turn the infima are those of the choices, and of the short ones so far with the column in front.
use Prim.Native.Nat.{◌-◌, ◌≤◌}
use Rattle.design.proofs.Choosing.{Extending}
use Rattle.design.proofs.treatments.extend.Given as goal

abbrev pub invariant-loop-e : goal.invariant-loop-e
invariant-loop-e l = (l.e ≤ l.total) × Extending l.column l.k l.initial.infima l.initial.lengths l.total l.infima l.lengths l.now l.e

abbrev pub decreases-loop-e : goal.decreases-loop-e
decreases-loop-e l = l.total - l.e
