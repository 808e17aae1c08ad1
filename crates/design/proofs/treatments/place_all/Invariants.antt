-- `place_all` meets its contract: after each turn the members are the columns so far.
use mathlib.Core.List.{◌++◌}
use Prim.Native.Nat.{◌-◌, ◌≤◌}
use Rattle.rules.specs.Family.{columns_from, members_of}
use Rattle.design.specs.State.{Begun}
use Rattle.design.proofs.treatments.place_all.Given as goal

abbrev pub invariant-loop-e : goal.invariant-loop-e
invariant-loop-e l = (l.e ≤ l.total) × Begun l.n (columns_from l.n l.infima l.e (l.total - l.e) ++ members_of l.n l.initial.store l.size) l.store l.counts l.now
