-- `gather_all` meets its contract: after each turn the members looked at, but E, are gathered.
use Prim.Native.Nat.{◌≤◌}
use lib.ListN.{take}
use Rattle.rules.specs.Family.{members_of}
use Rattle.design.specs.Points.{Gathered}
use Rattle.design.proofs.points.gather_all.Given as goal

abbrev pub invariant-loop-i : goal.invariant-loop-i
invariant-loop-i l =
    (l.some ≤ l.i) × Gathered l.n l.m (take l.n l.points) (take l.i (members_of l.n l.store l.size)) l.own l.own_counts l.some
