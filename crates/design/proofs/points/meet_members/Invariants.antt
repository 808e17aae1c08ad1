-- `meet_members` meets its contract: after each turn there are the points of the members looked at.
use mathlib.Core.Path.{◌≡◌}
use mathlib.Core.List.{List}
use Prim.Native.Nat.{ℕ}
use lib.ListN.{get_or, take}
use Rattle.design.specs.State.{column_at}
use Rattle.design.proofs.Gathering.{Met}
use Rattle.design.proofs.points.meet_members.Given as goal

-- member k is not E
abbrev pub Parts : ℕ → List ℕ → ℕ → Type 0
Parts n counts k = get_or counts k 0 ≡ n → ⊥

abbrev pub invariant-loop-i : goal.invariant-loop-i
invariant-loop-i l = Met l.n l.m (take l.n l.points) (column_at l.n l.store) (Parts l.n l.counts) l.i
