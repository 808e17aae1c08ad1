-- `meet_levels` meets its contract: after each turn there are the points of the columns looked at.
use mathlib.Core.List.{List}
use Prim.Native.Nat.{ℕ, ◌+◌, ◌-◌, ◌≤◌}
use lib.ListN.{take}
use Rattle.rules.specs.Factor.{Column}
use Rattle.design.specs.State.{column_at}
use Rattle.design.proofs.Gathering.{Met}
use Rattle.design.proofs.replicates.meet_levels.Given as goal

-- treatment column c of the level table
abbrev pub column : ℕ → List ℕ → ℕ → Column
column n levels c = column_at n levels (6 + c)

-- each is met
abbrev pub Each : ℕ → Type 0
Each c = Unit {0}

abbrev pub invariant-loop-c : goal.invariant-loop-c
invariant-loop-c l = (l.c ≤ l.d) × Met l.n l.m (take l.n l.points) (column l.n l.levels) Each l.c

abbrev pub decreases-loop-c : goal.decreases-loop-c
decreases-loop-c l = l.d - l.c
