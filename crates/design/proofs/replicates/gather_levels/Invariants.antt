-- `gather_levels` meets its contract: the first `c` columns are gathered.
use mathlib.Core.Path.{◌≡◌}
use mathlib.Core.List.{List}
use Prim.Native.Nat.{ℕ, ◌+◌, ◌-◌, ◌≤◌, ◌<◌}
use lib.ListN.{length, take}
use Rattle.rules.specs.Factor.{Column}
use Rattle.design.specs.State.{column_at}
use Rattle.design.specs.Points.{points_on_plots}
use Rattle.design.proofs.replicates.gather_levels.Given as goal

-- column X of points is treatment column c
abbrev pub IsGathered : ℕ → List ℕ → List ℕ → ℕ → Column → Type 0
IsGathered n points levels c X = points_on_plots (take n points) X ≡ column_at n levels (6 + c)

abbrev pub invariant-loop-c : goal.invariant-loop-c
invariant-loop-c l = (l.c ≤ l.d) × (length l.own ≡ 2880) × ((k : ℕ) → k < l.c → IsGathered l.n l.points l.levels k (column_at 240 l.own k))

abbrev pub decreases-loop-c : goal.decreases-loop-c
decreases-loop-c l = l.d - l.c
