-- `spread_all` meets its contract: the first `i` members are written.
use mathlib.Core.Path.{◌≡◌}
use Prim.Native.Nat.{ℕ, ◌-◌, ◌≤◌, ◌<◌}
use lib.ListN.{length, take}
use Rattle.design.specs.State.{column_at}
use Rattle.design.specs.Points.{points_on_plots}
use Rattle.design.proofs.points.spread_all.Given as goal

abbrev pub invariant-loop-i : goal.invariant-loop-i
invariant-loop-i l = (l.i ≤ l.size) × (length l.store ≡ 7680) × ((k : ℕ) → k < l.i → column_at l.n l.store k ≡ points_on_plots (take l.n l.points) (column_at 240 l.own k))

abbrev pub decreases-loop-i : goal.decreases-loop-i
decreases-loop-i l = l.size - l.i
