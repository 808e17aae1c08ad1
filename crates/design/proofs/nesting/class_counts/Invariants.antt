-- `class_counts` meets its contract: the first `i` members are counted.
use mathlib.Core.Path.{◌≡◌}
use Prim.Native.Nat.{ℕ, ◌-◌, ◌≤◌, ◌<◌}
use lib.ListN.{length, get_or}
use Rattle.rules.specs.Factor.{classes}
use Rattle.design.specs.State.{column_at}
use Rattle.design.proofs.nesting.class_counts.Given as goal

abbrev pub invariant-loop-i : goal.invariant-loop-i
invariant-loop-i l =
    (l.i ≤ l.size) × (length l.counts ≡ 32) × ((p : ℕ) → p < l.i → get_or l.counts p 0 ≡ classes (column_at l.n l.family p))

abbrev pub decreases-loop-i : goal.decreases-loop-i
decreases-loop-i l = l.size - l.i
