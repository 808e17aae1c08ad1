-- `insert` meets its contract: the entries from `k` on are shifted.
use mathlib.Core.Path.{◌≡◌}
use Prim.Native.Nat.{◌≤◌}
use Rattle.design.proofs.Order.{shifted}
use Rattle.design.proofs.sorting.insert.Given as goal

abbrev pub invariant-loop-k : goal.invariant-loop-k
invariant-loop-k l = (l.p ≤ l.k) × (l.k ≤ l.i) × (l.order ≡ shifted l.initial.order l.i l.k)

abbrev pub decreases-loop-k : goal.decreases-loop-k
decreases-loop-k l = l.k
