-- `sort` meets its contract: the first `i` entries put the first `i` members in order.
use Prim.Native.Nat.{◌-◌, ◌≤◌}
use Rattle.design.proofs.Order.{SortedTo}
use Rattle.design.proofs.sorting.sort.Given as goal

abbrev pub invariant-loop-i : goal.invariant-loop-i
invariant-loop-i l = (l.i ≤ l.size) × SortedTo l.n l.store l.size l.order l.i

abbrev pub decreases-loop-i : goal.decreases-loop-i
decreases-loop-i l = l.size - l.i
