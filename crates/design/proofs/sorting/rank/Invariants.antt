-- `rank` meets its contract: member `i` stands before none of the first `p`.
use mathlib.Core.Path.{◌≡◌}
use mathlib.Core.Bool.{false}
use Prim.Native.Nat.{ℕ, ◌<◌}
use lib.ListN.{get_or}
use Rattle.rules.specs.Family.{before}
use Rattle.design.specs.State.{column_at}
use Rattle.design.proofs.sorting.rank.Given as goal

abbrev pub invariant-loop-p : goal.invariant-loop-p
invariant-loop-p l = (q : ℕ) → q < l.p → before (column_at l.n l.store l.i) (column_at l.n l.store (get_or l.order q 0)) ≡ false
