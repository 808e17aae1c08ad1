-- `write` meets its contract: the first `p` members of the order are written.
use mathlib.Core.Path.{◌≡◌}
use mathlib.Core.List.{map}
use Prim.Native.Nat.{ℕ}
use lib.ListN.{length, take}
use Rattle.rules.specs.Family.{written}
use Rattle.design.specs.State.{column_at}
use Rattle.design.proofs.sorting.write.Given as goal

abbrev pub invariant-loop-p : goal.invariant-loop-p
invariant-loop-p l = (length l.family ≡ length l.initial.family) × (l.family ≡ written l.initial.family 0 (map (λ (i : ℕ). column_at l.n l.store i) (take l.p l.order)))
