-- A number that every class size divides: the product of 1 to n. So every factor on n plots has averaging weights, whatever the sizes of its classes.
-- Assumes nothing.
use mathlib.Core.Path.{◌≡◌, ap, ◌∙◌}
use mathlib.Core.Bool.{true, false}
use Prim.Native.Nat.{ℕ, zero, suc, ◌*◌, ◌≤◌, ◌<◌, zero-le, suc-le-suc}
use native.Mathlib.Nat.{mul_comm, mul_assoc, mul-pos}
use native.Mathlib.Omega.{arith}
use lib.Dec.{eqb}
use borrow.Author.Tests.{eqb-true, eqb-false}
use Rattle.rules.specs.Factor.{Column, same, class_size}
use Rattle.rules.proofs.Numbering.{by_cases}
use Rattle.rules.proofs.Walks.{count_le}
use Rattle.rules.proofs.Averages.{size_some, Weighs}

-- the product of the numbers 1 to n
unfoldable pub up_to : ℕ → ℕ
up_to zero = 1
up_to (suc n) = suc n * up_to n

-- the same product without k
unfoldable pub without : ℕ → ℕ → ℕ
unfolding up_to
without zero k = 1
without (suc n) k = elim (eqb k (suc n)) [ true ↦ up_to n | false ↦ suc n * without n k ]

-- the product is not 0
pub up_to_some : (n : ℕ) → 0 < up_to n
unfolding up_to
up_to_some zero = suc-le-suc zero-le
up_to_some (suc n) = mul-pos (suc-le-suc zero-le) (up_to_some n)

-- each number from 1 to n divides the product
pub without_times : (n k : ℕ) → 0 < k → k ≤ n → without n k * k ≡ up_to n
unfolding without up_to
without_times zero k h l = absurd (omega arith)
without_times (suc n) k h l =
    by_cases (eqb k (suc n))
    (λ e. rw (e, without) (ap (λ (x : ℕ). up_to n * x) (eqb-true k (suc n) e) ∙ mul_comm (up_to n) (suc n)))
    (λ e. let ne : k ≡ suc n → ⊥ = eqb-false k (suc n) e in
    rw (e, without) (mul_assoc (suc n) (without n k) k ∙ ap (λ (x : ℕ). suc n * x) (without_times n k h (omega (arith, ne)))))

-- the weight of a plot, whatever the size of its class
unfoldable pub any_size : ℕ → Column → ℕ → ℕ
unfolding without class_size
any_size n F u = without n (class_size n F u)

-- weight times class size is the product, at every plot
pub any_weighs : (n : ℕ) (F : Column) → Weighs n (up_to n) (any_size n) F
unfolding any_size class_size
any_weighs n F u hu = without_times n (class_size n F u) (size_some n F u hu) (count_le n (λ v. same F u v))
