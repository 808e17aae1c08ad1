-- Laws of two columns of one length lent to the operations on factors: all their plots are treated.
-- Assumes nothing.
use mathlib.Core.Path.{◌≡◌, ap, ◌∙◌}
use mathlib.Core.List.{List}
use Prim.Native.Nat.{ℕ, ◌≤◌, ◌<◌}
use native.Mathlib.Nat.{le_of_eq}
use native.Mathlib.Omega.{arith}
use lib.ListN.{length, take}
use lib.Seq.{take_all}
use Rattle.rules.specs.Factor.{Column, infimum}
use Rattle.factor.specs.Lent.{common, on_common}
use Rattle.factor.proofs.Lent.{length_part}
use Rattle.design.specs.State.{column_at}

-- a place of the store has a column of n plots
pub column_length : (n : ℕ) (store : List ℕ) (i : ℕ) → n ≤ 240 → length store ≡ 7680 → i < 32 → length (column_at n store i) ≡ n
column_length n store i small room h = length_part n i store (omega arith)

-- a column on n plots, and what stands at the front of an array
pub common_front : (n : ℕ) (F M : Column) → n ≤ 240 → length F ≡ n → length M ≡ 240 → on_common infimum F M ≡ infimum F (take n M)
common_front n F M small l_f lM =
    let e : common F M ≡ n = rw (l_f, lM) (omega arith) in
    ap (λ (k : ℕ). infimum (take k F) (take k M)) e ∙ ap (λ (X : Column). infimum X (take n M)) (take_all n F (le_of_eq l_f))
