-- Laws of a number in decimal, digit by digit from the last.
-- Assumes nothing.
use mathlib.Core.Path.{◌≡◌, refl, sym, ◌∙◌}
use mathlib.Core.Bool.{Bool, true, false}
use mathlib.Core.List.{List, [], ◌∷◌}
use Prim.Native.Nat.{ℕ, zero, suc, ◌+◌, ◌/◌, ◌%◌, ◌-◌, ◌^◌, ◌<◌, ◌≤◌}
use native.Mathlib.Nat.{not-suc-le-zero, le_of_suc-le-suc, pow-suc}
use native.Mathlib.Omega.{arith}
use lib.Dec.{ltb}
use lib.ListN.{length, drop, set}
use borrow.Author.Tests.{le-ltb, lt-ltb, ltb-false}
use Rattle.rules.specs.Lists.{digits_before, decimal_of}

-- the digits of n before the digits ds
abbrev pub digits : ℕ → List ℕ → List ℕ
digits n ds = digits_before (suc n) n ds

-- enough steps are enough
steps : (j k n : ℕ) (ds : List ℕ) → n < j → n < k → digits_before j n ds ≡ digits_before k n ds
unfolding digits_before
steps zero k n ds h l = absurd (not-suc-le-zero h)
steps (suc j) zero n ds h l = absurd (not-suc-le-zero l)
steps (suc j) (suc k) n ds h l = go (ltb n 10) refl (λ m. steps j k (n / 10) ((48 + n % 10) ∷ ds) (omega arith) (omega arith))
  where
    go : (b : Bool) → ltb n 10 ≡ b → (10 ≤ n → digits_before j (n / 10) ((48 + n % 10) ∷ ds) ≡ digits_before k (n / 10) ((48 + n % 10) ∷ ds))
        → digits_before (suc j) n ds ≡ digits_before (suc k) n ds
    go true e f = rw (e, digits_before)
    go false e f = rw (e, digits_before) (f (ltb-false n 10 e))

-- the last digit
pub digits_more : (n : ℕ) (ds : List ℕ) → 10 ≤ n → digits n ds ≡ digits (n / 10) ((48 + n % 10) ∷ ds)
unfolding digits_before
digits_more n ds h = first ∙ steps n (suc (n / 10)) (n / 10) ((48 + n % 10) ∷ ds) (omega arith) (omega arith)
  where
    first : digits_before (suc n) n ds ≡ digits_before n (n / 10) ((48 + n % 10) ∷ ds)
    first = rw (le-ltb n 10 h, digits_before)

-- the first digit
pub digits_one : (n : ℕ) (ds : List ℕ) → n < 10 → digits n ds ≡ (48 + n) ∷ ds
unfolding digits_before
digits_one n ds h = rw (lt-ltb n 10 h, digits_before)

pub decimal_start : (n : ℕ) → digits n [] ≡ decimal_of n
unfolding decimal_of
decimal_start n = refl

-- one digit
pub decimal_one : (n : ℕ) → n < 10 → (48 + n) ∷ [] ≡ decimal_of n
decimal_one n h = sym (digits_one n [] h) ∙ decimal_start n

-- two digits
pub decimal_two : (n : ℕ) → 10 ≤ n → n < 100 → (48 + n / 10) ∷ (48 + n % 10) ∷ [] ≡ decimal_of n
decimal_two n l h = sym (digits_one (n / 10) ((48 + n % 10) ∷ []) (omega arith)) ∙ sym (digits_more n [] l) ∙ decimal_start n

-- a store at a place, seen from that place on
pub drop_set : (l : List ℕ) (i v : ℕ) → i < length l → drop i (set l i v) ≡ v ∷ drop (suc i) l
drop_set [] i v h = absurd (not-suc-le-zero h)
drop_set (x ∷ l) zero v h = refl
drop_set (x ∷ l) (suc i) v h = drop_set l i v (le_of_suc-le-suc h)

-- a number of at least two digits wants two places, and one place fewer for all but its last digit
pub two_places : (m k : ℕ) → 10 ≤ m → m < 10 ^ k → 2 ≤ k
two_places m zero h l = absurd (omega arith)
two_places m (suc zero) h l = absurd (omega arith)
two_places m (suc (suc k)) h l = omega arith

pub place_fewer : (m k : ℕ) → 1 ≤ k → m < 10 ^ k → m / 10 < 10 ^ (k - 1)
place_fewer m zero h l = absurd (omega arith)
place_fewer m (suc k) h l =
    let e : suc k - 1 ≡ k = omega arith in
    rw e (omega (arith, rw pow-suc at l))
