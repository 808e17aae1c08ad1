-- Laws of lists of numbers in ascending order: there is one such list of the numbers that have a property, and `passing_from` gives it.
-- Assumes nothing.
use mathlib.Core.Path.{◌≡◌, refl, sym, ap, ap₂, ◌∙◌, subst}
use mathlib.Core.Logic.{◌↔◌, ◌⊎◌, inl, inr}
use mathlib.Core.Bool.{Bool, true}
use mathlib.Core.List.Memᴰ
use mathlib.Core.List.{List, [], ◌∷◌}
use Prim.Native.Nat.{ℕ, zero, suc, ◌+◌, ◌≤◌, ◌<◌}
use native.Mathlib.Nat.{not-suc-le-zero, lt_irrefl}
use native.Mathlib.Omega.{arith}
use lib.Arith.{lt_of_le-ne}
use lib.Dec.{eqb}
use borrow.Author.Tests.{eqb-true, eqb-false}
use Rattle.rules.specs.Family.{◌∈◌}
use Rattle.rules.specs.Lists.{passing_from}
use Rattle.rules.specs.Listing.{Rising, no_number, then_larger, Enumerates}
use Rattle.rules.proofs.Numbering.{by_cases}

-- ---- one list

-- ascending lists of the same numbers are one list
pub rising_unique : (xs ys : List ℕ) → Rising xs → Rising ys → ((z : ℕ) → z ∈ xs → z ∈ ys) → ((z : ℕ) → z ∈ ys → z ∈ xs) → xs ≡ ys
rising_unique [] [] a b f g = refl
rising_unique [] (y ∷ ys) a b f g = absurd (Memᴰ.not-nil (g y (Memᴰ.head refl)))
rising_unique (x ∷ xs) [] a b f g = absurd (Memᴰ.not-nil (f x (Memᴰ.head refl)))
rising_unique (x ∷ xs) (y ∷ ys) (then_larger a r) (then_larger b s) f g =
    ap₂ (λ (z : ℕ) (l : List ℕ). z ∷ l) same
    (rising_unique xs ys r s (λ z m. beyond z ys (a z m) same (Memᴰ.cases_cons (f z (Memᴰ.tail m)))) (λ z m. beyond z xs (b z m) (sym same) (Memᴰ.cases_cons (g z (Memᴰ.tail m)))))
  where
    beyond : {p q : ℕ} (z : ℕ) (l : List ℕ) → p < z → p ≡ q → (z ≡ q) ⊎ (z ∈ l) → z ∈ l
    beyond z l h e (inl w) = absurd (lt_irrefl z (omega arith))
    beyond z l h e (inr m) = m

    first : (x ≡ y) ⊎ (x ∈ ys) → (y ≡ x) ⊎ (y ∈ xs) → x ≡ y
    first (inl e) q = e
    first (inr m) (inl e) = sym e
    first (inr m) (inr k) = let p = b x m in let q = a y k in absurd (lt_irrefl x (omega arith))

    same : x ≡ y
    same = first (Memᴰ.cases_cons (f x (Memᴰ.head refl))) (Memᴰ.cases_cons (g y (Memᴰ.head refl)))

pub enumerates_unique : (P : ℕ → Type 0) (xs ys : List ℕ) → Enumerates P xs → Enumerates P ys → xs ≡ ys
enumerates_unique P xs ys a b = rising_unique xs ys a.rising b.rising (λ z m. b.all z (a.only z m)) (λ z m. a.all z (b.only z m))

-- a property that says the same
pub enumerates_as : {P Q : ℕ → Type 0} (xs : List ℕ) → ((x : ℕ) → P x ↔ Q x) → Enumerates P xs → Enumerates Q xs
enumerates_as xs h a = record { rising = a.rising; only = λ x m. (h x).0 (a.only x m); all = λ x q. a.all x ((h x).1 q) }

-- ---- the numbers that pass a test

module _ (t : ℕ → Bool) where
  -- from i on, below i + n
  abbrev pub Passes : ℕ → ℕ → ℕ → Type 0
  Passes i n c = (i ≤ c) × (c < i + n) × (t c ≡ true)

  passing_only : (i n c : ℕ) → c ∈ passing_from t i n → Passes i n c
  unfolding passing_from
  passing_only i zero c m = absurd (Memᴰ.not-nil m)
  passing_only i (suc n) c m =
      by_cases (t i)
      (λ e. here e (λ k. passing_only (suc i) n c k) (Memᴰ.cases_cons (subst (λ (l : List ℕ). c ∈ l) (rw (e, passing_from)) m)))
      (λ e. later (passing_only (suc i) n c (subst (λ (l : List ℕ). c ∈ l) (rw (e, passing_from)) m)))
    where
      later : Passes (suc i) n c → Passes i (suc n) c
      later w = (omega (arith, w.0), omega (arith, w.1), w.2)

      here : t i ≡ true → (c ∈ passing_from t (suc i) n → Passes (suc i) n c) → (c ≡ i) ⊎ (c ∈ passing_from t (suc i) n) → Passes i (suc n) c
      here e rest (inl q) = (omega arith, omega arith, rw q e)
      here e rest (inr k) = later (rest k)

  passing_all : (i n c : ℕ) → Passes i n c → c ∈ passing_from t i n
  unfolding passing_from
  passing_all i zero c w = let z : 1 ≤ 0 = omega (arith, w.0, w.1) in absurd (not-suc-le-zero z)
  passing_all i (suc n) c w =
      by_cases (eqb i c)
      (λ q. let r = eqb-true i c q in let f : t i ≡ true = ap t r ∙ w.2 in rw (f, passing_from) (Memᴰ.head (sym r)))
      (λ q. let rest = passing_all (suc i) n c (lt_of_le-ne w.0 (eqb-false i c q), omega (arith, w.1), w.2) in
      by_cases (t i) (λ f. rw (f, passing_from) (Memᴰ.tail rest)) (λ f. rw (f, passing_from) rest))

  passing_rising : (i n : ℕ) → Rising (passing_from t i n)
  unfolding passing_from
  passing_rising i zero = no_number
  passing_rising i (suc n) =
      by_cases (t i)
      (λ e. rw (e, passing_from) (then_larger (λ y m. (passing_only (suc i) n y m).0) (passing_rising (suc i) n)))
      (λ e. rw (e, passing_from) (passing_rising (suc i) n))

  pub passing_enumerates : (i n : ℕ) → Enumerates (Passes i n) (passing_from t i n)
  passing_enumerates i n = record { rising = passing_rising i n; only = passing_only i n; all = passing_all i n }
