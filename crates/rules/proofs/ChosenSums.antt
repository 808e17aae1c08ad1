-- Laws of sums over the elements of a list that pass a test: they depend on the places of these alone.
-- Assumes nothing.
use mathlib.Core.Path.{◌≡◌, sym, ap, ap₂, ◌∙◌}
use mathlib.Core.Logic.{◌↔◌}
use mathlib.Core.Bool.{Bool, true, false}
use mathlib.Core.List.{List, [], ◌∷◌, map}
use Prim.Native.Nat.{ℕ, suc, ◌+◌, ◌≤◌, ◌<◌}
use native.Mathlib.Nat.{suc_inj, suc-ne-zero, add-zero}
use native.Mathlib.Omega.{arith}
use lib.IntN.{ℤ, pos, ◌+ℤ◌}
use lib.ListN.{length, get_or}
use Rattle.rules.specs.Lists.{passing_from}
use Rattle.rules.specs.Degrees.{add_up}
use Rattle.rules.specs.Listing.{Enumerates}
use Rattle.rules.proofs.Numbering.{by_cases}
use Rattle.rules.proofs.Listing.{enumerates_unique, enumerates_as, passing_enumerates}

-- g adds up the numbers that belong to those elements that pass the test p
module _ {A : Type 0} (z : A) (p : A → Bool) (g : List A → List ℤ → ℤ) (none : (ds : List ℤ) → g [] ds ≡ pos 0)
    (yes : (x : A) (xs : List A) (d : ℤ) (ds : List ℤ) → p x ≡ true → g (x ∷ xs) (d ∷ ds) ≡ d +ℤ g xs ds)
    (no : (x : A) (xs : List A) (d : ℤ) (ds : List ℤ) → p x ≡ false → g (x ∷ xs) (d ∷ ds) ≡ g xs ds) where
  -- the places counted from a
  sum_passing_lem : (a : ℕ) (t : ℕ → Bool) (f : ℕ → ℤ) (xs : List A) (ds : List ℤ) → length xs ≡ length ds → ((j : ℕ) → j < length xs → t (a + j) ≡ p (get_or xs j z))
      → ((j : ℕ) → j < length xs → f (a + j) ≡ get_or ds j (pos 0)) → g xs ds ≡ add_up (map f (passing_from t a (length xs)))
  unfolding add_up passing_from
  sum_passing_lem a t f [] ds l ht hf = none ds
  sum_passing_lem a t f (x ∷ xs) [] l ht hf = absurd (suc-ne-zero _ l)
  sum_passing_lem a t f (x ∷ xs) (d ∷ ds) l ht hf =
      let rest = sum_passing_lem (suc a) t f xs ds (suc_inj l) (λ j h. ap t (on j) ∙ ht (suc j) (omega arith)) (λ j h. ap f (on j) ∙ hf (suc j) (omega arith)) in
      by_cases (p x)
      (λ e. rw (first ∙ e, passing_from) (yes x xs d ds e ∙ ap₂ ◌+ℤ◌ (sym own) rest))
      (λ e. rw (first ∙ e, passing_from) (no x xs d ds e ∙ rest))
    where
      first : t a ≡ p x
      first = ap t (sym (add-zero a)) ∙ ht 0 (omega arith)

      own : f a ≡ d
      own = ap f (sym (add-zero a)) ∙ hf 0 (omega arith)

      on : (j : ℕ) → suc a + j ≡ a + suc j
      on j = omega arith

  -- the elements that pass stand at the places js
  pub sum_enumerated : (xs : List A) (ds : List ℤ) → length xs ≡ length ds → (js : List ℕ) → Enumerates (λ j. (j < length xs) × (p (get_or xs j z) ≡ true)) js
      → g xs ds ≡ add_up (map (λ j. get_or ds j (pos 0)) js)
  sum_enumerated xs ds l js lists =
      sum_passing_lem 0 test (λ j. get_or ds j (pos 0)) xs ds l (λ j h. ap test (zero_add j)) (λ j h. ap (λ (x : ℕ). get_or ds x (pos 0)) (zero_add j))
      ∙ ap (λ (l : List ℕ). add_up (map (λ j. get_or ds j (pos 0)) l)) (enumerates_unique _ _ js (enumerates_as _ says (passing_enumerates test 0 (length xs))) lists)
    where
      test : ℕ → Bool
      test j = p (get_or xs j z)

      zero_add : (j : ℕ) → 0 + j ≡ j
      zero_add j = omega arith

      says : (j : ℕ) → ((0 ≤ j) × (j < 0 + length xs) × (test j ≡ true)) ↔ ((j < length xs) × (test j ≡ true))
      says j = (λ w. (omega (arith, w.1), w.2), λ w. (omega arith, omega (arith, w.0), w.1))
