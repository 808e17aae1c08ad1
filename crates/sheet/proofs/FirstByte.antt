-- Laws of the first byte of a kind in a text.
-- Assumes nothing.
use mathlib.Core.Path.{◌≡◌, refl, sym, ap, ◌∙◌}
use mathlib.Core.Bool.{true, false}
use mathlib.Core.List.{List, [], ◌∷◌}
use Prim.Native.Nat.{ℕ, suc, ◌+◌, ◌-◌, ◌≤◌, ◌<◌}
use native.Mathlib.Numerals.{add-one}
use native.Mathlib.Omega.{arith}
use lib.Dec.{eqb, ltb}
use lib.ListN.{length, get_or, take, drop, length-drop, drop_of_length-le}
use lib.Seq.{drop-cons, take_all}
use borrow.Author.Tests.{eq-eqb, ne_eqb, lt-ltb, le-ltb, ltb-true, ltb-false}
use Rattle.rules.specs.Sheet.{up_to, has}
use Rattle.rules.proofs.Numbering.{by_cases}

-- a rest handed on
pub rest_taken : (k : ℕ) (xs : List ℕ) → take (length xs - k) (drop k xs) ≡ drop k xs
rest_taken k xs = take_all (length xs - k) (drop k xs) (omega (arith, length-drop k xs))

-- ---- the first b

module _ (b : ℕ) where
  pub up_to_short : (xs : List ℕ) → length (up_to b xs) ≤ length xs
  unfolding up_to
  up_to_short [] = omega arith
  up_to_short (x ∷ xs) = by_cases (eqb x b) (λ e. rw (e, up_to) (omega arith)) (λ e. rw (e, up_to) (omega (arith, up_to_short xs)))

  pub up_to_take : (xs : List ℕ) → take (length (up_to b xs)) xs ≡ up_to b xs
  unfolding up_to
  up_to_take [] = refl
  up_to_take (x ∷ xs) = by_cases (eqb x b) (λ e. rw (e, up_to)) (λ e. rw (e, up_to) (ap (λ (r : List ℕ). x ∷ r) (up_to_take xs)))

  has_up_to : (xs : List ℕ) → has b xs ≡ ltb (length (up_to b xs)) (length xs)
  unfolding up_to has
  has_up_to [] = refl
  has_up_to (x ∷ xs) =
      by_cases (eqb x b)
      (λ e. rw (e, up_to, has, lt-ltb 0 (suc (length xs)) (omega arith)))
      (λ e. rw (e, up_to, has, has_up_to xs) (next (length (up_to b xs)) (length xs)))
    where
      next : (i n : ℕ) → ltb i n ≡ ltb (suc i) (suc n)
      next i n =
          by_cases (ltb i n)
          (λ e. e ∙ sym (lt-ltb (suc i) (suc n) (omega (arith, ltb-true i n e))))
          (λ e. e ∙ sym (le-ltb (suc i) (suc n) (omega (arith, ltb-false i n e))))

  module _ (xs : List ℕ) where
    pub has_yes : length (up_to b xs) < length xs → has b xs ≡ true
    has_yes h = has_up_to xs ∙ lt-ltb (length (up_to b xs)) (length xs) h

    pub has_no : length xs ≤ length (up_to b xs) → has b xs ≡ false
    has_no h = has_up_to xs ∙ le-ltb (length (up_to b xs)) (length xs) h

    -- a byte more
    module _ (i : ℕ) where
      pub up_to_here : i < length xs → get_or xs i 0 ≡ b → length (up_to b (drop i xs)) ≡ 0
      unfolding up_to
      up_to_here h e = rw (drop-cons xs i 0 h, eq-eqb (get_or xs i 0) b e, up_to)

      pub up_to_on : i < length xs → (get_or xs i 0 ≡ b → ⊥) → length (up_to b (drop i xs)) ≡ suc (length (up_to b (drop (i + 1) xs)))
      unfolding up_to
      up_to_on h e = rw (add-one, drop-cons xs i 0 h, ne_eqb (get_or xs i 0) b e, up_to)

      pub up_to_end : length xs ≤ i → length (up_to b (drop i xs)) ≡ 0
      unfolding up_to
      up_to_end h = rw (drop_of_length-le xs h)
