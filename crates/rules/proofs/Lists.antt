-- Laws of lists given by their elements.
-- Assumes nothing.
use mathlib.Core.Path.{◌≡◌, refl, sym, ap, ◌∙◌, subst}
use mathlib.Core.Logic.{◌⊎◌, inl, inr, ⊎_elim}
use mathlib.Core.Bool.{Bool, true, false}
use mathlib.Core.List.{List, [], ◌∷◌, ◌++◌, map}
use Prim.Native.Nat.{ℕ, zero, suc, ◌+◌, ◌<◌}
use native.Mathlib.Nat.{not-suc-le-zero, le_of_suc-le-suc, zero-add}
use native.Mathlib.Omega.{arith}
use lib.Dec.{eqb}
use lib.ListN.{length, get_or, set, length-set}
use lib.Seq.{ext_get_or, get_or-set_same, get_or-set_other}
use borrow.Author.Tests.{eqb-true, eqb-false}
use Rattle.rules.specs.Lists.{tabulate}

module _ {A : Type 0} where
  pub length_tabulate : (f : ℕ → A) (n : ℕ) → length (tabulate f n) ≡ n
  unfolding tabulate
  length_tabulate f zero = refl
  length_tabulate f (suc n) = ap suc (length_tabulate (λ k. f (suc k)) n)

  pub get_d_tabulate : (f : ℕ → A) (n i : ℕ) (d : A) → i < n → get_or (tabulate f n) i d ≡ f i
  unfolding tabulate
  get_d_tabulate f zero i d h = absurd (not-suc-le-zero h)
  get_d_tabulate f (suc n) zero d h = refl
  get_d_tabulate f (suc n) (suc i) d h = get_d_tabulate (λ k. f (suc k)) n i d (le_of_suc-le-suc h)

  -- a list is given by its elements
  pub tabulate_get_d : (d : A) (xs : List A) → tabulate (λ i. get_or xs i d) (length xs) ≡ xs
  unfolding tabulate
  tabulate_get_d d [] = refl
  tabulate_get_d d (x ∷ xs) = ap (λ (r : List A). x ∷ r) (tabulate_get_d d xs)

  -- an element of two lists together is one of the first, or of the second
  abbrev pub AppendAt : A → List A → List A → ℕ → Type 0
  AppendAt d xs ys k = ((k < length xs) × (get_or (xs ++ ys) k d ≡ get_or xs k d)) ⊎ ((j : ℕ) × (k ≡ length xs + j) × (get_or (xs ++ ys) k d ≡ get_or ys j d))

  pub append_at : (d : A) (xs ys : List A) (k : ℕ) → AppendAt d xs ys k
  append_at d [] ys k = inr (k, sym (zero-add k), refl)
  append_at d (x ∷ xs) ys zero = inl (omega arith, refl)
  append_at d (x ∷ xs) ys (suc k) = ⊎_elim (λ w. inl (omega (arith, w.0), w.1)) (λ w. inr (w.0, omega (arith, w.1), w.2)) (append_at d xs ys k)

  -- an element stored
  pub set_tabulate : (d : A) (f g : ℕ → A) (n i : ℕ) (x : A) → i < n → g i ≡ x → ((k : ℕ) → (k ≡ i → ⊥) → g k ≡ f k) → set (tabulate f n) i x ≡ tabulate g n
  set_tabulate d f g n i x h here other =
      ext_get_or d (set (tabulate f n) i x) (tabulate g n) (size ∙ sym (length_tabulate g n)) (λ k l. at k (subst (λ (m : ℕ). k < m) size l) (eqb k i) refl)
    where
      size : length (set (tabulate f n) i x) ≡ n
      size = length-set (tabulate f n) i x ∙ length_tabulate f n

      at : (k : ℕ) → k < n → (b : Bool) → eqb k i ≡ b → get_or (set (tabulate f n) i x) k d ≡ get_or (tabulate g n) k d
      at k l true e = rw (eqb-true k i e) (get_or-set_same (tabulate f n) i x d (rw (length_tabulate f n) h) ∙ sym (get_d_tabulate g n i d h ∙ here))
      at k l false e = get_or-set_other (tabulate f n) i k x d (eqb-false k i e) ∙ get_d_tabulate f n k d l ∙ sym (get_d_tabulate g n k d l ∙ other k (eqb-false k i e))

  -- a function on each element
  module _ {B : Type 0} (g : A → B) where
    pub map_tabulate : (f : ℕ → A) (n : ℕ) → map g (tabulate f n) ≡ tabulate (λ i. g (f i)) n
    unfolding tabulate
    map_tabulate f zero = refl
    map_tabulate f (suc n) = ap (λ (r : List B). g (f 0) ∷ r) (map_tabulate (λ i. f (suc i)) n)

    pub get_d_map : (xs : List A) (i : ℕ) (d : A) (e : B) → i < length xs → get_or (map g xs) i e ≡ g (get_or xs i d)
    get_d_map [] i d e h = absurd (not-suc-le-zero h)
    get_d_map (x ∷ xs) zero d e h = refl
    get_d_map (x ∷ xs) (suc i) d e h = get_d_map xs i d e (le_of_suc-le-suc h)
