-- Laws of numbers given for each member: 32 places, the numbers of a family's members and z past them.
-- Assumes nothing.
use mathlib.Core.Path.{◌≡◌, refl, sym, ap, ap₂, ◌∙◌, subst}
use mathlib.Core.List.{List, ◌∷◌}
use Prim.Native.Nat.{ℕ, zero, suc, ◌+◌, ◌≤◌, ◌<◌}
use native.Mathlib.Omega.{arith}
use lib.Dec.{eqb, ltb}
use lib.ListN.{length, get_or, set, take, replicate, length-set, length-take, get_or-eq_default}
use lib.Seq.{ext_get_or, get_or-set_same, get_or-set_other, get_or-take, take_all}
use borrow.Author.Tests.{eqb-true, eqb-false, ltb-true, ltb-false}
use Rattle.rules.specs.Lists.{tabulate, for_places}
use Rattle.rules.proofs.Numbering.{by_cases}
use Rattle.rules.proofs.Lists.{length_tabulate, get_d_tabulate}

module _ {A : Type 0} where
  -- lists of elements that agree
  pub tabulate_ext : (f g : ℕ → A) (n : ℕ) → ((i : ℕ) → i < n → f i ≡ g i) → tabulate f n ≡ tabulate g n
  unfolding tabulate
  tabulate_ext f g zero h = refl
  tabulate_ext f g (suc n) h =
      ap₂ (λ (x : A) (l : List A). x ∷ l) (h 0 (omega arith)) (tabulate_ext (λ k. f (suc k)) (λ k. g (suc k)) n (λ i l. h (suc i) (omega arith)))

  pub length_places : (z : A) (xs : List A) → length (for_places z xs) ≡ 32
  unfolding for_places
  length_places z xs = length_tabulate (λ i. get_or xs i z) 32

  pub at_places_lem : (z : A) (xs : List A) (i : ℕ) → i < 32 → get_or (for_places z xs) i z ≡ get_or xs i z
  unfolding for_places
  at_places_lem z xs i h = get_d_tabulate (λ k. get_or xs k z) 32 i z h

  -- past the numbers
  pub at_past : (z : A) (xs : List A) (i : ℕ) → i < 32 → length xs ≤ i → get_or (for_places z xs) i z ≡ z
  at_past z xs i h l = at_places_lem z xs i h ∙ get_or-eq_default xs z l

  -- past the first n
  past : (z : A) (n : ℕ) (xs : List A) (k : ℕ) → n ≤ k → get_or (take n xs) k z ≡ z
  past z n xs k h = get_or-eq_default (take n xs) z (short)
    where
      short : length (take n xs) ≤ k
      short = simp length-take (omega arith)

  -- none yet
  pub places_start : (z : A) (xs : List A) → replicate 32 z ≡ for_places z (take 0 xs)
  unfolding for_places tabulate
  places_start z xs = refl

  -- one number more: a turn of a loop that fills an array from its start
  pub places_step : (z : A) (xs : List A) (i : ℕ) → i < 32 → set (for_places z (take i xs)) i (get_or xs i z) ≡ for_places z (take (i + 1) xs)
  places_step z xs i h =
      ext_get_or z (set (for_places z (take i xs)) i (get_or xs i z)) (for_places z (take (i + 1) xs))
      (long ∙ sym (length_places z (take (i + 1) xs)))
      (λ k l. at k (subst (λ (m : ℕ). k < m) long l))
    where
      long : length (set (for_places z (take i xs)) i (get_or xs i z)) ≡ 32
      long = length-set (for_places z (take i xs)) i (get_or xs i z) ∙ length_places z (take i xs)

      other : (k : ℕ) → (k ≡ i → ⊥) → get_or (take i xs) k z ≡ get_or (take (i + 1) xs) k z
      other k d =
          by_cases (ltb k i)
          (λ e. let l : k < i = ltb-true k i e in get_or-take i xs k z l ∙ sym (get_or-take (i + 1) xs k z (omega arith)))
          (λ e. let l : i ≤ k = ltb-false k i e in past z i xs k l ∙ sym (past z (i + 1) xs k (beyond k l d)))
        where
          beyond : (k : ℕ) → i ≤ k → (k ≡ i → ⊥) → i + 1 ≤ k
          beyond k l d = by_cases (ltb i k) (λ e. let m : i < k = ltb-true i k e in omega arith) (λ e. let m : k ≤ i = ltb-false i k e in absurd (d (omega arith)))

      at : (k : ℕ) → k < 32 → get_or (set (for_places z (take i xs)) i (get_or xs i z)) k z ≡ get_or (for_places z (take (i + 1) xs)) k z
      at k l =
          by_cases (eqb k i)
          (λ e. let q : k ≡ i = eqb-true k i e in
          rw q (get_or-set_same (for_places z (take i xs)) i (get_or xs i z) z (rw (length_places z (take i xs)) h))
          ∙ sym (at_places_lem z (take (i + 1) xs) k l ∙ get_or-take (i + 1) xs k z (omega arith) ∙ ap (λ (m : ℕ). get_or xs m z) q))
          (λ e. get_or-set_other (for_places z (take i xs)) i k (get_or xs i z) z (eqb-false k i e)
          ∙ at_places_lem z (take i xs) k l ∙ other k (eqb-false k i e) ∙ sym (at_places_lem z (take (i + 1) xs) k l))

  -- all of them
  pub places_end : (z : A) (xs : List A) (i : ℕ) → length xs ≤ i → for_places z (take i xs) ≡ for_places z xs
  places_end z xs i h = ap (for_places z) (take_all i xs h)
