-- Laws for a program: one walk over the plots numbers a column and counts its classes.
-- Assumes nothing.
use mathlib.Core.Path.{◌≡◌, refl, sym, ap, ◌∙◌}
use mathlib.Core.Logic.{◌⊎◌, inl, inr}
use mathlib.Core.Bool.{Bool, true, false}
use mathlib.Core.List.{List, [], ◌∷◌}
use Prim.Native.Nat.{ℕ, zero, suc, ◌<◌, max, zero-le, suc-le-suc}
use native.Mathlib.Nat.{not-suc-le-zero, le_of_suc-le-suc}
use native.Mathlib.Omega.{arith}
use lib.Dec.{eqb}
use lib.ListN.{length, get_or, take}
use lib.Seq.{get_or-take, length-take-le}
use borrow.Author.Tests.{eqb-true}
use Rattle.rules.specs.Factor.{Column, at, index_of, add_new, numbering, labels, number, classes}
use Rattle.rules.proofs.Numbering.{by_cases, eqb_self, numbering_same, has_or_new, add_has, length_add_new, place_new, has_all}

-- ---- one walk over the plots

module _ {A : Type 0} (same : A → A → Bool) (sound : (a b : A) → same a b ≡ true → a ≡ b) (self : (a : A) → same a a ≡ true) (d : A) where
  labels_next : (u : ℕ) (xs s : List A) → u < length xs → labels same s (take (suc u) xs) ≡ add_new same (labels same s (take u xs)) (get_or xs u d)
  unfolding labels
  labels_next u [] s h = absurd (not-suc-le-zero h)
  labels_next zero (x ∷ xs) s h = refl
  labels_next (suc u) (x ∷ xs) s h = labels_next u xs (add_new same s x) (le_of_suc-le-suc h)

  number_by_place : (u : ℕ) (xs s : List A) → u < length xs → at (numbering same s xs) u ≡ suc (index_of same (labels same s (take u xs)) (get_or xs u d))
  unfolding labels numbering
  number_by_place u [] s h = absurd (not-suc-le-zero h)
  number_by_place zero (x ∷ xs) s h = refl
  number_by_place (suc u) (x ∷ xs) s h = number_by_place u xs (add_new same s x) (le_of_suc-le-suc h)

  stays_new : (s : List A) (x z : A) → (x ≡ z → ⊥) → index_of same s z ≡ length s → index_of same (add_new same s x) z ≡ length (add_new same s x)
  stays_new s x z ne h = by_cases (same x z) (λ e. absurd (ne (sound x z e))) (λ e. go e (has_or_new same sound self s x))
    where
      go : same x z ≡ false → (index_of same s x < length s) ⊎ (index_of same s x ≡ length s) → index_of same (add_new same s x) z ≡ length (add_new same s x)
      go e (inl k) = rw (add_has same sound self s x k) h
      go e (inr k) = place_new same sound self s x z k h e ∙ sym (length_add_new same sound self s x k)

  labels_new : (xs s : List A) (z : A) → index_of same s z ≡ length s → ((j : ℕ) → j < length xs → get_or xs j d ≡ z → ⊥) → index_of same (labels same s xs) z ≡ length (labels same s xs)
  unfolding labels
  labels_new [] s z h ne = h
  labels_new (x ∷ xs) s z h ne = labels_new xs (add_new same s x) z (stays_new s x z (ne 0 (suc-le-suc zero-le)) h) (λ j hj. ne (suc j) (suc-le-suc hj))

  -- what plot u adds to the numbers and to the count of classes
  pub record Next (xs : List A) (u : ℕ) : Type 0 where
    -- an earlier plot has its label
    pub old : (j : ℕ) → j < u → get_or xs j d ≡ get_or xs u d → (at (numbering same [] xs) u ≡ at (numbering same [] xs) j) × (length (labels same [] (take (suc u) xs)) ≡ length (labels same [] (take u xs)))
    -- none has
    pub new : ((j : ℕ) → j < u → get_or xs j d ≡ get_or xs u d → ⊥) → (at (numbering same [] xs) u ≡ suc (length (labels same [] (take u xs)))) × (length (labels same [] (take (suc u) xs)) ≡ suc (length (labels same [] (take u xs))))

  pub next : (xs : List A) (u : ℕ) → u < length xs → Next xs u
  unfolding index_of
  next xs u h = record {
    old = λ j hj e. (
      (numbering_same same sound self xs d u j h (omega arith)).1 (sym e),
      ap length (labels_next u xs [] h ∙ add_has same sound self (labels same [] (take u xs)) (get_or xs u d) (has j hj e)),
    );
    new = λ ne. (
      number_by_place u xs [] h ∙ ap suc (fresh ne),
      ap length (labels_next u xs [] h) ∙ length_add_new same sound self (labels same [] (take u xs)) (get_or xs u d) (fresh ne),
    );
  }
    where
      len : length (take u xs) ≡ u
      len = length-take-le u xs (omega arith)

      has : (j : ℕ) → j < u → get_or xs j d ≡ get_or xs u d → index_of same (labels same [] (take u xs)) (get_or xs u d) < length (labels same [] (take u xs))
      has j hj e = rw (get_or-take u xs j d hj ∙ e) at (has_all same sound self (take u xs) [] j d (rw len hj))

      fresh : ((j : ℕ) → j < u → get_or xs j d ≡ get_or xs u d → ⊥) → index_of same (labels same [] (take u xs)) (get_or xs u d) ≡ length (labels same [] (take u xs))
      fresh ne = labels_new (take u xs) [] (get_or xs u d) refl (λ j hj e. let hu : j < u = rw len at hj in ne j hu (sym (get_or-take u xs j d hu) ∙ e))

-- one plot more: the number of classes so far is the largest number so far
pub classes_more : (F : Column) (u : ℕ) → u < length F → classes (take (suc u) F) ≡ max (classes (take u F)) (at (number F) u)
unfolding number classes
classes_more F u h =
    ap length (labels_next eqb eqb-true eqb_self 0 u F [] h)
    ∙ go (has_or_new eqb eqb-true eqb_self seen (at F u))
    ∙ sym (ap (max (length seen)) (number_by_place eqb eqb-true eqb_self 0 u F [] h))
  where
    seen : Column
    seen = labels eqb [] (take u F)

    go : (index_of eqb seen (at F u) < length seen) ⊎ (index_of eqb seen (at F u) ≡ length seen) → length (add_new eqb seen (at F u)) ≡ max (length seen) (suc (index_of eqb seen (at F u)))
    go (inl l) = ap length (add_has eqb eqb-true eqb_self seen (at F u) l) ∙ omega arith
    go (inr e) = length_add_new eqb eqb-true eqb_self seen (at F u) e ∙ omega arith
