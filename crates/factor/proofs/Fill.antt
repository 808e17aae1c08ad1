-- Laws of an array that is filled from its start.
-- Assumes nothing.
use mathlib.Core.Path.{◌≡◌, sym, ap, ◌∙◌}
use mathlib.Core.List.{List, [], ◌∷◌, ◌++◌}
use Prim.Native.Nat.{ℕ, zero, suc, ◌+◌, ◌≤◌, ◌<◌, min}
use native.Mathlib.Nat.{le_of_lt}
use native.Mathlib.Numerals.{add-one}
use native.Mathlib.Omega.{arith}
use lib.ListN.{length, get_or, take, drop, set, length-append, length-drop, get_or-append}
use lib.Seq.{get_or-take, length-take-le, take-suc, drop-cons, set_at, append_snoc, take-nil}

module _ {ℓ} {A : Type ℓ} where
  -- b, with its first i elements replaced by those of s
  abbrev pub filled : List A → List A → ℕ → List A
  filled b s i = take i s ++ drop i b

  -- a store of the next element
  pub filled_step : (b s : List A) (i : ℕ) (d : A) → i < length s → i < length b → set (filled b s i) i (get_or s i d) ≡ filled b s (i + 1)
  filled_step b s i d h k =
      ap (λ (r : List A). set (take i s ++ r) i (get_or s i d)) (drop-cons b i d k)
      ∙ set_at (take i s) (get_or b i d) (drop (suc i) b) (get_or s i d) i (length-take-le i s (le_of_lt h))
      ∙ rw (add-one, take-suc s i d) (sym (append_snoc (take i s) (get_or s i d) (drop (suc i) b)))

  pub length_filled : (b s : List A) (i : ℕ) → i ≤ length s → i ≤ length b → length (filled b s i) ≡ length b
  length_filled b s i h k = simp (length-append, length-drop, length-take-le i s h) (omega arith)

  -- an element that is replaced
  pub get_d_filled : (b s : List A) (n i : ℕ) (d : A) → i < n → n ≤ length s → get_or (filled b s n) i d ≡ get_or s i d
  get_d_filled b s n i d h k = get_or-append (take n s) (drop n b) d i (rw (length-take-le n s k) h) ∙ get_or-take n s i d h

  pub take_min : (m : ℕ) (l : List A) → take (min m (length l)) l ≡ take m l
  take_min zero l =
      let e : min 0 (length l) ≡ 0 = omega arith in
      rw e
  take_min (suc m) [] = take-nil (min (suc m) 0)
  take_min (suc m) (x ∷ l) =
      let e : min (suc m) (suc (length l)) ≡ suc (min m (length l)) = omega arith in
      rw e (ap (λ (r : List A). x ∷ r) (take_min m l))
