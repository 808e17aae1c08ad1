-- Laws of the steps of a walk over a text.
-- Assumes nothing.
use mathlib.Core.Path.{◌≡◌, refl, sym, ap, ◌∙◌}
use mathlib.Core.Bool.{Bool, true, false, ◌||◌}
use mathlib.Core.List.{List, [], ◌∷◌}
use Prim.Native.Nat.{ℕ, zero, suc, ◌+◌, ◌≤◌, ◌<◌}
use native.Mathlib.Omega.{arith}
use native.Mathlib.Numerals.{add-one}
use lib.Dec.{eqb}
use lib.ListN.{length, get_or, take, drop, drop_of_length-le, length-take}
use lib.Seq.{slice, slice-cons, drop-cons}
use native.Mathlib.Nat.{not-suc-le-zero}
use Rattle.std.specs.Prelude.{◌↔◌, IsTrue, All}
use Rattle.std.specs.List.{AllPass}
use lib.Pointwise.{pointwise}
use Rattle.rules.specs.Sheet.{all, same_bytes}
use Rattle.rules.proofs.Numbering.{by_cases}
use Rattle.rules.proofs.Sheet.{and_left, and_right}
use Rattle.sheet.specs.Walk.{field_of}

-- ---- a byte more of a field

module _ (xs : List ℕ) (at : ℕ) where
  pub field_none : length xs ≤ at → field_of (drop at xs) ≡ []
  unfolding field_of
  field_none h = rw (drop_of_length-le xs h)

  pub field_stop : at < length xs → (eqb (get_or xs at 0) 9 || eqb (get_or xs at 0) 10) ≡ true → field_of (drop at xs) ≡ []
  unfolding field_of
  field_stop h e = rw (drop-cons xs at 0 h, e, field_of)

  pub field_goes : at < length xs → (eqb (get_or xs at 0) 9 || eqb (get_or xs at 0) 10) ≡ false → field_of (drop at xs) ≡ get_or xs at 0 ∷ field_of (drop (at + 1) xs)
  unfolding field_of
  field_goes h e = rw (add-one, drop-cons xs at 0 h, e, field_of)

-- ---- the field in a text that is cut short

pub field_take : (k : ℕ) (xs : List ℕ) → field_of (take k xs) ≡ take k (field_of xs)
unfolding field_of
field_take zero xs = refl
field_take (suc k) [] = refl
field_take (suc k) (x ∷ xs) = by_cases (eqb x 9 || eqb x 10) (λ e. rw (e, field_of)) (λ e. rw (e, field_of) (ap (λ (r : List ℕ). x ∷ r) (field_take k xs)))

-- ---- a part, byte by byte

module _ (xs : List ℕ) (from to : ℕ) where
  pub slice_next : from < to → to ≤ length xs → slice from to xs ≡ get_or xs from 0 ∷ slice (from + 1) to xs
  slice_next h k = rw add-one (slice-cons from to xs 0 h k)

  pub slice_none : to ≤ from → slice from to xs ≡ []
  slice_none h = drop_of_length-le (take to xs) {i = from} (simp length-take (omega arith))

-- ---- two texts, byte by byte

pub pairs_same : (xs ys : List ℕ) → pointwise eqb xs ys ≡ same_bytes xs ys
unfolding same_bytes
pairs_same [] [] = refl
pairs_same [] (y ∷ ys) = refl
pairs_same (x ∷ xs) [] = refl
pairs_same (x ∷ xs) (y ∷ ys) = rw (pairs_same xs ys)

-- ---- a test that each byte passes

module _ (p : ℕ → Bool) where
  all_pass : (xs : List ℕ) → AllPass p xs → all p xs ≡ true
  unfolding all
  all_pass [] h = refl
  all_pass (x ∷ xs) h = rw (h 0 0 (omega arith)) (all_pass xs (λ k d l. h (suc k) d (omega arith)))

  pass_all : (xs : List ℕ) → all p xs ≡ true → AllPass p xs
  unfolding all
  pass_all [] e k d l = absurd (not-suc-le-zero l)
  pass_all (x ∷ xs) e zero d l = and_left (p x) (all p xs) e
  pass_all (x ∷ xs) e (suc k) d l = pass_all xs (and_right (p x) (all p xs) e) k d (omega arith)

  pub all_told : (xs : List ℕ) (b : Bool) → IsTrue b ↔ All (λ x. IsTrue (p x)) xs → b ≡ all p xs
  all_told xs true h = sym (all_pass xs (h.0 refl))
  all_told xs false h = by_cases (all p xs) (λ e. h.1 (pass_all xs e) ∙ sym e) (λ e. sym e)
