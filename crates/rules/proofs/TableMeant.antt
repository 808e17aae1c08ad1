-- Laws of the skeleton table: when a stratum has a line for its residual, and which treatment members have one in it.
-- Assumes nothing.
use mathlib.Core.Path.{◌≡◌, refl, sym, ap, ap₂, ◌∙◌}
use mathlib.Core.Logic.{◌↔◌, ◌⊎◌, inl, inr}
use mathlib.Core.Bool.{Bool, true, false}
use mathlib.Core.List.{List, [], ◌∷◌, map}
use Prim.Native.Nat.{ℕ, suc, ◌+◌, ◌≤◌, ◌<◌}
use native.Mathlib.Nat.{suc_inj, suc-ne-zero, add-zero}
use native.Mathlib.Omega.{arith}
use lib.Dec.{eqb}
use lib.IntN.{ℤ, pos, negsuc}
use lib.ListN.{length, get_or}
use borrow.Author.Tests.{eqb-true, eq-eqb, ne_eqb, lt-ltb}
use Rattle.rules.specs.Lists.{passing_from}
use Rattle.rules.specs.Table.{Row, word_residual, signed, is_zero, residual_rows, source_rows}
use Rattle.rules.specs.Listing.{Enumerates}
use Rattle.rules.proofs.Numbering.{by_cases}
use Rattle.rules.proofs.Listing.{enumerates_unique, enumerates_as, passing_enumerates}

-- "`=residual` if the stratum has a treatment member and the residual is not 0"
module _ (name : List ℕ) where
  zero_is : (r : ℤ) → (r ≡ pos 0 → ⊥) → is_zero r ≡ false
  unfolding is_zero
  zero_is (pos n) h = ne_eqb n 0 (λ e. h (ap pos e))
  zero_is (negsuc n) h = refl

  pub residual_row : (sources : List Row) (r : ℤ) → (sources ≡ [] → ⊥) → (r ≡ pos 0 → ⊥) → residual_rows name sources r ≡ (name ∷ word_residual ∷ signed r ∷ []) ∷ []
  unfolding residual_rows
  residual_row [] r h k = absurd (h refl)
  residual_row (s ∷ ss) r h k = rw (lt-ltb 0 (suc (length ss)) (omega arith), zero_is r k, residual_rows)

  pub no_residual_row : (sources : List Row) (r : ℤ) → (sources ≡ []) ⊎ (r ≡ pos 0) → residual_rows name sources r ≡ []
  unfolding residual_rows is_zero
  no_residual_row sources r (inl e) = rw e
  no_residual_row [] r (inr e) = refl
  no_residual_row (s ∷ ss) r (inr e) = rw (e, lt-ltb 0 (suc (length ss)) (omega arith), residual_rows)

-- ---- "its treatment members in order"

module _ (name : List ℕ) (i : ℕ) where
  rows_here : (t : List ℕ) (ts : List (List ℕ)) (s : ℕ) (ss : List ℕ) (d : ℤ) (ds : List ℤ) → eqb s i ≡ true → source_rows name i (t ∷ ts) (s ∷ ss) (d ∷ ds) ≡ (name ∷ t ∷ signed d ∷ []) ∷ source_rows name i ts ss ds
  unfolding source_rows
  rows_here t ts s ss d ds e = rw (e, source_rows)

  rows_there : (t : List ℕ) (ts : List (List ℕ)) (s : ℕ) (ss : List ℕ) (d : ℤ) (ds : List ℤ) → eqb s i ≡ false → source_rows name i (t ∷ ts) (s ∷ ss) (d ∷ ds) ≡ source_rows name i ts ss ds
  unfolding source_rows
  rows_there t ts s ss d ds e = rw (e, source_rows)

  rows_passing : (a : ℕ) (p : ℕ → Bool) (f : ℕ → Row) (ts : List (List ℕ)) (ss : List ℕ) (ds : List ℤ) → length ts ≡ length ss → length ss ≡ length ds → ((j : ℕ) → j < length ss → p (a + j) ≡ eqb (get_or ss j 0) i)
      → ((j : ℕ) → j < length ss → f (a + j) ≡ name ∷ get_or ts j [] ∷ signed (get_or ds j (pos 0)) ∷ []) → source_rows name i ts ss ds ≡ map f (passing_from p a (length ss))
  unfolding source_rows passing_from
  rows_passing a p f [] [] ds l m hp hf = refl
  rows_passing a p f [] (s ∷ ss) ds l m hp hf = absurd (suc-ne-zero _ (sym l))
  rows_passing a p f (t ∷ ts) [] ds l m hp hf = absurd (suc-ne-zero _ l)
  rows_passing a p f (t ∷ ts) (s ∷ ss) [] l m hp hf = absurd (suc-ne-zero _ m)
  rows_passing a p f (t ∷ ts) (s ∷ ss) (d ∷ ds) l m hp hf =
      let rest = rows_passing (suc a) p f ts ss ds (suc_inj l) (suc_inj m) (λ j h. ap p (on j) ∙ hp (suc j) (omega arith)) (λ j h. ap f (on j) ∙ hf (suc j) (omega arith)) in
      by_cases (eqb s i)
      (λ e. rw (first ∙ e, passing_from) (rows_here t ts s ss d ds e ∙ ap₂ (λ (r : Row) (rs : List Row). r ∷ rs) (sym own) rest))
      (λ e. rw (first ∙ e, passing_from) (rows_there t ts s ss d ds e ∙ rest))
    where
      first : p a ≡ eqb s i
      first = ap p (sym (add-zero a)) ∙ hp 0 (omega arith)

      own : f a ≡ name ∷ t ∷ signed d ∷ []
      own = ap f (sym (add-zero a)) ∙ hf 0 (omega arith)

      on : (j : ℕ) → suc a + j ≡ a + suc j
      on j = omega arith

  -- the treatment members whose stratum has place i stand at the places js, from 0: one line each, with name and degrees of freedom
  pub source_rows_lem : (ts : List (List ℕ)) (ss : List ℕ) (ds : List ℤ) → length ts ≡ length ss → length ss ≡ length ds → (js : List ℕ) → Enumerates (λ j. (j < length ss) × (get_or ss j 0 ≡ i)) js
      → source_rows name i ts ss ds ≡ map (λ j. name ∷ get_or ts j [] ∷ signed (get_or ds j (pos 0)) ∷ []) js
  source_rows_lem ts ss ds l m js lists =
      rows_passing 0 test row ts ss ds l m (λ j h. ap test (zero_add j)) (λ j h. ap row (zero_add j))
      ∙ ap (map row) (enumerates_unique _ _ js (enumerates_as _ says (passing_enumerates test 0 (length ss))) lists)
    where
      test : ℕ → Bool
      test j = eqb (get_or ss j 0) i

      row : ℕ → Row
      row j = name ∷ get_or ts j [] ∷ signed (get_or ds j (pos 0)) ∷ []

      zero_add : (j : ℕ) → 0 + j ≡ j
      zero_add j = omega arith

      says : (j : ℕ) → ((0 ≤ j) × (j < 0 + length ss) × (test j ≡ true)) ↔ ((j < length ss) × (get_or ss j 0 ≡ i))
      says j = (λ w. (omega (arith, w.1), eqb-true (get_or ss j 0) i w.2), λ w. (omega arith, omega (arith, w.0), eq-eqb (get_or ss j 0) i w.1))
