-- What is left of a stratum when its treatment members are taken out: a projection again, so no residual is below 0.
-- Assumes nothing.
use mathlib.Core.Path.{◌≡◌, refl, sym, ap, ap₂, ◌∙◌, subst}
use mathlib.Core.Bool.{Bool, true}
use mathlib.Core.List.{List, [], ◌∷◌, map}
use Prim.Native.Nat.{ℕ, suc, ◌+◌, ◌<◌}
use native.Mathlib.Nat.{suc_inj, suc-ne-zero}
use native.Mathlib.Omega.{arith}
use lib.Dec.{eqb}
use lib.IntN.{ℤ, pos, ◌+ℤ◌, ◌-ℤ◌, ◌*ℤ◌, +ℤ_idl, +ℤ_idr, +ℤ_invr}
use lib.ListN.{length, get_or}
use borrow.Author.Tests.{eqb-true}
use Rattle.rules.specs.Factor.{Column, Finer, finer, supremum}
use Rattle.rules.specs.Family.{Family, ◌∈◌}
use Rattle.rules.specs.Relation.{member_at}
use Rattle.rules.specs.Degrees.{remainders, NonNeg}
use Rattle.rules.specs.Allocation.{IsStratum}
use Rattle.rules.specs.Strata.{stratum, sum_at, residuals_from}
use Rattle.rules.proofs.Numbering.{by_cases, eqb_self}
use Rattle.rules.proofs.Members.{clash}
use Rattle.rules.proofs.Classes.{finer_test}
use Rattle.rules.proofs.Bounds.{finer_refl, finer_trans}
use Rattle.rules.proofs.Orthogonality.{same_test}
use Rattle.rules.proofs.First.{member_suc}
use Rattle.rules.proofs.WellFormed.{member_at_lem}
use Rattle.rules.proofs.Allocation.{stratum_there}
use Rattle.rules.proofs.Totals.{residual_at_lem}
use Rattle.rules.proofs.Ring.{sum_to, sum_same, sum_one, sum_front, where_true, true_same, true_swap, sum_times_true, times_sub, nonneg_divide}
use Rattle.rules.proofs.Shares.{length_remainders}
use Rattle.rules.proofs.Matrices.{Matrix, product, SameOn, Symmetric, scaled, gathered, difference, product_turn, product_gathered_left, product_gathered_right, product_difference_left, product_difference_right, Projects, Form}
use Rattle.rules.proofs.Averages.{average}
use Rattle.rules.proofs.Parts.{Multiply, Splits, part, part_symmetric, part_part, part_own, part_projects, remainders_read}

-- ---- the stratum of a treatment member

-- the stratum is the coarsest plot member that is finer than or equivalent to the treatment member
pub stratum_coarsest : (n : ℕ) (P : Family) (T : Column) (s : ℕ) → stratum n P T ≡ suc s → (i : ℕ) → i < length P → finer n (member_at P i) (member_at P s) ≡ finer n (member_at P i) T
stratum_coarsest n P T s e i h =
    same_test (finer n G K) (finer n G T)
    (λ f. (finer_test n G T).1 (finer_trans n G K T ((finer_test n G K).0 f) w.below))
    (λ f. by_cases (finer n G K) (λ y. y) (λ x. (finer_test n G K).1 (w.every_other G (member_at_lem P i h) (λ q. clash ((finer_test n G K).1 (subst (Finer n G) q (finer_refl n G))) x) ((finer_test n G T).0 f))))
  where
    G : Column
    G = member_at P i

    K : Column
    K = member_at P s

    w : IsStratum n P T K
    w = subst (IsStratum n P T) (member_suc P s) (stratum_there n P T (suc s) (omega arith) e)

-- the numbers of the treatment members of one stratum, added up place by place
sum_at_lem : (i : ℕ) (f : Column → ℕ) (R : Family) (ds : List ℤ) → length ds ≡ length R → sum_at i (map f R) ds ≡ sum_to (length R) (λ j. where_true (eqb (f (member_at R j)) i) (get_or ds j (pos 0)))
unfolding sum_at sum_to
sum_at_lem i f [] ds l = refl
sum_at_lem i f (T ∷ R) [] l = absurd (suc-ne-zero _ (sym l))
sum_at_lem i f (T ∷ R) (d ∷ ds) l =
    by_cases (eqb (f T) i)
    (λ e. rw (e, sum_at) (ap (λ (z : ℤ). d +ℤ z) (sum_at_lem i f R ds (suc_inj l))) ∙ back)
    (λ e. rw (e, sum_at) (sum_at_lem i f R ds (suc_inj l) ∙ sym (+ℤ_idl _)) ∙ back)
  where
    back : where_true (eqb (f T) i) d +ℤ sum_to (length R) (λ j. where_true (eqb (f (member_at R j)) i) (get_or ds j (pos 0))) ≡ sum_to (suc (length R)) (λ j. where_true (eqb (f (member_at (T ∷ R) j)) i) (get_or (d ∷ ds) j (pos 0)))
    back = sym (sum_front (length R) (λ j. where_true (eqb (f (member_at (T ∷ R) j)) i) (get_or (d ∷ ds) j (pos 0))))

-- ---- plot family P and treatment family R

-- Both families split, and the second is closed under supremum with members of the first, which multiply with its members.
pub record SplitTogether (n L : ℕ) (weight : Column → ℕ → ℕ) (P R : Family) : Type 0 where
  pub plots : Splits n L weight P
  pub treatments : Splits n L weight R
  pub stays : (F T : Column) → F ∈ P → T ∈ R → supremum F T ∈ R
  pub multiplies : (F T : Column) → F ∈ P → T ∈ R → Multiply n L weight F T

module _ (n L : ℕ) (weight : Column → ℕ → ℕ) (P R : Family) (o : SplitTogether n L weight P R) where
  abbrev p : Splits n L weight P
  p = o.plots

  abbrev r : Splits n L weight R
  r = o.treatments

  module _ (i : ℕ) (hi : i < length P) where
    -- member j of R has stratum i
    abbrev inside : ℕ → Bool
    inside j = eqb (stratum n P (member_at R j)) (suc i)

    abbrev q : Matrix
    q = part n weight P i

    -- the parts of the treatment members of stratum i
    abbrev T : Matrix
    T = gathered (length R) inside (part n weight R)

    stratum_treatment : SameOn n (product n q T) (scaled (pos L) T)
    stratum_treatment u v hu hv =
        product_gathered_right n (length R) inside (part n weight R) q u v
        ∙ sum_same (length R) _ _ (λ j hj. true_same (inside j) _ _ (λ e.
        part_part n L weight P R p r o.stays o.multiplies i j hi hj (stratum_coarsest n P (member_at R j) i (eqb-true _ _ e)) i u v hi hu hv
        ∙ ap (λ (b : Bool). where_true b (pos L *ℤ part n weight R j u v)) (eqb_self i)))
        ∙ sum_times_true (length R) (pos L) inside (λ j. part n weight R j u v)

    T-symmetric : Symmetric n T
    T-symmetric u v hu hv = sum_same (length R) _ _ (λ j hj. ap (where_true (inside j)) (part_symmetric n L weight R r j hj u v hu hv))

    q_symmetric : Symmetric n q
    q_symmetric = part_symmetric n L weight P p i hi

    treatment_stratum : SameOn n (product n T q) (scaled (pos L) T)
    treatment_stratum u v hu hv = product_turn n T-symmetric q_symmetric u v hu hv ∙ stratum_treatment v u hv hu ∙ ap (λ (z : ℤ). pos L *ℤ z) (T-symmetric v u hv hu)

    treatment_treatment : SameOn n (product n T T) (scaled (pos L) T)
    treatment_treatment u v hu hv =
        product_gathered_right n (length R) inside (part n weight R) T u v
        ∙ sum_same (length R) _ _ (λ j hj. true_same (inside j) _ _ (λ e. one j hj e))
        ∙ sum_times_true (length R) (pos L) inside (λ j. part n weight R j u v)
      where
        one : (j : ℕ) → j < length R → inside j ≡ true → product n T (part n weight R j) u v ≡ pos L *ℤ part n weight R j u v
        one j hj e =
            product_gathered_left n (length R) inside (part n weight R) (part n weight R j) u v
            ∙ sum_same (length R) _ _ (λ k hk. ap (where_true (inside k)) (part_own n L weight R r k j u v hk hj hu hv) ∙ true_swap (inside k) (eqb k j) (pos L *ℤ part n weight R j u v))
            ∙ sum_one (length R) j (λ k. where_true (inside k) (pos L *ℤ part n weight R j u v)) hj
            ∙ ap (λ (b : Bool). where_true b (pos L *ℤ part n weight R j u v)) e

    -- what is left of stratum i is L times a projection
    pub residual_projects : Projects n (pos L) (difference q T)
    residual_projects = record {
      symmetric = λ u v hu hv. ap₂ ◌-ℤ◌ (q_symmetric u v hu hv) (T-symmetric u v hu hv);
      square = λ u v hu hv.
          product_difference_left n q T (difference q T) u v
          ∙ ap₂ ◌-ℤ◌ (product_difference_right n q q T u v ∙ ap₂ ◌-ℤ◌ ((part_projects n L weight P p i hi).square u v hu hv) (stratum_treatment u v hu hv))
          (product_difference_right n T q T u v ∙ ap₂ ◌-ℤ◌ (treatment_stratum u v hu hv) (treatment_treatment u v hu hv) ∙ +ℤ_invr (pos L *ℤ T u v))
          ∙ +ℤ_idr (pos L *ℤ q u v -ℤ pos L *ℤ T u v)
          ∙ sym (times_sub (pos L) (q u v) (T u v));
    }

  -- ---- numbers read off what is left

  module _ (value : Matrix → ℤ) (f : Form n value) (s : ℕ) (own : Column → ℤ)
      (readsP : (F : Column) → F ∈ P → pos s *ℤ own F ≡ value (average weight F)) (readsR : (F : Column) → F ∈ R → pos s *ℤ own F ≡ value (average weight F)) where
    -- the numbers of the treatment members of stratum i
    abbrev within : ℕ → ℤ
    within i = sum_at (suc i) (map (stratum n P) R) (remainders own n R)

    residual_is : (i : ℕ) → i < length P → get_or (residuals_from 1 (remainders own n P) (map (stratum n P) R) (remainders own n R)) i (pos 0) ≡ get_or (remainders own n P) i (pos 0) -ℤ within i
    residual_is i hi =
        residual_at_lem 1 (remainders own n P) (map (stratum n P) R) (remainders own n R) i (omega (arith, length_remainders own n P))
        ∙ ap (λ (k : ℕ). get_or (remainders own n P) i (pos 0) -ℤ sum_at k (map (stratum n P) R) (remainders own n R)) next
      where
        next : 1 + i ≡ suc i
        next = omega arith

    residual_reads : (i : ℕ) (hi : i < length P)
        → pos s *ℤ get_or (residuals_from 1 (remainders own n P) (map (stratum n P) R) (remainders own n R)) i (pos 0) ≡ value (difference (part n weight P i) (gathered (length R) (inside i hi) (part n weight R)))
    residual_reads i hi =
        ap (λ (z : ℤ). pos s *ℤ z) (residual_is i hi)
        ∙ times_sub (pos s) (get_or (remainders own n P) i (pos 0)) (within i)
        ∙ ap₂ ◌-ℤ◌ (remainders_read n L weight P p value f s own readsP i hi)
        (ap (λ (z : ℤ). pos s *ℤ z) (sum_at_lem (suc i) (stratum n P) R (remainders own n R) (length_remainders own n R))
        ∙ sym (sum_times_true (length R) (pos s) (inside i hi) (λ j. get_or (remainders own n R) j (pos 0)))
        ∙ sum_same (length R) _ _ (λ j hj. ap (where_true (inside i hi j)) (remainders_read n L weight R r value f s own readsR j hj))
        ∙ sym (f.value_gathered (length R) (inside i hi) (part n weight R)))
        ∙ sym (f.value_difference (part n weight P i) (gathered (length R) (inside i hi) (part n weight R)))

    -- no residual is below 0
    pub residuals_nonneg : 0 < s → 0 < L → (i : ℕ) → i < length P → NonNeg (get_or (residuals_from 1 (remainders own n P) (map (stratum n P) R) (remainders own n R)) i (pos 0))
    residuals_nonneg hs hL i hi =
        nonneg_divide s hs _ (nonneg_divide L hL _ (subst (λ (z : ℤ). NonNeg (pos L *ℤ z)) (sym (residual_reads i hi)) (f.value_nonneg (pos L) _ (residual_projects i hi))))
