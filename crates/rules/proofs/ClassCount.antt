-- Laws of the number of classes: the universal factor has one, the equality factor one for each plot, and no other factor has as few or as many.
-- Assumes nothing.
use mathlib.Core.Path.{◌≡◌, refl, sym, ap, ◌∙◌}
use mathlib.Core.Logic.{◌↔◌}
use mathlib.Core.List.{List, [], ◌∷◌}
use Prim.Native.Nat.{ℕ, zero, suc, ◌+◌, ◌≤◌, ◌<◌}
use native.Mathlib.Nat.{not-suc-le-zero, le_of_suc-le-suc, lt_irrefl, add-zero}
use native.Mathlib.Omega.{arith}
use lib.Dec.{eqb}
use lib.ListN.{length, replicate, get_or-replicate}
use borrow.Author.Tests.{eqb-true, eqb-false}
use Rattle.rules.specs.Factor.{Column, at, same, Finer, Equivalent, add_new, labels, number, classes, infimum, universal, up_from, equality}
use Rattle.rules.proofs.Numbering.{by_cases, number_infimum}
use Rattle.rules.proofs.Supremum.{equivalent_sym}
use Rattle.rules.proofs.Classes.{classes_le, classes_lt}
pub use Rattle.rules.proofs.Columns.{classes_equivalent, classes_number}
use Rattle.rules.proofs.Extremes.{number_universal, length_universal, add_up_lem, number_equality, length_up, length_equality}
use Rattle.rules.proofs.Bounds.{numbered_equal, finer_refl, length_infimum', infimum_left, infimum_greatest}

-- a finer factor with as many classes is equivalent
pub finer_equal : (n : ℕ) (F G : Column) → length F ≡ n → length G ≡ n → Finer n F G → classes F ≡ classes G → Equivalent n F G
finer_equal n F G l_f l_g fine e = record {
  to = fine;
  from = λ u v hu hv s. by_cases (same F u v) (λ f. eqb-true _ _ f) (λ f. absurd (lt_irrefl (classes G) (rw e at (classes_lt n F G l_f l_g fine u v hu hv s (eqb-false _ _ f)))));
}

-- ---- the universal factor

-- every factor is finer than the universal one
pub finer_universal : (n : ℕ) (F : Column) → Finer n F (universal n)
unfolding universal
finer_universal n F u v hu hv e = get_or-replicate n u 1 0 hu ∙ sym (get_or-replicate n v 1 0 hv)

-- a numbered column met with it
pub infimum_universal : (n : ℕ) (F : Column) → length F ≡ n → number F ≡ F → infimum F (universal n) ≡ F
infimum_universal n F l e =
    let l_u = length_universal n in
    sym (number_infimum F (universal n) (l ∙ sym l_u))
    ∙ numbered_equal n (infimum F (universal n)) F (length_infimum' n F (universal n) l l_u) l
    (record { to = infimum_left n F (universal n) l l_u; from = infimum_greatest n F (universal n) l l_u F (finer_refl n F) (finer_universal n F) })
    ∙ e

ones : (n : ℕ) → labels eqb (1 ∷ []) (replicate n 1) ≡ 1 ∷ []
unfolding labels add_new
ones zero = refl
ones (suc n) = ones n

-- U has one class
pub classes_universal : (n : ℕ) → 0 < n → classes (universal n) ≡ 1
unfolding classes universal labels add_new
classes_universal zero h = absurd (not-suc-le-zero h)
classes_universal (suc n) h = ap length (ones n)

-- ---- the equality factor

pub at_up : (n i u : ℕ) → u < n → at (up_from i n) u ≡ i + u
unfolding up_from
at_up zero i u h = absurd (not-suc-le-zero h)
at_up (suc n) i zero h = sym (add-zero i)
at_up (suc n) i (suc u) h = at_up n (suc i) u (le_of_suc-le-suc h) ∙ omega arith

-- the equality factor is finer than every factor
pub equality_finer : (n : ℕ) (F : Column) → Finer n (equality n) F
unfolding equality
equality_finer n F u v hu hv e = ap (at F) (omega (arith, e, at_up n 1 u hu, at_up n 1 v hv))

ups : (n k : ℕ) → length (labels eqb (up_from 1 k) (up_from (suc k) n)) ≡ k + n
unfolding labels up_from
ups zero k = length_up k 1 ∙ sym (add-zero k)
ups (suc n) k = ap (λ (s : List ℕ). length (labels eqb s (up_from (suc (suc k)) n))) (add_up_lem k 1 (suc k) (omega arith)) ∙ ups n (suc k) ∙ omega arith

-- E has a class for each plot
pub classes_equality : (n : ℕ) → classes (equality n) ≡ n
unfolding classes equality up_from
classes_equality n = ups n 0 ∙ omega arith

-- no factor has more classes than plots
pub classes_most : (F : Column) → classes F ≤ length F
classes_most F = rw (classes_equality (length F)) at (classes_le (length F) (equality (length F)) F (length_equality (length F)) refl (equality_finer (length F) F))

-- ---- as few classes as U, as many as E

module _ (n : ℕ) (F : Column) (l_f : length F ≡ n) where
  -- one class: the factor is U
  pub one_class : 0 < n → (classes F ≡ 1) ↔ Equivalent n F (universal n)
  one_class h = (
    λ e. finer_equal n F (universal n) l_f (length_universal n) (finer_universal n F) (e ∙ sym (classes_universal n h)),
    λ p. classes_equivalent n F (universal n) l_f (length_universal n) p ∙ classes_universal n h,
  )

  -- as many classes as plots: the factor is E
  pub each_class : (classes F ≡ n) ↔ Equivalent n F (equality n)
  each_class = (
    λ e. equivalent_sym (finer_equal n (equality n) F (length_equality n) l_f (equality_finer n F) (classes_equality n ∙ sym e)),
    λ p. classes_equivalent n F (equality n) l_f (length_equality n) p ∙ classes_equality n,
  )

  module _ (numbered : number F ≡ F) where
    -- a numbered column has one class exactly when it is U
    pub one_class_is : 0 < n → (classes F ≡ 1) ↔ (F ≡ universal n)
    one_class_is h = (
      λ e. sym numbered ∙ numbered_equal n F (universal n) l_f (length_universal n) ((one_class h).0 e) ∙ number_universal n,
      λ e. ap classes e ∙ classes_universal n h,
    )

    -- and as many classes as plots exactly when it is E
    pub each_class_is : (classes F ≡ n) ↔ (F ≡ equality n)
    each_class_is = (
      λ e. sym numbered ∙ numbered_equal n F (equality n) l_f (length_equality n) (each_class.0 e) ∙ number_equality n,
      λ e. ap classes e ∙ classes_equality n,
    )
