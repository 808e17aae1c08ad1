-- A factor between one and the supremum of that one with another: it has the same supremum with the other, and stays orthogonal to it.
-- Assumes nothing.
use mathlib.Core.Path.{◌≡◌, refl, sym, ap, ap₂, ◌∙◌, subst}
use mathlib.Core.Bool.{Bool, true, false, ◌&&◌}
use mathlib.Core.List.{[]}
use Prim.Native.Nat.{ℕ, ◌*◌, ◌<◌}
use native.Mathlib.Nat.{mul_comm, mul-zero}
use lib.Dec.{eqb}
use lib.ListN.{length}
use borrow.Author.Tests.{eqb-true, eqb-false, eq-eqb}
use Rattle.rules.specs.Factor.{Column, at, Same, same, Finer, Equivalent, index_of, labels, supremum, count, class_size, overlap, Orthogonal, orthogonal}
use Rattle.rules.proofs.Numbering.{by_cases}
use Rattle.rules.proofs.Members.{clash}
use Rattle.rules.proofs.Supremum.{number_supremum}
use Rattle.rules.proofs.Tests.{count_same, size_same, orthogonal_test, orthogonal_sym}
use Rattle.rules.proofs.Bounds.{numbered_equal, finer_trans, length_supremum', supremum_left, supremum_right, supremum_least, supremum_comm}
use Rattle.rules.proofs.Sums.{sum, sum_ext, sum_scale, Some, nowhere, somewhere, some, label_plot, count_by_class}

-- a test that another one needs, or excludes
and_needed : (a b c : Bool) → (b ≡ true → a ≡ true) → (a && c) && b ≡ b && c
and_needed true true true h = refl
and_needed true true false h = refl
and_needed true false true h = refl
and_needed true false false h = refl
and_needed false true c h = clash (h refl) refl
and_needed false false c h = refl

and_excluded : (a b c : Bool) → (b ≡ true → a ≡ true → ⊥) → (a && c) && b ≡ false
and_excluded true true c h = absurd (h refl refl)
and_excluded true false true h = refl
and_excluded true false false h = refl
and_excluded false b c h = refl

and_true : (a : Bool) → a && true ≡ a
and_true true = refl
and_true false = refl

module _ (n : ℕ) (F F' G : Column) (l_f : length F ≡ n) (lF' : length F' ≡ n) (l_g : length G ≡ n) (fine : Finer n F F') (below : Finer n F' (supremum F G)) where
  -- the supremum is the same
  pub between_supremum : supremum F' G ≡ supremum F G
  between_supremum = sym (number_supremum F' G (lF' ∙ sym l_g)) ∙ numbered_equal n _ _ (length_supremum' n F' G lF' l_g) (length_supremum' n F G l_f l_g) same_classes ∙ number_supremum F G (l_f ∙ sym l_g)
    where
      same_classes : Equivalent n (supremum F' G) (supremum F G)
      same_classes = record {
        to = supremum_least n F' G lF' l_g (supremum F G) below (supremum_right n F G l_f l_g);
        from = supremum_least n F G l_f l_g (supremum F' G) (finer_trans n F F' (supremum F' G) fine (supremum_left n F' G lF' l_g)) (supremum_right n F' G lF' l_g);
      }

  module _ (ortho : Orthogonal n F G) (u v : ℕ) (hu : u < n) (hv : v < n) (s : Same (supremum F G) u v) where
    abbrev K : Column
    K = supremum F G

    -- how many plots of the F'-class of u pass a test and have the F-label f
    abbrev part : (ℕ → Bool) → ℕ → ℕ
    part p f = count n (λ w. (same F' u w && p w) && eqb f (at F w))

    module _ (x : ℕ) (hx : x < n) where
      -- an F-class inside the F'-class of u
      within : Same F' u x → (p : ℕ → Bool) → part p (at F x) ≡ count n (λ w. same F x w && p w)
      within e p = count_same n _ _ (λ w hw. and_needed (same F' u w) (same F x w) (p w) (λ q. eq-eqb _ _ (e ∙ fine x w hx hw (eqb-true _ _ q))))

      -- an F-class outside it
      outside : (Same F' u x → ⊥) → (p : ℕ → Bool) → part p (at F x) ≡ 0
      outside e p = go (some n _)
        where
          none : (w : ℕ) → w < n → (same F' u w && p w) && same F x w ≡ false
          none w hw = and_excluded (same F' u w) (same F x w) (p w) (λ q r. e (eqb-true _ _ r ∙ sym (fine x w hx hw (eqb-true _ _ q))))

          go : Some n (λ w. (same F' u w && p w) && same F x w) → part p (at F x) ≡ 0
          go (nowhere z) = z
          go (somewhere w hw q) = clash q (none w hw)

      -- the equation at an F-class
      term : class_size n K u * part (λ w. same G v w) (at F x) ≡ class_size n G v * part (λ w. true) (at F x)
      unfolding overlap class_size
      term = by_cases (same F' u x) (λ e. meets (eqb-true _ _ e)) (λ e. misses (eqb-false _ _ e))
        where
          misses : (Same F' u x → ⊥) → class_size n K u * part (λ w. same G v w) (at F x) ≡ class_size n G v * part (λ w. true) (at F x)
          misses e = rw (outside e (λ w. same G v w), outside e (λ w. true)) (mul-zero (class_size n K u) ∙ sym (mul-zero (class_size n G v)))

          meets : Same F' u x → class_size n K u * part (λ w. same G v w) (at F x) ≡ class_size n G v * part (λ w. true) (at F x)
          meets e = let k : Same K u x = below u x hu hx e in
              mul_comm (class_size n K u) (part (λ w. same G v w) (at F x))
              ∙ ap₂ ◌*◌ (within e (λ w. same G v w)) (size_same n K u x k) ∙ ortho x v hx hv (sym k ∙ s) ∙ mul_comm (class_size n F x) (class_size n G v)
              ∙ ap (λ (z : ℕ). class_size n G v * z) (sym (within e (λ w. true) ∙ count_same n _ _ (λ w hw. and_true (same F x w))))

    -- the equations of all F-classes add up
    product : overlap n F' u G v * class_size n K u ≡ class_size n F' u * class_size n G v
    unfolding overlap class_size
    product =
        mul_comm (overlap n F' u G v) (class_size n K u)
        ∙ sym (total (class_size n K u) (λ w. same G v w))
        ∙ sum_ext (labels eqb [] F) _ _ (λ f m. let x : (index_of eqb F f < n) × (at F (index_of eqb F f) ≡ f) = label_plot n F l_f f m in
        rw x.1 at (term (index_of eqb F f) x.0))
        ∙ total (class_size n G v) (λ w. true)
        ∙ ap (λ (z : ℕ). class_size n G v * z) (count_same n _ _ (λ w hw. and_true (same F' u w)))
        ∙ mul_comm (class_size n G v) (class_size n F' u)
      where
        total : (c : ℕ) (p : ℕ → Bool) → sum (labels eqb [] F) (λ f. c * part p f) ≡ c * count n (λ w. same F' u w && p w)
        total c p = sum_scale (labels eqb [] F) c (part p) ∙ ap (λ (z : ℕ). c * z) (count_by_class n F l_f (λ w. same F' u w && p w))

  -- and the factor between is orthogonal to the other
  pub between_orthogonal : Orthogonal n F G → Orthogonal n F' G
  between_orthogonal o u v hu hv s = rw between_supremum (product o u v hu hv (rw between_supremum at s))

  pub between_test : orthogonal n F G ≡ true → orthogonal n F' G ≡ true
  between_test e = (orthogonal_test n F' G).1 (between_orthogonal ((orthogonal_test n F G).0 e))

-- the same of the other factor
module _ (n : ℕ) (F G G' : Column) (l_f : length F ≡ n) (l_g : length G ≡ n) (lG' : length G' ≡ n) (fine : Finer n G G') (below : Finer n G' (supremum F G)) where
  turned : Finer n G' (supremum G F)
  turned = subst (Finer n G') (supremum_comm n F G l_f l_g) below

  pub between_supremum_right : supremum F G' ≡ supremum F G
  between_supremum_right = supremum_comm n F G' l_f lG' ∙ between_supremum n G G' F l_g lG' l_f fine turned ∙ supremum_comm n G F l_g l_f

  pub between_test_right : orthogonal n F G ≡ true → orthogonal n F G' ≡ true
  between_test_right e = (orthogonal_test n F G').1 (orthogonal_sym n G' F lG' l_f (between_orthogonal n G G' F l_g lG' l_f fine turned (orthogonal_sym n F G l_f l_g ((orthogonal_test n F G).0 e))))
