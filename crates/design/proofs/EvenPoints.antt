-- Laws of points with as many plots each: class sizes of plots are those of their points times that number, so orthogonality is the same.
-- Assumes nothing.
use mathlib.Core.Path.{◌≡◌, refl, sym, ap, ap₂, ◌∙◌}
use mathlib.Core.Logic.{◌↔◌, ◌⊎◌, inl, inr}
use mathlib.Core.Bool.{Bool, true, false, ◌&&◌}
use mathlib.Core.List.{[]}
use Prim.Native.Nat.{ℕ, zero, suc, ◌+◌, ◌-◌, ◌*◌, ◌<◌}
use native.Mathlib.Nat.{mul-zero, mul-one, mul-pos, mul-mul-mul_comm, lt_irrefl, eq-zero-or-pos, eq_of_mul-eq-mul_left}
use native.Mathlib.Omega.{arith}
use lib.Dec.{eqb}
use lib.ListN.{length}
use lib.Seq.{ext_get_or}
use borrow.Author.Tests.{eqb-true}
use Rattle.rules.specs.Lists.{bit}
use Rattle.rules.specs.Factor.{Column, at, same, index_of, labels, up_from, infimum, supremum, count, class_size, Uniform, Orthogonal, orthogonal}
use Rattle.rules.specs.Family.{◌∈◌}
use Rattle.rules.proofs.Numbering.{by_cases}
use Rattle.rules.proofs.Tests.{count_none, count_yes, count_no, count_same, orthogonal_test}
use Rattle.rules.proofs.Extremes.{length_up}
use Rattle.rules.proofs.ClassCount.{at_up}
use Rattle.rules.proofs.Sums.{sum, sum_ext, sum_scale, label_plot, count_by_class}
use Rattle.rules.proofs.Orthogonality.{same_test, orthogonal_by_plots, classes_size}
use Rattle.design.specs.Points.{Points, points_on_plots}
use Rattle.design.proofs.PointLaws.{point_less, many_labels, label_at, point_plot, length_plots, at_plots, infimum_plots, supremum_plots}

-- ---- counts as sums over numbers from 1 on

-- a sum over one number more
sum_up : (k i : ℕ) (f : ℕ → ℕ) → sum (up_from i (suc k)) f ≡ sum (up_from i k) f + f (i + k)
unfolding sum up_from
sum_up zero i f = let e : i + 0 ≡ i = omega arith in omega (arith, ap f e)
sum_up (suc k) i f = let e : suc i + k ≡ i + suc k = omega arith in omega (arith, sum_up k (suc i) f, ap f e)

-- a count adds 1 for each number that passes
count_up : (k : ℕ) (q : ℕ → Bool) → sum (up_from 1 k) (λ g. bit (q (g - 1))) ≡ count k q
unfolding sum up_from count
count_up zero q = refl
count_up (suc k) q =
    let e : 1 + k - 1 ≡ k = omega arith in
    sum_up k 1 (λ g. bit (q (g - 1)))
    ∙ ap₂ ◌+◌ (count_up k q) (ap (λ (x : ℕ). bit (q x)) e)
    ∙ by_cases (q k) (λ t. rw t (omega (arith, count_yes k q t))) (λ t. rw t (omega (arith, count_no k q t)))

-- a test fails with one that fails
and_no : (a : Bool) → a && false ≡ false
and_no true = refl
and_no false = refl

-- a test of a label that is given
test_at : (q : ℕ → Bool) (g x : ℕ) → q (x - 1) && eqb g x ≡ q (g - 1) && eqb g x
test_at q g x = by_cases (eqb g x) (λ e. ap (λ (y : ℕ). q (y - 1) && eqb g x) (sym (eqb-true g x e))) (λ e. rw e (and_no (q (x - 1)) ∙ sym (and_no (q (g - 1)))))

module _ {n m : ℕ} {p : Column} (P : Points n m p) (even : Uniform n p) where
  -- how many plots each point has
  abbrev size : ℕ
  size = class_size n p 0

  -- points are labelled from 1 to m, in this order
  labels_up : labels eqb [] p ≡ up_from 1 m
  labels_up =
      ext_get_or 0 (labels eqb [] p) (up_from 1 m) (many_labels P ∙ sym (length_up m 1))
      (λ x h. let hx : x < m = rw (many_labels P) at h in omega (arith, label_at P x hx, at_up m 1 x hx))

  -- a label stands at as many plots as each
  label_size : (g : ℕ) → g ∈ labels eqb [] p → count n (λ w. eqb g (at p w)) ≡ size
  unfolding class_size
  label_size g k =
      let v : (index_of eqb p g < n) × (at p (index_of eqb p g) ≡ g) = label_plot n p P.on g k in
      ap (λ (x : ℕ). count n (λ w. eqb x (at p w))) (sym v.1) ∙ even (index_of eqb p g) 0 v.0 (omega (arith, v.0))

  -- the plots of a label, where they pass a test of points
  label_count : (q : ℕ → Bool) (g : ℕ) → g ∈ labels eqb [] p → count n (λ w. q (at p w - 1) && eqb g (at p w)) ≡ size * bit (q (g - 1))
  label_count q g k =
      count_same n _ (λ w. q (g - 1) && eqb g (at p w)) (λ w h. test_at q g (at p w))
      ∙ by_cases (q (g - 1)) (λ e. rw e (label_size g k ∙ sym (mul-one size))) (λ e. rw e (count_none n _ (λ w h. refl) ∙ sym (mul-zero size)))

  -- plots whose points pass a test
  count_plots : (q : ℕ → Bool) → count n (λ v. q (at p v - 1)) ≡ size * count m q
  count_plots q =
      sym (count_by_class n p P.on (λ v. q (at p v - 1)))
      ∙ sum_ext (labels eqb [] p) _ _ (label_count q)
      ∙ sum_scale (labels eqb [] p) size (λ g. bit (q (g - 1)))
      ∙ ap (λ (x : ℕ). size * x) (ap (λ s. sum s (λ g. bit (q (g - 1)))) labels_up ∙ count_up m q)

  -- the class of a plot has the plots of its point's class
  sizes_plots : (F : Column) (u : ℕ) → u < n → class_size n (points_on_plots p F) u ≡ size * class_size m F (at p u - 1)
  unfolding class_size
  sizes_plots F u h =
      count_same n _ _ (λ v hv. ap₂ eqb (at_plots P F u h) (at_plots P F v hv))
      ∙ count_plots (λ x. same F (at p u - 1) x)

  -- the sizes of two classes of a plot
  product_plots : (F G : Column) (u : ℕ) → u < n → class_size n (points_on_plots p F) u * class_size n (points_on_plots p G) u ≡ size * size * (class_size m F (at p u - 1) * class_size m G (at p u - 1))
  product_plots F G u h = ap₂ ◌*◌ (sizes_plots F u h) (sizes_plots G u h) ∙ mul-mul-mul_comm size (class_size m F (at p u - 1)) size (class_size m G (at p u - 1))

  -- a point has a plot at least
  size_some : 0 < n → 0 < size
  size_some h = go (eq-zero-or-pos size)
    where
      go : (size ≡ 0) ⊎ (0 < size) → 0 < size
      go (inl z) = absurd (lt_irrefl 0 (rw (sym (classes_size n p P.on even 0 h), z, mul-zero) at h))
      go (inr k) = k

  -- columns of points are orthogonal exactly when they are as columns of plots
  pub orthogonal_plots : (F G : Column) → length F ≡ m → length G ≡ m → orthogonal n (points_on_plots p F) (points_on_plots p G) ≡ orthogonal m F G
  orthogonal_plots F G l_f l_g =
      same_test (orthogonal n (points_on_plots p F) (points_on_plots p G)) (orthogonal m F G)
      (λ e. (orthogonal_test m F G).1 (points.1 (λ x h. on_points (plots.0 ((orthogonal_test n _ _).0 e)) x h (point_plot P x h))))
      (λ e. (orthogonal_test n _ _).1 (plots.1 (λ u h. bounds u h ∙ ap (λ (x : ℕ). size * size * x) (points.0 ((orthogonal_test m F G).0 e) (at p u - 1) (point_less P u h)) ∙ sym (product_plots F G u h))))
    where
      plots : Orthogonal n (points_on_plots p F) (points_on_plots p G) ↔ ((u : ℕ) → u < n → class_size n (infimum (points_on_plots p F) (points_on_plots p G)) u * class_size n (supremum (points_on_plots p F) (points_on_plots p G)) u ≡ class_size n (points_on_plots p F) u * class_size n (points_on_plots p G) u)
      plots = orthogonal_by_plots n (points_on_plots p F) (points_on_plots p G) (length_plots P F) (length_plots P G)

      points : Orthogonal m F G ↔ ((x : ℕ) → x < m → class_size m (infimum F G) x * class_size m (supremum F G) x ≡ class_size m F x * class_size m G x)
      points = orthogonal_by_plots m F G l_f l_g

      bounds : (u : ℕ) → u < n → class_size n (infimum (points_on_plots p F) (points_on_plots p G)) u * class_size n (supremum (points_on_plots p F) (points_on_plots p G)) u ≡ size * size * (class_size m (infimum F G) (at p u - 1) * class_size m (supremum F G) (at p u - 1))
      bounds u h =
          ap₂ (λ (A B : Column). class_size n A u * class_size n B u) (infimum_plots P F G l_f l_g) (supremum_plots P F G l_f l_g)
          ∙ product_plots (infimum F G) (supremum F G) u h

      on_points : ((u : ℕ) → u < n → class_size n (infimum (points_on_plots p F) (points_on_plots p G)) u * class_size n (supremum (points_on_plots p F) (points_on_plots p G)) u ≡ class_size n (points_on_plots p F) u * class_size n (points_on_plots p G) u)
          → (x : ℕ) → x < m → (u : ℕ) × (u < n) × (at p u ≡ suc x) → class_size m (infimum F G) x * class_size m (supremum F G) x ≡ class_size m F x * class_size m G x
      on_points sizes x h (u, hu, e) =
          let s : 0 < size = size_some (omega arith) in
          let q : at p u - 1 ≡ x = omega arith in
          rw q at (eq_of_mul-eq-mul_left (size * size) (mul-pos s s) (class_size m (infimum F G) (at p u - 1) * class_size m (supremum F G) (at p u - 1)) (class_size m F (at p u - 1) * class_size m G (at p u - 1))
          (sym (bounds u hu) ∙ sizes u hu ∙ product_plots F G u hu))
