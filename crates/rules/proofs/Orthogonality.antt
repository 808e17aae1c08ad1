-- Two cheaper tests of orthogonality: by class sizes plot by plot, and for classes of one size by the numbers of classes.
-- Assumes nothing.
use mathlib.Core.Path.{◌≡◌, refl, sym, ap, ap₂, ◌∙◌}
use mathlib.Core.Logic.{◌↔◌, ◌⊎◌, inl, inr}
use mathlib.Core.Bool.{Bool, true, false, ◌&&◌}
use mathlib.Core.List.{[]}
use Prim.Native.Nat.{ℕ, ◌*◌, ◌≤◌, ◌<◌, zero-le}
use native.Mathlib.Nat.{mul_comm, mul-zero, zero-mul, mul-pos, mul-mul-mul_comm, le_of_eq, lt_irrefl, eq-zero-or-pos, eq_of_mul-eq-mul_left}
use lib.Dec.{eqb}
use lib.ListN.{length}
use borrow.Author.Tests.{eqb-true, eq-eqb}
use Rattle.rules.specs.Factor.{Column, at, Same, same, index_of, labels, classes, infimum, supremum, every, count, class_size, overlap, Uniform, Orthogonal, orthogonal}
use Rattle.rules.specs.Family.{◌∈◌}
use Rattle.rules.proofs.Members.{clash}
use Rattle.rules.proofs.Tests.{every_at, every_all, count_same, size_same, orthogonal_test}
use Rattle.rules.proofs.Bounds.{infimum_same', length_infimum', length_supremum', supremum_left, supremum_right}
use Rattle.rules.proofs.Sums.{sum, sum_ext, sum_scale, sum_constant, sum_tight, Some, nowhere, somewhere, some, label_of, label_plot, count_by_class, sizes_total}

and_both : (a b : Bool) → a && b ≡ true → (a ≡ true) × (b ≡ true)
and_both true b e = (refl, e)
and_both false b e = clash e refl

-- tests that pass together are one
pub same_test : (a b : Bool) → (a ≡ true → b ≡ true) → (b ≡ true → a ≡ true) → a ≡ b
same_test true b f g = sym (f refl)
same_test false true f g = g refl
same_test false false f g = refl

-- for each plot: the sizes of its classes of infimum and supremum make the product that those of its F-class and G-class make
abbrev pub by_plots : ℕ → Column → Column → Bool
by_plots n F G = every n (λ u. eqb (class_size n (infimum F G) u * class_size n (supremum F G) u) (class_size n F u * class_size n G u))

-- the same of the numbers of classes
abbrev pub by_counts : Column → Column → Bool
by_counts F G = eqb (classes (infimum F G) * classes (supremum F G)) (classes F * classes G)

-- ---- by plots

module _ (n : ℕ) (F G : Column) (l_f : length F ≡ n) (l_g : length G ≡ n) where
  -- the F-class and the G-class of one plot meet in its class of the infimum
  pub overlap_infimum : (u : ℕ) → u < n → overlap n F u G u ≡ class_size n (infimum F G) u
  unfolding overlap class_size
  overlap_infimum u hu =
      count_same n _ _ (λ w hw. let i : Same (infimum F G) u w ↔ (Same F u w × Same G u w) = infimum_same' n F G l_f l_g u w hu hw in
      same_test (same F u w && same G u w) (same (infimum F G) u w)
      (λ e. let b : (same F u w ≡ true) × (same G u w ≡ true) = and_both (same F u w) _ e in eq-eqb _ _ (i.1 (eqb-true _ _ b.0, eqb-true _ _ b.1)))
      (λ e. let b : Same F u w × Same G u w = i.0 (eqb-true _ _ e) in rw (eq-eqb (at F u) (at F w) b.0) (eq-eqb _ _ b.1)))

  module _ (sizes : (w : ℕ) → w < n → class_size n (infimum F G) w * class_size n (supremum F G) w ≡ class_size n F w * class_size n G w) (u : ℕ) (hu : u < n) where
    abbrev K : Column
    K = supremum F G

    -- how many plots of the F-class of u, and how many of its class of the supremum, have the G-label g
    abbrev inside : ℕ → ℕ
    inside g = count n (λ w. same F u w && eqb g (at G w))

    abbrev around : ℕ → ℕ
    around g = count n (λ w. same K u w && eqb g (at G w))

    -- a G-class that meets the class of the supremum lies inside it
    around_is : (v : ℕ) → v < n → Same K u v → around (at G v) ≡ class_size n G v
    unfolding class_size
    around_is v hv s =
        count_same n _ _ (λ w hw. same_test (same K u w && same G v w) (same G v w)
        (λ e. (and_both (same K u w) _ e).1)
        (λ e. rw (eq-eqb (at K u) (at K w) (s ∙ supremum_right n F G l_f l_g v w hv hw (eqb-true _ _ e))) e))

    -- the equation at a G-class that meets the F-class of u
    met : (w : ℕ) → w < n → Same F u w → class_size n K u * inside (at G w) ≡ class_size n F u * around (at G w)
    unfolding overlap
    met w hw s =
        ap₂ ◌*◌ (size_same n K u w k) (count_same n _ _ (λ z hz. ap (λ (x : ℕ). eqb x (at F z) && same G w z) s) ∙ overlap_infimum w hw)
        ∙ mul_comm (class_size n K w) (class_size n (infimum F G) w) ∙ sizes w hw
        ∙ ap₂ ◌*◌ (sym (size_same n F u w s)) (sym (around_is w hw k))
      where
        k : Same K u w
        k = supremum_left n F G l_f l_g u w hu hw s

    -- at the others the left side is 0
    term : (g : ℕ) → class_size n K u * inside g ≤ class_size n F u * around g
    term g = go (some n (λ w. same F u w && eqb g (at G w)))
      where
        go : Some n (λ w. same F u w && eqb g (at G w)) → class_size n K u * inside g ≤ class_size n F u * around g
        go (nowhere z) = rw (z, mul-zero) zero-le
        go (somewhere w hw e) =
            let b : (same F u w ≡ true) × (eqb g (at G w) ≡ true) = and_both (same F u w) _ e in
            rw (eqb-true g (at G w) b.1) (le_of_eq (met w hw (eqb-true _ _ b.0)))

    -- over all G-classes both sides add up to the same
    sums : sum (labels eqb [] G) (λ g. class_size n K u * inside g) ≡ sum (labels eqb [] G) (λ g. class_size n F u * around g)
    unfolding class_size
    sums =
        sum_scale (labels eqb [] G) (class_size n K u) inside ∙ ap (λ (x : ℕ). class_size n K u * x) (count_by_class n G l_g (λ w. same F u w))
        ∙ mul_comm (class_size n K u) (class_size n F u)
        ∙ sym (sum_scale (labels eqb [] G) (class_size n F u) around ∙ ap (λ (x : ℕ). class_size n F u * x) (count_by_class n G l_g (λ w. same K u w)))

    -- so the equation holds at every G-class
    product : (v : ℕ) → v < n → Same K u v → overlap n F u G v * class_size n K u ≡ class_size n F u * class_size n G v
    unfolding overlap
    product v hv s =
        mul_comm (inside (at G v)) (class_size n K u)
        ∙ sum_tight (labels eqb [] G) (λ g. class_size n K u * inside g) (λ g. class_size n F u * around g) (λ g m. term g) sums (at G v) (label_of n G l_g v hv)
        ∙ ap (λ (x : ℕ). class_size n F u * x) (around_is v hv s)

  -- orthogonality need only be seen at the two classes of each plot
  pub orthogonal_by_plots : Orthogonal n F G ↔ ((u : ℕ) → u < n → class_size n (infimum F G) u * class_size n (supremum F G) u ≡ class_size n F u * class_size n G u)
  orthogonal_by_plots = (
    λ o u hu. ap (λ (x : ℕ). x * class_size n (supremum F G) u) (sym (overlap_infimum u hu)) ∙ o u u hu hu refl,
    λ sizes u v hu hv s. product sizes u hu v hv s,
  )

  -- so the test is one walk over the plots
  pub orthogonal_test_plots : orthogonal n F G ≡ by_plots n F G
  orthogonal_test_plots =
      same_test (orthogonal n F G) _
      (λ e. every_all n _ (λ u hu. eq-eqb _ _ (orthogonal_by_plots.0 ((orthogonal_test n F G).0 e) u hu)))
      (λ e. (orthogonal_test n F G).1 (orthogonal_by_plots.1 (λ u hu. eqb-true _ _ (every_at n _ e u hu))))

-- ---- by numbers of classes

-- the number of classes times their one size is the number of plots
pub classes_size : (n : ℕ) (F : Column) → length F ≡ n → Uniform n F → (u : ℕ) → u < n → classes F * class_size n F u ≡ n
unfolding classes class_size
classes_size n F l even u hu =
    sym (sum_constant (labels eqb [] F) (class_size n F u)) ∙ sum_ext (labels eqb [] F) _ _ each ∙ sizes_total n F l
  where
    each : (g : ℕ) → g ∈ labels eqb [] F → class_size n F u ≡ count n (λ w. eqb g (at F w))
    each g m = let v : (index_of eqb F g < n) × (at F (index_of eqb F g) ≡ g) = label_plot n F l g m in
        even u (index_of eqb F g) hu v.0 ∙ ap (λ (x : ℕ). count n (λ w. eqb x (at F w))) v.1

-- of two equal products that are not 0, equal first factors leave equal second ones
cancel : (m a b x y : ℕ) → 0 < m → a * x ≡ m → b * y ≡ m → a ≡ b → x ≡ y
cancel m a b x y h p q e = go (eq-zero-or-pos a)
  where
    go : (a ≡ 0) ⊎ (0 < a) → x ≡ y
    go (inl z) = absurd (lt_irrefl 0 (rw (sym p, z, zero-mul) at h))
    go (inr k) = eq_of_mul-eq-mul_left a k x y (p ∙ sym q ∙ ap (λ (c : ℕ). c * y) (sym e))

module _ (n : ℕ) (F G : Column) (l_f : length F ≡ n) (l_g : length G ≡ n) (some-plot : 0 < n) (evenF : Uniform n F) (evenG : Uniform n G) (evenI : Uniform n (infimum F G)) (evenK : Uniform n (supremum F G)) where
  module _ (u : ℕ) (hu : u < n) where
    -- the product of two numbers of classes and the two class sizes
    square : (A B : Column) → length A ≡ n → length B ≡ n → Uniform n A → Uniform n B → classes A * classes B * (class_size n A u * class_size n B u) ≡ n * n
    square A B l_a l_b evenA evenB =
        mul-mul-mul_comm (classes A) (classes B) (class_size n A u) (class_size n B u) ∙ ap₂ ◌*◌ (classes_size n A l_a evenA u hu) (classes_size n B l_b evenB u hu)

    bounds : classes (infimum F G) * classes (supremum F G) * (class_size n (infimum F G) u * class_size n (supremum F G) u) ≡ n * n
    bounds = square (infimum F G) (supremum F G) (length_infimum' n F G l_f l_g) (length_supremum' n F G l_f l_g) evenI evenK

    sizes_counts : class_size n (infimum F G) u * class_size n (supremum F G) u ≡ class_size n F u * class_size n G u → classes (infimum F G) * classes (supremum F G) ≡ classes F * classes G
    sizes_counts e = cancel (n * n) _ _ _ _ (mul-pos some-plot some-plot) (mul_comm _ _ ∙ bounds) (mul_comm _ _ ∙ square F G l_f l_g evenF evenG) e

    counts_sizes : classes (infimum F G) * classes (supremum F G) ≡ classes F * classes G → class_size n (infimum F G) u * class_size n (supremum F G) u ≡ class_size n F u * class_size n G u
    counts_sizes e = cancel (n * n) _ _ _ _ (mul-pos some-plot some-plot) bounds (square F G l_f l_g evenF evenG) e

  -- with classes of one size all over, orthogonality is an equation of the four numbers of classes
  pub orthogonal_by_counts : Orthogonal n F G ↔ (classes (infimum F G) * classes (supremum F G) ≡ classes F * classes G)
  orthogonal_by_counts = (
    λ o. sizes_counts 0 some-plot ((orthogonal_by_plots n F G l_f l_g).0 o 0 some-plot),
    λ e. (orthogonal_by_plots n F G l_f l_g).1 (λ u hu. counts_sizes u hu e),
  )

  -- so the test is one comparison
  pub orthogonal_test_counts : orthogonal n F G ≡ by_counts F G
  orthogonal_test_counts =
      same_test (orthogonal n F G) _
      (λ e. eq-eqb _ _ (orthogonal_by_counts.0 ((orthogonal_test n F G).0 e)))
      (λ e. (orthogonal_test n F G).1 (orthogonal_by_counts.1 (eqb-true _ _ e)))
