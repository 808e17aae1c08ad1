-- The averaging matrix of a factor, in whole numbers: L / (class size) where two plots share a class. Orthogonal factors multiply to their supremum.
-- Assumes nothing.
use mathlib.Core.Path.{◌≡◌, refl, sym, ap, ap₂, ◌∙◌}
use mathlib.Core.Logic.{◌⊎◌, inl, inr}
use mathlib.Core.Bool.{Bool, true, false, ◌&&◌}
use mathlib.Core.List.Memᴰ
use mathlib.Core.List.{List, [], ◌∷◌}
use Prim.Native.Nat.{ℕ, zero, suc, ◌*◌, ◌<◌, zero-le, suc-le-suc}
use native.Mathlib.Nat.{not-suc-le-zero, mul_comm, mul_assoc, mul-mul-mul_comm, eq_of_mul-eq-mul_right, zero-mul, suc-mul}
use native.Mathlib.Omega.{arith}
use lib.Dec.{eqb}
use lib.ListN.{length}
use borrow.Author.Tests.{eqb-true, eq-eqb, ne_eqb, eqb-false}
use lib.IntN.{ℤ, pos, ◌+ℤ◌, ◌*ℤ◌, +ℤ_idl, +ℤ_idr, *ℤ-zero, zero-*ℤ, pos-+ℤ-pos, pos-*ℤ-pos}
use Rattle.rules.specs.Factor.{Column, at, Same, same, index_of, labels, classes, supremum, start, along_f, along_g, count, class_size, overlap, Orthogonal}
use Rattle.rules.specs.Family.{◌∈◌, Distinct, none_left, apart}
use Rattle.rules.proofs.Numbering.{by_cases, eqb_self}
use Rattle.rules.proofs.Members.{clash}
use Rattle.rules.proofs.Tests.{count_yes, count_no, count_none, size_same, supremum_chain'}
use Rattle.rules.proofs.Classes.{distinct_labels}
use Rattle.rules.proofs.Sheet.{and_left, and_right}
use Rattle.rules.proofs.Sums.{label_of, label_plot}
use Rattle.rules.proofs.Ring.{sum_to, sum_same, sum_zero, sum_add, where_true, true_same}
use Rattle.rules.proofs.Matrices.{Matrix, product}

-- ---- sums of one number where a test passes

-- one number for each place that passes
pub sum_count : (n c : ℕ) (t : ℕ → Bool) → sum_to n (λ w. where_true (t w) (pos c)) ≡ pos (count n t * c)
unfolding sum_to count
sum_count zero c t = ap pos (sym (zero-mul c))
sum_count (suc k) c t =
    by_cases (t k)
    (λ e. ap₂ ◌+ℤ◌ (sum_count k c t) (ap (λ (b : Bool). where_true b (pos c)) e) ∙ pos-+ℤ-pos (count k t * c) c ∙ ap pos (sym (ap (λ (x : ℕ). x * c) (count_yes k t e) ∙ suc-mul (count k t) c)))
    (λ e. ap₂ ◌+ℤ◌ (sum_count k c t) (ap (λ (b : Bool). where_true b (pos c)) e) ∙ +ℤ_idr _ ∙ ap (λ (x : ℕ). pos (x * c)) (sym (count_no k t e)))

count_some : (n : ℕ) (t : ℕ → Bool) (u : ℕ) → u < n → t u ≡ true → 0 < count n t
unfolding count
count_some zero t u h e = absurd (not-suc-le-zero h)
count_some (suc k) t u h e =
    by_cases (t k)
    (λ f. rw (count_yes k t f) (suc-le-suc zero-le))
    (λ f. rw (count_no k t f) (count_some k t u (other f) e))
  where
    other : t k ≡ false → u < k
    other f = let ne : u ≡ k → ⊥ = (λ q. clash e (ap t q ∙ f)) in omega (arith, ne)

-- the class of a plot has a plot
pub size_some : (n : ℕ) (F : Column) (u : ℕ) → u < n → 0 < class_size n F u
unfolding class_size
size_some n F u h = count_some n _ u h (eqb_self (at F u))

-- ---- the averaging matrix

-- the weight of the class where two plots share one, and 0 elsewhere
unfoldable pub average : (Column → ℕ → ℕ) → Column → Matrix
average weight F u v = where_true (same F u v) (pos (weight F u))

module _ (n L : ℕ) (weight : Column → ℕ → ℕ) where
  -- the weight of a plot times the size of its class is L
  abbrev pub Weighs : Column → Type 0
  Weighs F = (u : ℕ) → u < n → weight F u * class_size n F u ≡ L

  weight_same : (F : Column) → Weighs F → (u v : ℕ) → u < n → v < n → Same F u v → weight F u ≡ weight F v
  weight_same F h u v hu hv s =
      eq_of_mul-eq-mul_right (class_size n F v) (size_some n F v hv) (weight F u) (weight F v) (ap (λ (x : ℕ). weight F u * x) (sym (size_same n F u v s)) ∙ h u hu ∙ sym (h v hv))

  -- it is the same either way
  pub average_symmetric : (F : Column) → Weighs F → (u v : ℕ) → u < n → v < n → average weight F u v ≡ average weight F v u
  unfolding average
  average_symmetric F h u v hu hv =
      by_cases (same F u v)
      (λ e. let s : Same F u v = eqb-true _ _ e in rw (e, eq-eqb (at F v) (at F u) (sym s)) (ap pos (weight_same F h u v hu hv s)))
      (λ e. rw (e, ne_eqb (at F v) (at F u) (λ s. eqb-false (at F u) (at F v) e (sym s))))

  module _ (F G : Column) (l_f : length F ≡ n) (l_g : length G ≡ n) (hF : Weighs F) (hG : Weighs G) where
    term : (u v w : ℕ) → u < n → v < n → w < n → average weight F u w *ℤ average weight G w v ≡ where_true (same F u w && same G v w) (pos (weight F u * weight G v))
    unfolding average
    term u v w hu hv hw =
        by_cases (same F u w)
        (λ e. by_cases (same G v w)
        (λ f. let s : Same G v w = eqb-true _ _ f in
        rw (e, f, eq-eqb (at G w) (at G v) (sym s)) (pos-*ℤ-pos (weight F u) (weight G w) ∙ ap (λ (x : ℕ). pos (weight F u * x)) (sym (weight_same G hG v w hv hw s))))
        (λ f. rw (e, f, ne_eqb (at G w) (at G v) (λ s. eqb-false (at G v) (at G w) f (sym s))) (*ℤ-zero (pos (weight F u)))))
        (λ e. rw e (zero-*ℤ (average weight G w v)))

    product_overlap : (u v : ℕ) → u < n → v < n → product n (average weight F) (average weight G) u v ≡ pos (overlap n F u G v * (weight F u * weight G v))
    unfolding product overlap
    product_overlap u v hu hv = sum_same n _ _ (λ w hw. term u v w hu hv hw) ∙ sum_count n (weight F u * weight G v) (λ w. same F u w && same G v w)

    -- orthogonal factors multiply to their supremum
    pub average_multiply : Weighs (supremum F G) → Orthogonal n F G → (u v : ℕ) → u < n → v < n → product n (average weight F) (average weight G) u v ≡ pos L *ℤ average weight (supremum F G) u v
    unfolding average overlap
    average_multiply hK o u v hu hv =
        by_cases (same K u v)
        (λ e. product_overlap u v hu hv ∙ rw e (ap pos (inside (eqb-true _ _ e)) ∙ sym (pos-*ℤ-pos L (weight K u))))
        (λ e. product_overlap u v hu hv ∙ rw e (ap (λ (x : ℕ). pos (x * (weight F u * weight G v))) (outside (eqb-false _ _ e)) ∙ ap pos (zero-mul (weight F u * weight G v)) ∙ sym (*ℤ-zero (pos L))))
      where
        K : Column
        K = supremum F G

        inside : Same K u v → overlap n F u G v * (weight F u * weight G v) ≡ L * weight K u
        inside s =
            eq_of_mul-eq-mul_right (class_size n K u) (size_some n K u hu) _ _
            (mul_assoc (overlap n F u G v) (weight F u * weight G v) (class_size n K u)
            ∙ ap (λ (x : ℕ). overlap n F u G v * x) (mul_comm (weight F u * weight G v) (class_size n K u))
            ∙ sym (mul_assoc (overlap n F u G v) (class_size n K u) (weight F u * weight G v))
            ∙ ap (λ (x : ℕ). x * (weight F u * weight G v)) (o u v hu hv s)
            ∙ mul-mul-mul_comm (class_size n F u) (class_size n G v) (weight F u) (weight G v)
            ∙ ap₂ ◌*◌ (mul_comm (class_size n F u) (weight F u) ∙ hF u hu) (mul_comm (class_size n G v) (weight G v) ∙ hG v hv)
            ∙ ap (λ (x : ℕ). L * x) (sym (hK u hu))
            ∙ sym (mul_assoc L (weight K u) (class_size n K u)))

        outside : (Same K u v → ⊥) → overlap n F u G v ≡ 0
        outside ne = count_none n _ (λ w hw. by_cases (same F u w && same G v w) (λ e. absurd (ne (link w hw e))) (λ e. e))
          where
            link : (w : ℕ) → w < n → same F u w && same G v w ≡ true → Same K u v
            link w hw e =
                (supremum_chain' n F G l_f l_g u v hu hv).1 (along_g (along_f start hw (eqb-true _ _ (and_left _ (same G v w) e))) hv (sym (eqb-true _ _ (and_right (same F u w) _ e))))

-- ---- the trace: L for each class

-- f at each label of a list, added up
unfoldable pub total : List ℕ → (ℕ → ℤ) → ℤ
total [] f = pos 0
total (g ∷ s) f = f g +ℤ total s f

-- equal at each label, equal in total
pub total_same : (s : List ℕ) (f h : ℕ → ℤ) → ((g : ℕ) → g ∈ s → f g ≡ h g) → total s f ≡ total s h
unfolding total
total_same [] f h e = refl
total_same (g ∷ s) f h e = ap₂ ◌+ℤ◌ (e g (Memᴰ.head refl)) (total_same s f h (λ x m. e x (Memᴰ.tail m)))

total_zero : (s : List ℕ) → total s (λ g. pos 0) ≡ pos 0
unfolding total
total_zero [] = refl
total_zero (g ∷ s) = +ℤ_idl _ ∙ total_zero s

total_constant : (s : List ℕ) (L : ℕ) → total s (λ g. pos L) ≡ pos (length s * L)
unfolding total
total_constant [] L = ap pos (sym (zero-mul L))
total_constant (g ∷ s) L = ap (λ (z : ℤ). pos L +ℤ z) (total_constant s L) ∙ pos-+ℤ-pos L (length s * L) ∙ ap pos (omega (arith, suc-mul (length s) L))

total_one : (s : List ℕ) → Distinct s → (x : ℕ) (y : ℤ) → x ∈ s → total s (λ g. where_true (eqb g x) y) ≡ y
unfolding total
total_one [] d x y m = absurd (Memᴰ.not-nil m)
total_one (g ∷ s) (apart n d) x y m =
    by_cases (eqb g x)
    (λ e. rw e (ap (λ (z : ℤ). y +ℤ z) (total_same s _ (λ h. pos 0) (λ h k. ap (λ (b : Bool). where_true b y) (ne_eqb h x (λ q. n (Memᴰ.cast (eqb-true g x e ∙ sym q) k)))) ∙ total_zero s) ∙ +ℤ_idr y))
    (λ e. rw e (+ℤ_idl _ ∙ go (eqb-false g x e) (total_one s d x y) (Memᴰ.cases_cons m)))
  where
    go : (g ≡ x → ⊥) → (x ∈ s → total s (λ h. where_true (eqb h x) y) ≡ y) → (x ≡ g) ⊎ (x ∈ s) → total s (λ h. where_true (eqb h x) y) ≡ y
    go ne below (inl q) = absurd (ne (sym q))
    go ne below (inr k) = below k

sum_total : (n : ℕ) (s : List ℕ) (f : ℕ → ℕ → ℤ) → sum_to n (λ u. total s (λ g. f u g)) ≡ total s (λ g. sum_to n (λ u. f u g))
unfolding total
sum_total n [] f = sum_zero n
sum_total n (g ∷ s) f = sum_add n (λ u. f u g) (λ u. total s (λ h. f u h)) ∙ ap (λ (z : ℤ). sum_to n (λ u. f u g) +ℤ z) (sum_total n s f)

-- the plots added up class by class
pub sum_by_class : (n : ℕ) (F : Column) → length F ≡ n → (f : ℕ → ℤ) → sum_to n f ≡ total (labels eqb [] F) (λ g. sum_to n (λ u. where_true (eqb g (at F u)) (f u)))
sum_by_class n F l f =
    sum_same n _ _ (λ u hu. sym (total_one (labels eqb [] F) (distinct_labels F [] none_left) (at F u) (f u) (label_of n F l u hu)))
    ∙ sum_total n (labels eqb [] F) (λ u g. where_true (eqb g (at F u)) (f u))

-- the trace of an averaging matrix is L for each class
pub average_trace : (n L : ℕ) (weight : Column → ℕ → ℕ) (F : Column) → length F ≡ n → Weighs n L weight F → sum_to n (λ u. average weight F u u) ≡ pos (classes F * L)
unfolding average classes class_size
average_trace n L weight F l h =
    sum_same n _ _ (λ u hu. ap (λ (b : Bool). where_true b (pos (weight F u))) (eqb_self (at F u)))
    ∙ sum_by_class n F l (λ u. pos (weight F u))
    ∙ total_same (labels eqb [] F) _ (λ g. pos L) each
    ∙ total_constant (labels eqb [] F) L
  where
    each : (g : ℕ) → g ∈ labels eqb [] F → sum_to n (λ u. where_true (eqb g (at F u)) (pos (weight F u))) ≡ pos L
    each g m = sum_same n _ _ one ∙ sum_count n (weight F v) (λ u. same F v u) ∙ ap pos (mul_comm _ (weight F v) ∙ h v hv)
      where
        v : ℕ
        v = index_of eqb F g

        hv : v < n
        hv = (label_plot n F l g m).0

        is : at F v ≡ g
        is = (label_plot n F l g m).1

        one : (u : ℕ) → u < n → where_true (eqb g (at F u)) (pos (weight F u)) ≡ where_true (same F v u) (pos (weight F v))
        one u hu = ap (λ (x : ℕ). where_true (eqb x (at F u)) (pos (weight F u))) (sym is) ∙ true_same (same F v u) _ _ (λ e. ap pos (weight_same n L weight F h u v hu hv (sym (eqb-true _ _ e))))
