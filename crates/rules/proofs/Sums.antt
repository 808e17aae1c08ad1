-- Finite sums over a list, and counts of plots as sums.
-- Assumes nothing.
use Rattle.rules.specs.Lists.{bit}
use Rattle.rules.specs.Factor.{Column, at, index_of, labels, count}
use Rattle.rules.specs.Family.{◌∈◌, Distinct, none_left, apart}
use Rattle.rules.proofs.Numbering.{by_cases, eqb_self, has_all, get_d_place}
use Rattle.rules.proofs.Tests.{count_yes, count_no}
use Rattle.rules.proofs.Classes.{distinct_labels, labels_only, has_in, in_has}
use mathlib.Core.Path.{◌≡◌, refl, sym, ap, ap₂, ◌∙◌}
use mathlib.Core.Logic.{◌⊎◌, inl, inr}
use mathlib.Core.Bool.{Bool, true, false, ◌&&◌}
use mathlib.Core.List.Memᴰ
use mathlib.Core.List.{List, [], ◌∷◌}
use Prim.Native.Nat.{ℕ, zero, suc, ◌+◌, ◌*◌, ◌≤◌, ◌<◌}
use native.Mathlib.Nat.{zero-add, mul-zero, zero-mul, mul-add, suc-mul, le_refl, add-le-add}
use native.Mathlib.Omega.{arith}
use lib.Dec.{eqb}
use lib.ListN.{length}
use borrow.Author.Tests.{eqb-true, eqb-false, ne_eqb}

-- the sum of f over the list
unfoldable pub sum : {A : Type 0} → List A → (A → ℕ) → ℕ
sum [] f = 0
sum (x ∷ s) f = f x + sum s f

module _ {A : Type 0} where
  -- equal terms make equal sums
  pub sum_ext : (s : List A) (f h : A → ℕ) → ((x : A) → x ∈ s → f x ≡ h x) → sum s f ≡ sum s h
  unfolding sum
  sum_ext [] f h e = refl
  sum_ext (x ∷ s) f h e = ap₂ ◌+◌ (e x (Memᴰ.head refl)) (sum_ext s f h (λ y m. e y (Memᴰ.tail m)))

  -- terms 0 make 0
  pub sum_zero : (s : List A) → sum s (λ x. 0) ≡ 0
  unfolding sum
  sum_zero [] = refl
  sum_zero (x ∷ s) = omega (arith, sum_zero s)

  -- a sum of sums, term by term
  pub sum_add : (s : List A) (f h : A → ℕ) → sum s (λ x. f x + h x) ≡ sum s f + sum s h
  unfolding sum
  sum_add [] f h = refl
  sum_add (x ∷ s) f h = omega (arith, sum_add s f h)

  -- a factor of all terms is a factor of the sum
  pub sum_scale : (s : List A) (c : ℕ) (f : A → ℕ) → sum s (λ x. c * f x) ≡ c * sum s f
  unfolding sum
  sum_scale [] c f = sym (mul-zero c)
  sum_scale (x ∷ s) c f = rw (sum_scale s c f) (sym (mul-add c (f x) (sum s f)))

  -- equal terms all over: their number times one of them
  pub sum_constant : (s : List A) (c : ℕ) → sum s (λ x. c) ≡ length s * c
  unfolding sum
  sum_constant [] c = sym (zero-mul c)
  sum_constant (x ∷ s) c = omega (arith, sum_constant s c, suc-mul (length s) c)

  -- smaller terms make a smaller sum
  pub sum_le : (s : List A) (f h : A → ℕ) → ((x : A) → x ∈ s → f x ≤ h x) → sum s f ≤ sum s h
  unfolding sum
  sum_le [] f h e = le_refl 0
  sum_le (x ∷ s) f h e = add-le-add (e x (Memᴰ.head refl)) (sum_le s f h (λ y m. e y (Memᴰ.tail m)))

  -- where no term is greater and the sums are equal, all terms are
  pub sum_tight : (s : List A) (f h : A → ℕ) → ((x : A) → x ∈ s → f x ≤ h x) → sum s f ≡ sum s h → (x : A) → x ∈ s → f x ≡ h x
  unfolding sum
  sum_tight [] f h le e x m = absurd (Memᴰ.not-nil m)
  sum_tight (y ∷ s) f h le e x m = go (Memᴰ.cases_cons m) (sum_tight s f h below)
    where
      below : (z : A) → z ∈ s → f z ≤ h z
      below z k = le z (Memᴰ.tail k)

      first : f y ≤ h y
      first = le y (Memᴰ.head refl)

      rest : sum s f ≤ sum s h
      rest = sum_le s f h below

      go : (x ≡ y) ⊎ (x ∈ s) → (sum s f ≡ sum s h → (z : A) → z ∈ s → f z ≡ h z) → f x ≡ h x
      go (inl q) deep = rw q (omega (arith, first, rest, e))
      go (inr k) deep = deep (omega (arith, first, rest, e)) x k

-- the order of two sums does not matter
pub sum_swap : {A B : Type 0} (s : List A) (t : List B) (f : A → B → ℕ) → sum s (λ x. sum t (λ y. f x y)) ≡ sum t (λ y. sum s (λ x. f x y))
unfolding sum
sum_swap [] t f = sym (sum_zero t)
sum_swap (x ∷ s) t f = rw (sum_swap s t f) (sym (sum_add t (λ y. f x y) (λ y. sum s (λ z. f z y))))

-- ---- counts are sums

-- the plots 0 to n − 1, last first
unfoldable pub plots : ℕ → List ℕ
plots zero = []
plots (suc k) = k ∷ plots k

-- they are below n
pub in_plots : (n u : ℕ) → u ∈ plots n → u < n
unfolding plots
in_plots zero u m = absurd (Memᴰ.not-nil m)
in_plots (suc k) u m = go (Memᴰ.cases_cons m) (in_plots k u)
  where
    go : (u ≡ k) ⊎ (u ∈ plots k) → (u ∈ plots k → u < k) → u < suc k
    go (inl e) below = omega arith
    go (inr m') below = omega (arith, below m')

-- a count adds 1 for each plot that passes
pub count_sum : (n : ℕ) (p : ℕ → Bool) → count n p ≡ sum (plots n) (λ u. bit (p u))
unfolding count sum plots
count_sum zero p = refl
count_sum (suc k) p = by_cases (p k) (λ e. count_yes k p e ∙ rw (e, count_sum k p) (omega arith)) (λ e. count_no k p e ∙ rw (e, count_sum k p) (omega arith))

-- all plots pass the test that always passes
pub count_all : (n : ℕ) → count n (λ u. true) ≡ n
unfolding count
count_all zero = refl
count_all (suc k) = ap suc (count_all k)

-- no plot passes, or one does
pub data Some (n : ℕ) (p : ℕ → Bool) : Type 0 where
  nowhere : count n p ≡ 0 → Some n p
  somewhere : (u : ℕ) → u < n → p u ≡ true → Some n p

pub some : (n : ℕ) (p : ℕ → Bool) → Some n p
unfolding count
some zero p = nowhere refl
some (suc k) p = by_cases (p k) (λ e. somewhere k (le_refl _) e) (λ e. go e (some k p))
  where
    go : p k ≡ false → Some k p → Some (suc k) p
    go e (nowhere z) = nowhere (count_no k p e ∙ z)
    go e (somewhere u h f) = somewhere u (omega arith) f

-- a thing stands once in a list of different ones
pub sum_one : (s : List ℕ) → Distinct s → (x : ℕ) → x ∈ s → sum s (λ g. bit (eqb g x)) ≡ 1
unfolding sum
sum_one [] d x m = absurd (Memᴰ.not-nil m)
sum_one (g ∷ s) (apart n d) x m =
    by_cases (eqb g x)
    (λ e. rw e (ap (λ (z : ℕ). 1 + z) (sum_ext s _ (λ h. 0) (λ h k. ap bit (ne_eqb h x (λ q. n (Memᴰ.cast (eqb-true g x e ∙ sym q) k)))) ∙ sum_zero s)))
    (λ e. rw e (zero-add _ ∙ go (eqb-false g x e) (sum_one s d x) (Memᴰ.cases_cons m)))
  where
    go : (g ≡ x → ⊥) → (x ∈ s → sum s (λ h. bit (eqb h x)) ≡ 1) → (x ≡ g) ⊎ (x ∈ s) → sum s (λ h. bit (eqb h x)) ≡ 1
    go ne below (inl q) = absurd (ne (sym q))
    go ne below (inr k) = below k

-- ---- sums over the classes of a factor

module _ (n : ℕ) (G : Column) (l_g : length G ≡ n) where
  -- a plot's label is among the labels
  pub label_of : (u : ℕ) → u < n → at G u ∈ labels eqb [] G
  label_of u h = has_in (labels eqb [] G) (at G u) (has_all eqb eqb-true eqb_self G [] u 0 (rw l_g h))

  -- a label stands at a plot
  pub label_plot : (g : ℕ) → g ∈ labels eqb [] G → (index_of eqb G g < n) × (at G (index_of eqb G g) ≡ g)
  label_plot g m = (rw (sym l_g) has, get_d_place eqb eqb-true eqb_self G g 0 has)
    where
      go : (g ∈ []) ⊎ (g ∈ G) → index_of eqb G g < length G
      go (inl k) = absurd (Memᴰ.not-nil k)
      go (inr k) = in_has G g k

      has : index_of eqb G g < length G
      has = go (labels_only G [] g m)

  -- the plots that pass a test, counted class by class
  pub count_by_class : (p : ℕ → Bool) → sum (labels eqb [] G) (λ g. count n (λ w. p w && eqb g (at G w))) ≡ count n p
  count_by_class p =
      sum_ext (labels eqb [] G) _ _ (λ g m. count_sum n (λ w. p w && eqb g (at G w)))
      ∙ sum_swap (labels eqb [] G) (plots n) (λ g w. bit (p w && eqb g (at G w)))
      ∙ sum_ext (plots n) _ _ (λ w m. by_cases (p w) (λ e. rw e (sum_one (labels eqb [] G) (distinct_labels G [] none_left) (at G w) (label_of w (in_plots n w m)))) (λ e. rw e (sum_zero (labels eqb [] G))))
      ∙ sym (count_sum n p)

  -- the sizes of the classes add up to the number of plots
  pub sizes_total : sum (labels eqb [] G) (λ g. count n (λ w. eqb g (at G w))) ≡ n
  sizes_total = count_by_class (λ w. true) ∙ count_all n
