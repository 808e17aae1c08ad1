-- Laws of whole numbers that the library lacks: products, finite sums, and numbers that are not below 0.
-- Assumes nothing.
use mathlib.Core.Path.{◌≡◌, refl, sym, ap, ap₂, ◌∙◌, subst}
use mathlib.Core.Bool.{Bool, true, false, ◌&&◌}
use Prim.Native.Nat.{ℕ, zero, suc, ◌+◌, ◌*◌, ◌<◌, zero-le, suc-le-suc}
use native.Mathlib.Nat.{not-suc-le-zero, le_refl, lt_irrefl, mul-pos, mul-zero, eq_of_mul-eq-mul_left}
use native.Mathlib.Omega.{arith}
use lib.Dec.{eqb}
use borrow.Author.Tests.{eqb-true, ne_eqb, eqb-false}
use lib.IntN.{ℤ, pos, negsuc, suc_ℤ, pred_ℤ, neg_ℤ, ◌+ℤ◌, ◌-ℤ◌, ◌*ℤ◌, +ℤ_idl, +ℤ_idr, +ℤ_assoc, +ℤ_comm, +ℤ_invr, +ℤ_invl, suc_ℤ-+ℤ, pred_ℤ-+ℤ, suc_ℤ-*ℤ, pred_ℤ-*ℤ, zero-*ℤ, *ℤ-zero, *ℤ_comm, neg_ℤ-+ℤ, pos-+ℤ-pos, pos-*ℤ-pos, pos-*ℤ-negsuc, negsuc-*ℤ-negsuc, pos-ne-negsuc, -ℤ-+ℤ_cancel}
use Rattle.rules.specs.Degrees.{NonNeg}
use Rattle.rules.proofs.Numbering.{by_cases}

swap : (a b c : ℤ) → (a +ℤ b) +ℤ c ≡ (a +ℤ c) +ℤ b
swap a b c = +ℤ_assoc a b c ∙ ap (λ (x : ℤ). a +ℤ x) (+ℤ_comm b c) ∙ sym (+ℤ_assoc a c b)

-- four numbers added in another order
pub four : (a b c d : ℤ) → (a +ℤ b) +ℤ (c +ℤ d) ≡ (a +ℤ c) +ℤ (b +ℤ d)
four a b c d = sym (+ℤ_assoc (a +ℤ b) c d) ∙ ap (λ (x : ℤ). x +ℤ d) (swap a b c) ∙ +ℤ_assoc (a +ℤ c) b d

-- what holds at 0 and goes from a number to its successor and predecessor holds of all
pub by_steps : (P : ℤ → Type 0) → P (pos zero) → ((k : ℤ) → P k → P (suc_ℤ k)) → ((k : ℤ) → P k → P (pred_ℤ k)) → (k : ℤ) → P k
by_steps P z s p (pos zero) = z
by_steps P z s p (pos (suc n)) = s (pos n) (by_steps P z s p (pos n))
by_steps P z s p (negsuc zero) = p (pos zero) z
by_steps P z s p (negsuc (suc n)) = p (negsuc n) (by_steps P z s p (negsuc n))

-- 1 times a number
pub one_times : (z : ℤ) → pos 1 *ℤ z ≡ z
one_times z = suc_ℤ-*ℤ (pos 0) z ∙ ap (λ (x : ℤ). x +ℤ z) (zero-*ℤ z) ∙ +ℤ_idl z

-- a product goes through a sum on its left
pub distrib_right : (a b c : ℤ) → (a +ℤ b) *ℤ c ≡ a *ℤ c +ℤ b *ℤ c
distrib_right a b c = by_steps (λ (x : ℤ). (x +ℤ b) *ℤ c ≡ x *ℤ c +ℤ b *ℤ c) base up down a
  where
    base : (pos zero +ℤ b) *ℤ c ≡ pos zero *ℤ c +ℤ b *ℤ c
    base = ap (λ (x : ℤ). x *ℤ c) (+ℤ_idl b) ∙ sym (ap (λ (x : ℤ). x +ℤ b *ℤ c) (zero-*ℤ c) ∙ +ℤ_idl (b *ℤ c))

    up : (k : ℤ) → (k +ℤ b) *ℤ c ≡ k *ℤ c +ℤ b *ℤ c → (suc_ℤ k +ℤ b) *ℤ c ≡ suc_ℤ k *ℤ c +ℤ b *ℤ c
    up k h = ap (λ (x : ℤ). x *ℤ c) (suc_ℤ-+ℤ k b) ∙ suc_ℤ-*ℤ (k +ℤ b) c ∙ ap (λ (x : ℤ). x +ℤ c) h ∙ swap (k *ℤ c) (b *ℤ c) c ∙ ap (λ (x : ℤ). x +ℤ b *ℤ c) (sym (suc_ℤ-*ℤ k c))

    down : (k : ℤ) → (k +ℤ b) *ℤ c ≡ k *ℤ c +ℤ b *ℤ c → (pred_ℤ k +ℤ b) *ℤ c ≡ pred_ℤ k *ℤ c +ℤ b *ℤ c
    down k h = ap (λ (x : ℤ). x *ℤ c) (pred_ℤ-+ℤ k b) ∙ pred_ℤ-*ℤ (k +ℤ b) c ∙ ap (λ (x : ℤ). x -ℤ c) h ∙ swap (k *ℤ c) (b *ℤ c) (neg_ℤ c) ∙ ap (λ (x : ℤ). x +ℤ b *ℤ c) (sym (pred_ℤ-*ℤ k c))

-- and through one on its right
pub distrib_left : (a b c : ℤ) → a *ℤ (b +ℤ c) ≡ a *ℤ b +ℤ a *ℤ c
distrib_left a b c = *ℤ_comm a (b +ℤ c) ∙ distrib_right b c a ∙ ap₂ ◌+ℤ◌ (*ℤ_comm b a) (*ℤ_comm c a)

-- a number that gives 0 with b is − b
unique_neg : (a b : ℤ) → a +ℤ b ≡ pos zero → a ≡ neg_ℤ b
unique_neg a b h =
    sym (+ℤ_idr a) ∙ ap (λ (x : ℤ). a +ℤ x) (sym (+ℤ_invr b)) ∙ sym (+ℤ_assoc a b (neg_ℤ b)) ∙ ap (λ (x : ℤ). x +ℤ neg_ℤ b) h ∙ +ℤ_idl (neg_ℤ b)

-- a minus goes out of a product, on the left
pub neg_times : (a b : ℤ) → neg_ℤ a *ℤ b ≡ neg_ℤ (a *ℤ b)
neg_times a b = unique_neg (neg_ℤ a *ℤ b) (a *ℤ b) (sym (distrib_right (neg_ℤ a) a b) ∙ ap (λ (x : ℤ). x *ℤ b) (+ℤ_invl a) ∙ zero-*ℤ b)

-- and on the right
pub times_neg : (a b : ℤ) → a *ℤ neg_ℤ b ≡ neg_ℤ (a *ℤ b)
times_neg a b = *ℤ_comm a (neg_ℤ b) ∙ neg_times b a ∙ ap neg_ℤ (*ℤ_comm b a)

-- products of three numbers
pub times_assoc : (a b c : ℤ) → (a *ℤ b) *ℤ c ≡ a *ℤ (b *ℤ c)
times_assoc a b c = by_steps (λ (x : ℤ). (x *ℤ b) *ℤ c ≡ x *ℤ (b *ℤ c)) base up down a
  where
    base : (pos zero *ℤ b) *ℤ c ≡ pos zero *ℤ (b *ℤ c)
    base = ap (λ (x : ℤ). x *ℤ c) (zero-*ℤ b) ∙ zero-*ℤ c ∙ sym (zero-*ℤ (b *ℤ c))

    up : (k : ℤ) → (k *ℤ b) *ℤ c ≡ k *ℤ (b *ℤ c) → (suc_ℤ k *ℤ b) *ℤ c ≡ suc_ℤ k *ℤ (b *ℤ c)
    up k h = ap (λ (x : ℤ). x *ℤ c) (suc_ℤ-*ℤ k b) ∙ distrib_right (k *ℤ b) b c ∙ ap (λ (x : ℤ). x +ℤ b *ℤ c) h ∙ sym (suc_ℤ-*ℤ k (b *ℤ c))

    down : (k : ℤ) → (k *ℤ b) *ℤ c ≡ k *ℤ (b *ℤ c) → (pred_ℤ k *ℤ b) *ℤ c ≡ pred_ℤ k *ℤ (b *ℤ c)
    down k h =
        ap (λ (x : ℤ). x *ℤ c) (pred_ℤ-*ℤ k b) ∙ distrib_right (k *ℤ b) (neg_ℤ b) c ∙ ap₂ ◌+ℤ◌ h (neg_times b c)
        ∙ sym (pred_ℤ-*ℤ k (b *ℤ c))

-- ---- finite sums

-- f 0 + f 1 + .. + f (n − 1)
unfoldable pub sum_to : ℕ → (ℕ → ℤ) → ℤ
sum_to zero f = pos zero
sum_to (suc k) f = sum_to k f +ℤ f k

-- equal terms, equal sums
pub sum_same : (n : ℕ) (f g : ℕ → ℤ) → ((i : ℕ) → i < n → f i ≡ g i) → sum_to n f ≡ sum_to n g
unfolding sum_to
sum_same zero f g h = refl
sum_same (suc k) f g h = ap₂ ◌+ℤ◌ (sum_same k f g (λ i hi. h i (omega arith))) (h k (le_refl _))

-- zeros add up to 0
pub sum_zero : (n : ℕ) → sum_to n (λ i. pos zero) ≡ pos zero
unfolding sum_to
sum_zero zero = refl
sum_zero (suc k) = +ℤ_idr _ ∙ sum_zero k

-- a sum of sums, term by term
pub sum_add : (n : ℕ) (f g : ℕ → ℤ) → sum_to n (λ i. f i +ℤ g i) ≡ sum_to n f +ℤ sum_to n g
unfolding sum_to
sum_add zero f g = refl
sum_add (suc k) f g = ap (λ (x : ℤ). x +ℤ (f k +ℤ g k)) (sum_add k f g) ∙ four (sum_to k f) (sum_to k g) (f k) (g k)

-- a factor goes out of a sum
pub sum_times : (n : ℕ) (a : ℤ) (f : ℕ → ℤ) → sum_to n (λ i. a *ℤ f i) ≡ a *ℤ sum_to n f
unfolding sum_to
sum_times zero a f = sym (*ℤ-zero a)
sum_times (suc k) a f = ap (λ (x : ℤ). x +ℤ a *ℤ f k) (sum_times k a f) ∙ sym (distrib_left a (sum_to k f) (f k))

-- the same with the factor on the right
pub sum_times_right : (n : ℕ) (a : ℤ) (f : ℕ → ℤ) → sum_to n (λ i. f i *ℤ a) ≡ sum_to n f *ℤ a
sum_times_right n a f = sum_same n _ _ (λ i hi. *ℤ_comm (f i) a) ∙ sum_times n a f ∙ *ℤ_comm a (sum_to n f)

-- two sums change places
pub sum_swap : (n m : ℕ) (f : ℕ → ℕ → ℤ) → sum_to n (λ i. sum_to m (λ j. f i j)) ≡ sum_to m (λ j. sum_to n (λ i. f i j))
unfolding sum_to
sum_swap zero m f = sym (sum_zero m)
sum_swap (suc k) m f = ap (λ (x : ℤ). x +ℤ sum_to m (λ j. f k j)) (sum_swap k m f) ∙ sym (sum_add m (λ j. sum_to k (λ i. f i j)) (λ j. f k j))

-- a number counted where a test passes
abbrev pub where_true : Bool → ℤ → ℤ
where_true true x = x
where_true false x = pos zero

-- one term of a sum
pub sum_one : (n i : ℕ) (f : ℕ → ℤ) → i < n → sum_to n (λ x. where_true (eqb x i) (f x)) ≡ f i
unfolding sum_to
sum_one zero i f h = absurd (not-suc-le-zero h)
sum_one (suc k) i f h =
    by_cases (eqb k i)
    (λ e. ap₂ ◌+ℤ◌ (sum_same k _ _ (λ x hx. ap (λ (b : Bool). where_true b (f x)) (ne_eqb x i (λ q. lt_irrefl i (rw (eqb-true k i e, q) at hx)))) ∙ sum_zero k) (ap (λ (b : Bool). where_true b (f k)) e ∙ ap f (eqb-true k i e)) ∙ +ℤ_idl (f i))
    (λ e. let ne : k ≡ i → ⊥ = eqb-false k i e in
    ap₂ ◌+ℤ◌ (sum_one k i f (omega (arith, ne))) (ap (λ (b : Bool). where_true b (f k)) e) ∙ +ℤ_idr (f i))

-- ---- sums of what passes a test

-- a factor goes into a test, from the left
pub times_true : (t : Bool) (x y : ℤ) → x *ℤ where_true t y ≡ where_true t (x *ℤ y)
times_true true x y = refl
times_true false x y = *ℤ-zero x

-- and from the right
pub true_times : (t : Bool) (x y : ℤ) → where_true t x *ℤ y ≡ where_true t (x *ℤ y)
true_times true x y = refl
true_times false x y = zero-*ℤ y

-- a test that does not depend on the place goes out of a sum
pub sum_true : (n : ℕ) (t : Bool) (f : ℕ → ℤ) → sum_to n (λ i. where_true t (f i)) ≡ where_true t (sum_to n f)
sum_true n true f = refl
sum_true n false f = sum_zero n

-- two tests are one
pub true_true : (s t : Bool) (x : ℤ) → where_true s (where_true t x) ≡ where_true (s && t) x
true_true true t x = refl
true_true false t x = refl

-- in either order
pub true_swap : (s t : Bool) (x : ℤ) → where_true s (where_true t x) ≡ where_true t (where_true s x)
true_swap true t x = refl
true_swap false true x = refl
true_swap false false x = refl

-- numbers that are equal where the test passes
pub true_same : (t : Bool) (x y : ℤ) → (t ≡ true → x ≡ y) → where_true t x ≡ where_true t y
true_same true x y h = h refl
true_same false x y h = refl

-- a factor that does not depend on the place goes out of a sum of what passes a test
pub sum_times_true : (n : ℕ) (a : ℤ) (t : ℕ → Bool) (f : ℕ → ℤ) → sum_to n (λ i. where_true (t i) (a *ℤ f i)) ≡ a *ℤ sum_to n (λ i. where_true (t i) (f i))
sum_times_true n a t f = sum_same n _ _ (λ i hi. sym (times_true (t i) a (f i))) ∙ sum_times n a (λ i. where_true (t i) (f i))

-- the same with the factor on the right
pub sum_true_times : (n : ℕ) (a : ℤ) (t : ℕ → Bool) (f : ℕ → ℤ) → sum_to n (λ i. where_true (t i) (f i *ℤ a)) ≡ sum_to n (λ i. where_true (t i) (f i)) *ℤ a
sum_true_times n a t f = sum_same n _ _ (λ i hi. ap (where_true (t i)) (*ℤ_comm (f i) a)) ∙ sum_times_true n a t f ∙ *ℤ_comm a _

-- sums of what passes a test change places
pub sum_true_swap : (n m : ℕ) (t : ℕ → Bool) (f : ℕ → ℕ → ℤ) → sum_to n (λ u. sum_to m (λ i. where_true (t i) (f u i))) ≡ sum_to m (λ i. where_true (t i) (sum_to n (λ u. f u i)))
sum_true_swap n m t f = sum_swap n m (λ u i. where_true (t i) (f u i)) ∙ sum_same m _ _ (λ i hi. sum_true n (t i) (λ u. f u i))

-- the first term apart
pub sum_front : (k : ℕ) (f : ℕ → ℤ) → sum_to (suc k) f ≡ f 0 +ℤ sum_to k (λ i. f (suc i))
unfolding sum_to
sum_front zero f = +ℤ_comm (pos 0) (f 0)
sum_front (suc k) f = ap (λ (z : ℤ). z +ℤ f (suc k)) (sum_front k f) ∙ +ℤ_assoc (f 0) (sum_to k (λ i. f (suc i))) (f (suc k))

-- ---- differences

-- a number added on both sides goes
pub cancel : (a b c : ℤ) → a +ℤ c ≡ b +ℤ c → a ≡ b
cancel a b c h = sym (undo a) ∙ ap (λ (x : ℤ). x +ℤ neg_ℤ c) h ∙ undo b
  where
    undo : (x : ℤ) → (x +ℤ c) +ℤ neg_ℤ c ≡ x
    undo x = +ℤ_assoc x c (neg_ℤ c) ∙ ap (λ (y : ℤ). x +ℤ y) (+ℤ_invr c) ∙ +ℤ_idr x

-- a product goes through a difference on its right
pub times_sub : (a b c : ℤ) → a *ℤ (b -ℤ c) ≡ a *ℤ b -ℤ a *ℤ c
times_sub a b c = distrib_left a b (neg_ℤ c) ∙ ap (λ (x : ℤ). a *ℤ b +ℤ x) (times_neg a c)

-- and through one on its left
pub sub_times : (a b c : ℤ) → (a -ℤ b) *ℤ c ≡ a *ℤ c -ℤ b *ℤ c
sub_times a b c = distrib_right a (neg_ℤ b) c ∙ ap (λ (x : ℤ). a *ℤ c +ℤ x) (neg_times b c)

-- a minus goes out of a sum
pub sum_neg : (n : ℕ) (f : ℕ → ℤ) → sum_to n (λ i. neg_ℤ (f i)) ≡ neg_ℤ (sum_to n f)
unfolding sum_to
sum_neg zero f = refl
sum_neg (suc k) f = ap (λ (x : ℤ). x +ℤ neg_ℤ (f k)) (sum_neg k f) ∙ sym (neg_ℤ-+ℤ (sum_to k f) (f k))

-- a sum of differences, term by term
pub sum_sub : (n : ℕ) (f g : ℕ → ℤ) → sum_to n (λ i. f i -ℤ g i) ≡ sum_to n f -ℤ sum_to n g
sum_sub n f g = sum_add n f (λ i. neg_ℤ (g i)) ∙ ap (λ (x : ℤ). sum_to n f +ℤ x) (sum_neg n g)

-- ---- numbers that are not below 0

-- 0 is not below 0
pub zero_nonneg : NonNeg (pos 0)
zero_nonneg = record { value = 0; is = refl }

-- nor is a square
pub square_nonneg : (z : ℤ) → NonNeg (z *ℤ z)
square_nonneg (pos k) = record { value = k * k; is = pos-*ℤ-pos k k }
square_nonneg (negsuc k) = record { value = suc k * suc k; is = negsuc-*ℤ-negsuc k k }

-- nor a sum of two such numbers
pub add_nonneg : (x y : ℤ) → NonNeg x → NonNeg y → NonNeg (x +ℤ y)
add_nonneg x y a b = record { value = a.value + b.value; is = ap₂ ◌+ℤ◌ a.is b.is ∙ pos-+ℤ-pos a.value b.value }

-- nor a sum of any number of them
pub sum_nonneg : (n : ℕ) (f : ℕ → ℤ) → ((i : ℕ) → i < n → NonNeg (f i)) → NonNeg (sum_to n f)
unfolding sum_to
sum_nonneg zero f h = zero_nonneg
sum_nonneg (suc k) f h = add_nonneg (sum_to k f) (f k) (sum_nonneg k f (λ i hi. h i (omega arith))) (h k (le_refl _))

-- a number is not below 0 where a positive multiple of it is not
pub nonneg_divide : (l : ℕ) → 0 < l → (z : ℤ) → NonNeg (pos l *ℤ z) → NonNeg z
nonneg_divide l h (pos k) a = record { value = k; is = refl }
nonneg_divide l h (negsuc k) a = absurd (negative (l * suc k) (mul-pos h (suc-le-suc zero-le)) (subst NonNeg (pos-*ℤ-negsuc l k) a))
  where
    negative : (k : ℕ) → 0 < k → NonNeg (neg_ℤ (pos k)) → ⊥
    negative zero h a = not-suc-le-zero h
    negative (suc k) h a = pos-ne-negsuc a.value k (sym a.is)

-- only 0 has a positive multiple that is 0
times_zero : (l : ℕ) → 0 < l → (z : ℤ) → pos l *ℤ z ≡ pos 0 → z ≡ pos 0
times_zero l h (pos k) e = ap pos (eq_of_mul-eq-mul_left l h k 0 (inside (sym (pos-*ℤ-pos l k) ∙ e) ∙ sym (mul-zero l)))
  where
    inside : {a b : ℕ} → pos a ≡ pos b → a ≡ b
    inside e = cc
times_zero l h (negsuc k) e = let a : NonNeg (negsuc k) = nonneg_divide l h (negsuc k) (record { value = 0; is = e }) in absurd (pos-ne-negsuc a.value k (sym a.is))

-- equal positive multiples are multiples of equal numbers
pub times_cancel : (l : ℕ) → 0 < l → (x y : ℤ) → pos l *ℤ x ≡ pos l *ℤ y → x ≡ y
times_cancel l h x y e =
    sym (-ℤ-+ℤ_cancel x y)
    ∙ ap (λ (z : ℤ). z +ℤ y) (times_zero l h (x -ℤ y) (times_sub (pos l) x y ∙ ap (λ (z : ℤ). z -ℤ pos l *ℤ y) e ∙ +ℤ_invr (pos l *ℤ y)))
    ∙ +ℤ_idl y
