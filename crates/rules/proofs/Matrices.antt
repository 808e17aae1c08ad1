-- Square tables of whole numbers over the plots: products, and numbers that are read off them, as the trace.
-- Assumes nothing.
use mathlib.Core.Path.{◌≡◌, sym, ap, ap₂, ◌∙◌, subst}
use mathlib.Core.Bool.{Bool}
use Prim.Native.Nat.{ℕ, ◌<◌}
use lib.IntN.{ℤ, ◌-ℤ◌, ◌*ℤ◌, *ℤ_comm}
use Rattle.rules.specs.Degrees.{NonNeg}
use Rattle.rules.proofs.Ring.{sum_to, sum_same, sum_sub, sum_times, sum_times_right, sum_swap, sum_times_true, sum_true_times, sum_true_swap, where_true, times_assoc, times_sub, sub_times, square_nonneg, sum_nonneg}

-- a number for every two plots
abbrev pub Matrix : Type 0
Matrix = ℕ → ℕ → ℤ

-- the product of two matrices on n plots
unfoldable pub product : ℕ → Matrix → Matrix → Matrix
unfolding sum_to
product n a b u v = sum_to n (λ w. a u w *ℤ b w v)

-- the same number at every two plots
abbrev pub SameOn : ℕ → Matrix → Matrix → Type 0
SameOn n a b = (u v : ℕ) → u < n → v < n → a u v ≡ b u v

-- the same number either way
abbrev pub Symmetric : ℕ → Matrix → Type 0
Symmetric n a = (u v : ℕ) → u < n → v < n → a u v ≡ a v u

-- L times a matrix
abbrev pub scaled : ℤ → Matrix → Matrix
scaled L a u v = L *ℤ a u v

-- the sum of those matrices whose place passes a test
abbrev pub gathered : ℕ → (ℕ → Bool) → (ℕ → Matrix) → Matrix
gathered m t q u v = sum_to m (λ x. where_true (t x) (q x u v))

-- one matrix less another
abbrev pub difference : Matrix → Matrix → Matrix
difference a b u v = a u v -ℤ b u v

module _ (n : ℕ) where
  -- equal matrices have equal products
  pub product_same : {a a' b b' : Matrix} → SameOn n a a' → SameOn n b b' → SameOn n (product n a b) (product n a' b')
  unfolding product
  product_same e f u v hu hv = sum_same n _ _ (λ w hw. ap₂ ◌*ℤ◌ (e u w hu hw) (f w v hw hv))

  -- the product of two symmetric matrices, turned over, is the product the other way round
  pub product_turn : {a b : Matrix} → Symmetric n a → Symmetric n b → (u v : ℕ) → u < n → v < n → product n a b u v ≡ product n b a v u
  unfolding product
  product_turn {a} {b} s t u v hu hv = sum_same n _ _ (λ w hw. ap₂ ◌*ℤ◌ (s u w hu hw) (t w v hw hv) ∙ *ℤ_comm (a w u) (b v w))

  -- products of three matrices
  pub product_assoc : (a b c : Matrix) (u v : ℕ) → product n (product n a b) c u v ≡ product n a (product n b c) u v
  unfolding product
  product_assoc a b c u v =
      sum_same n _ _ (λ w hw. *ℤ_comm (sum_to n (λ x. a u x *ℤ b x w)) (c w v) ∙ sym (sum_times n (c w v) (λ x. a u x *ℤ b x w)))
      ∙ sum_swap n n (λ w x. c w v *ℤ (a u x *ℤ b x w))
      ∙ sum_same n _ _ (λ x hx. sum_same n _ _ (λ w hw. *ℤ_comm (c w v) (a u x *ℤ b x w) ∙ times_assoc (a u x) (b x w) (c w v)) ∙ sum_times n (a u x) (λ w. b x w *ℤ c w v))

  -- a factor goes out of a product, on the left
  pub product_scaled_left : (L : ℤ) (a b : Matrix) (u v : ℕ) → product n (scaled L a) b u v ≡ L *ℤ product n a b u v
  unfolding product
  product_scaled_left L a b u v = sum_same n _ _ (λ w hw. times_assoc L (a u w) (b w v)) ∙ sum_times n L (λ w. a u w *ℤ b w v)

  -- and on the right
  pub product_scaled_right : (L : ℤ) (a b : Matrix) (u v : ℕ) → product n a (scaled L b) u v ≡ L *ℤ product n a b u v
  unfolding product
  product_scaled_right L a b u v =
      sum_same n _ _ (λ w hw. *ℤ_comm (a u w) (L *ℤ b w v) ∙ times_assoc L (b w v) (a u w) ∙ ap (λ (z : ℤ). L *ℤ z) (*ℤ_comm (b w v) (a u w))) ∙ sum_times n L (λ w. a u w *ℤ b w v)

  -- a product goes through a gathered sum on its left
  pub product_gathered_left : (m : ℕ) (t : ℕ → Bool) (q : ℕ → Matrix) (b : Matrix) (u v : ℕ) → product n (gathered m t q) b u v ≡ sum_to m (λ x. where_true (t x) (product n (q x) b u v))
  unfolding product
  product_gathered_left m t q b u v = sum_same n _ _ (λ w hw. sym (sum_true_times m (b w v) t (λ x. q x u w))) ∙ sum_true_swap n m t (λ w x. q x u w *ℤ b w v)

  -- and through one on its right
  pub product_gathered_right : (m : ℕ) (t : ℕ → Bool) (q : ℕ → Matrix) (a : Matrix) (u v : ℕ) → product n a (gathered m t q) u v ≡ sum_to m (λ x. where_true (t x) (product n a (q x) u v))
  unfolding product
  product_gathered_right m t q a u v = sum_same n _ _ (λ w hw. sym (sum_times_true m (a u w) t (λ x. q x w v))) ∙ sum_true_swap n m t (λ w x. a u w *ℤ q x w v)

  -- a product goes through a difference on its left
  pub product_difference_left : (a b c : Matrix) (u v : ℕ) → product n (difference a b) c u v ≡ product n a c u v -ℤ product n b c u v
  unfolding product
  product_difference_left a b c u v = sum_same n _ _ (λ w hw. sub_times (a u w) (b u w) (c w v)) ∙ sum_sub n (λ w. a u w *ℤ c w v) (λ w. b u w *ℤ c w v)

  -- and through one on its right
  pub product_difference_right : (a b c : Matrix) (u v : ℕ) → product n a (difference b c) u v ≡ product n a b u v -ℤ product n a c u v
  unfolding product
  product_difference_right a b c u v = sum_same n _ _ (λ w hw. times_sub (a u w) (b w v) (c w v)) ∙ sum_sub n (λ w. a u w *ℤ b w v) (λ w. a u w *ℤ c w v)

  -- a matrix that is L times a projection: symmetric, and its square is L times itself
  pub record Projects (L : ℤ) (q : Matrix) : Type 0 where
    pub symmetric : Symmetric n q
    pub square : SameOn n (product n q q) (scaled L q)

  -- ---- forms

  -- a number read off each matrix: it goes through sums and differences, and is not below 0 on projections
  pub record Form (value : Matrix → ℤ) : Type 0 where
    pub value_same : (a b : Matrix) → SameOn n a b → value a ≡ value b
    pub value_gathered : (m : ℕ) (t : ℕ → Bool) (q : ℕ → Matrix) → value (gathered m t q) ≡ sum_to m (λ x. where_true (t x) (value (q x)))
    pub value_difference : (a b : Matrix) → value (difference a b) ≡ value a -ℤ value b
    pub value_nonneg : (L : ℤ) (q : Matrix) → Projects L q → NonNeg (L *ℤ value q)

  -- the sum of the numbers at each plot and itself
  unfoldable pub trace : Matrix → ℤ
  trace a = sum_to n (λ u. a u u)

  -- the trace of a projection is a sum of squares
  pub trace_form : Form trace
  unfolding trace product
  trace_form = record {
    value_same = λ a b e. sum_same n _ _ (λ u hu. e u u hu hu);
    value_gathered = λ m t q. sum_true_swap n m t (λ u x. q x u u);
    value_difference = λ a b. sum_sub n (λ u. a u u) (λ u. b u u);
    value_nonneg = λ L q p.
        subst NonNeg (sum_same n _ _ (λ u hu. p.square u u hu hu) ∙ sum_times n L (λ u. q u u))
        (sum_nonneg n _ (λ u hu. sum_nonneg n _ (λ w hw. subst (λ (z : ℤ). NonNeg (q u w *ℤ z)) (p.symmetric u w hu hw) (square_nonneg (q u w)))));
  }

  -- a matrix applied to readings
  abbrev pub applied : Matrix → (ℕ → ℤ) → ℕ → ℤ
  applied a y u = sum_to n (λ v. a u v *ℤ y v)

  -- readings times a matrix times the same readings
  unfoldable pub squares : (ℕ → ℤ) → Matrix → ℤ
  squares y a = sum_to n (λ u. y u *ℤ applied a y u)

  -- for a projection q that is the sum of the squares of q's readings
  squares_projected : (y : ℕ → ℤ) (L : ℤ) (q : Matrix) → Projects L q → sum_to n (λ w. applied q y w *ℤ applied q y w) ≡ L *ℤ squares y q
  unfolding squares product
  squares_projected y L q p =
      sum_same n _ _ (λ w hw. sym (sum_times n (applied q y w) (λ u. q w u *ℤ y u)))
      ∙ sum_swap n n (λ w u. applied q y w *ℤ (q w u *ℤ y u))
      ∙ sum_same n _ _ (λ u hu. sum_same n _ _ (λ w hw. turned u w hu hw) ∙ sum_times n (y u) (λ w. q u w *ℤ applied q y w) ∙ ap (λ (z : ℤ). y u *ℤ z) (twice u hu) ∙ outside u)
      ∙ sum_times n L (λ u. y u *ℤ applied q y u)
    where
      turned : (u w : ℕ) → u < n → w < n → applied q y w *ℤ (q w u *ℤ y u) ≡ y u *ℤ (q u w *ℤ applied q y w)
      turned u w hu hw =
          *ℤ_comm (applied q y w) (q w u *ℤ y u) ∙ ap (λ (z : ℤ). z *ℤ applied q y w) (*ℤ_comm (q w u) (y u) ∙ ap (λ (z : ℤ). y u *ℤ z) (p.symmetric w u hw hu))
          ∙ times_assoc (y u) (q u w) (applied q y w)

      twice : (u : ℕ) → u < n → sum_to n (λ w. q u w *ℤ applied q y w) ≡ L *ℤ applied q y u
      twice u hu =
          sum_same n _ _ (λ w hw. sym (sum_times n (q u w) (λ v. q w v *ℤ y v)) ∙ sum_same n _ _ (λ v hv. sym (times_assoc (q u w) (q w v) (y v))))
          ∙ sum_swap n n (λ w v. (q u w *ℤ q w v) *ℤ y v)
          ∙ sum_same n _ _ (λ v hv. sum_times_right n (y v) (λ w. q u w *ℤ q w v) ∙ ap (λ (z : ℤ). z *ℤ y v) (p.square u v hu hv) ∙ times_assoc L (q u v) (y v))
          ∙ sum_times n L (λ v. q u v *ℤ y v)

      outside : (u : ℕ) → y u *ℤ (L *ℤ applied q y u) ≡ L *ℤ (y u *ℤ applied q y u)
      outside u = sym (times_assoc (y u) L (applied q y u)) ∙ ap (λ (z : ℤ). z *ℤ applied q y u) (*ℤ_comm (y u) L) ∙ times_assoc L (y u) (applied q y u)

  -- so any readings give a form; the trace adds up those of one reading 1 at each plot
  pub squares_form : (y : ℕ → ℤ) → Form (squares y)
  unfolding squares
  squares_form y = record {
    value_same = λ a b e. sum_same n _ _ (λ u hu. ap (λ (z : ℤ). y u *ℤ z) (sum_same n _ _ (λ v hv. ap (λ (z : ℤ). z *ℤ y v) (e u v hu hv))));
    value_gathered = λ m t q.
        sum_same n _ _ (λ u hu. ap (λ (z : ℤ). y u *ℤ z) (sum_same n _ _ (λ v hv. sym (sum_true_times m (y v) t (λ x. q x u v))) ∙ sum_true_swap n m t (λ v x. q x u v *ℤ y v)) ∙ sym (sum_times_true m (y u) t (λ x. applied (q x) y u)))
        ∙ sum_true_swap n m t (λ u x. y u *ℤ applied (q x) y u);
    value_difference = λ a b.
        sum_same n _ _ (λ u hu. ap (λ (z : ℤ). y u *ℤ z) (sum_same n _ _ (λ v hv. sub_times (a u v) (b u v) (y v)) ∙ sum_sub n (λ v. a u v *ℤ y v) (λ v. b u v *ℤ y v)) ∙ times_sub (y u) (applied a y u) (applied b y u))
        ∙ sum_sub n (λ u. y u *ℤ applied a y u) (λ u. y u *ℤ applied b y u);
    value_nonneg = λ L q p. subst NonNeg (squares_projected y L q p) (sum_nonneg n _ (λ w hw. square_nonneg (applied q y w)));
  }
