-- The averaging matrices of a family closed under supremum, every two orthogonal, split into parts by the subtraction: each part is L times a projection, and the parts of different members have product 0.
-- Assumes nothing.
use mathlib.Core.Path.{◌≡◌, refl, sym, ap, ap₂, ◌∙◌, subst}
use mathlib.Core.Bool.{Bool, true, false, ◌&&◌}
use Prim.Native.Nat.{ℕ, ◌<◌}
use lib.Dec.{eqb}
use lib.IntN.{ℤ, pos, ◌*ℤ◌}
use lib.ListN.{length, get_or}
use Rattle.rules.specs.Factor.{Column, Finer, finer, supremum}
use Rattle.rules.specs.Family.{Family, ◌∈◌}
use Rattle.rules.specs.Relation.{member_at}
use Rattle.rules.specs.Degrees.{remainders, NonNeg}
use Rattle.rules.proofs.Numbering.{eqb_self}
use Rattle.rules.proofs.Classes.{finer_test}
use Rattle.rules.proofs.Bounds.{finer_trans, supremum_left, supremum_right, supremum_least, supremum_comm, supremum_assoc}
use Rattle.rules.proofs.WellFormed.{Accepted, member_at_lem}
use Rattle.rules.proofs.WorkList.{PlaceOf, place_of}
use Rattle.rules.proofs.Ring.{sum_same, sum_one, where_true, true_true, true_swap, sum_times_true, times_cancel, nonneg_divide}
use Rattle.rules.proofs.Shares.{upward, remainders_sum, shares_unique}
use Rattle.rules.proofs.Matrices.{Matrix, product, SameOn, Symmetric, scaled, gathered, product_same, product_turn, product_assoc, product_scaled_left, product_scaled_right, product_gathered_left, product_gathered_right, Projects, Form}
use Rattle.rules.proofs.Averages.{average, Weighs, average_symmetric}

-- ---- factors whose averaging matrices multiply to that of their supremum

module _ (n L : ℕ) (weight : Column → ℕ → ℕ) where
  pub record Multiply (F G : Column) : Type 0 where
    pub multiply : SameOn n (product n (average weight F) (average weight G)) (scaled (pos L) (average weight (supremum F G)))

  module _ (some : 0 < L) where
    -- in either order
    pub multiply_sym : (F G : Column) → length F ≡ n → length G ≡ n → Weighs n L weight F → Weighs n L weight G → Weighs n L weight (supremum F G) → Multiply F G → Multiply G F
    multiply_sym F G l_f l_g hF hG hK m = record {
      multiply = λ u v hu hv.
          product_turn n (average_symmetric n L weight G hG) (average_symmetric n L weight F hF) u v hu hv ∙ m.multiply v u hv hu
          ∙ ap (λ (z : ℤ). pos L *ℤ z) (average_symmetric n L weight (supremum F G) hK v u hv hu ∙ ap (λ (K : Column). average weight K u v) (supremum_comm n F G l_f l_g));
    }

    module _ (F G H : Column) (l_f : length F ≡ n) (l_g : length G ≡ n) (lH : length H ≡ n) (fg : Multiply F G) (gh : Multiply G H) where
      -- F (G H) and (F G) H are one
      turned : (u v : ℕ) → u < n → v < n
          → pos L *ℤ product n (average weight (supremum F G)) (average weight H) u v ≡ pos L *ℤ product n (average weight F) (average weight (supremum G H)) u v
      turned u v hu hv =
          sym (product_scaled_left n (pos L) (average weight (supremum F G)) (average weight H) u v)
          ∙ product_same n (λ x y hx hy. sym (fg.multiply x y hx hy)) (λ x y hx hy. refl) u v hu hv
          ∙ product_assoc n (average weight F) (average weight G) (average weight H) u v
          ∙ product_same n (λ x y hx hy. refl) (λ x y hx hy. gh.multiply x y hx hy) u v hu hv
          ∙ product_scaled_right n (pos L) (average weight F) (average weight (supremum G H)) u v

      same : (u v : ℕ) → u < n → v < n → product n (average weight (supremum F G)) (average weight H) u v ≡ product n (average weight F) (average weight (supremum G H)) u v
      same u v hu hv = times_cancel L some _ _ (turned u v hu hv)

      -- a supremum multiplies with a third factor
      pub multiply_left : Multiply F (supremum G H) → Multiply (supremum F G) H
      multiply_left m = record {
        multiply = λ u v hu hv. same u v hu hv ∙ m.multiply u v hu hv ∙ ap (λ (K : Column). pos L *ℤ average weight K u v) (sym (supremum_assoc n F G H l_f l_g lH));
      }

      -- and a factor with a supremum
      pub multiply_right : Multiply (supremum F G) H → Multiply F (supremum G H)
      multiply_right m = record {
        multiply = λ u v hu hv. sym (same u v hu hv) ∙ m.multiply u v hu hv ∙ ap (λ (K : Column). pos L *ℤ average weight K u v) (supremum_assoc n F G H l_f l_g lH);
      }

-- ---- the supremum is finer than what both factors are finer than

same_truth : (a b c : Bool) → (a ≡ true → (b ≡ true) × (c ≡ true)) → (b ≡ true → c ≡ true → a ≡ true) → a ≡ b && c
same_truth true b c f g = sym (ap₂ ◌&&◌ (f refl).0 (f refl).1)
same_truth false true true f g = g refl refl
same_truth false true false f g = refl
same_truth false false c f g = refl

finer_supremum : (n : ℕ) (F G H : Column) → length F ≡ n → length G ≡ n → finer n (supremum F G) H ≡ finer n F H && finer n G H
finer_supremum n F G H l_f l_g =
    same_truth (finer n (supremum F G) H) (finer n F H) (finer n G H)
    (λ e. let h : Finer n (supremum F G) H = (finer_test n (supremum F G) H).0 e in (
      (finer_test n F H).1 (finer_trans n F (supremum F G) H (supremum_left n F G l_f l_g) h),
      (finer_test n G H).1 (finer_trans n G (supremum F G) H (supremum_right n F G l_f l_g) h),
    ))
    (λ e f. (finer_test n (supremum F G) H).1 (supremum_least n F G l_f l_g H ((finer_test n F H).0 e) ((finer_test n G H).0 f)))

-- ---- families that split

-- A family that question 15 accepts, closed under supremum, in which averaging matrices multiply.
pub record Splits (n L : ℕ) (weight : Column → ℕ → ℕ) (S : Family) : Type 0 where
  pub accepted : Accepted S
  pub on : (F : Column) → F ∈ S → length F ≡ n
  pub weighs : (F : Column) → F ∈ S → Weighs n L weight F
  pub suprema : (F G : Column) → F ∈ S → G ∈ S → supremum F G ∈ S
  pub multiplies : (F G : Column) → F ∈ S → G ∈ S → Multiply n L weight F G

-- what is left of the averaging matrix of member i
unfoldable pub part : ℕ → (Column → ℕ → ℕ) → Family → ℕ → Matrix
unfolding average remainders
part n weight S i u v = get_or (remainders (λ F. average weight F u v) n S) i (pos 0)

module _ (n L : ℕ) (weight : Column → ℕ → ℕ) (S : Family) (o : Splits n L weight S) where
  abbrev M : ℕ → Column
  M i = member_at S i

  -- the averaging matrix of a member is the sum of its part and those of the coarser members
  parts_sum : (i : ℕ) → i < length S → (u v : ℕ) → average weight (M i) u v ≡ gathered (length S) (λ x. finer n (M i) (M x)) (part n weight S) u v
  unfolding part
  parts_sum i h u v = remainders_sum n S o.accepted o.on (λ F. average weight F u v) i h

  -- the part of a member is the same either way
  pub part_symmetric : (i : ℕ) → i < length S → Symmetric n (part n weight S i)
  part_symmetric i h u v hu hv =
      shares_unique n S o.accepted o.on (λ x. part n weight S x u v) (λ x. part n weight S x v u)
      (λ j k. sym (parts_sum j k u v) ∙ average_symmetric n L weight (M j) (o.weighs (M j) (member_at_lem S j k)) u v hu hv ∙ parts_sum j k v u) i h

  -- a factor that multiplies with every member keeps the parts of those that it is finer than, and takes the others to 0
  module _ (G : Column) (l_g : length G ≡ n) (stays : (F : Column) → F ∈ S → supremum G F ∈ S) (m : (F : Column) → F ∈ S → Multiply n L weight G F) where
    pub average_part : (j u v : ℕ) → j < length S → u < n → v < n → product n (average weight G) (part n weight S j) u v ≡ where_true (finer n G (M j)) (pos L *ℤ part n weight S j u v)
    average_part j u v hj hu hv =
        shares_unique n S o.accepted o.on (λ x. product n (average weight G) (part n weight S x) u v) (λ x. where_true (finer n G (M x)) (pos L *ℤ part n weight S x u v)) each j hj
      where
        each : (i : ℕ) → i < length S → upward n S o.accepted o.on i (λ x. product n (average weight G) (part n weight S x) u v) ≡ upward n S o.accepted o.on i (λ x. where_true (finer n G (M x)) (pos L *ℤ part n weight S x u v))
        each i hi =
            sym (product_gathered_right n (length S) (λ x. finer n (M i) (M x)) (part n weight S) (average weight G) u v)
            ∙ product_same n (λ x y hx hy. refl) (λ x y hx hy. sym (parts_sum i hi x y)) u v hu hv
            ∙ (m (M i) (member_at_lem S i hi)).multiply u v hu hv
            ∙ ap (λ (z : ℤ). pos L *ℤ z) (ap (λ (K : Column). average weight K u v) (sym k.is) ∙ parts_sum k.place k.less u v)
            ∙ sym (sum_times_true (length S) (pos L) (λ x. finer n (M k.place) (M x)) (λ x. part n weight S x u v))
            ∙ sum_same (length S) _ _ (λ x hx. ap (λ (b : Bool). where_true b (pos L *ℤ part n weight S x u v)) (joint x) ∙ sym (true_true (finer n (M i) (M x)) (finer n G (M x)) (pos L *ℤ part n weight S x u v)))
          where
            k : PlaceOf S (supremum G (M i))
            k = place_of S (supremum G (M i)) (stays (M i) (member_at_lem S i hi))

            and_swap : (a b : Bool) → a && b ≡ b && a
            and_swap true true = refl
            and_swap true false = refl
            and_swap false true = refl
            and_swap false false = refl

            joint : (x : ℕ) → finer n (M k.place) (M x) ≡ finer n (M i) (M x) && finer n G (M x)
            joint x =
                ap (λ (K : Column). finer n K (M x)) k.is ∙ finer_supremum n G (M i) (M x) l_g (o.on (M i) (member_at_lem S i hi))
                ∙ and_swap (finer n G (M x)) (finer n (M i) (M x))

-- ---- the parts of two families, the second closed under supremum with members of the first

module _ (n L : ℕ) (weight : Column → ℕ → ℕ) (P R : Family) (p : Splits n L weight P) (r : Splits n L weight R)
    (stays : (F T : Column) → F ∈ P → T ∈ R → supremum F T ∈ R) (m : (F T : Column) → F ∈ P → T ∈ R → Multiply n L weight F T) where
  -- member s of P is the coarsest that is finer than or equivalent to member j of R: the part of j lies within the part of s, and has product 0 with the others
  pub part_part : (s j : ℕ) → s < length P → j < length R → ((i : ℕ) → i < length P → finer n (member_at P i) (member_at P s) ≡ finer n (member_at P i) (member_at R j))
      → (i u v : ℕ) → i < length P → u < n → v < n → product n (part n weight P i) (part n weight R j) u v ≡ where_true (eqb i s) (pos L *ℤ part n weight R j u v)
  part_part s j hs hj coarsest i u v hi hu hv =
      shares_unique n P p.accepted p.on (λ x. product n (part n weight P x) (part n weight R j) u v) (λ x. where_true (eqb x s) c) each i hi
    where
      c : ℤ
      c = pos L *ℤ part n weight R j u v

      each : (i : ℕ) → i < length P → upward n P p.accepted p.on i (λ x. product n (part n weight P x) (part n weight R j) u v) ≡ upward n P p.accepted p.on i (λ x. where_true (eqb x s) c)
      each i hi =
          sym (product_gathered_left n (length P) (λ x. finer n (member_at P i) (member_at P x)) (part n weight P) (part n weight R j) u v)
          ∙ product_same n (λ x y hx hy. sym (parts_sum n L weight P p i hi x y)) (λ x y hx hy. refl) u v hu hv
          ∙ average_part n L weight R r (member_at P i) (p.on (member_at P i) (member_at_lem P i hi)) (λ T t. stays (member_at P i) T (member_at_lem P i hi) t) (λ T t. m (member_at P i) T (member_at_lem P i hi) t) j u v hj hu hv
          ∙ ap (λ (b : Bool). where_true b c) (sym (coarsest i hi))
          ∙ sym (sum_one (length P) s (λ x. where_true (finer n (member_at P i) (member_at P x)) c) hs)
          ∙ sum_same (length P) _ _ (λ x hx. true_swap (eqb x s) (finer n (member_at P i) (member_at P x)) c)

module _ (n L : ℕ) (weight : Column → ℕ → ℕ) (S : Family) (o : Splits n L weight S) where
  -- the parts of one family: L times the part, or 0
  pub part_own : (i j u v : ℕ) → i < length S → j < length S → u < n → v < n → product n (part n weight S i) (part n weight S j) u v ≡ where_true (eqb i j) (pos L *ℤ part n weight S j u v)
  part_own i j u v hi hj hu hv = part_part n L weight S S o o o.suprema o.multiplies j j hj hj (λ x hx. refl) i u v hi hu hv

  -- each part is L times a projection
  pub part_projects : (i : ℕ) → i < length S → Projects n (pos L) (part n weight S i)
  part_projects i h = record {
    symmetric = part_symmetric n L weight S o i h;
    square = λ u v hu hv. part_own i i u v h h hu hv ∙ ap (λ (b : Bool). where_true b (pos L *ℤ part n weight S i u v)) (eqb_self i);
  }

  -- ---- numbers read off the parts

  module _ (value : Matrix → ℤ) (f : Form n value) (s : ℕ) (own : Column → ℤ) (reads : (F : Column) → F ∈ S → pos s *ℤ own F ≡ value (average weight F)) where
    -- where s times the members' own numbers are read off the averaging matrices, s times the remainders are read off the parts
    pub remainders_read : (i : ℕ) → i < length S → pos s *ℤ get_or (remainders own n S) i (pos 0) ≡ value (part n weight S i)
    remainders_read i h =
        shares_unique n S o.accepted o.on (λ x. pos s *ℤ get_or (remainders own n S) x (pos 0)) (λ x. value (part n weight S x))
        (λ j hj. sum_times_true (length S) (pos s) (λ x. finer n (member_at S j) (member_at S x)) (λ x. get_or (remainders own n S) x (pos 0))
        ∙ ap (λ (z : ℤ). pos s *ℤ z) (sym (remainders_sum n S o.accepted o.on own j hj))
        ∙ reads (member_at S j) (member_at_lem S j hj)
        ∙ f.value_same _ _ (λ u v hu hv. parts_sum n L weight S o j hj u v)
        ∙ f.value_gathered (length S) (λ x. finer n (member_at S j) (member_at S x)) (part n weight S))
        i h

    -- so no remainder is below 0
    pub remainders_nonneg : 0 < s → 0 < L → (i : ℕ) → i < length S → NonNeg (get_or (remainders own n S) i (pos 0))
    remainders_nonneg hs hL i h =
        nonneg_divide s hs _ (nonneg_divide L hL _ (subst (λ (z : ℤ). NonNeg (pos L *ℤ z)) (sym (remainders_read i h)) (f.value_nonneg (pos L) (part n weight S i) (part_projects i h))))
