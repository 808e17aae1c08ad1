-- Laws of the order among factors: the infimum is the greatest lower bound of two factors, the supremum their least upper bound.
-- Assumes nothing.
use mathlib.Core.Path.{◌≡◌, refl, sym, ap₂, ◌∙◌}
use mathlib.Core.Logic.{◌↔◌}
use Prim.Native.Nat.{ℕ, ◌*◌, ◌<◌}
use lib.ListN.{length}
use borrow.Author.Tests.{eqb-true, eq-eqb}
use Rattle.rules.specs.Factor.{Column, Same, same, Finer, Equivalent, number, infimum, supremum, Chain, start, along_f, along_g, class_size, overlap, Orthogonal}
use Rattle.rules.proofs.Numbering.{by_cases, length_number, number_unique, length_infimum, infimum_same, number_infimum}
use Rattle.rules.proofs.Supremum.{length_supremum, number_supremum, equivalent_refl, number_equivalent, infimum_equivalent}
use Rattle.rules.proofs.Tests.{count_same, size_equivalent, size_same, supremum_chain', supremum_flip}

-- every factor is finer than or equivalent to itself, and the order passes on
pub finer_refl : (n : ℕ) (F : Column) → Finer n F F
finer_refl n F u v hu hv e = e

pub finer_trans : (n : ℕ) (F G H : Column) → Finer n F G → Finer n G H → Finer n F H
finer_trans n F G H f g u v hu hv e = g u v hu hv (f u v hu hv e)

-- equivalent columns on n plots have the same numbering
pub numbered_equal : (n : ℕ) (F G : Column) → length F ≡ n → length G ≡ n → Equivalent n F G → number F ≡ number G
numbered_equal n F G l_f l_g h = number_unique F G (l_f ∙ sym l_g) (rw l_f h)

module _ (n : ℕ) (F G : Column) (l_f : length F ≡ n) (l_g : length G ≡ n) where
  -- both operations stay on the n plots
  pub length_infimum' : length (infimum F G) ≡ n
  length_infimum' = length_infimum F G (l_f ∙ sym l_g) ∙ l_f

  pub length_supremum' : length (supremum F G) ≡ n
  length_supremum' = length_supremum F G (l_f ∙ sym l_g) ∙ l_f

  -- two plots share a class of the infimum exactly when they do in both factors
  pub infimum_same' : (u v : ℕ) → u < n → v < n → Same (infimum F G) u v ↔ (Same F u v × Same G u v)
  infimum_same' u v hu hv = infimum_same F G (l_f ∙ sym l_g) u v (rw l_f hu) (rw l_f hv)

  -- the infimum is finer than each of the two
  pub infimum_left : Finer n (infimum F G) F
  infimum_left u v hu hv e = ((infimum_same' u v hu hv).0 e).0

  pub infimum_right : Finer n (infimum F G) G
  infimum_right u v hu hv e = ((infimum_same' u v hu hv).0 e).1

  -- what is finer than both is finer than the infimum
  pub infimum_greatest : (H : Column) → Finer n H F → Finer n H G → Finer n H (infimum F G)
  infimum_greatest H f g u v hu hv e = (infimum_same' u v hu hv).1 (f u v hu hv e, g u v hu hv e)

  -- each of the two is finer than the supremum
  pub supremum_left : Finer n F (supremum F G)
  supremum_left u v hu hv e = (supremum_chain' n F G l_f l_g u v hu hv).1 (along_f start hv e)

  pub supremum_right : Finer n G (supremum F G)
  supremum_right u v hu hv e = (supremum_chain' n F G l_f l_g u v hu hv).1 (along_g start hv e)

  -- the supremum is finer than all that both are finer than
  pub supremum_least : (K : Column) → Finer n F K → Finer n G K → Finer n (supremum F G) K
  supremum_least K f g u v hu hv e = (along hu ((supremum_chain' n F G l_f l_g u v hu hv).0 e)).1
    where
      along : {u v : ℕ} → u < n → Chain n F G u v → (v < n) × Same K u v
      along h start = (h, refl)
      along h (along_f {w} {v} c k s) = (k, (along h c).1 ∙ f w v (along h c).0 k s)
      along h (along_g {w} {v} c k s) = (k, (along h c).1 ∙ g w v (along h c).0 k s)

-- ---- a factor numbered, two factors in either order, one finer than the other, one factor twice, absorption

module _ (n : ℕ) (F G : Column) (l_f : length F ≡ n) (l_g : length G ≡ n) where
  -- a column and its numbering have the same infimum with another
  pub infimum_number : infimum (number F) G ≡ infimum F G
  infimum_number =
      let lN : length (number F) ≡ n = length_number F ∙ l_f in
      sym (number_infimum (number F) G (lN ∙ sym l_g))
      ∙ numbered_equal n _ _ (length_infimum' n (number F) G lN l_g) (length_infimum' n F G l_f l_g) (infimum_equivalent n lN l_g l_f l_g (number_equivalent F l_f) equivalent_refl)
      ∙ number_infimum F G (l_f ∙ sym l_g)

  -- the order of the two does not matter
  pub infimum_flip : Equivalent n (infimum F G) (infimum G F)
  infimum_flip = record {
    to = infimum_greatest n G F l_g l_f (infimum F G) (infimum_right n F G l_f l_g) (infimum_left n F G l_f l_g);
    from = infimum_greatest n F G l_f l_g (infimum G F) (infimum_right n G F l_g l_f) (infimum_left n G F l_g l_f);
  }

  pub infimum_comm : infimum F G ≡ infimum G F
  infimum_comm = sym (number_infimum F G (l_f ∙ sym l_g)) ∙ numbered_equal n _ _ (length_infimum' n F G l_f l_g) (length_infimum' n G F l_g l_f) infimum_flip ∙ number_infimum G F (l_g ∙ sym l_f)

  pub supremum_comm : supremum F G ≡ supremum G F
  supremum_comm =
      sym (number_supremum F G (l_f ∙ sym l_g)) ∙ numbered_equal n _ _ (length_supremum' n F G l_f l_g) (length_supremum' n G F l_g l_f) (supremum_flip n F G l_f l_g) ∙ number_supremum G F (l_g ∙ sym l_f)

  module _ (fine : Finer n F G) where
    -- of two factors, one finer than the other, the infimum is the finer and the supremum the coarser
    pub infimum_nested : Equivalent n (infimum F G) F
    infimum_nested = record { to = infimum_left n F G l_f l_g; from = infimum_greatest n F G l_f l_g F (finer_refl n F) fine }

    pub supremum_nested : Equivalent n (supremum F G) G
    supremum_nested = record { to = supremum_least n F G l_f l_g G fine (finer_refl n G); from = supremum_right n F G l_f l_g }

    -- and with the numbering they are equal
    pub infimum_finer_is : infimum F G ≡ number F
    infimum_finer_is = sym (number_infimum F G (l_f ∙ sym l_g)) ∙ numbered_equal n _ _ (length_infimum' n F G l_f l_g) l_f infimum_nested

    pub supremum_coarser_is : supremum F G ≡ number G
    supremum_coarser_is = sym (number_supremum F G (l_f ∙ sym l_g)) ∙ numbered_equal n _ _ (length_supremum' n F G l_f l_g) l_g supremum_nested

    overlap_nested : (u v : ℕ) → u < n → v < n → Same G u v → overlap n F u G v ≡ class_size n F u
    unfolding overlap class_size
    overlap_nested u v hu hv e = count_same n _ _ (λ w hw. by_cases (same F u w) (λ f. rw f (eq-eqb _ _ (sym e ∙ fine u w hu hw (eqb-true _ _ f)))) (λ f. rw f))

    -- nested factors are orthogonal
    pub nested_orthogonal : Orthogonal n F G
    nested_orthogonal u v hu hv e =
        ap₂ ◌*◌ (overlap_nested u v hu hv s) (size_equivalent supremum_nested u hu ∙ size_same n G u v s)
      where
        s : Same G u v
        s = supremum_nested.to u v hu hv e

-- both operations on one factor twice give that factor
module _ (n : ℕ) (F : Column) (l_f : length F ≡ n) where
  pub infimum_self : infimum F F ≡ number F
  infimum_self = infimum_finer_is n F F l_f l_f (finer_refl n F)

  pub supremum_self : supremum F F ≡ number F
  supremum_self = supremum_coarser_is n F F l_f l_f (finer_refl n F)

-- the infimum with a coarser supremum, and the supremum with a finer infimum, give the factor back
module _ (n : ℕ) (F G : Column) (l_f : length F ≡ n) (l_g : length G ≡ n) where
  pub infimum_absorbs : infimum F (supremum F G) ≡ number F
  infimum_absorbs = infimum_finer_is n F (supremum F G) l_f (length_supremum' n F G l_f l_g) (supremum_left n F G l_f l_g)

  pub supremum_absorbs : supremum F (infimum F G) ≡ number F
  supremum_absorbs =
      supremum_comm n F (infimum F G) l_f (length_infimum' n F G l_f l_g) ∙ supremum_coarser_is n (infimum F G) F (length_infimum' n F G l_f l_g) l_f (infimum_left n F G l_f l_g)

-- ---- suprema of three factors

module _ (n : ℕ) (F G H : Column) (l_f : length F ≡ n) (l_g : length G ≡ n) (lH : length H ≡ n) where
  l_fG : length (supremum F G) ≡ n
  l_fG = length_supremum' n F G l_f l_g

  l_gH : length (supremum G H) ≡ n
  l_gH = length_supremum' n G H l_g lH

  down : Finer n (supremum (supremum F G) H) (supremum F (supremum G H))
  down = supremum_least n (supremum F G) H l_fG lH (supremum F (supremum G H))
      (supremum_least n F G l_f l_g (supremum F (supremum G H)) (supremum_left n F (supremum G H) l_f l_gH)
      (finer_trans n G (supremum G H) (supremum F (supremum G H)) (supremum_left n G H l_g lH) (supremum_right n F (supremum G H) l_f l_gH)))
      (finer_trans n H (supremum G H) (supremum F (supremum G H)) (supremum_right n G H l_g lH) (supremum_right n F (supremum G H) l_f l_gH))

  up : Finer n (supremum F (supremum G H)) (supremum (supremum F G) H)
  up = supremum_least n F (supremum G H) l_f l_gH (supremum (supremum F G) H)
      (finer_trans n F (supremum F G) (supremum (supremum F G) H) (supremum_left n F G l_f l_g) (supremum_left n (supremum F G) H l_fG lH))
      (supremum_least n G H l_g lH (supremum (supremum F G) H)
      (finer_trans n G (supremum F G) (supremum (supremum F G) H) (supremum_right n F G l_f l_g) (supremum_left n (supremum F G) H l_fG lH)) (supremum_right n (supremum F G) H l_fG lH))

  -- the supremum is associative
  pub supremum_assoc : supremum (supremum F G) H ≡ supremum F (supremum G H)
  supremum_assoc =
      sym (number_supremum (supremum F G) H (l_fG ∙ sym lH))
      ∙ numbered_equal n (supremum (supremum F G) H) (supremum F (supremum G H)) (length_supremum' n (supremum F G) H l_fG lH) (length_supremum' n F (supremum G H) l_f l_gH) (record { to = down; from = up })
      ∙ number_supremum F (supremum G H) (l_f ∙ sym l_gH)
