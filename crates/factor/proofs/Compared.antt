-- What `==` of slices tells of columns.
-- Assumes nothing.
use mathlib.Core.Path.{◌≡◌, refl}
use mathlib.Core.Bool.{Bool, true, false, ◌&&◌}
use mathlib.Core.List.{[], ◌∷◌}
use lib.Dec.{eqb}
use lib.Pointwise.{pointwise}
use Rattle.rules.specs.Factor.{Column}
use Rattle.rules.specs.Family.{alike}

-- `==` compares plot by plot
pub alike_pointwise : (f g : Column) → pointwise eqb f g ≡ alike f g
unfolding alike
alike_pointwise [] [] = refl
alike_pointwise [] (y ∷ g) = refl
alike_pointwise (x ∷ f) [] = refl
alike_pointwise (x ∷ f) (y ∷ g) = go (eqb x y) (alike_pointwise f g)
  where
    go : (b : Bool) {p a : Bool} → p ≡ a → (b && p) ≡ elim b [ true ↦ a | false ↦ false ]
    go true e = e
    go false e = refl
