-- The stratum of a treatment member, said of factors: what `stratum` of Strata finds, by the laws in proofs/Allocation.
-- Assumes nothing.
use Rattle.std.specs.Prelude.{◌≡◌, ℕ}
use Rattle.rules.specs.Factor.{Column, Finer}
use Rattle.rules.specs.Family.{Family, ◌∈◌}

-- "The stratum of a treatment member is the plot member that is finer than or equivalent to it and to which every other such plot member is finer": F is the stratum of T among the plot members P
pub record IsStratum (n : ℕ) (P : Family) (T F : Column) : Type 0 where
  pub member : F ∈ P
  pub below : Finer n F T
  pub every_other : (G : Column) → G ∈ P → (G ≡ F → ⊥) → Finer n G T → Finer n G F
