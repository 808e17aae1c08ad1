-- The relation of a family, said of factors: what the words of Relation say, by the laws in proofs/Above.
-- Assumes nothing.
use Rattle.std.specs.Prelude.{ℕ}
use Rattle.rules.specs.Factor.{Column, Finer}
use Rattle.rules.specs.Family.{Family, ◌∈◌}

-- G is strictly coarser than F
pub record StrictlyCoarser (n : ℕ) (F G : Column) : Type 0 where
  pub finer : Finer n F G
  pub not_back : Finer n G F → ⊥

-- G is one of "the neighbours directly above" F, "with no member between"
pub record DirectlyAbove (n : ℕ) (S : Family) (F G : Column) : Type 0 where
  pub coarser : StrictlyCoarser n F G
  pub none_between : (H : Column) → H ∈ S → StrictlyCoarser n F H → StrictlyCoarser n H G → ⊥

-- a chain of members from F up to G, each directly above the one before
pub data Climb (n : ℕ) (S : Family) (F : Column) : Column → Type 0 where
  one_step : {G : Column} → G ∈ S → DirectlyAbove n S F G → Climb n S F G
  further : {G H : Column} → Climb n S F G → H ∈ S → DirectlyAbove n S G H → Climb n S F H
