-- The range of the labels of a column.
-- Assumes nothing.
use Rattle.std.specs.Prelude.{[], ◌∷◌, ℕ, max}
use Rattle.rules.specs.Factor.{Column}

-- the largest label, 0 where there is no plot: of a column that is numbered by first appearance, how many classes it has
unfoldable pub largest : Column → ℕ
largest [] = 0
largest (x ∷ F) = max x (largest F)
