-- Tables of class sizes.
-- Assumes nothing.
use Rattle.std.specs.Prelude.{List, ℕ, eqb, length}
use Rattle.rules.specs.Lists.{tabulate}
use Rattle.rules.specs.Factor.{Column, at, count}

-- how many of the first n plots have the label x
unfoldable pub labelled : ℕ → Column → ℕ → ℕ
unfolding count
labelled n F x = count n (λ v. eqb x (at F v))

-- the size of the class of each label that a byte holds
unfoldable pub sizes : Column → List ℕ
unfolding labelled tabulate
sizes F = tabulate (labelled (length F) F) 256
