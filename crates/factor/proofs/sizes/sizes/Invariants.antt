-- `sizes` meets its contract: the table holds the sizes among the plots passed.
use mathlib.Core.Path.{◌≡◌}
use Rattle.rules.specs.Lists.{tabulate}
use Rattle.factor.specs.Sizes.{labelled}
use Rattle.factor.proofs.sizes.sizes.Given as goal

abbrev pub invariant-loop-x : goal.invariant-loop-x
invariant-loop-x l = l.table ≡ tabulate (labelled l.x-index l.f) 256
