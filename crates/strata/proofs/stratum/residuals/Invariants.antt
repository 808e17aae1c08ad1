-- `residuals` meets its contract: the array is filled from its start.
use mathlib.Core.Path.{◌≡◌}
use lib.IntN.{pos}
use lib.ListN.{length}
use Rattle.strata.specs.Sums.{residual_at}
use Rattle.strata.proofs.Fill.{up_to}
use Rattle.strata.proofs.stratum.residuals.Given as goal

abbrev pub invariant-loop-p : goal.invariant-loop-p
invariant-loop-p l = l.left ≡ up_to (pos 0) (residual_at l.own l.numbers l.places (length l.places)) (length l.own) l.p
