-- `number_joins` meets its contract: the plots before `u` have their numbers.
use mathlib.Core.Path.{◌≡◌}
use Rattle.factor.proofs.Fill.{filled}
use lib.ListN.{length}
use Rattle.standing.specs.Joining.{spread}
use Rattle.standing.proofs.join.number_joins.Given as goal

abbrev pub invariant-loop-u : goal.invariant-loop-u
invariant-loop-u l = (length l.out ≡ 240) × (l.out ≡ filled l.initial.out (spread l.numbers l.f) l.u)
