-- `equality` meets its contract: the numbers of the plots before u are stored.
use mathlib.Core.Path.{◌≡◌}
use Rattle.rules.specs.Factor.{equality}
use Rattle.factor.specs.Lent.{overlay}
use Rattle.factor.proofs.extremes.equality.Given as goal

abbrev pub invariant-loop-u : goal.invariant-loop-u
invariant-loop-u l = l.label-items ≡ overlay l.initial.label-items (equality l.u)
