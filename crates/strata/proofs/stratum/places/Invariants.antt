-- `places` meets its contract: the array is filled from its start.
use mathlib.Core.Path.{◌≡◌}
use mathlib.Core.List.{map}
use mathlib.Core.Bool.{true, not}
use lib.Dec.{eqb}
use lib.ListN.{take}
use Rattle.rules.specs.Factor.{every}
use Rattle.rules.specs.Lists.{for_places}
use Rattle.rules.specs.Strata.{stratum}
use Rattle.strata.specs.Family.{members}
use Rattle.strata.specs.Pair.{treatments, stratum_of}
use Rattle.strata.proofs.stratum.places.Given as goal

abbrev pub invariant-loop-t : goal.invariant-loop-t
invariant-loop-t l =
    (l.places ≡ for_places 0 (take l.t (map (stratum l.pair.plot.plots (members l.pair.plot)) (treatments l.pair)))) × (every l.t (λ k. not (eqb (stratum_of l.pair k) 0)) ≡ true)
