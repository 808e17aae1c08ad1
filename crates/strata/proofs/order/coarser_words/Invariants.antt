-- `coarser_words` meets its contract: the arrays are filled from their start.
use mathlib.Core.Path.{◌≡◌}
use lib.ListN.{take}
use Rattle.rules.specs.Factor.{classes}
use Rattle.rules.specs.Lists.{for_places}
use Rattle.rules.specs.Relation.{coarser_words}
use Rattle.strata.specs.Family.{members, column}
use Rattle.strata.proofs.Fill.{up_to}
use Rattle.strata.proofs.order.coarser_words.Given as goal

abbrev pub invariant-loop-i : goal.invariant-loop-i
invariant-loop-i l =
    (l.words ≡ for_places 0 (take l.i (coarser_words l.family.plots (members l.family)))) × (l.counts ≡ up_to 0 (λ k. classes (column l.family k)) l.family.size l.i)
