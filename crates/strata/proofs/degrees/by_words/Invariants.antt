-- `by_words` meets its contract: each turn finds the next number from those before it.
use mathlib.Core.Path.{◌≡◌}
use lib.IntN.{pos}
use lib.ListN.{take}
use Rattle.rules.specs.Lists.{for_places}
use Rattle.rules.specs.Degrees.{degrees}
use Rattle.strata.specs.Family.{members}
use Rattle.strata.proofs.degrees.by_words.Given as goal

abbrev pub invariant-loop-i : goal.invariant-loop-i
invariant-loop-i l = l.numbers ≡ for_places (pos 0) (take l.i (degrees l.family.plots (members l.family)))
