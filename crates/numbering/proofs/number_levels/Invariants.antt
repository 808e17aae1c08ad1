-- `number_levels` meets its contract: the chains hold the labels seen, and the array is filled with the numbers.
use mathlib.Core.Path.{◌≡◌}
use Prim.Native.Nat.{◌≤◌}
use lib.ListN.{length}
use Rattle.rules.specs.Limits.{most_plots}
use Rattle.rules.specs.Factor.{number}
use Rattle.factor.proofs.Fill.{filled}
use Rattle.numbering.proofs.Chain.{Seen}
use Rattle.numbering.proofs.number_levels.Given as goal

abbrev pub invariant-loop-u : goal.invariant-loop-u
invariant-loop-u l =
    (l.classes.count ≤ l.u) × (l.room ≡ filled l.initial.room (number l.levels) l.u) × (length l.room ≡ most_plots)
    × Seen l.levels l.u l.classes.labels l.classes.chain l.classes.last l.classes.count
