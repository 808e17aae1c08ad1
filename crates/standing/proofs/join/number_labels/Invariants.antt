-- `number_labels` meets its contract: one table tells the number of each entry seen, the other that of each label.
use mathlib.Core.Path.{◌≡◌}
use Prim.Native.Nat.{◌≤◌}
use lib.ListN.{length}
use Rattle.standing.specs.Joining.{LabelsNumbered, spread}
use Rattle.standing.specs.Numbers.{Numbered}
use Rattle.standing.proofs.join.number_labels.Given as goal

abbrev pub invariant-loop-label : goal.invariant-loop-label
invariant-loop-label l =
    (length l.numbers ≡ 256) × (l.found.count ≤ l.label-index) × Numbered (spread l.entries l.x) l.label-index l.found.numbers l.found.count × LabelsNumbered l.entries l.x l.label-index l.numbers
