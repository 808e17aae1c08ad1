-- `numbered_classes` meets its contract: the labels seen are 1 to `most`, and each is its own number.
use mathlib.Core.Path.{◌≡◌}
use Prim.Native.Nat.{◌≤◌}
use lib.ListN.{take}
use Rattle.rules.specs.Factor.{classes}
use Rattle.rules.proofs.Columns.{Tells}
use Rattle.factor.proofs.UpTo.{up_to}
use Rattle.families.proofs.numbered_classes.Given as goal

abbrev pub invariant-loop-x : goal.invariant-loop-x
invariant-loop-x l = (l.most ≤ l.x-index) × (l.most ≡ classes (take l.x-index l.column)) × Tells l.column l.x-index (up_to l.most)
