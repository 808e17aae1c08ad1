-- `sheet::header::names_differ` meets its contract. The loop's invariant: the names differ exactly when those from `at` on do.
use Prim.Native.Nat.{◌-◌}
use mathlib.Core.Path.{◌≡◌}
use mathlib.Core.Bool.{true}
use lib.ListN.{length, drop}
use Rattle.rules.specs.Sheet.{has, all, is_column, names_differ, header}
use Rattle.sheet.proofs.header.names_differ.Given as goal

abbrev pub invariant-loop-at : goal.invariant-loop-at
invariant-loop-at l = (has 10 (drop l.at l.text) ≡ true) × (all is_column (header (drop l.at l.text)) ≡ true) × (names_differ (header (drop l.at l.text)) ≡ names_differ (header l.text))

abbrev pub decreases-loop-at : goal.decreases-loop-at
decreases-loop-at l = length l.text - l.at
