-- `sheet::header::column_name` meets its contract. The loop's invariant: column c of the line is column `left` of the fields from `at` on.
use Prim.Native.Nat.{◌-◌, ◌≤◌}
use mathlib.Core.Path.{◌≡◌}
use lib.ListN.{length, drop}
use Rattle.rules.specs.Sheet.{header}
use Rattle.sheet.specs.Answers.{span_from, column_span}
use Rattle.sheet.proofs.header.column_name.Given as goal

abbrev pub invariant-loop-mark : goal.invariant-loop-mark
invariant-loop-mark l = (l.at ≤ length l.text) × (span_from l.mark l.left l.at (header (drop l.at l.text)) ≡ column_span l.mark l.c l.text)

abbrev pub decreases-loop-mark : goal.decreases-loop-mark
decreases-loop-mark l = length l.text - l.at
