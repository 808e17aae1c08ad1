-- `names::names_differ`: the loop's invariant is that the names differ exactly when those from this one on do.
use Prim.Native.Nat.{◌-◌, ◌≤◌}
use mathlib.Core.Path.{◌≡◌}
use mathlib.Core.List.{map}
use lib.ListN.{drop}
use Rattle.rules.specs.Sheet.{plot_mark, header, column_names, names_differ}
use Rattle.rules.specs.SheetText.{plot_heading}
use Rattle.block_formula.proofs.names.names_differ.Given as goal

abbrev pub invariant-loop-i : goal.invariant-loop-i
invariant-loop-i l =
    (l.i ≤ l.names) × (names_differ (map plot_heading (drop l.i (column_names plot_mark (header l.line)))) ≡ names_differ (map plot_heading (column_names plot_mark (header l.line))))

abbrev pub decreases-loop-i : goal.decreases-loop-i
decreases-loop-i l = l.names - l.i
