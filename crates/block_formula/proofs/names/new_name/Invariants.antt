-- `names::new_name`: the loop's invariant is that the name is new exactly when it is new among the names from this one on.
use Prim.Native.Nat.{◌+◌, ◌-◌, ◌≤◌}
use mathlib.Core.Path.{◌≡◌}
use mathlib.Core.List.{[], map}
use lib.ListN.{get_or, drop}
use Rattle.rules.specs.Sheet.{plot_mark, header, column_names, new_name}
use Rattle.rules.specs.SheetText.{plot_heading}
use Rattle.block_formula.proofs.names.new_name.Given as goal

abbrev pub invariant-loop-j : goal.invariant-loop-j
invariant-loop-j l =
    (l.i + 1 ≤ l.j) × (l.j ≤ l.names) × (new_name (plot_heading (get_or (column_names plot_mark (header l.line)) l.i [])) (map plot_heading (drop l.j (column_names plot_mark (header l.line)))) ≡ new_name (plot_heading (get_or (column_names plot_mark (header l.line)) l.i [])) (map plot_heading (drop (l.i + 1) (column_names plot_mark (header l.line)))))

abbrev pub decreases-loop-j : goal.decreases-loop-j
decreases-loop-j l = l.names - l.j
