-- `sheet::rows::store` meets its contract. The loop's invariant: the lines from `at` on, stored from plot u on, complete the work.
use Prim.Native.Nat.{◌-◌, ◌≤◌}
use mathlib.Core.Path.{◌≡◌}
use lib.ListN.{length, drop}
use Rattle.rules.specs.Sheet.{lines, with_plots}
use Rattle.sheet.proofs.StoreLaws.{More}
use Rattle.sheet.proofs.rows.store.Given as goal

abbrev pub invariant-loop-u : goal.invariant-loop-u
invariant-loop-u l =
    (l.u ≤ l.plots) × (length l.levels ≡ length l.initial.levels) × More l.columns (length l.columns) l.u l.plots l.text l.at l.levels (with_plots l.columns 0 (lines (drop l.start l.text)) l.initial.levels)

abbrev pub decreases-loop-u : goal.decreases-loop-u
decreases-loop-u l = l.plots - l.u
