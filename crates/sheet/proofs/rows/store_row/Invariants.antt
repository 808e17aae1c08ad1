-- `sheet::rows::store_row` meets its contract. The loop's invariant: what is left of the line's work, done from here, is the whole of it.
use Prim.Native.Nat.{suc, ◌+◌, ◌-◌}
use mathlib.Core.Path.{◌≡◌}
use lib.ListN.{length, drop}
use Rattle.rules.specs.Sheet.{up_to, fields, with_plot}
use Rattle.sheet.proofs.StoreLaws.{Left}
use Rattle.sheet.proofs.rows.store_row.Given as goal

abbrev pub invariant-loop-i : goal.invariant-loop-i
invariant-loop-i l =
    (length l.levels ≡ length l.initial.levels)
    × Left (length l.columns - l.i) (drop l.i l.columns) l.u (drop l.at l.text) l.at l.levels (with_plot l.columns l.u (fields (up_to 10 (drop l.start l.text))) l.initial.levels) (l.start + suc (length (up_to 10 (drop l.start l.text))))
