-- `sheet::rows::row_end` meets its contract. The loop's invariant: the line ends where the rest of it does, which has one level more than
-- turns are left.
use Prim.Native.Nat.{suc, ◌-◌, ◌≤◌}
use mathlib.Core.Path.{◌≡◌}
use lib.ListN.{drop}
use Rattle.sheet.specs.Walk.{row_end}
use Rattle.sheet.proofs.rows.row_end.Given as goal

abbrev pub invariant-loop : goal.invariant-loop
invariant-loop l = (1 ≤ l.counter) × (l.counter ≤ l.n) × (row_end (suc (l.n - l.counter)) l.at (drop l.at l.text) ≡ row_end l.n l.start (drop l.start l.text))
