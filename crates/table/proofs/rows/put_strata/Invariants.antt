-- `put_strata`: what is still to be written is the rest of the whole.
use mathlib.Core.Path.{◌≡◌}
use Prim.Native.Nat.{◌+◌, ◌≤◌}
use lib.ListN.{length, take, drop}
use Rattle.rules.specs.Table.{rows_bytes, strata_rows}
use Rattle.decimal.proofs.Writing.{Rest}
use Rattle.table.specs.Skeletons.{names_of, places_of, degrees_of, strata_in}
use Rattle.table.proofs.rows.put_strata.Given as goal

abbrev pub invariant-loop-i : goal.invariant-loop-i
invariant-loop-i l =
    let t = l.table in
    let m = t.strata.now in
    let f = t.found.now in
    (l.i ≤ m.size) × (length l.out ≡ length l.initial.out)
    × Rest l.out l.next (rows_bytes (strata_rows (l.i + 1) (drop l.i (names_of m)) (drop l.i (take m.size f.totals)) (drop l.i (take m.size f.strata.residuals)) (names_of t.sources.now) (places_of t) (degrees_of t))) l.initial.out l.at (rows_bytes (strata_in t))
