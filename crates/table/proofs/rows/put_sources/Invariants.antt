-- `put_sources`: what is still to be written is the rest of the whole.
use mathlib.Core.Path.{◌≡◌}
use Prim.Native.Nat.{◌≤◌}
use lib.ListN.{length, drop}
use Rattle.rules.specs.Table.{rows_bytes, source_rows}
use Rattle.decimal.proofs.Writing.{Rest}
use Rattle.table.specs.Skeletons.{names_of, places_of, degrees_of, sources_in}
use Rattle.table.proofs.rows.put_sources.Given as goal

abbrev pub invariant-loop-j : goal.invariant-loop-j
invariant-loop-j l =
    let t = l.table in
    (l.j ≤ t.sources.now.size) × (length l.out ≡ length l.initial.out)
    × Rest l.out l.next (rows_bytes (source_rows l.stratum l.place (drop l.j (names_of t.sources.now)) (drop l.j (places_of t)) (drop l.j (degrees_of t)))) l.initial.out l.at (rows_bytes (sources_in l.stratum l.place t))
