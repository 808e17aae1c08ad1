use mathlib.Core.Path.{refl, ◌∙◌}
use Prim.Native.Nat.{◌+◌, ◌≤◌}
use native.Mathlib.Omega.{arith}
use lib.ListN.{drop}
use Rattle.rules.specs.Table.{rows_bytes, source_rows}
use Rattle.decimal.proofs.Writing.{rest_then, rest_end, wrote_length}
use Rattle.table.specs.Skeletons.{names_of, places_of, degrees_of, source_at, sources_in}
use Rattle.table.proofs.RowLaws.{source_step, source_end, length_names}
use Rattle.table.proofs.rows.put_sources.Goals as goal

pub loop-j-init : goal.loop-j-init
loop-j-init c = (omega arith, refl, (refl, refl))

pub loop-j-preserved : goal.loop-j-preserved
loop-j-preserved c =
    let a = c.args in
    let t = a.table.now in
    let m = t.sources.now in
    let f = t.found.now in
    let w = c.put_source-next.ensures in
    let j = c.loop-j.j in
    let name = a.stratum.now in
    let few : m.size ≤ 32 = m.few in
    let one = rows_bytes (source_at name a.place t j) in
    let rest = rows_bytes (source_rows name a.place (drop (j + 1) (names_of m)) (drop (j + 1) (places_of t)) (drop (j + 1) (degrees_of t))) in (
      omega arith,
      wrote_length c.loop-j.out c.loop-j.next one w ∙ c.loop-j.invariant.1,
      rest_then a.out.now a.at (rows_bytes (sources_in name a.place t)) c.loop-j.out c.loop-j.next one rest
          (source_step name a.place m.bytes m.lengths m.size f.strata.places f.degrees j (omega arith) (omega (arith, t.whole.places)) (omega (arith, t.whole.degrees))) w c.loop-j.invariant.2,
    )

pub shape_of-out : goal.shape_of-out
shape_of-out c = c.loop-j.invariant.1

pub returns : goal.returns
returns c =
    let a = c.args in
    let t = a.table.now in
    let l = length_names t.sources.now.bytes t.sources.now.lengths t.sources.now.size in
    rest_end a.out.now a.at (rows_bytes (sources_in a.stratum.now a.place t)) c.loop-j.out c.loop-j.next (source_end a.stratum.now a.place (names_of t.sources.now) (places_of t) (degrees_of t) c.loop-j.j (omega arith)) c.loop-j.invariant.2
