use mathlib.Core.Path.{refl, ◌∙◌}
use Prim.Native.Nat.{◌+◌, ◌≤◌}
use native.Mathlib.Omega.{arith}
use lib.ListN.{take, drop}
use Rattle.rules.specs.Table.{rows_bytes, strata_rows}
use Rattle.decimal.proofs.Writing.{rest_then, rest_end, wrote_length}
use Rattle.table.specs.Skeletons.{names_of, places_of, degrees_of, stratum_at, strata_in}
use Rattle.table.proofs.RowLaws.{strata_step, strata_end, length_names}
use Rattle.table.proofs.rows.put_strata.Goals as goal

pub loop-i-init : goal.loop-i-init
loop-i-init c = (omega arith, refl, (refl, refl))

pub loop-i-preserved : goal.loop-i-preserved
loop-i-preserved c =
    let a = c.args in
    let t = a.table.now in
    let m = t.strata.now in
    let f = t.found.now in
    let w = c.put_stratum-next.ensures in
    let i = c.loop-i.i in
    let few : m.size ≤ 32 = m.few in
    let one = rows_bytes (stratum_at t i) in
    let rest = rows_bytes (strata_rows (i + 1 + 1) (drop (i + 1) (names_of m)) (drop (i + 1) (take m.size f.totals)) (drop (i + 1) (take m.size f.strata.residuals)) (names_of t.sources.now) (places_of t) (degrees_of t)) in (
      omega arith,
      wrote_length c.loop-i.out c.loop-i.next one w ∙ c.loop-i.invariant.1,
      rest_then a.out.now a.at (rows_bytes (strata_in t)) c.loop-i.out c.loop-i.next one rest
          (strata_step m.bytes m.lengths m.size f.totals f.strata.residuals (names_of t.sources.now) (places_of t) (degrees_of t) i (omega arith) (omega (arith, t.whole.totals)) (omega (arith, t.whole.residuals))) w c.loop-i.invariant.2,
    )

pub shape_of-out : goal.shape_of-out
shape_of-out c = c.loop-i.invariant.1

pub returns : goal.returns
returns c =
    let a = c.args in
    let t = a.table.now in
    let m = t.strata.now in
    let f = t.found.now in
    let l = length_names m.bytes m.lengths m.size in
    rest_end a.out.now a.at (rows_bytes (strata_in t)) c.loop-i.out c.loop-i.next
    (strata_end (c.loop-i.i + 1) (names_of m) (take m.size f.totals) (take m.size f.strata.residuals) (names_of t.sources.now) (places_of t) (degrees_of t) c.loop-i.i (omega arith)) c.loop-i.invariant.2
