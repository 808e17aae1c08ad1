-- `put_stratum`: sources, residual and total in turn.
use mathlib.Core.Path.{ap, ◌∙◌}
use mathlib.Core.List.{List, [], ◌∷◌, ◌++◌}
use Prim.Native.Nat.{ℕ, ◌+◌, ◌≤◌}
use native.Mathlib.Omega.{arith}
use lib.IntN.{ℤ, pos}
use lib.ListN.{get_or}
use mir.Syntax.{w64}
use mir.Val.{SFits}
use mir.ValLaws.{to_z-of_z}
use Rattle.rules.specs.Table.{row_bytes, rows_bytes, signed, stratum_rows, word_total}
use Rattle.decimal.proofs.Writing.{wrote_as, wrote_then}
use Rattle.table.specs.Names.{among, residual_of}
use Rattle.table.specs.Skeletons.{names_of, places_of, degrees_of, sources_in}
use Rattle.table.proofs.RowLaws.{stratum_bytes}
use Rattle.table.proofs.rows.put_stratum.Goals as goal

pub bounds-table-i : goal.bounds-table-i
bounds-table-i c = omega (arith, c.requires, c.args.table.now.strata.now.few)

pub offset_bounds-table-i : goal.offset_bounds-table-i
offset_bounds-table-i c = omega (arith, c.requires, c.args.table.now.strata.now.few)

pub bounds-table-i-2 : goal.bounds-table-i-2
bounds-table-i-2 c = omega (arith, c.requires, c.args.table.now.strata.now.few)

pub offset_bounds-table-i-2 : goal.offset_bounds-table-i-2
offset_bounds-table-i-2 c = omega (arith, c.requires, c.args.table.now.strata.now.few)

pub returns : goal.returns
returns c =
    let a = c.args in
    let t = a.table.now in
    let m = t.sources.now in
    let f = t.found.now in
    let o = a.out.now in
    let name = c.name-stratum.result.now in
    let x = get_or f.strata.residuals a.i (pos 0) in
    let y = get_or f.totals a.i (pos 0) in
    let fx : SFits w64 x = record { sfits = c.residual-1.given } in
    let fy : SFits w64 y = record { sfits = c.total-1.given } in
    let sources = rows_bytes (sources_in name (a.i + 1) t) in
    let w1 = c.put_sources-second in
    let w2 = c.put_residual-third in
    let w3 = c.put_row in
    let residual = rows_bytes (residual_of name (among (a.i + 1) (places_of t)) x) in
    let last = row_bytes (name ∷ word_total ∷ signed y ∷ []) in
    let e2 = ap (λ (d : ℤ). rows_bytes (residual_of name (among (a.i + 1) (places_of t)) d)) (to_z-of_z w64 x fx) in
    let e3 = ap (λ (d : ℤ). row_bytes (name ∷ word_total ∷ signed d ∷ [])) (to_z-of_z w64 y fy) in
    let two = wrote_then o a.at sources residual w1.ensures (wrote_as w1.new.out w1.result e2 w2.ensures) in
    let all = wrote_then o a.at (sources ++ residual) last two (wrote_as w2.new.out w2.result e3 w3.ensures) in
    let few : m.size ≤ 32 = m.few in
    let named = ap (λ (n : List ℕ). rows_bytes (stratum_rows n (a.i + 1) (names_of m) (places_of t) (degrees_of t) y x)) c.name-stratum.ensures in
    wrote_as o a.at
    (stratum_bytes name (a.i + 1) m.bytes m.lengths m.size f.strata.places f.degrees y x (omega (arith, t.whole.places)) (omega (arith, t.whole.degrees)) ∙ named) all
