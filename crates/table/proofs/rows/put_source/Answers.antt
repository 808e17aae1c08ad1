-- `put_source`: no line, or the one line.
use mathlib.Core.Path.{sym, ap₂, ◌∙◌}
use mathlib.Core.List.{List, [], ◌∷◌}
use Prim.Native.Nat.{ℕ}
use native.Mathlib.Omega.{arith}
use lib.IntN.{ℤ, pos}
use lib.ListN.{get_or}
use mir.Syntax.{w64}
use mir.Val.{SFits}
use mir.ValLaws.{to_z-of_z}
use Rattle.rules.specs.Table.{row_bytes, signed}
use Rattle.decimal.proofs.Writing.{wrote_nil, wrote_as}
use Rattle.table.specs.Names.{name_in}
use Rattle.table.proofs.RowLaws.{source_here, source_else}
use Rattle.table.proofs.rows.put_source.Goals as goal

pub bounds-table-j : goal.bounds-table-j
bounds-table-j c = omega (arith, c.requires, c.args.table.now.sources.now.few)

pub offset_bounds-table-j : goal.offset_bounds-table-j
offset_bounds-table-j c = omega (arith, c.requires, c.args.table.now.sources.now.few)

pub bounds-table-j-2 : goal.bounds-table-j-2
bounds-table-j-2 c = omega (arith, c.requires, c.args.table.now.sources.now.few)

pub offset_bounds-table-j-2 : goal.offset_bounds-table-j-2
offset_bounds-table-j-2 c = omega (arith, c.requires, c.args.table.now.sources.now.few)

pub returns-then-table-j : goal.returns-then-table-j
returns-then-table-j c =
    let a = c.args in
    let t = a.table.now in
    let e = source_else a.stratum.now a.place (name_in t.sources.now.bytes t.sources.now.lengths a.j) (get_or t.found.now.strata.places a.j 0) (get_or t.found.now.degrees a.j (pos 0)) c.if-table-j.true in
    wrote_as a.out.now a.at (sym e) (wrote_nil a.out.now a.at)

pub returns : goal.returns
returns c =
    let a = c.args in
    let t = a.table.now in
    let name = name_in t.sources.now.bytes t.sources.now.lengths a.j in
    let d = get_or t.found.now.degrees a.j (pos 0) in
    let fits : SFits w64 d = record { sfits = c.degrees-1.given } in
    let e =
    ap₂ (λ (n : List ℕ) (x : ℤ). row_bytes (a.stratum.now ∷ n ∷ signed x ∷ [])) c.name.ensures (to_z-of_z w64 d fits)
    ∙ sym (source_here a.stratum.now a.place name (get_or t.found.now.strata.places a.j 0) d c.if-table-j.false) in
    wrote_as a.out.now a.at e c.put_row.ensures
