-- `put_row`: two fields and the number.
use mathlib.Core.Path.{ap}
use mathlib.Core.List.{[], ◌∷◌, ◌++◌}
use lib.IntN.{ℤ}
use Rattle.rules.specs.Table.{signed}
use Rattle.decimal.proofs.Writing.{wrote_as, wrote_then}
use mir.Syntax.{w64}
use mir.ValLaws.{to_z-of_z}
use Rattle.table.proofs.RowLaws.{row_fields}
use Rattle.table.proofs.rows.put_row.Goals as goal

pub returns : goal.returns
returns c =
    let a = c.args in
    let e = ap (λ (d : ℤ). signed d ++ 10 ∷ []) (to_z-of_z w64 a.d c.ranges.d) in
    let o = a.out.now in
    let f = a.stratum.now ++ 9 ∷ [] in
    let g = a.source.now ++ 9 ∷ [] in
    let l = wrote_as c.put_field-third.new.out c.put_field-third.result e c.put_last.ensures in
    let fields = wrote_then o a.at f g c.put_field-second.ensures c.put_field-third.ensures in
    wrote_as o a.at (row_fields a.stratum.now a.source.now (signed a.d)) (wrote_then o a.at (f ++ g) (signed a.d ++ 10 ∷ []) fields l)
