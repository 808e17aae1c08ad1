-- `put_last`: the number, then the end of the line.
use mathlib.Core.Path.{ap}
use mathlib.Core.List.{[], ◌∷◌}
use Rattle.rules.specs.Table.{signed}
use Rattle.decimal.proofs.Writing.{wrote_as, wrote_then}
use mir.Syntax.{w64}
use mir.ValLaws.{to_z-of_z}
use Rattle.table.proofs.rows.put_last.Goals as goal

pub returns : goal.returns
returns c =
    let a = c.args in
    let e = ap signed (to_z-of_z w64 a.d c.ranges.d) in
    wrote_then a.out.now a.at (signed a.d) (10 ∷ []) (wrote_as a.out.now a.at e (c.write_signed-next.ensures.answer, c.write_signed-next.ensures.bytes)) (c.write_byte.ensures.answer, c.write_byte.ensures.bytes)
