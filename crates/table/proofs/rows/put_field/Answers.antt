-- `put_field`: the field, then a tab.
use mathlib.Core.List.{[], ◌∷◌}
use Rattle.decimal.proofs.Writing.{wrote_then}
use Rattle.table.proofs.rows.put_field.Goals as goal

pub returns : goal.returns
returns c =
    let a = c.args in
    wrote_then a.out.now a.at a.field.now (9 ∷ []) (c.write_bytes-next.ensures.answer, c.write_bytes-next.ensures.bytes) (c.write_byte.ensures.answer, c.write_byte.ensures.bytes)
