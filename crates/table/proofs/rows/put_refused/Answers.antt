-- `put_refused`: the word, the number and the two names in turn.
use mathlib.Core.List.{[], ◌∷◌, ◌++◌}
use Rattle.rules.specs.Lists.{decimal_of}
use Rattle.decimal.proofs.Writing.{wrote_as, wrote_then}
use Rattle.table.proofs.RowLaws.{start_refused, refused_bytes}
use Rattle.table.proofs.rows.put_refused.Goals as goal

pub returns : goal.returns
returns c =
    let a = c.args in
    let o = a.out.now in
    let d = decimal_of a.number in
    let f = a.first.now ++ 9 ∷ [] in
    let s = a.second.now in
    let w2 = wrote_then o 0 start_refused d (c.write_bytes-a.ensures.answer, c.write_bytes-a.ensures.bytes) (c.write_decimal-b.ensures.answer, c.write_decimal-b.ensures.bytes) in
    let w3 = wrote_then o 0 (start_refused ++ d) (9 ∷ []) w2 (c.write_byte-c.ensures.answer, c.write_byte-c.ensures.bytes) in
    let w4 = wrote_then o 0 (start_refused ++ d ++ 9 ∷ []) f w3 c.put_field-d.ensures in
    let w5 = wrote_then o 0 (start_refused ++ d ++ 9 ∷ [] ++ f) s w4 (c.write_bytes-e.ensures.answer, c.write_bytes-e.ensures.bytes) in
    wrote_as o 0 (refused_bytes a.number a.first.now s) (wrote_then o 0 (start_refused ++ d ++ 9 ∷ [] ++ f ++ s) (10 ∷ []) w5 (c.write_byte.ensures.answer, c.write_byte.ensures.bytes))
