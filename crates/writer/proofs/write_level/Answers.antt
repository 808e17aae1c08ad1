-- `write_level`: the tab, unless it is the first level of its line, and the level.
use mathlib.Core.List.{[], ◌∷◌}
use native.Mathlib.Omega.{arith}
use Rattle.rules.specs.Lists.{decimal_of}
use Rattle.decimal.proofs.Writing.{wrote_as, wrote_then}
use Rattle.writer.proofs.Rows.{first_field, later_field}
use Rattle.writer.proofs.write_level.Goals as goal

pub returns-then-i-eq0 : goal.returns-then-i-eq0
returns-then-i-eq0 c =
    let a = c.args in
    wrote_as a.out.now a.at (first_field a.i (decimal_of a.level) c.if-i-eq0.true) (c.write_decimal.ensures.answer, c.write_decimal.ensures.bytes)

pub returns : goal.returns
returns c =
    let a = c.args in
    let d = decimal_of a.level in
    wrote_as a.out.now a.at (later_field a.i d (omega arith)) (wrote_then a.out.now a.at (9 ∷ []) d (c.write_byte-next.ensures.answer, c.write_byte-next.ensures.bytes) (c.write_decimal-2.ensures.answer, c.write_decimal-2.ensures.bytes))
