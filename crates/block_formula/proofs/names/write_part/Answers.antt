-- `names::write_part`: three bytes for `=`, one for a byte of a name, none for the others.
use mathlib.Core.Path.{sym, ◌∙◌}
use Rattle.decimal.proofs.Writing.{wrote_as, wrote_nil}
use Rattle.block_formula.proofs.NameLaws.{part_next, part_counted, part_other, part_named}
use Rattle.block_formula.proofs.names.write_part.Goals as goal

pub returns-then-x-eq61 : goal.returns-then-x-eq61
returns-then-x-eq61 c =
    let a = c.args in
    wrote_as a.out.now a.at (sym (part_next a.counting a.x c.if-x-eq61.true)) (c.write_bytes.ensures.answer, c.write_bytes.ensures.bytes)

pub returns-then-counting : goal.returns-then-counting
returns-then-counting c =
    let a = c.args in
    wrote_as a.out.now a.at (sym (part_counted a.counting a.x c.if-x-eq61.false c.if-counting.true)) (wrote_nil a.out.now a.at)

pub returns-then-not-letter_or_digit : goal.returns-then-not-letter_or_digit
returns-then-not-letter_or_digit c =
    let a = c.args in
    wrote_as a.out.now a.at (sym (part_other a.counting a.x c.if-x-eq61.false (sym c.letter_or_digit.ensures ∙ c.if-not-letter_or_digit.true))) (wrote_nil a.out.now a.at)

pub returns : goal.returns
returns c =
    let a = c.args in
    wrote_as a.out.now a.at (sym (part_named a.counting a.x c.if-x-eq61.false c.if-counting.false (sym c.letter_or_digit.ensures ∙ c.if-not-letter_or_digit.false))) (c.write_byte.ensures.answer, c.write_byte.ensures.bytes)
