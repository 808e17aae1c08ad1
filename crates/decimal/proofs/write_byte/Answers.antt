-- `write_byte`: a store where there is room.
use Rattle.decimal.proofs.Writing.{wrote_byte, wrote_past}
use Rattle.decimal.proofs.write_byte.Goals as goal

pub returns-then-at-out : goal.returns-then-at-out
returns-then-at-out c =
    let a = c.args in
    let whole = wrote_byte a.out.now a.at a.byte c.if-at-out.true in record { answer = whole.0; bytes = whole.1 }

pub returns : goal.returns
returns c =
    let a = c.args in
    let whole = wrote_past a.out.now a.at a.byte c.if-at-out.false in record { answer = whole.0; bytes = whole.1 }
