-- `write_decimal`: one digit, two digits, or the digits of any number.
use mathlib.Core.List.{[], ◌∷◌}
use Prim.Native.Nat.{◌+◌, ◌/◌, ◌%◌}
use native.Mathlib.Omega.{arith}
use Rattle.decimal.proofs.Digits.{decimal_one, decimal_two}
use Rattle.decimal.proofs.Writing.{wrote_as, wrote_then}
use Rattle.decimal.proofs.write_decimal.Goals as goal

pub returns-then-n-lt10 : goal.returns-then-n-lt10
returns-then-n-lt10 c =
    let w = c in
    let a = w.args in
    let whole = wrote_as a.out.now a.at (decimal_one a.n (omega arith)) (w.write_byte.ensures.answer, w.write_byte.ensures.bytes) in record { answer = whole.0; bytes = whole.1 }

pub returns-then-n-lt100 : goal.returns-then-n-lt100
returns-then-n-lt100 c =
    let w = c in
    let v = w in
    let a = v.args in
    let whole = wrote_as a.out.now a.at (decimal_two a.n (omega arith) (omega arith))
    (wrote_then a.out.now a.at ((48 + a.n / 10) ∷ []) ((48 + a.n % 10) ∷ []) (v.write_byte-next.ensures.answer, v.write_byte-next.ensures.bytes) (w.write_byte-then-n-lt100.ensures.answer, w.write_byte-then-n-lt100.ensures.bytes)) in record { answer = whole.0; bytes = whole.1 }
