use native.Mathlib.Omega.{arith}
use Rattle.sheet.proofs.FirstByte.{up_to_here, up_to_on, up_to_end}
use Rattle.sheet.proofs.field.place_of.Goals as goal

pub returns-then-x-byte : goal.returns-then-x-byte
returns-then-x-byte c =
    omega (arith, up_to_here c.args.byte c.args.text.now c.loop-i.i (omega arith) c.if-x-byte.true)

pub loop-i-preserved : goal.loop-i-preserved
loop-i-preserved c =
    omega (arith, up_to_on c.args.byte c.args.text.now c.loop-i.i (omega arith) c.if-x-byte.false)

pub returns : goal.returns
returns c =
    omega (arith, up_to_end c.args.byte c.args.text.now c.loop-i.i (omega arith))
