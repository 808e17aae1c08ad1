use mathlib.Core.Path.{◌≡◌, sym, ap, ◌∙◌}
use native.Mathlib.Omega.{arith}
use Prim.Native.Nat.{◌≤◌}
use lib.ListN.{length, drop}
use Rattle.sheet.proofs.FirstByte.{rest_taken}
use Rattle.sheet.proofs.Walk.{field_none, field_stop, field_goes}
use Rattle.sheet.proofs.field.end_of.Goals as goal
use Rattle.sheet.proofs.field.end_of.Goals.{In-Some}

-- the rest is what stands in the text from `start` on
rest : (c : In-Some) → c.in-Some.rest.now ≡ drop c.args.start c.args.text.now
rest c = c.in-Some.ensures.lookup.0.2 ∙ rest_taken c.args.start c.args.text.now

pub returns-in_default : goal.returns-in_default
returns-in_default c =
    let h : length c.args.text.now ≤ c.args.start = grind arith in
    omega (arith, ap length (field_none c.args.text.now c.args.start h))

pub returns-then-ends_field : goal.returns-then-ends_field
returns-then-ends_field c =
    let e = field_stop c.in-Some.rest.now c.loop-i.i (omega arith) (sym c.ends_field.ensures ∙ c.if-ends_field.true) in
    rw (← (rest (goal.at.returns-then-ends_field c).In-Some)) (omega (arith, ap length e))

pub loop-i-preserved : goal.loop-i-preserved
loop-i-preserved c =
    let e = field_goes c.in-Some.rest.now c.loop-i.i (omega arith) (sym c.ends_field.ensures ∙ c.if-ends_field.false) in
    omega (arith, ap length e)

pub returns : goal.returns
returns c =
    let e = field_none c.in-Some.rest.now c.loop-i.i (omega arith) in
    rw (← (rest (goal.at.returns c).In-Some)) (omega (arith, ap length e, c.in-Some.ensures.lookup.0.3))
