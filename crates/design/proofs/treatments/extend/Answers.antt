use mathlib.Core.Path.{◌≡◌, ◌∙◌, subst}
use Prim.Native.Nat.{ℕ, ◌<◌}
use native.Mathlib.Omega.{arith}
use Rattle.design.proofs.Choosing.{Extending, extending_none, extending_more, extending_same, extending_all}
use Rattle.design.proofs.treatments.extend.Goals as goal
use Rattle.design.proofs.treatments.extend.Goals.{else-length-k, then-length-k}

pub loop-e-init : goal.loop-e-init
loop-e-init c =
    (omega arith, extending_none c.args.column.now c.args.k c.args.infima.now c.args.lengths.now c.args.total c.requires.0)

pub overflow_cast-length : goal.overflow_cast-length
overflow_cast-length c =
    omega (arith, c.loop-e.invariant.1.room.small c.loop-e.e)

pub add_choice-requires : goal.add_choice-requires
add_choice-requires c =
    let x = c.loop-e.invariant.1 in
    (x.room.some, x.room.most, omega (arith, x.high, x.bytes), omega (arith, x.bytes), omega (arith, x.high), omega arith)

pub bounds-lengths-now : goal.bounds-lengths-now
bounds-lengths-now c =
    let x = c.loop-e.invariant.1 in
    omega (arith, x.high)

pub overflow_add-now : goal.overflow_add-now
overflow_add-now c =
    let x = c.loop-e.invariant.1 in
    omega (arith, x.high)

pub loop-e-preserved : goal.loop-e-preserved
loop-e-preserved c =
    let column = c.args.column.now in
    let x = c.loop-e.invariant.1 in
    let e = c.loop-e.e in
    let less : e < c.args.total = omega arith in (
      omega arith,
      elim c.if-length-k.branch [ then-length-k w ↦ extending_more column c.args.k c.args.infima.now c.args.lengths.now c.args.total c.loop-e.infima c.loop-e.lengths c.loop-e.now e x less c.requires.1 c.requires.2 c.requires.3 w.if-length-k.true c.if-length-k.infima c.if-length-k.lengths c.if-length-k.now (w.infima-is ∙ w.add_choice.ensures) w.lengths-is w.now-is | else-length-k w ↦ extending_same column c.args.k c.args.infima.now c.args.lengths.now c.args.total c.loop-e.infima c.loop-e.lengths c.loop-e.now e x less c.requires.1 c.requires.2 c.requires.3 w.if-length-k.false c.if-length-k.infima c.if-length-k.lengths c.if-length-k.now w.infima-is w.lengths-is w.now-is ],
    )

pub shape_of-infima : goal.shape_of-infima
shape_of-infima c = c.loop-e.invariant.1.bytes

pub returns : goal.returns
returns c =
    let column = c.args.column.now in
    let x = c.loop-e.invariant.1 in
    let same : c.loop-e.e ≡ c.args.total = omega arith in
    let y = subst (λ (e : ℕ). Extending column c.args.k c.args.infima.now c.args.lengths.now c.args.total c.loop-e.infima c.loop-e.lengths c.loop-e.now e) same x in record {
      kept = (x.room, omega (arith, y.high));
      extends = extending_all column c.args.k c.args.infima.now c.args.lengths.now c.args.total c.loop-e.infima c.loop-e.lengths c.loop-e.now y;
    }
