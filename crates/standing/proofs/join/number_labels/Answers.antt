use mathlib.Core.Path.{◌≡◌, refl, ◌∙◌}
use Prim.Native.Nat.{◌<◌}
use native.Mathlib.Nat.{not-suc-le-zero}
use native.Mathlib.Omega.{arith}
use Rattle.std.proofs.Common.{lit<}
use lib.ListN.{length, length-set}
use lib.Seq.{take-length}
use Rattle.factor.proofs.Table.{classes_none}
use Rattle.standing.specs.Joining.{spread}
use Rattle.standing.proofs.Joining.{length_spread, spread_at, numbered_step}
use Rattle.standing.proofs.join.number_labels.Goals as goal

pub loop-label-init : goal.loop-label-init
loop-label-init c =
    let none = c.new-found.ensures (spread c.args.entries.now c.args.x.now) in
    (refl, omega (arith, none.total, classes_none), none, λ j h. absurd (not-suc-le-zero h))

pub number-requires : goal.number-requires
number-requires c = (lit< tt, (omega arith, omega (arith, c.loop-label.invariant.1)))

pub loop-label-preserved : goal.loop-label-preserved
loop-label-preserved c =
    let t = c.args.entries.now in
    let X = c.args.x.now in
    let i = c.loop-label.label-index in
    let h : i < length X = omega arith in
    let column = spread t X in
    let k : i < length column = rw length_spread h in
    let r = c.number.ensures.numbered column i k (spread_at t X i h) c.loop-label.invariant.2 in (
      simp length-set c.loop-label.invariant.0,
      omega (arith, c.number.ensures.grown, c.loop-label.invariant.1),
      r.1,
      numbered_step t X i h c.loop-label.numbers (omega (arith, c.loop-label.invariant.0)) c.loop-label.invariant.3 _ r.0,
    )

pub returns : goal.returns
returns c =
    let X = c.args.x.now in
    let column = spread c.args.entries.now X in
    let e : c.loop-label.label-index ≡ length column = omega (arith, length_spread c.args.entries.now X) in
    let q : c.loop-label.label-index ≡ length X = omega arith in
    record {
      numbers = rw (← q) c.loop-label.invariant.3;
      count = c.loop-label.invariant.2.total ∙ rw (e, take-length column);
    }
