use Rattle.std.proofs.Common.{◌≡◌, suc, arith, get_or}
use Rattle.block_formula.proofs.NestingLaws.{depth_grows, later_name, later_on, later_end}
use Rattle.block_formula.proofs.nesting.later_nested.Goals as goal
use Rattle.block_formula.proofs.nesting.later_nested.Goals.{else-x-eq61, then-x-eq61+else-left-eq0}

pub returns-then-left-eq0 : goal.returns-then-left-eq0
returns-then-left-eq0 c =
    let t = c.args.text.now in
    let e = later_name t c.loop-x.x-index c.loop-x.depth c.loop-x.nests (omega arith) c.if-x-eq61.true in
    rw (e, c.if-left-eq0.true) at c.loop-x.invariant.1

pub loop-x-preserved : goal.loop-x-preserved
loop-x-preserved c =
    let t = c.args.text.now in
    let i = c.loop-x.x-index in
    let x = get_or t i 0 in
    let h = c.loop-x.depth in (
      elim c.if-x-eq61.branch [ then-x-eq61+else-left-eq0 w ↦ omega (arith, w.depth-is) | else-x-eq61 w ↦ omega (arith, w.depth-is, w.depth_after-depth.ensures, depth_grows h x) ],
      elim c.if-x-eq61.branch [
        | then-x-eq61+else-left-eq0 w ↦ let p : c.loop-x.left ≡ suc c.if-x-eq61.left = omega (arith, w.if-left-eq0.false, w.left-is) in
            let e = later_name t i h c.loop-x.nests (omega arith) w.if-x-eq61.true in
            rw (w.depth-is, w.nests-is) (rw (e, p) at c.loop-x.invariant.1)
        | else-x-eq61 w ↦ let e = later_on t i h c.loop-x.nests (omega arith) w.if-x-eq61.false in
            rw (w.left-is, w.depth-is, w.nests-is, w.nests_after-nests.ensures, w.depth_after-depth.ensures) (rw e at c.loop-x.invariant.1)
      ],
    )

pub returns : goal.returns
returns c =
    let t = c.args.text.now in
    let e = later_end t c.loop-x.x-index c.loop-x.depth c.loop-x.nests (omega arith) in
    rw e at c.loop-x.invariant.1
