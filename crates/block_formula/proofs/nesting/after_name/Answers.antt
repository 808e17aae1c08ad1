use Rattle.std.proofs.Common.{◌≡◌, ◌+◌, suc, arith, length-drop, sym, ◌∙◌}
use Rattle.sheet.proofs.FirstByte.{rest_taken}
use Rattle.block_formula.proofs.NestingLaws.{name_here, name_next, name_on_lem, name_end}
use Rattle.block_formula.proofs.nesting.after_name.Goals as goal
use Rattle.block_formula.proofs.nesting.after_name.Goals.{else-x-eq61, then-x-eq61+else-left-eq0}

pub returns-then-left-eq0 : goal.returns-then-left-eq0
returns-then-left-eq0 c =
    let t = c.args.text.now in
    record {
      bytes = rest_taken (c.loop-i.i + 1) t ∙ sym (name_here t c.loop-i.i (omega arith) c.if-x-eq61.true) ∙ (rw c.if-left-eq0.true at c.loop-i.invariant);
      inside = rw rest_taken (omega (arith, length-drop (c.loop-i.i + 1) t));
    }

pub loop-i-preserved : goal.loop-i-preserved
loop-i-preserved c =
    let t = c.args.text.now in
    elim c.if-x-eq61.branch [
      | then-x-eq61+else-left-eq0 w ↦ let p : c.loop-i.left ≡ suc c.if-x-eq61.left = omega (arith, w.if-left-eq0.false, w.left-is) in
          sym (name_next t c.loop-i.i c.if-x-eq61.left (omega arith) w.if-x-eq61.true) ∙ (rw p at c.loop-i.invariant)
      | else-x-eq61 w ↦ rw w.left-is (sym (name_on_lem t c.loop-i.i c.loop-i.left (omega arith) w.if-x-eq61.false)) ∙ c.loop-i.invariant
    ]

pub returns : goal.returns
returns c = record { bytes = sym (name_end c.args.text.now c.loop-i.i c.loop-i.left (omega arith)) ∙ c.loop-i.invariant; inside = omega arith }
