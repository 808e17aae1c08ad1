use mathlib.Core.Path.{refl, sym, ◌∙◌}
use native.Mathlib.Omega.{arith}
use Rattle.sheet.proofs.RowLaws.{judge_end, judge_off, judge_on}
use Rattle.sheet.proofs.rows.judge.Goals as goal

pub loop-at-init : goal.loop-at-init
loop-at-init c = (omega arith, refl)

pub returns-in_err-at : goal.returns-in_err-at
returns-in_err-at c =
    let s = c.args in
    c.from_residual.ensures ∙ sym (judge_off c.loop-at.count s.n s.text.now c.loop-at.at (omega arith) c.in_err-at.ensures) ∙ c.loop-at.invariant.1

pub loop-at-smaller : goal.loop-at-smaller
loop-at-smaller c =
    let s = c.args in
    let r = judge_on c.loop-at.count s.n s.text.now c.loop-at.at c.in_ok-at.at (omega arith) c.in_ok-at.ensures in
    omega arith

pub loop-at-preserved : goal.loop-at-preserved
loop-at-preserved c =
    let s = c.args in
    let r = judge_on c.loop-at.count s.n s.text.now c.loop-at.at c.in_ok-at.at (omega arith) c.in_ok-at.ensures in
    (omega arith, sym r.1 ∙ c.loop-at.invariant.1)

pub returns : goal.returns
returns c =
    let s = c.args in
    sym (judge_end c.loop-at.count s.n s.text.now c.loop-at.at (omega arith)) ∙ c.loop-at.invariant.1
