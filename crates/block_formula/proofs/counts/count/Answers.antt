use Rattle.std.proofs.Common.{◌≡◌, ◌+◌, ◌-◌, ◌*◌, ◌≤◌, arith, get_or, sym, ◌∙◌}
use Rattle.rules.specs.Sheet.{decimal}
use Rattle.block_formula.proofs.CountLaws.{digit_least, decimal_step, decimal_end, count_zero, count_large, count_then}
use Rattle.block_formula.proofs.counts.count.Goals as goal

pub returns-then-starts_with : goal.returns-then-starts_with
returns-then-starts_with c = sym (count_zero c.args.digits.now (sym c.starts_with.ensures.value ∙ c.if-starts_with.true))

pub overflow_sub-x : goal.overflow_sub-x
overflow_sub-x c = (digit_least c.args.digits.now c.requires c.loop-x.x-index (omega arith)).0

pub returns-then-count-gt-MOST_COUNT : goal.returns-then-count-gt-MOST_COUNT
returns-then-count-gt-MOST_COUNT c =
    let ds = c.args.digits.now in
    let i = c.loop-x.x-index in
    let v = 10 * c.loop-x.count + (get_or ds i 0 - 48) in
    sym (count_large ds v (i + 1) (sym (decimal_step ds c.loop-x.count i (omega arith)) ∙ c.loop-x.invariant.1) (omega arith))

pub loop-x-preserved : goal.loop-x-preserved
loop-x-preserved c =
    let ds = c.args.digits.now in
    let i = c.loop-x.x-index in
    (omega arith, rw c.from.ensures (sym (decimal_step ds c.loop-x.count i (omega arith)) ∙ c.loop-x.invariant.1))

pub returns : goal.returns
returns c =
    let ds = c.args.digits.now in
    let is : c.loop-x.count ≡ decimal ds = sym (decimal_end ds c.loop-x.count c.loop-x.x-index (omega arith)) ∙ c.loop-x.invariant.1 in
    let most : decimal ds ≤ 240 = omega (arith, is) in
    c.then_some.ensures ∙ rw is (count_then ds c.requires (sym c.starts_with.ensures.value ∙ c.if-starts_with.false) most)
