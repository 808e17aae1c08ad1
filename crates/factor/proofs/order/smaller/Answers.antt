use mathlib.Core.Path.{◌≡◌, sym, ◌∙◌}
use native.Mathlib.Numerals.{add-one}
use native.Mathlib.Omega.{arith}
use lib.ListN.{length}
use borrow.Author.Tests.{ltb-false}
use Rattle.rules.proofs.Columns.{smaller_equal, smaller_differ, smaller_ends, smaller_ended}
use Rattle.factor.proofs.order.smaller.Goals as goal

pub returns-in_default : goal.returns-in_default
returns-in_default c =
    let f = c.args.f.now in
    let g = c.args.g.now in
    let u = c.loop-u.u in
    let past = ltb-false u (length g) (sym (rw c.in_default.is at c.get.ensures.lookup).0) in
    sym (smaller_ended f g u (omega arith) past) ∙ c.loop-u.invariant.1

pub returns-then-x-y : goal.returns-then-x-y
returns-then-x-y c =
    let f = c.args.f.now in
    let g = c.args.g.now in
    let u = c.loop-u.u in
    let here = c.in-Some.ensures.lookup.3 in
    let y = here.1 0 in
    rw y (sym (smaller_differ f g u (omega arith) here.0 (λ e. c.if-x-y.true (e ∙ sym y))) ∙ c.loop-u.invariant.1)

pub loop-u-preserved : goal.loop-u-preserved
loop-u-preserved c =
    let f = c.args.f.now in
    let g = c.args.g.now in
    let u = c.loop-u.u in
    let here = c.in-Some.ensures.lookup.3 in
    let y = here.1 0 in
    (omega (arith, here.0), rw add-one (sym (smaller_equal f g u (omega arith) here.0 (c.if-x-y.false ∙ y)) ∙ c.loop-u.invariant.1))

pub returns : goal.returns
returns c =
    let f = c.args.f.now in
    let e : c.loop-u.u ≡ length f = omega arith in
    rw (← e) (sym (smaller_ends f c.args.g.now c.loop-u.u (omega arith)) ∙ c.loop-u.invariant.1)
