use mathlib.Core.Path.{◌≡◌, sym, ap, ◌∙◌}
use Prim.Native.Nat.{◌+◌}
use native.Mathlib.Omega.{arith}
use lib.ListN.{length, get_or}
use lib.Seq.{take_all}
use borrow.Author.Tests.{eqb-true, eqb-false}
use Rattle.std.specs.Prelude.{Some}
use Rattle.rules.specs.Factor.{classes}
use Rattle.factor.proofs.Gathered.{passed_by, passed_by_none}
use Rattle.factor.proofs.Table.{classes_none}
use Rattle.factor.proofs.UpTo.{up_none, up_old, up_new, up_wrong, up_zero, up_all}
use Rattle.families.proofs.Counted.{counted_yes, counted_no}
use Rattle.families.proofs.numbered_classes.Goals as goal
use Rattle.families.proofs.numbered_classes.Goals.{then-most-x+else-most-x-2, else-most-x}

pub returns-then-contains : goal.returns-then-contains
returns-then-contains c =
    let F = c.args.column.now in
    let none = passed_by _ F 0 (sym c.contains.ensures.value ∙ c.if-contains.true) in
    let zero : get_or F none.0 0 ≡ 0 = eqb-true _ _ none.2 in
    sym (counted_no F (up_zero F none.0 none.1 zero))

pub loop-x-init : goal.loop-x-init
loop-x-init c = (omega arith, classes_none, up_none c.args.column.now)

pub returns-then-most-x-2 : goal.returns-then-most-x-2
returns-then-most-x-2 c =
    let F = c.args.column.now in
    let l = c.loop-x in
    sym (counted_no F (up_wrong F l.x-index (omega arith) l.most l.invariant.2 l.invariant.1 (omega arith)))

pub loop-x-preserved : goal.loop-x-preserved
loop-x-preserved c =
    let F = c.args.column.now in
    let l = c.loop-x in
    let u = l.x-index in
    let label = eqb-false _ _ (passed_by_none _ F 0 (sym c.contains.ensures.value ∙ c.if-contains.false) u (omega arith)) in
    elim c.if-most-x.branch [
      | then-most-x+else-most-x-2 w ↦
          let next : c.if-most-x.most ≡ l.most + 1 = omega arith in
          let t = up_new F u (omega arith) l.most l.invariant.2 l.invariant.1 (omega arith) in
          (omega arith, next ∙ t.count, rw next t.tells)
      | else-most-x w ↦
          let t = up_old F u (omega arith) l.most l.invariant.2 l.invariant.1 (omega (arith, label)) (omega arith) in
          (omega arith, w.most-is ∙ t.count, rw w.most-is t.tells)
    ]

pub returns : goal.returns
returns c =
    let F = c.args.column.now in
    let k = c.loop-x.most in
    let e : c.loop-x.x-index ≡ length F = omega arith in
    let count : k ≡ classes F = c.loop-x.invariant.1 ∙ ap classes (take_all c.loop-x.x-index F (omega arith)) in
    ap Some count ∙ sym (counted_yes F (up_all F k (rw e at c.loop-x.invariant.2)))
