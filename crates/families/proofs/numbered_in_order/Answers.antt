use mathlib.Core.Path.{◌≡◌, refl, sym, ap, ap₂, ◌∙◌}
use Prim.Native.Nat.{◌+◌, ◌-◌}
use native.Mathlib.Omega.{arith}
use Rattle.rules.specs.Family.{before}
use Rattle.families.specs.Lent.{column_at, numbered_classes}
use Rattle.families.proofs.Counted.{counted_is}
use Rattle.families.proofs.InOrder.{come_start, come_on, come_unnumbered, come_misplaced, come_end}
use Rattle.families.proofs.numbered_in_order.Goals as goal

pub returns-in_default : goal.returns-in_default
returns-in_default c =
    let s = c.args in
    let none = sym (ap numbered_classes c.member-f.ensures) ∙ sym c.numbered_classes.ensures ∙ c.in_default.is in
    sym (come_unnumbered s.n (omega arith) s.family.now (omega arith) s.size (omega arith) 0 (omega arith) refl none)

pub loop-i-init : goal.loop-i-init
loop-i-init c =
    let s = c.args in
    let some = sym (ap numbered_classes c.member-f.ensures) ∙ sym c.numbered_classes.ensures ∙ c.in-Some.is in
    (c.member-f.ensures, λ few long most. come_start s.n few s.family.now long s.size most (omega arith) c.in-Some.k some)

pub returns-in_default-numbered_classes : goal.returns-in_default-numbered_classes
returns-in_default-numbered_classes c =
    let s = c.args in
    let come = c.loop-i.invariant.1 (omega arith) (omega arith) (omega arith) in
    let none = sym (ap numbered_classes c.member-g.ensures) ∙ sym c.numbered_classes-in-loop-i.ensures ∙ c.in_default-numbered_classes.is in
    sym (come_unnumbered s.n (omega arith) s.family.now (omega arith) s.size (omega arith) c.loop-i.i (omega arith) come.numbers none)

pub member_before-requires : goal.member_before-requires
member_before-requires c =
    let come = c.loop-i.invariant.1 (omega arith) (omega arith) (omega arith) in
    (rw c.loop-i.invariant.0 come.last, (counted_is c.member-g.result.now _ (sym c.numbered_classes-in-loop-i.ensures ∙ c.in-Some-numbered_classes.is)).1)

pub returns-then-not-member_before : goal.returns-then-not-member_before
returns-then-not-member_before c =
    let s = c.args in
    let come = c.loop-i.invariant.1 (omega arith) (omega arith) (omega arith) in
    let no = sym (c.member_before.ensures ∙ ap₂ before c.loop-i.invariant.0 c.member-g.ensures) ∙ c.if-not-member_before.true in
    sym (come_misplaced s.n (omega arith) s.family.now (omega arith) s.size (omega arith) c.loop-i.k c.loop-i.i come (omega arith) (omega arith) no)

pub loop-i-preserved : goal.loop-i-preserved
loop-i-preserved c =
    let s = c.args in
    let i = c.loop-i.i in
    let e : i ≡ i + 1 - 1 = omega arith in
    let some = sym (ap numbered_classes c.member-g.ensures) ∙ sym c.numbered_classes-in-loop-i.ensures ∙ c.in-Some-numbered_classes.is in
    let yes = sym (c.member_before.ensures ∙ ap₂ before c.loop-i.invariant.0 c.member-g.ensures) ∙ c.if-not-member_before.false in (
      c.member-g.ensures ∙ ap (column_at s.n s.family.now) e,
      λ few long most. come_on s.n few s.family.now long s.size most c.loop-i.k i (c.loop-i.invariant.1 few long most) (omega arith) (omega arith) c.in-Some-numbered_classes.m some yes,
    )

pub returns : goal.returns
returns c =
    let s = c.args in
    let come = c.loop-i.invariant.1 (omega arith) (omega arith) (omega arith) in
    sym (come_end s.n (omega arith) s.family.now (omega arith) s.size (omega arith) c.loop-i.k c.loop-i.i come (omega arith) (omega arith))
