use mathlib.Core.Path.{sym, ap, ◌∙◌}
use Prim.Native.Nat.{◌<◌}
use native.Mathlib.Omega.{arith}
use lib.ListN.{length}
use lib.Seq.{get_or-take, length-take-le}
use borrow.Author.Count.{below_more}
use Rattle.rules.specs.Factor.{Column, classes}
use Rattle.rules.specs.Family.{alike}
use Rattle.rules.proofs.Members.{alike_sound, alike_self, clash}
use Rattle.rules.proofs.Buffer.{length_members, member_is}
use Rattle.design.proofs.Placing.{absent_lem, first_at}
use Rattle.design.proofs.store.find.Goals as goal
use Rattle.design.proofs.store.find.Goals.{else-known-count-via-then-known-count+else-alike, else-known-count-via-else-known-count}

pub returns-then-alike : goal.returns-then-alike
returns-then-alike c =
    let F = c.args.column.now in
    let l : c.loop-i.i < c.args.size = omega (arith, length-take-le c.args.size c.args.counts.now (omega (arith, c.requires.0.few))) in
    let m = member_is (length F) c.requires.0.most c.args.store.now c.args.size c.loop-i.i l in
    let same = alike_sound _ F (ap (λ (G : Column). alike G F) (m ∙ sym c.member.ensures) ∙ sym c.alike.ensures ∙ c.if-alike.true) in
    let len = length_members (length F) c.requires.0.most c.args.store.now c.args.size in
    (l, same, first_at _ F c.loop-i.i (rw len l) same c.loop-i.invariant)

pub loop-i-preserved : goal.loop-i-preserved
loop-i-preserved c =
    let F = c.args.column.now in
    let i = c.loop-i.i in
    let l : i < c.args.size = omega (arith, length-take-le c.args.size c.args.counts.now (omega (arith, c.requires.0.few))) in
    let m = member_is (length F) c.requires.0.most c.args.store.now c.args.size i l in
    below_more _ _ c.loop-i.invariant (λ q. elim c.else-known-count.branch [
      | else-known-count-via-then-known-count+else-alike w ↦ clash (rw q (alike_self F)) (ap (λ (G : Column). alike G F) (m ∙ sym w.member.ensures) ∙ sym w.alike.ensures ∙ w.if-alike.false)
      | else-known-count-via-else-known-count w ↦ w.if-known-count.false (get_or-take c.args.size c.args.counts.now i 0 l ∙ c.requires.0.counted i l ∙ ap classes (sym m ∙ q) ∙ sym c.requires.1)
    ])

pub returns : goal.returns
returns c =
    let F = c.args.column.now in
    let len = length_members (length F) c.requires.0.most c.args.store.now c.args.size in
    absent_lem _ F (λ k h. c.loop-i.invariant k (omega (arith, len, length-take-le c.args.size c.args.counts.now (omega (arith, c.requires.0.few)))))
