-- `with_member` meets its contract: the member's bit is there, or it is added with those it implies, or it is not set.
use Rattle.std.proofs.Common.{◌≡◌, ◌<◌, ◌≤◌, sym, ◌∙◌, true, arith}
use Rattle.rules.specs.Lists.{bit_at}
use Rattle.strata.proofs.Implied.{from_same, from_added}
use Rattle.strata.proofs.order.with_member.Goals as goal
use Rattle.strata.proofs.order.with_member.Goals.{then-has-via-then-has, then-has-via-else-has+then-not-counted_finer}

pub returns-then-has : goal.returns-then-has
returns-then-has c =
    let a = c.args in
    let same = from_same a.family.now.plots a.family.now.bytes.now a.member.place a.before.place a.word c.requires.2 c.requires.3 in
    elim c.then-has.branch [
      | then-has-via-then-has w ↦ let e : bit_at a.word a.before.place ≡ true = sym c.has.ensures ∙ w.if-has.true in same (e ∙ sym (c.requires.3.only a.before.place e))
      | then-has-via-else-has+then-not-counted_finer w ↦ same (sym c.has.ensures ∙ w.if-has.false ∙ sym (sym w.counted_finer.ensures ∙ w.if-not-counted_finer.true))
    ]

pub returns : goal.returns
returns c =
    let a = c.args in
    let f = a.family.now in
    let few : f.size ≤ 32 = f.formed.few in
    let within : a.member.place < f.size = c.requires.0.within in
    rw c.requires.4 (from_added f.plots f.bytes.now a.member.place a.before.place a.word c.requires.2 c.requires.3 (sym c.counted_finer.ensures ∙ c.if-not-counted_finer.false) (omega arith))
