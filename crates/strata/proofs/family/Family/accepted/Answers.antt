-- `accepted` meets its contract: questions 6 and 15 are asked in turn.
use Rattle.std.proofs.Common.{◌≡◌, sym, ◌∙◌, true, false, None, Some}
use Rattle.std.proofs.lemmas.Result.{IfOk-weaker, IfErr-weaker}
use Rattle.families.specs.Lent.{formed_in}
use Rattle.refusal.specs.declared.Refusal.TheVariants.{Family}
use Rattle.strata.specs.Lent.{family_refusal}
use Rattle.strata.proofs.Lent.{formed_of, refusal_6, refusal_15, refusal_none}
use Rattle.strata.proofs.family.Family.accepted.Goals as goal

pub returns-then-not-within-clause-err : goal.returns-then-not-within-clause-err
returns-then-not-within-clause-err c = refusal_6 _ _ _ (sym c.within.ensures ∙ c.if-not-within.true)

pub returns-clause-ok : goal.returns-clause-ok
returns-clause-ok c =
    let a = c.args in
    let b = a.bytes.now in
    let yes = refusal_none a.plots b a.size (sym c.within.ensures ∙ c.if-not-within.false) in
    IfOk-weaker c.new.result (λ f. (f.bytes.now ≡ b) × (f.plots ≡ a.plots) × (f.size ≡ a.size) × (formed_in a.plots b a.size ≡ true))
    (λ f. (f.bytes.now ≡ b) × (f.plots ≡ a.plots) × (f.size ≡ a.size) × (family_refusal a.plots b a.size ≡ None)) (λ f p. (p.0, p.1, p.2, yes (formed_of a.plots b a.size p.3))) c.new.ensures.ok

pub returns-clause-err : goal.returns-clause-err
returns-clause-err c =
    let a = c.args in
    let b = a.bytes.now in
    let no = refusal_15 a.plots b a.size (sym c.within.ensures ∙ c.if-not-within.false) in
    IfErr-weaker c.new.result (λ q. (q ≡ Family) × (formed_in a.plots b a.size ≡ false)) (λ q. family_refusal a.plots b a.size ≡ Some q) (λ q p. rw p.0 (no p.1)) c.new.ensures.err
