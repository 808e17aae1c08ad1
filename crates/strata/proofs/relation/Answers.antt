-- `relation` meets its contract: a family is accepted, or the first question whose answer is no is reported.
use Rattle.std.proofs.Common.{◌≡◌, ap, ◌∙◌, Ok, Err}
use Rattle.std.proofs.lemmas.Result.{err_from_is_err_and}
use Rattle.rules.specs.Relation.{relation}
use Rattle.strata.specs.Answers.{relation_in}
use Rattle.strata.proofs.Questions.{compared, relation_no, relation_yes}
use Rattle.strata.proofs.relation.Goals as goal

pub returns-in_err-family : goal.returns-in_err-family
returns-in_err-family c =
    let a = c.args in
    let p = err_from_is_err_and c.from_residual.result c.from_residual.ensures.1 in
    let e = relation_no a.plots a.family.now a.size _ c.from_residual.result (p.1 ∙ ap Err p.2) c.in_err-family.ensures.err in
    record { answer = e; compared = compared a.plots a.family.now a.size c.from_residual.result e }

pub returns : goal.returns
returns c =
    let a = c.args in
    let o = c.in_ok-family.ensures.ok in
    let e : relation_in (Ok c.of_family.result) ≡ relation a.plots a.family.now a.size = rw (o.0, o.1, o.2) at c.of_family.ensures ∙ relation_yes a.plots a.family.now a.size o.3 in
    record { answer = e; compared = compared a.plots a.family.now a.size (Ok c.of_family.result) e }
