-- `degrees_of_freedom` meets its contract: a family is accepted, or the first question whose answer is no is reported.
use Rattle.std.proofs.Common.{ap, ◌∙◌, Err}
use Rattle.std.proofs.lemmas.Result.{err_from_is_err_and}
use Rattle.strata.proofs.Questions.{degrees_no, degrees_yes}
use Rattle.strata.proofs.degrees_of_freedom.Goals as goal

pub returns-in_err-family : goal.returns-in_err-family
returns-in_err-family c =
    let p = err_from_is_err_and c.from_residual.result c.from_residual.ensures.1 in
    degrees_no c.args.plots c.args.family.now c.args.size _ c.from_residual.result (p.1 ∙ ap Err p.2) c.in_err-family.ensures.err

pub returns : goal.returns
returns c =
    let a = c.args in
    let o = c.in_ok-family.ensures.ok in
    degrees_yes a.plots a.family.now a.size _ (rw (o.0, o.1, o.2) at c.of_family.ensures) o.3
