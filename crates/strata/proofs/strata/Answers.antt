-- `strata` meets its contract: the degrees of freedom are left out.
use Rattle.std.proofs.Common.{Ok, Err}
use Rattle.std.proofs.lemmas.Result.{err_from_is_err_and}
use Rattle.strata.proofs.Questions.{strata_part}
use Rattle.strata.proofs.strata.Goals as goal

pub returns-in_err-found : goal.returns-in_err-found
returns-in_err-found c =
    let a = c.args in
    let e = err_from_is_err_and c.from_residual.result c.from_residual.ensures.1 in
    rw (e.1, e.2) (strata_part a.plots a.plot_family.now a.plot_size a.treatment_family.now a.treatment_size (Err _) c.in_err-found.ensures)

pub returns : goal.returns
returns c =
    let a = c.args in
    strata_part a.plots a.plot_family.now a.plot_size a.treatment_family.now a.treatment_size (Ok c.in_ok-found.found) c.in_ok-found.ensures
