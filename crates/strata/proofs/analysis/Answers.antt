-- `analysis` meets its contract: question 6 is asked of both families, then 15.
use mathlib.Core.Path.{refl, sym, ◌∙◌}
use Rattle.std.proofs.lemmas.Result.{err_from_is_err_and}
use Rattle.refusal.specs.declared.Refusal.TheVariants.{Limits, Family}
use Rattle.rules.specs.Relation.{family_within}
use Rattle.strata.proofs.Lent.{formed_of, not_formed}
use Rattle.strata.proofs.Questions.{strata_no, strata_6_plot, strata_6_treatment, strata_15_plot, strata_15_treatment, strata_yes}
use Rattle.families.proofs.Lent.{within_limits_lem}
use lib.ListN.{length}
use Rattle.strata.proofs.analysis.Goals as goal
use Rattle.strata.proofs.analysis.Goals.{then-not-within-via-then-not-within, then-not-within-via-else-not-within+then-not-within-2}

pub returns-then-not-within : goal.returns-then-not-within
unfolding family_within
returns-then-not-within c =
    let a = c.args in
    let p = a.plot_family.now in
    let r = a.treatment_family.now in
    strata_no a.plots p a.plot_size r a.treatment_size Limits refl (elim c.then-not-within.branch [
      | then-not-within-via-then-not-within w ↦ strata_6_plot a.plots p a.plot_size r a.treatment_size (sym c.within.ensures ∙ w.if-not-within.true)
      | then-not-within-via-else-not-within+then-not-within-2 w ↦ strata_6_treatment a.plots p a.plot_size r a.treatment_size (sym c.within.ensures ∙ w.if-not-within.false) (sym w.within-else-not-within.ensures ∙ w.if-not-within-2.true)
    ])

pub returns-in_err-plot : goal.returns-in_err-plot
unfolding family_within
returns-in_err-plot c =
    let a = c.args in
    let p = a.plot_family.now in
    let r = a.treatment_family.now in
    let e = err_from_is_err_and c.from_residual.result c.from_residual.ensures.1 in
    let o = c.in_err-plot.ensures.err in
    let w = sym c.within.ensures ∙ c.if-not-within.false in
    let v = sym c.within-else-not-within.ensures ∙ c.if-not-within-2.false in
    rw (e.1, e.2, o.0) (strata_no a.plots p a.plot_size r a.treatment_size Family refl (strata_15_plot a.plots p a.plot_size r a.treatment_size w v (not_formed a.plots p a.plot_size (within_limits_lem a.plots (length p) w) o.1)))

pub returns-in_err-treatment : goal.returns-in_err-treatment
unfolding family_within
returns-in_err-treatment c =
    let a = c.args in
    let p = a.plot_family.now in
    let r = a.treatment_family.now in
    let e = err_from_is_err_and c.from_residual-in_err-treatment.result c.from_residual-in_err-treatment.ensures.1 in
    let o = c.in_err-treatment.ensures.err in
    let w = sym c.within.ensures ∙ c.if-not-within.false in
    let v = sym c.within-else-not-within.ensures ∙ c.if-not-within-2.false in
    let f = formed_of a.plots p a.plot_size c.in_ok-plot.ensures.ok.3 in
    rw (e.1, e.2, o.0) (strata_no a.plots p a.plot_size r a.treatment_size Family refl (strata_15_treatment a.plots p a.plot_size r a.treatment_size w v f.formed (not_formed a.plots r a.treatment_size (within_limits_lem a.plots (length r) v) o.1)))

pub returns : goal.returns
unfolding family_within
returns c =
    let a = c.args in
    let o = c.in_ok-plot.ensures.ok in
    let t = c.in_ok-treatment.ensures.ok in
    let w = sym c.within.ensures ∙ c.if-not-within.false in
    let v = sym c.within-else-not-within.ensures ∙ c.if-not-within-2.false in
    strata_yes a.plots a.plot_family.now a.plot_size a.treatment_family.now a.treatment_size c.from_16.result w v o.3 t.3 (rw (o.0, o.1, o.2, t.0, t.2) at c.from_16.ensures)
