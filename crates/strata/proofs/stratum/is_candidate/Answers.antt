-- `is_candidate` meets its contract: a bit that the words share implies it, or the columns decide.
use Rattle.std.proofs.Common.{sym, ap, ap₂, ◌∙◌}
use lib.Bits.{bit_and}
use Rattle.rules.specs.Factor.{finer}
use Rattle.strata.specs.Family.{column}
use Rattle.strata.specs.Pair.{treatment_at}
use Rattle.strata.proofs.Extreme.{each_finer, on_plots_of}
use Rattle.strata.proofs.Implied.{candidate_implied}
use Rattle.strata.proofs.Pairs.{finest_is, same_column}
use Rattle.strata.proofs.stratum.is_candidate.Goals as goal
use Rattle.strata.proofs.stratum.is_candidate.Goals.{then-word-among-ne0, else-word-among-ne0}

pub returns-then-eq : goal.returns-then-eq
returns-then-eq c =
    let a = c.args in
    let f = a.pair.now.plot in
    elim c.if-word-among-ne0.branch [
      | then-word-among-ne0 w ↦ c.if-eq.true ∙ sym (candidate_implied f.plots f.bytes.now a.p a.pair.now.treatment.bytes.now a.t (λ z. w.if-word-among-ne0.true (ap₂ bit_and c.requires.2 c.requires.3 ∙ z)))
      | else-word-among-ne0 w ↦ c.if-eq.true
          ∙ sym (each_finer f.plots (column f a.p) (treatment_at a.pair.now a.t) (on_plots_of f a.p c.requires.0) (finest_is a.pair.now a.finest a.p c.requires.4 (sym w.eq.ensures ∙ sym w.value-is ∙ c.if-eq.true)))
    ]

pub returns-else-eq : goal.returns-else-eq
returns-else-eq c =
    let a = c.args in
    c.finer.ensures ∙ ap (finer a.pair.now.plot.plots (column a.pair.now.plot a.p)) (same_column a.pair.now a.t)
