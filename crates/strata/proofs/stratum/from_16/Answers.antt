-- `from_16` meets its contract: question 16 is asked with the places, then the numbers are found.
use Rattle.std.proofs.Common.{◌≡◌, ℕ, ◌≤◌, length, map, refl, sym, ap, subst, ◌∙◌, arith}
use Rattle.std.proofs.lemmas.Result.{err_from_is_err_and}
use lib.IntN.{pos}
use Rattle.rules.specs.Family.{members_of}
use Rattle.rules.specs.Lists.{for_places}
use Rattle.rules.specs.Degrees.{degrees}
use Rattle.rules.specs.Strata.{stratum}
use Rattle.rules.proofs.Places.{length_places}
use Rattle.refusal.specs.declared.Refusal.TheVariants.{Stratum}
use Rattle.strata.specs.Family.{members}
use Rattle.strata.specs.Pair.{treatments}
use Rattle.strata.specs.Sums.{AllSmall}
use Rattle.strata.proofs.Lent.{size_members}
use Rattle.strata.proofs.Pairs.{length_treatments}
use Rattle.strata.proofs.Questions.{asked_none, asked_some, strata_16, with_refused, with_found}
use Rattle.strata.proofs.Slices.{taken_length}
use Rattle.strata.proofs.Sums.{small_places, small_take}
use Rattle.strata.proofs.DegreeTurns.{small_degrees}
use Rattle.strata.proofs.StratumLaws.{residuals_are, residuals_taken}
use Rattle.strata.proofs.stratum.from_16.Goals as goal

pub returns-in_err-places : goal.returns-in_err-places
returns-in_err-places c =
    let d = c.args.pair.now in
    let p = err_from_is_err_and c.from_residual.result c.from_residual.ensures.1 in
    let none = asked_none _ _ _ c.in_err-places.ensures.value in
    rw (p.1, p.2, none.1) (with_refused d.plot.plots (members d.plot) (treatments d) Stratum _ refl (strata_16 d.plot.plots (members d.plot) (treatments d) (rw none.0 at c.places.ensures)))

pub residuals-residuals-requires : goal.residuals-residuals-requires
residuals-residuals-requires c =
    let d = c.args.pair.now in
    let found = rw (asked_some _ _ _ c.in_ok-places.ensures.value) at c.places.ensures in
    let few : d.plot.size ≤ 32 = d.plot.formed.few in
    let fewer : d.treatment.size ≤ 32 = d.treatment.formed.few in
    let own = small_places (degrees d.plot.plots (members d.plot)) (small_degrees d.plot.formed) in
    let numbers = small_places (degrees d.treatment.plots (members d.treatment)) (small_degrees d.treatment.formed) in
    let totals : length c.by_words-totals.result ≡ 32 = ap length c.by_words-totals.ensures ∙ length_places (pos 0) (degrees d.plot.plots (members d.plot)) in
    let others : length c.of_family-degrees.result ≡ 32 = ap length c.of_family-degrees.ensures ∙ length_places (pos 0) (degrees d.treatment.plots (members d.treatment)) in
    let places : length c.in_ok-places.places ≡ 32 = ap length found.1 ∙ length_places 0 (map (stratum d.plot.plots (members d.plot)) (treatments d)) in
    let m = taken_length c.in_ok-places.places d.treatment.size (omega arith) in (
      omega (arith, taken_length c.by_words-totals.result d.plot.size (omega arith)),
      omega (arith, m),
      taken_length c.of_family-degrees.result d.treatment.size (omega arith) ∙ sym m,
      small_take d.plot.size c.by_words-totals.result (subst AllSmall (sym c.by_words-totals.ensures) own),
      small_take d.treatment.size c.of_family-degrees.result (subst AllSmall (sym c.of_family-degrees.ensures) numbers),
    )

pub returns : goal.returns
returns c =
    let d = c.args.pair.now in
    let n = d.plot.plots in
    let P = members d.plot in
    let R = treatments d in
    let found = rw (asked_some _ _ _ c.in_ok-places.ensures.value) at c.places.ensures in
    let few : d.plot.size ≤ 32 = d.plot.formed.few in
    let fewer : d.treatment.size ≤ 32 = d.treatment.formed.few in
    let totals = c.by_words-totals.ensures in
    let numbers = c.of_family-degrees.ensures ∙ ap (λ (k : ℕ). for_places (pos 0) (degrees k (members_of k d.treatment.bytes.now d.treatment.size))) d.same_plots in
    let own : length c.by_words-totals.result ≡ 32 = ap length totals ∙ length_places (pos 0) (degrees n P) in
    let places : length c.in_ok-places.places ≡ 32 = ap length found.1 ∙ length_places 0 (map (stratum n P) R) in
    let left = residuals_taken c.by_words-totals.result c.of_family-degrees.result c.in_ok-places.places d.plot.size d.treatment.size (omega arith) (omega arith) in
    let are = residuals_are n P R d.plot.size d.treatment.size (size_members d.plot.formed) (length_treatments d) few fewer in
    with_found n P R _ found.0 totals numbers found.1 (c.residuals-residuals.ensures ∙ left ∙ rw (totals, numbers, found.1) (ap (for_places (pos 0)) are))
