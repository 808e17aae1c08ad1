-- `coarsest_place` meets its contract: the first place that passes.
use Rattle.std.proofs.Common.{◌≡◌, true, false, length, rules}
use Rattle.std.proofs.lemmas.Iterator.{first_from_Range}
use Rattle.strata.specs.Words.{coarsest}
use Rattle.strata.proofs.StratumLaws.{first_is}
use Rattle.strata.proofs.stratum.coarsest_place.Goals as goal

pub returns : goal.returns
returns c =
    let a = c.args in
    let n = length a.words.now in
    let t = coarsest a.words.now n a.among in
    first_is t n c.find.result (first_from_Range _ _ _ c.find.result (λ p. t p ≡ true) (λ p. t p ≡ false) c.find.ensures.ran (λ x q k. search rules) (λ x q k. search rules))
