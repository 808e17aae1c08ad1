-- `is_coarsest` meets its contract.
use Rattle.std.proofs.Common.{◌≡◌, ℕ, ◌+◌, Bool, true, false, get_or, length, rules, tests, sym, ap, ◌∙◌, zero-add}
use Rattle.std.proofs.lemmas.Iterator.{YieldsList-from_slice}
use Rattle.std.proofs.lemmas.Iterator.Consumers.{YieldsList-from_enumerate}
use Rattle.std.proofs.lemmas.Iterator.Search.{all_from_yields_List}
use Rattle.std.specs.List.{list_all, enumerate_from}
use Rattle.rules.specs.Lists.{bit_at}
use Rattle.rules.proofs.Bits.{every_ext}
use Rattle.strata.specs.Words.{below, coarsest}
use Rattle.strata.proofs.StratumLaws.{all_numbered}
use Rattle.strata.proofs.stratum.is_coarsest.Goals as goal

pub returns-then-has : goal.returns-then-has
unfolding coarsest
returns-then-has c =
    let s = c.args in
    let f : ℕ × ℕ → Bool = λ x. below x.1 s.among s.p x.0 in
    let n = length s.words.now in
    let e : c.all.result ≡ list_all f (enumerate_from 0 s.words.now) =
    all_from_yields_List f _ _ _ c.all.ensures.ran (YieldsList-from_enumerate (YieldsList-from_slice s.words.now cc) cc) (λ x b q k. search (rules, tests)) in
    let yes : bit_at s.among s.p ≡ true = sym c.has.ensures ∙ c.if-has.true in
    let all = e ∙ all_numbered f s.words.now 0 ∙ every_ext (λ k. f (0 + k, get_or s.words.now k 0)) (λ k. f (k, get_or s.words.now k 0)) n (λ k l. ap (λ (m : ℕ). f (m, get_or s.words.now k 0)) (zero-add k)) in
    rw yes all

pub returns-else-has : goal.returns-else-has
unfolding coarsest
returns-else-has c =
    let s = c.args in
    let no : bit_at s.among s.p ≡ false = sym c.has.ensures ∙ c.if-has.false in
    rw (c.has.ensures, no)
