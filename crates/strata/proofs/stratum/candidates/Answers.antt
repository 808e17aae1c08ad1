use Rattle.std.proofs.Common.{◌≡◌, ℕ, ◌<◌, ◌≤◌, refl, sym, ap, ◌∙◌, Bool, List, get_or, arith}
use Rattle.rules.specs.Factor.{finer}
use Rattle.rules.specs.Lists.{word_of}
use Rattle.rules.specs.Relation.{coarser_words}
use Rattle.rules.proofs.Places.{at_places_lem}
use Rattle.rules.proofs.Words.{word_set, word_skip}
use Rattle.strata.specs.Family.{column, members}
use Rattle.strata.specs.Words.{finer_word, candidate_word}
use Rattle.strata.specs.Pair.{candidates_before, treatment_at}
use Rattle.strata.proofs.RelationWords.{finer_word_is}
use Rattle.strata.proofs.Slices.{taken, taken_length}
use Rattle.strata.proofs.stratum.candidates.Goals as goal
use Rattle.strata.proofs.stratum.candidates.Goals.{else-is_candidate, then-is_candidate}

pub loop-p-init : goal.loop-p-init
unfolding candidate_word word_of
loop-p-init c = refl

pub is_candidate-requires : goal.is_candidate-requires
is_candidate-requires c =
    let a = c.args in
    let f = a.pair.now.plot in
    let p = c.loop-p.p in
    let e = taken a.words.now f.size p 0 c.loop-p-test.true in
    let few : f.size ≤ 32 = f.formed.few in
    let l : p < f.size = e.less in
    let is : get_or a.words.now p 0 ≡ finer_word f.plots f.bytes.now p =
    ap (λ (ws : List ℕ). get_or ws p 0) c.requires.0 ∙ at_places_lem 0 (coarser_words f.plots (members f)) p (omega arith) ∙ sym (finer_word_is f.formed p l) in
    (l, c.requires.1, e.value ∙ is, c.loop-p.invariant, c.requires.2)

pub loop-p-preserved : goal.loop-p-preserved
unfolding candidate_word
loop-p-preserved c =
    let a = c.args in
    let d = a.pair.now in
    let f : ℕ → Bool = λ k. finer d.plot.plots (column d.plot k) (treatment_at d a.t) in
    let p = c.loop-p.p in
    let e = taken a.words.now d.plot.size p 0 c.loop-p-test.true in
    let few : d.plot.size ≤ 32 = d.plot.formed.few in
    let within : p < d.plot.size = e.less in
    let l : p < 32 = omega arith in
    let found = c.is_candidate.ensures in
    elim c.if-is_candidate.branch [ then-is_candidate w ↦ w.among-is ∙ rw c.loop-p.invariant (word_set f p l (sym found ∙ w.if-is_candidate.true)) | else-is_candidate w ↦ w.among-is ∙ c.loop-p.invariant ∙ word_skip f p (sym found ∙ w.if-is_candidate.false) ]

pub returns : goal.returns
returns c =
    let a = c.args in
    let d = a.pair.now in
    let few : d.plot.size ≤ 32 = d.plot.formed.few in
    let e : c.loop-p.p ≡ d.plot.size = omega (arith, taken_length a.words.now d.plot.size (omega (arith, c.told-words))) in
    c.loop-p.invariant ∙ ap (λ (k : ℕ). candidates_before d a.t k) e
