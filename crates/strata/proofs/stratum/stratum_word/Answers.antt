use Rattle.std.proofs.Common.{ℕ, ◌<◌, refl, ◌∙◌, Bool, get_or, eqb, arith}
use borrow.Author.Tests.{eq-eqb, ne_eqb}
use Rattle.rules.specs.Lists.{word_of}
use Rattle.rules.proofs.Words.{word_set, word_skip}
use Rattle.strata.proofs.stratum.stratum_word.Goals as goal
use Rattle.strata.proofs.stratum.stratum_word.Goals.{else-other-place, then-other-place}

pub loop-t-init : goal.loop-t-init
unfolding word_of
loop-t-init c = refl

pub loop-t-preserved : goal.loop-t-preserved
loop-t-preserved c =
    let s = c.args in
    let f : ℕ → Bool = λ k. eqb (get_or s.places.now k 0) s.place in
    let t = c.loop-t.t in
    let l : t < 32 = omega arith in
    elim c.if-other-place.branch [
      | then-other-place w ↦ w.word-is ∙ rw c.loop-t.invariant (word_set f t l (eq-eqb _ _ w.if-other-place.true))
      | else-other-place w ↦ w.word-is ∙ c.loop-t.invariant ∙ word_skip f t (ne_eqb _ _ w.if-other-place.false)
    ]
