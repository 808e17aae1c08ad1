use Rattle.std.proofs.Common.{◌≡◌, ℕ, ◌<◌, take, length, sym, ap, ◌∙◌, arith}
use Rattle.rules.specs.Lists.{word_of}
use Rattle.strata.specs.Words.{direct_bit, direct_word}
use Rattle.strata.proofs.Slices.{taken, taken_length}
use Rattle.strata.proofs.RelationWords.{direct_start, direct_mask, direct_skip}
use Rattle.strata.proofs.order.direct_word.Goals as goal
use Rattle.strata.proofs.order.direct_word.Goals.{else-has, then-has}

pub loop-j-init : goal.loop-j-init
loop-j-init c = direct_start c.args.words.now c.args.i (c.requires.1 c.args.i)

pub loop-j-preserved : goal.loop-j-preserved
loop-j-preserved c =
    let words = c.args.words.now in
    let i = c.args.i in
    let j = c.loop-j.j in
    let found = c.has.ensures in
    let l : j < length (take i words) = c.loop-j-test.true in
    let e = taken words i j 0 l in
    elim c.if-has.branch [
      | then-has w ↦ w.word-is ∙ rw (c.loop-j.invariant, e.value) (direct_mask words i j (c.requires.1 j) (sym found ∙ w.if-has.true))
      | else-has w ↦ w.word-is ∙ c.loop-j.invariant ∙ direct_skip words i j (sym found ∙ w.if-has.false)
    ]

pub returns : goal.returns
unfolding direct_word
returns c =
    let words = c.args.words.now in
    let i = c.args.i in
    let e : c.loop-j.j ≡ i = omega (arith, taken_length words i (omega (arith, c.told-words))) in
    c.loop-j.invariant ∙ ap (λ (m : ℕ). word_of (direct_bit words i m) 32) e
