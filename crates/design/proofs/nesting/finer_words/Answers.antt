use mathlib.Core.Path.{refl, ◌∙◌}
use Prim.Native.Nat.{◌-◌}
use native.Mathlib.Omega.{arith}
use lib.ListN.{length-set}
use Rattle.design.proofs.FinerWords.{words_none, words_more}
use Rattle.design.proofs.nesting.finer_words.Goals as goal

pub loop-i-init : goal.loop-i-init
loop-i-init c = (refl, words_none c.args.n c.args.family.now)

pub loop-i-preserved : goal.loop-i-preserved
loop-i-preserved c =
    let w = c.loop-i.words in
    let i = c.loop-i.i - 1 in
    (length-set w i c.finer_word.result ∙ c.loop-i.invariant.0, words_more c.args.n c.args.family.now i c.finer_word.result w (omega arith) c.finer_word.ensures c.loop-i.invariant.1)
