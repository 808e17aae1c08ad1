-- `direct_word` meets its contract: the words of the coarser members are masked out one by one.
use mathlib.Core.Path.{◌≡◌}
use Rattle.rules.specs.Lists.{word_of}
use Rattle.strata.specs.Words.{direct_bit}
use Rattle.strata.proofs.order.direct_word.Given as goal

abbrev pub invariant-loop-j : goal.invariant-loop-j
invariant-loop-j l = l.word ≡ word_of (direct_bit l.words l.i l.j) 32
