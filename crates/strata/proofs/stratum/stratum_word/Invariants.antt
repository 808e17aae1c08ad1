-- `stratum_word` meets its contract: the word is built bit by bit.
use mathlib.Core.Path.{◌≡◌}
use lib.Dec.{eqb}
use lib.ListN.{get_or}
use Rattle.rules.specs.Lists.{word_of}
use Rattle.strata.proofs.stratum.stratum_word.Given as goal

abbrev pub invariant-loop-t : goal.invariant-loop-t
invariant-loop-t l = l.word ≡ word_of (λ k. eqb (get_or l.places k 0) l.place) l.t
