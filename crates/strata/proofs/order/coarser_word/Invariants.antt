-- `coarser_word` meets its contract: the word is known from member `j` on.
use Rattle.strata.specs.Words.{FinerFrom}
use Rattle.strata.proofs.order.coarser_word.Given as goal

abbrev pub invariant-loop-j : goal.invariant-loop-j
invariant-loop-j l = FinerFrom l.family.plots l.family.bytes.now l.member.place l.j l.word
