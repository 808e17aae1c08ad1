-- `finer_word` meets its contract: each bit so far is the place of a finer member.
use Rattle.design.specs.Crossing.{FinerBits}
use Rattle.design.proofs.nesting.finer_word.Given as goal

abbrev pub invariant-loop-k : goal.invariant-loop-k
invariant-loop-k l = FinerBits l.n l.family l.word l.i
