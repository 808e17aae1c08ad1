-- `candidates` meets its contract: the word is built bit by bit.
use mathlib.Core.Path.{◌≡◌}
use Rattle.strata.specs.Pair.{candidates_before}
use Rattle.strata.proofs.stratum.candidates.Given as goal

abbrev pub invariant-loop-p : goal.invariant-loop-p
invariant-loop-p l = l.among ≡ candidates_before l.pair l.t l.p
