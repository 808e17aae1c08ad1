-- `finer_words` meets its contract: the words so far are those of finer members.
use Rattle.std.proofs.Common.{◌≡◌, ℕ, length, get_or}
use Rattle.design.specs.Crossing.{FinerBits}
use Rattle.design.proofs.nesting.finer_words.Given as goal

abbrev pub invariant-loop-i : goal.invariant-loop-i
invariant-loop-i l = (length l.words ≡ 32) × ((k : ℕ) → FinerBits l.n l.family (get_or l.words k 0) k)
