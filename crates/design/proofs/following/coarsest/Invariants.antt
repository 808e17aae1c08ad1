-- `coarsest` meets its contract: what is found so far is none, or belongs to a bit.
use Rattle.std.proofs.Common.{◌≡◌, ℕ, Some}
use Rattle.design.specs.Crossing.{Chosen}
use Rattle.design.proofs.following.coarsest.Given as goal

abbrev pub invariant-loop-k : goal.invariant-loop-k
invariant-loop-k l = (q : ℕ) → l.best ≡ Some q → Chosen l.joins l.at l.step l.word q
