-- `less` meets its contract: what is left after each place is small enough to fit.
use mathlib.Core.Path.{◌≡◌}
use lib.IntN.{pos, ◌-ℤ◌}
use lib.ListN.{get_or}
use Rattle.rules.specs.Lists.{bit_at}
use Rattle.strata.specs.Sums.{sum_passing}
use Rattle.strata.proofs.degrees.less.Given as goal

abbrev pub invariant-loop-j : goal.invariant-loop-j
invariant-loop-j l = l.left ≡ l.start -ℤ sum_passing (bit_at l.word) (λ k. get_or l.numbers k (pos 0)) l.j
