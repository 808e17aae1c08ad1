-- `cross_all` meets its contract: the plot members from `i` on are orthogonal to all treatment members, and their suprema are placed.
use Rattle.std.proofs.Common.{◌≡◌, true, ℕ, ◌≤◌, ◌<◌, drop}
use Rattle.rules.specs.Closing.{only_supremum, products}
use Rattle.design.specs.Sides.{Crossing, Placed, test_of, plot_members, treatment_members}
use Rattle.design.proofs.crossing.cross_all.Given as goal

abbrev pub invariant-loop-i : goal.invariant-loop-i
invariant-loop-i l =
    Crossing l.sides l.found l.joins
    × ((a b : ℕ) → l.i ≤ a → a < l.sides.plot.size → b < l.sides.treatment.size → test_of l.sides a b ≡ true)
    × Placed l.sides (products only_supremum (drop l.i (plot_members l.sides)) (treatment_members l.sides)) l.found
