-- `cross_row` meets its contract: the treatment members from `j` on are orthogonal, and their suprema are placed.
use Rattle.std.proofs.Common.{◌≡◌, true, List, ◌++◌, ℕ, ◌≤◌, ◌<◌, drop}
use Rattle.rules.specs.Factor.{Column}
use Rattle.rules.specs.Closing.{only_supremum, products_of}
use Rattle.design.specs.Sides.{Crossing, Placed, test_of, plot_of, treatment_members}
use Rattle.design.proofs.crossing.cross_row.Given as goal

abbrev pub invariant-loop-j : goal.invariant-loop-j
invariant-loop-j l =
    Crossing l.sides l.found l.joins
    × ((k : ℕ) → l.j ≤ k → k < l.sides.treatment.size → test_of l.sides l.i k ≡ true)
    × ((As : List Column) → Placed l.sides As l.initial.found → Placed l.sides (As ++ products_of only_supremum (plot_of l.sides l.i) (drop l.j (treatment_members l.sides))) l.found)
