-- `entry_sizes` meets its contract: the table holds the sizes by the labels passed.
use mathlib.Core.Path.{◌≡◌}
use Prim.Native.Nat.{ℕ, ◌<◌}
use lib.ListN.{length}
use Rattle.rules.specs.Factor.{at}
use Rattle.standing.proofs.CellTable.{entered}
use Rattle.standing.proofs.join.Joins.entry_sizes.Given as goal

abbrev pub invariant-loop-x : goal.invariant-loop-x
invariant-loop-x l = (length l.sizes ≡ 256) × ((y : ℕ) → y < 256 → at l.sizes y ≡ entered l.self.entries l.f l.x y)
