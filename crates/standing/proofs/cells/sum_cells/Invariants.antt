-- `sum_cells` meets its contract: the table holds the sums over the cells passed.
use mathlib.Core.Path.{◌≡◌}
use Prim.Native.Nat.{ℕ, ◌<◌}
use lib.ListN.{length}
use Rattle.rules.specs.Factor.{at}
use Rattle.standing.specs.Cells.{cell_size, sum_at}
use Rattle.standing.proofs.cells.sum_cells.Given as goal

abbrev pub invariant-loop-i : goal.invariant-loop-i
invariant-loop-i l =
    (length l.sums ≡ 256) × ((z : ℕ) → z < 256 → at l.sums z ≡ sum_at (cell_size l.sizes) l.labels l.i z)
