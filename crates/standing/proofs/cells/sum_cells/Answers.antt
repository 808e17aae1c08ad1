use mathlib.Core.Path.{◌≡◌, refl}
use Prim.Native.Nat.{ℕ, ◌+◌, ◌<◌}
use native.Mathlib.Omega.{arith}
use lib.ListN.{length, length-set}
use Rattle.rules.specs.Factor.{Column, at}
use Rattle.factor.proofs.Table.{get_d_zeros}
use Rattle.standing.specs.Cells.{cell_size, sum_at}
use Rattle.standing.proofs.CellSums.{sum_le, sum_step, sum_next}
use Rattle.standing.proofs.cells.sum_cells.Goals as goal
use Rattle.standing.proofs.cells.sum_cells.Goals.{In-loop-i}

-- what is known in a turn
module _ (c : In-loop-i) where
  abbrev i : ℕ
  i = c.loop-i.i

  abbrev labels : Column
  labels = c.args.labels.now

  abbrev size : ℕ → ℕ
  size = cell_size c.args.sizes.now

  byte : at labels i < 256
  byte = omega (arith, c.type_inv.labels i)

pub loop-i-init : goal.loop-i-init
unfolding sum_at
loop-i-init c = (refl, λ z h. get_d_zeros 256 z)

pub overflow_add-sums-in-loop-i : goal.overflow_add-sums-in-loop-i
overflow_add-sums-in-loop-i c =
    let k = (goal.at.overflow_add-sums-in-loop-i c).In-loop-i in
    let x = at (labels k) (i k) in
    omega (arith, k.loop-i.invariant.1 x (byte k), sum_next (size k) (labels k) (i k), sum_le (size k) (labels k) x (i k + 1) (length (labels k)) (omega arith), k.requires.small x)

pub loop-i-preserved : goal.loop-i-preserved
loop-i-preserved c =
    let k = (goal.at.loop-i-preserved c).In-loop-i in
    let b = k.loop-i in
    (simp length-set b.invariant.0, sum_step (size k) (labels k) (i k) b.sums b.invariant.0 (byte k) b.invariant.1)

pub returns : goal.returns
returns c =
    let e : length c.args.labels.now ≡ c.loop-i.i = omega arith in
    λ z h. rw e (c.loop-i.invariant.1 z h)
