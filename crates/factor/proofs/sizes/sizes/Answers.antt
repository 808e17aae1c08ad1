use mathlib.Core.Path.{◌≡◌, ap, ◌∙◌}
use mathlib.Core.List.{List}
use Prim.Native.Nat.{ℕ, ◌+◌}
use native.Mathlib.Omega.{arith}
use lib.ListN.{length, get_or, set}
use Rattle.rules.specs.Factor.{at}
use Rattle.rules.proofs.Lists.{get_d_tabulate}
use Rattle.factor.specs.Sizes.{labelled, sizes}
use Rattle.factor.proofs.SizeTable.{labelled_le, sizes_start, sizes_step}
use Rattle.factor.proofs.sizes.sizes.Goals as goal
use Rattle.factor.proofs.sizes.sizes.Goals.{In-loop-x}

-- the count that is read
read : (c : In-loop-x) → get_or c.loop-x.table (get_or c.args.f.now c.loop-x.x-index 0) 0
    ≡ labelled c.loop-x.x-index c.args.f.now (get_or c.args.f.now c.loop-x.x-index 0)
read c = rw c.loop-x.invariant (get_d_tabulate _ 256 _ 0 (omega (arith, c.type_inv.f c.loop-x.x-index)))

pub loop-x-init : goal.loop-x-init
loop-x-init c = sizes_start c.args.f.now

pub overflow_add-table : goal.overflow_add-table
overflow_add-table c =
    let f = c.args.f.now in
    let u = c.loop-x.x-index in
    omega (arith, read (goal.at.overflow_add-table c).In-loop-x, labelled_le u f (get_or f u 0))

pub loop-x-preserved : goal.loop-x-preserved
loop-x-preserved c =
    let f = c.args.f.now in
    let u = c.loop-x.x-index in
    rw (read (goal.at.loop-x-preserved c).In-loop-x) (ap (λ (l : List ℕ). set l (at f u) (labelled u f (at f u) + 1)) c.loop-x.invariant ∙ sizes_step f u (omega (arith, c.type_inv.f u)))

pub returns : goal.returns
unfolding sizes
returns c =
    let e : c.loop-x.x-index ≡ length c.args.f.now = omega arith in
    rw (← e) c.loop-x.invariant
