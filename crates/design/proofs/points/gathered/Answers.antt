use mathlib.Core.Path.{◌≡◌, refl, ap, ◌∙◌}
use Prim.Native.Nat.{◌<◌}
use native.Mathlib.Nat.{not-suc-le-zero}
use native.Mathlib.Omega.{arith}
use lib.ListN.{length, length-set}
use Rattle.rules.specs.Factor.{Column, at}
use Rattle.design.specs.State.{column_at}
use Rattle.design.proofs.Common.{column_length}
use Rattle.design.proofs.Pasted.{in_range}
use Rattle.design.proofs.Gathering.{gathered_plot, gathered_plots}
use Rattle.design.proofs.points.gathered.Goals as goal
use Rattle.design.proofs.points.gathered.Goals.{After-member-label-items}

-- the member that is lent is on n plots
long : (c : After-member-label-items) → length c.member-label-items.result.now ≡ c.args.n
long c = ap length c.member-label-items.ensures ∙ column_length c.args.n c.args.store.now c.args.i c.requires.0 c.requires.1 c.requires.2

pub loop-u-init : goal.loop-u-init
loop-u-init c = (refl, λ v h. absurd (not-suc-le-zero h))

pub overflow_cast-x : goal.overflow_cast-x
overflow_cast-x c =
    omega (arith, in_range c.args.n c.args.points.now c.requires.3 c.loop-u.u (omega (arith, long (goal.at.overflow_cast-x c).After-member-label-items)))

pub overflow_sub-x : goal.overflow_sub-x
overflow_sub-x c =
    omega (arith, in_range c.args.n c.args.points.now c.requires.3 c.loop-u.u (omega (arith, long (goal.at.overflow_sub-x c).After-member-label-items)))

pub bounds-column-x : goal.bounds-column-x
bounds-column-x c =
    omega (arith, in_range c.args.n c.args.points.now c.requires.3 c.loop-u.u (omega (arith, long (goal.at.bounds-column-x c).After-member-label-items)))

pub loop-u-preserved : goal.loop-u-preserved
loop-u-preserved c =
    let n = c.args.n in
    let u = c.loop-u.u in
    let F = column_at n c.args.store.now c.args.i in
    let l : u < n = omega (arith, long (goal.at.loop-u-preserved c).After-member-label-items) in
    (simp length-set c.loop-u.invariant.0, gathered_plot n c.args.points.now F c.loop-u.column u l c.requires.3 c.requires.4 c.loop-u.invariant.0 c.loop-u.invariant.1 (at c.member-label-items.result.now u) (ap (λ (X : Column). at X u) c.member-label-items.ensures))

pub returns : goal.returns
returns c =
    let e : c.loop-u.u ≡ c.args.n = omega (arith, long (goal.at.returns c).After-member-label-items) in
    (c.loop-u.invariant.0, gathered_plots c.args.n c.args.points.now (column_at c.args.n c.args.store.now c.args.i) c.loop-u.column c.requires.3 (column_length c.args.n c.args.store.now c.args.i c.requires.0 c.requires.1 c.requires.2) (rw e at c.loop-u.invariant.1))
