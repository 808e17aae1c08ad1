use mathlib.Core.Path.{◌≡◌, sym, ap, ◌∙◌}
use mathlib.Core.List.{List}
use Prim.Native.Nat.{ℕ, ◌+◌, ◌*◌, ◌≤◌}
use native.Mathlib.Nat.{not-suc-le-zero}
use native.Mathlib.Omega.{arith}
use lib.ListN.{length, take}
use Rattle.design.specs.State.{column_at}
use Rattle.design.specs.Points.{points_on_plots}
use Rattle.design.proofs.Choosing.{length_pasted}
use Rattle.design.proofs.Pasted.{pasted_each}
use Rattle.design.proofs.replicates.gather_levels.Invariants.{IsGathered}
use Rattle.design.proofs.replicates.gather_levels.Goals as goal

pub loop-c-init : goal.loop-c-init
loop-c-init c = (omega arith, c.requires.3, λ k h. absurd (not-suc-le-zero h))

pub gathered_level-column-requires : goal.gathered_level-column-requires
gathered_level-column-requires c =
    (c.requires.0, omega arith, omega arith, c.requires.4, c.requires.5 c.loop-c.c (omega arith))

pub put_level-requires : goal.put_level-requires
put_level-requires c = (c.gathered_level-column.ensures.0, omega arith, omega arith)

pub loop-c-preserved : goal.loop-c-preserved
loop-c-preserved c =
    let own = c.loop-c.own in
    let i = c.loop-c.c in
    let F = c.gathered_level-column.result in
    let l = c.gathered_level-column.ensures.0 in
    let fits : 240 * i + 240 ≤ length own = omega arith in
    let e = c.put_level.ensures in (
      omega arith,
      ap length e ∙ length_pasted 240 (omega arith) own i F l fits ∙ c.loop-c.invariant.1,
      λ k h. ap (λ (x : List ℕ). points_on_plots (take c.args.n c.args.points.now) (column_at 240 x k)) e
          ∙ pasted_each 240 (omega arith) own i F l fits (IsGathered c.args.n c.args.points.now c.args.levels.now) c.gathered_level-column.ensures.1 c.loop-c.invariant.2 k h,
    )

pub shape_of-own : goal.shape_of-own
shape_of-own c = c.loop-c.invariant.1 ∙ sym c.requires.3

pub returns : goal.returns
returns c =
    let e : c.loop-c.c ≡ c.args.d = omega arith in
    record {
      room = c.loop-c.invariant.1;
      columns = rw e at c.loop-c.invariant.2;
    }
