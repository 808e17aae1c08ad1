use mathlib.Core.Path.{◌≡◌, ap, ◌∙◌}
use mathlib.Core.List.{List}
use Prim.Native.Nat.{ℕ, ◌+◌, ◌-◌, ◌*◌}
use native.Mathlib.Omega.{arith}
use lib.ListN.{length, get_or, take, drop, length-set}
use Rattle.design.specs.State.{column_at}
use Rattle.factor.proofs.Lent.{part_of, length_part}
use Rattle.design.proofs.Gathering.{gathered_plot, gathered_plots}
use Rattle.design.proofs.replicates.gathered_level.Goals as goal
use Rattle.design.proofs.replicates.gathered_level.Goals.{Start}

-- the part that is gone through is the column
is : (c : Start) → take (240 * c.args.c + c.args.n - 240 * c.args.c) (drop (240 * c.args.c) c.args.levels.now) ≡ column_at c.args.n c.args.levels.now c.args.c
is c = part_of c.args.n c.args.c c.args.levels.now

length-is : (c : Start) → length (take (240 * c.args.c + c.args.n - 240 * c.args.c) (drop (240 * c.args.c) c.args.levels.now)) ≡ c.args.n
length-is c = ap length (is c) ∙ length_part c.args.n c.args.c c.args.levels.now (omega (arith, c.requires.0, c.requires.1))

pub loop-u-preserved : goal.loop-u-preserved
loop-u-preserved c =
    let s = (goal.at.loop-u-preserved c).Start in
    let u = c.loop-u.u in
    let F = column_at c.args.n c.args.levels.now c.args.c in
    (simp length-set c.loop-u.invariant.0, gathered_plot c.args.n c.args.points.now F c.loop-u.column u (omega (arith, length-is s)) c.requires.3 c.requires.4 c.loop-u.invariant.0 c.loop-u.invariant.1 _ (ap (λ (l : List ℕ). get_or l u 0) (is s)))

pub returns : goal.returns
returns c =
    let s = (goal.at.returns c).Start in
    let e : c.loop-u.u ≡ c.args.n = omega (arith, length-is s) in
    (c.loop-u.invariant.0, gathered_plots c.args.n c.args.points.now (column_at c.args.n c.args.levels.now c.args.c) c.loop-u.column c.requires.3 (length_part c.args.n c.args.c c.args.levels.now (omega (arith, c.requires.0, c.requires.1))) (rw e at c.loop-u.invariant.1))
