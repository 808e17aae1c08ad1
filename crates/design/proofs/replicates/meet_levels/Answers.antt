use mathlib.Core.Path.{◌≡◌}
use Prim.Native.Nat.{◌+◌}
use native.Mathlib.Omega.{arith}
use lib.ListN.{take}
use Rattle.factor.proofs.Lent.{length_part}
use Rattle.design.proofs.Gathering.{met_none, met_more}
use Rattle.design.proofs.replicates.meet_levels.Invariants.{column, Each}
use Rattle.design.proofs.replicates.meet_levels.Goals as goal

pub loop-c-init : goal.loop-c-init
loop-c-init c =
    let a = c.args in
    (omega arith, met_none a.n c.requires.0 (take a.n a.points.now) (column a.n a.levels.now) Each c.requires.4)

pub meet_level-m-requires : goal.meet_level-m-requires
meet_level-m-requires c = (omega arith, omega arith)

pub loop-c-preserved : goal.loop-c-preserved
loop-c-preserved c =
    let a = c.args in
    let n = a.n in
    let levels = a.levels.now in
    let i = c.loop-c.c in
    (omega arith, met_more n c.loop-c.m (take n c.loop-c.points) (column n levels) Each i c.loop-c.invariant.1 c.meet_level-m.result (take n c.meet_level-m.new.points) c.meet_level-m.ensures.answer c.meet_level-m.ensures.met (length_part n (6 + i) levels (omega (arith, c.requires.1))))

pub returns : goal.returns
returns c =
    let e : c.loop-c.c ≡ c.args.d = omega arith in
    record {
      points = c.loop-c.invariant.1.0;
      coarser = λ k h. c.loop-c.invariant.1.1 k (rw e h) tt;
    }
