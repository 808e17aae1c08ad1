-- `close_columns` meets its contract: the family is closed on the points, or on the plots.
use mathlib.Core.Bool.{true}
use Prim.Native.Nat.{◌≤◌, ◌<◌, zero-le}
use native.Mathlib.Omega.{arith}
use Rattle.design.proofs.Start.{take_ones}
use Rattle.design.proofs.Work.{work_begun}
use Rattle.design.proofs.PointLaws.{points_some, points_most}
use Rattle.design.proofs.closed.close_columns.Goals as goal
use Rattle.design.proofs.closed.close_columns.Goals.{After-meet_members-m}

-- there are as many points as plots at most
few-points : (c : After-meet_members-m) → c.meet_members-m.result ≤ 240
few-points c = omega (arith, points_most c.meet_members-m.ensures.points, c.requires.0.held.most)

pub close_family-requires : goal.close_family-requires
close_family-requires c = (work_begun true c.requires.0 c.requires.2, zero-le, c.requires.3)

pub returns-then-not-few_classes : goal.returns-then-not-few_classes
returns-then-not-few_classes c = λ Gs b. c.close_family.ensures Gs (work_begun true b c.requires.2)

pub meet_members-m-requires : goal.meet_members-m-requires
meet_members-m-requires c = (c.requires.0.held, take_ones c.args.n c.requires.0.held.most)

pub overflow_mul-m : goal.overflow_mul-m
overflow_mul-m c = omega (arith, few-points c)

pub close_family-requires-then-n-m : goal.close_family-requires-then-n-m
close_family-requires-then-n-m c = (work_begun true c.requires.0 c.requires.2, zero-le, c.requires.3)

pub returns-then-n-m : goal.returns-then-n-m
returns-then-n-m c = λ Gs b. c.close_family-then-n-m.ensures Gs (work_begun true b c.requires.2)

pub close_points-requires : goal.close_points-requires
close_points-requires c =
    let P = c.meet_members-m.ensures.points in
    let less : c.meet_members-m.result < c.args.n = omega (arith, c.if-n-m.false, points_some P c.requires.0.held.some) in
    (c.requires.0, c.requires.1, P, less, c.meet_members-m.ensures.coarser, c.requires.2, c.requires.3)
