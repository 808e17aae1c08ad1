-- `first_family` meets its contract: the family is closed on the points, or on the plots.
use mathlib.Core.Path.{◌≡◌, sym, ap, ap₂, ◌∙◌}
use mathlib.Core.Bool.{true}
use native.Mathlib.Omega.{arith}
use lib.ListN.{length, take, length-take}
use lib.Seq.{take_all}
use Rattle.rules.specs.Factor.{Column, uniform, Uniform}
use Rattle.rules.proofs.Tests.{uniform_test}
use Rattle.design.proofs.Start.{take_ones}
use Rattle.design.proofs.treatments.first_family.Goals as goal
use Rattle.design.proofs.treatments.first_family.Goals.{After-meet_levels-m, After-uniform}

-- the points
abbrev points : After-meet_levels-m → Column
points c = take c.args.n c.meet_levels-m.new.points

-- they have as many plots each
even : (c : After-uniform) → c.uniform.result ≡ true → Uniform c.args.n (points (goal.at.After-uniform c).After-meet_levels-m)
even c e =
    let w = (goal.at.After-uniform c).After-meet_levels-m in
    let n = w.args.n in
    let p = points w in
    let l : length p ≡ n = w.meet_levels-m.ensures.points.on in
    let t : take 240 p ≡ p = take_all 240 p (omega (arith, w.requires.1)) in
    (uniform_test n p).0 (sym (ap₂ uniform (ap length t ∙ l) t) ∙ sym c.uniform.ensures ∙ e)

pub meet_levels-m-requires : goal.meet_levels-m-requires
meet_levels-m-requires c = (c.requires.0, c.requires.1, c.requires.2, c.requires.5, take_ones c.args.n c.requires.1)

pub slice_bounds-points-end : goal.slice_bounds-points-end
slice_bounds-points-end c = omega (arith, c.meet_levels-m.ensures.points.on, length-take c.args.n c.meet_levels-m.new.points)

pub first_points-requires : goal.first_points-requires
first_points-requires c =
    let u = (goal.at.first_points-requires c).After-uniform in
    let e : c.uniform.result ≡ true = assumption in
    (c.requires.0, c.requires.1, c.requires.2, c.requires.3, c.requires.4, c.requires.5, c.requires.6, c.requires.7, c.requires.8, c.meet_levels-m.ensures.points, even u e, c.meet_levels-m.ensures.coarser)
