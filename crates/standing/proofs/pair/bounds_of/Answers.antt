-- `bounds_of` meets its contract: the bounds are the same for the columns exchanged.
use mathlib.Core.Path.{ap, ap₂, ◌∙◌}
use native.Mathlib.Omega.{arith}
use lib.ListN.{length, length-take}
use Rattle.rules.specs.Factor.{classes, infimum, supremum}
use Rattle.factor.specs.Lent.{common, overlay}
use Rattle.standing.proofs.Nesting.{paired_infimum, paired_supremum}
use Rattle.standing.proofs.pair.bounds_of.Goals as goal

pub returns : goal.returns
returns c =
    let F = c.args.f.now in
    let G = c.args.g.now in
    let n = common F G in
    let k = c.common.result in
    let first = c.common.ensures.first in
    let second = c.common.ensures.second in
    let lx = ap length first ∙ length-take n F ∙ omega arith in
    let ly = ap length second ∙ length-take n G ∙ omega arith in
    let r = c.bounds_whole.ensures in
    let s = c.smaller_first.result in
    let down = paired_infimum n k.f.now k.g.now s.f.now s.g.now lx ly c.smaller_first.ensures ∙ ap₂ infimum first second in
    let up = paired_supremum n k.f.now k.g.now s.f.now s.g.now lx ly c.smaller_first.ensures ∙ ap₂ supremum first second in
    record {
      infimum = r.infimum ∙ ap classes down;
      supremum = r.supremum ∙ ap classes up;
      below = r.below ∙ ap (overlay c.args.below.now) down;
      above = r.above ∙ ap (overlay c.args.above.now) up;
    }
