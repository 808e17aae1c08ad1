-- `crossing_of` meets its contract: what it tells is the same for the columns exchanged.
use mathlib.Core.Path.{◌≡◌, ap, ap₂, ◌∙◌}
use native.Mathlib.Omega.{arith}
use lib.ListN.{length, take, length-take}
use Rattle.rules.specs.Factor.{classes, supremum, orthogonal}
use Rattle.rules.proofs.Comparison.{comparison_passes}
use Rattle.factor.specs.Lent.{common, overlay}
use Rattle.standing.proofs.Nesting.{paired_supremum, paired_orthogonal}
use Rattle.standing.proofs.pair.crossing_of.Goals as goal

pub returns : goal.returns
returns c =
    let F = c.args.f.now in
    let G = c.args.g.now in
    let n = common F G in
    let k = c.common.result in
    let first = c.common.ensures.first in
    let second = c.common.ensures.second in
    let long_f : length (take n F) ≡ n = length-take n F ∙ omega arith in
    let long_g : length (take n G) ≡ n = length-take n G ∙ omega arith in
    let lx = ap length first ∙ long_f in
    let ly = ap length second ∙ long_g in
    let r = c.crossing_whole.ensures in
    let s = c.smaller_first.result in
    let up = paired_supremum n k.f.now k.g.now s.f.now s.g.now lx ly c.smaller_first.ensures ∙ ap₂ supremum first second in
    let level = paired_orthogonal n k.f.now k.g.now s.f.now s.g.now lx ly c.smaller_first.ensures ∙ ap₂ (orthogonal n) first second ∙ comparison_passes n (take n F) (take n G) long_f long_g in
    record {
      supremum = r.supremum ∙ ap classes up;
      orthogonal = r.orthogonal ∙ level;
      above = r.above ∙ ap (overlay c.args.above.now) up;
    }
