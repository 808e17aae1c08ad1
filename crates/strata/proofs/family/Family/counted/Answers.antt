-- `counted` meets its contract: the part lent is the member, which is numbered.
use Rattle.std.proofs.Common.{ap, ◌∙◌, arith}
use Rattle.factor.specs.Labels.{largest}
use Rattle.factor.proofs.LargestLabel.{largest_classes}
use Rattle.strata.specs.Family.{column}
use Rattle.strata.proofs.Extreme.{numbered_member}
use Rattle.strata.proofs.family.Family.counted.Goals as goal

pub returns-clause-member : goal.returns-clause-member
returns-clause-member c =
    let f = c.args.self.now in
    record { within = omega arith; counted = c.from.ensures ∙ c.largest.ensures ∙ ap largest c.member.ensures ∙ largest_classes (column f c.args.i) (numbered_member f.formed c.args.i c.requires) }
