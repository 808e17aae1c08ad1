-- `within` meets its contract.
use Rattle.std.proofs.Common.{arith}
use Rattle.std.proofs.lemmas.Bool.Decides.{nat_tests}
use Rattle.rules.specs.Design.{within_limits, plots_within}
use Rattle.design.proofs.Ranges.{in_range}
use Rattle.design.proofs.questions.within.Goals as goal
use Rattle.design.proofs.questions.within.Goals.{then-contains, else-contains, then-columns-le-COLUMNS, else-columns-le-COLUMNS}

pub returns-then-levels-ge-LEVELS : goal.returns-then-levels-ge-LEVELS
unfolding within_limits plots_within
returns-then-levels-ge-LEVELS c =
    let r = in_range c.contains.result 240 c.args.plots (rw (c.new.ensures.exhausted, c.new.ensures.start, c.new.ensures.end) at c.contains.ensures.value) in
    let t = c.if-levels-ge-LEVELS.true in
    grind (arith, nat_tests)

pub returns-else-levels-ge-LEVELS : goal.returns-else-levels-ge-LEVELS
unfolding within_limits plots_within
returns-else-levels-ge-LEVELS c =
    let r = in_range c.contains.result 240 c.args.plots (rw (c.new.ensures.exhausted, c.new.ensures.start, c.new.ensures.end) at c.contains.ensures.value) in
    let t = c.if-levels-ge-LEVELS.either in
    elim c.if-columns-le-COLUMNS.branch [
      | then-columns-le-COLUMNS w ↦ grind (arith, nat_tests)
      | else-columns-le-COLUMNS w ↦ elim c.if-contains.branch [ then-contains v ↦ grind (arith, nat_tests) | else-contains v ↦ grind (arith, nat_tests) ]
    ]
