-- `within` meets its contract: the plots are asked, then the bytes.
use mathlib.Core.Path.{◌≡◌, sym, ◌∙◌}
use mathlib.Core.Bool.{true, false}
use Rattle.rules.specs.Design.{plots_within}
use Rattle.factor.proofs.Ranges.{in_range}
use Rattle.families.proofs.within.Goals as goal
use Rattle.families.proofs.within.Goals.{After-contains}

-- 6 is asked of the plots
asked : (c : After-contains) → c.contains.result ≡ plots_within c.args.plots
unfolding plots_within
asked c = in_range c.contains.result 1 240 c.args.plots (c.contains.ensures.value ∙ rw (c.new.ensures.start, c.new.ensures.end, c.new.ensures.exhausted))

pub returns-then-contains : goal.returns-then-contains
returns-then-contains c =
    let e : plots_within c.args.plots ≡ true = sym (asked (goal.at.returns-then-contains c).After-contains) ∙ c.if-contains.true in
    rw e

pub returns-else-contains : goal.returns-else-contains
returns-else-contains c =
    let e : plots_within c.args.plots ≡ false = sym (asked (goal.at.returns-else-contains c).After-contains) ∙ c.if-contains.false in
    rw e c.if-contains.false
