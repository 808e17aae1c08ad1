-- `verdict::judge_plots` meets its contract: a plot family that is too large, or questions 9 and 10.
use mathlib.Core.Path.{sym, ap, ◌∙◌}
use Rattle.rules.specs.Family.{members_of}
use Rattle.design.specs.Answers.{plot_numbers_of}
use Rattle.design.specs.Closings.{closed_in}
use Rattle.design.proofs.Answered.{eight_over, eight_on}
use Rattle.design.proofs.verdict.judge_plots.Goals as goal

pub returns-in_default : goal.returns-in_default
returns-in_default c =
    let n = c.args.n in
    let e = eight_over n (closed_in n c.args.plot.now c.args.closed) (ap (closed_in n c.args.plot.now) c.in_default.is) in
    c.refused.ensures ∙ ap plot_numbers_of (sym e)

pub from_9-requires : goal.from_9-requires
from_9-requires c =
    rw c.in-Some.is at c.requires.judging

pub returns : goal.returns
returns c =
    let n = c.args.n in
    let plot = c.args.plot.now in
    c.from_9.ensures ∙ ap plot_numbers_of (sym (eight_on n (closed_in n plot c.args.closed) (members_of n plot c.in-Some.closed.size) (ap (closed_in n plot) c.in-Some.is)))
