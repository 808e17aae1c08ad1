-- `steps::plot_from_8` meets its contract: the plot family is closed, then judged.
use mathlib.Core.Path.{ap, ◌∙◌}
use Rattle.rules.specs.Design.{question8}
use Rattle.design.specs.Answers.{plot_numbers_of}
use Rattle.design.proofs.steps.plot_from_8.Goals as goal

pub returns : goal.returns
returns c =
    let w = ap (question8 c.args.n) c.close_plot_family-closed.ensures.family in
    record {
      answer = c.judge_plots.ensures ∙ ap plot_numbers_of w;
      buffer = c.close_plot_family-closed.ensures.buffer;
    }
