-- `verdict::refused` meets its contract.
use Rattle.design.specs.Answers.{plot_numbers, plot_numbers_of}
use Rattle.design.proofs.Answered.{number_some}
use Rattle.design.proofs.verdict.refused.Goals as goal

pub returns : goal.returns
unfolding plot_numbers plot_numbers_of
returns c = rw (number_some c.args.question)
