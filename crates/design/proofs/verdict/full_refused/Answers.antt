-- `verdict::full_refused` meets its contract.
use Rattle.design.specs.Answers.{full_numbers, full_numbers_of}
use Rattle.design.proofs.Answered.{number_some}
use Rattle.design.proofs.verdict.full_refused.Goals as goal

pub returns : goal.returns
unfolding full_numbers full_numbers_of
returns c = rw (number_some c.args.question)
