-- `verdict::treatments_refused` meets its contract: the refusal in numbers.
use mathlib.Core.Path.{refl}
use Rattle.design.specs.Answers.{full_numbers}
use Rattle.design.proofs.verdict.treatments_refused.Goals as goal

pub returns : goal.returns
unfolding full_numbers
returns c = refl
