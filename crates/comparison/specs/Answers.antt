-- What comparing answers, as the rules count it: the number of the refusal, or the number of the case.
-- Assumes nothing.
use Rattle.std.specs.Prelude.{Result, Ok, Err}
use Rattle.rules.specs.Comparison.{ComparisonAnswer, comparison_refused, compared}
use Rattle.refusal.specs.declared.Refusal.{Refusal}
use Rattle.refusal.specs.Numbers.{number_of}
use Rattle.standing.specs.declared.comparing.Comparison.{Comparison}
use Rattle.standing.specs.Cases.{case_of}

abbrev pub compared_numbers : Result Comparison Refusal → ComparisonAnswer
compared_numbers (Ok c) = compared (case_of c)
compared_numbers (Err q) = comparison_refused (number_of q)
