-- `rachdoum::rachdoum_compare` meets its contract: each case of the answer has the rules' numbers.
use mathlib.Core.Path.{sym, ap, ◌∙◌}
use mathlib.Core.List.{[], ◌∷◌}
use Prim.Native.Nat.{ℕ}
use Rattle.rules.specs.Comparison.{ComparisonAnswer}
use Rattle.comparison.specs.Answers.{compared_numbers}
use Rattle.rachdoum.specs.Numbers.{comparison_numbers}
use Rattle.rachdoum.proofs.rachdoum_compare.Goals as goal

pub returns-in-Ok : goal.returns-in-Ok
returns-in-Ok c =
    let r = sym (ap compared_numbers c.in-Ok.is) ∙ c.compare_members.ensures in
    record {
      refusal = ap (λ (x : ComparisonAnswer). x.refusal) r;
      numbers = ap (λ (x : ℕ). x ∷ []) c.case_number.ensures ∙ ap comparison_numbers r;
    }

pub returns-in-Err : goal.returns-in-Err
returns-in-Err c =
    let r = sym (ap compared_numbers c.in-Err.is) ∙ c.compare_members.ensures in
    record {
      refusal = c.number.ensures ∙ ap (λ (x : ComparisonAnswer). x.refusal) r;
      numbers = ap comparison_numbers r;
    }
