-- `rachdoum::rachdoum_full_design` meets its contract: each case of the design's answer has the rules' numbers.
use mathlib.Core.Path.{sym, ap, ◌∙◌}
use mathlib.Core.List.{List, [], ◌∷◌}
use Prim.Native.Nat.{ℕ}
use Rattle.design.specs.Answers.{FullNumbers, full_numbers, full_numbers_of}
use Rattle.rachdoum.proofs.rachdoum_full_design.Goals as goal

refusal_in : FullNumbers → ℕ
refusal_in x = x.refusal

numbers_in : FullNumbers → List ℕ
numbers_in x = x.first ∷ x.second ∷ x.plot ∷ x.treatment ∷ []

pub returns-in-Ok : goal.returns-in-Ok
unfolding full_numbers full_numbers_of refusal_in numbers_in
returns-in-Ok c =
    let e = sym (ap full_numbers c.in-Ok.is) ∙ c.full_design-found.ensures.answer in
    record {
      refusal = ap refusal_in e;
      plots = c.full_design-found.ensures.plots;
      treatments = c.full_design-found.ensures.treatments;
      numbers = ap numbers_in e;
    }

pub returns-in-Err : goal.returns-in-Err
unfolding full_numbers full_numbers_of refusal_in numbers_in
returns-in-Err c =
    let e = sym (ap full_numbers c.in-Err.is) ∙ c.full_design-found.ensures.answer in
    record {
      refusal = c.number.ensures ∙ ap refusal_in e;
      plots = c.full_design-found.ensures.plots;
      treatments = c.full_design-found.ensures.treatments;
      numbers = ap numbers_in e;
    }
