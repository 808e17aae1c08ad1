-- `rachdoum::rachdoum_plot_design` meets its contract: each case of the design's answer has the rules' numbers.
use mathlib.Core.Path.{sym, ap, ◌∙◌}
use mathlib.Core.List.{List, [], ◌∷◌}
use Prim.Native.Nat.{ℕ}
use Rattle.design.specs.Answers.{PlotNumbers, plot_numbers, plot_numbers_of}
use Rattle.rachdoum.proofs.rachdoum_plot_design.Goals as goal

refusal_in : PlotNumbers → ℕ
refusal_in x = x.refusal

numbers_in : PlotNumbers → List ℕ
numbers_in x = x.first ∷ x.second ∷ x.size ∷ []

pub returns-in-Ok : goal.returns-in-Ok
unfolding plot_numbers plot_numbers_of refusal_in numbers_in
returns-in-Ok c =
    let e = sym (ap plot_numbers c.in-Ok.is) ∙ c.plot_design.ensures.answer in
    record { refusal = ap refusal_in e; buffer = c.plot_design.ensures.buffer; numbers = ap numbers_in e }

pub returns-in-Err : goal.returns-in-Err
unfolding plot_numbers plot_numbers_of refusal_in numbers_in
returns-in-Err c =
    let e = sym (ap plot_numbers c.in-Err.is) ∙ c.plot_design.ensures.answer in
    record { refusal = c.number.ensures ∙ ap refusal_in e; buffer = c.plot_design.ensures.buffer; numbers = ap numbers_in e }
