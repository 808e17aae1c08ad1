-- `rachdoum::rachdoum_strata` meets its contract: the numbers are those of the entry, in the order of the array.
use mathlib.Core.Path.{sym, ap, ◌∙◌, subst}
use mathlib.Core.List.{List, ◌++◌}
use Prim.Native.Nat.{ℕ, ◌≤◌}
use lib.IntN.{ℤ}
use lib.ListN.{get_or}
use Rattle.rules.specs.Strata.{strata_refused, StrataAnswer}
use Rattle.strata.specs.Answers.{strata_in}
use Rattle.rachdoum.specs.Numbers.{strata_numbers}
use Rattle.rachdoum.proofs.Few.{strata_few}
use Rattle.rachdoum.proofs.rachdoum_strata.Goals as goal

refusal_in : StrataAnswer → ℕ
refusal_in a = a.refusal

places_in : StrataAnswer → List ℕ
places_in a = a.places

pub signed-requires : goal.signed-requires
unfolding places_in
signed-requires c i =
    let a = c.args in
    let e = sym (ap strata_in c.in-Ok.is) ∙ c.strata-found.ensures in
    subst (λ (x : List ℕ). get_or x i 0 ≤ 32) (sym (ap places_in e)) (strata_few a.plots a.plot_family.now a.plot_size a.treatment_family.now a.treatment_size i)

pub returns-in-Ok : goal.returns-in-Ok
unfolding refusal_in
returns-in-Ok c =
    let e = sym (ap strata_in c.in-Ok.is) ∙ c.strata-found.ensures in
    record {
      refusal = ap refusal_in e;
      numbers = c.numbers.ensures ∙ ap (λ (x : List ℤ). x ++ c.in-Ok.found.residuals) c.signed.ensures ∙ ap strata_numbers e;
    }

pub returns-in-Err : goal.returns-in-Err
unfolding refusal_in strata_refused
returns-in-Err c =
    let e = sym (ap strata_in c.in-Err.is) ∙ c.strata-found.ensures in
    record { refusal = c.number.ensures ∙ ap refusal_in e; numbers = ap strata_numbers e }
