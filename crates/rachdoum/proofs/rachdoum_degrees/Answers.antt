-- `rachdoum::rachdoum_degrees` meets its contract: the numbers are those of the entry.
use mathlib.Core.Path.{sym, ap, ◌∙◌}
use mathlib.Core.List.{List}
use Prim.Native.Nat.{ℕ}
use lib.IntN.{ℤ}
use Rattle.rules.specs.Degrees.{degrees_refused, DegreesAnswer}
use Rattle.strata.specs.Answers.{degrees_in}
use Rattle.rachdoum.proofs.rachdoum_degrees.Goals as goal

refusal_in : DegreesAnswer → ℕ
refusal_in a = a.refusal

numbers_in : DegreesAnswer → List ℤ
numbers_in a = a.degrees

pub returns-in-Ok : goal.returns-in-Ok
unfolding refusal_in numbers_in
returns-in-Ok c =
    let e = sym (ap degrees_in c.in-Ok.is) ∙ c.degrees_of_freedom.ensures in
    record { refusal = ap refusal_in e; numbers = ap numbers_in e }

pub returns-in-Err : goal.returns-in-Err
unfolding refusal_in numbers_in degrees_refused
returns-in-Err c =
    let e = sym (ap degrees_in c.in-Err.is) ∙ c.degrees_of_freedom.ensures in
    record { refusal = c.number.ensures ∙ ap refusal_in e; numbers = ap numbers_in e }
