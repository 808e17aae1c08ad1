-- `rachdoum::rachdoum_relation` meets its contract: the numbers are those of the entry, in the order of the array.
use mathlib.Core.Path.{sym, ap, ◌∙◌}
use Prim.Native.Nat.{ℕ}
use native.Mathlib.Omega.{arith}
use Rattle.rules.specs.Relation.{relation_refused, RelationAnswer}
use Rattle.strata.specs.Answers.{relation_in}
use Rattle.rachdoum.specs.Numbers.{relation_numbers}
use Rattle.rachdoum.proofs.Few.{relation_few}
use Rattle.rachdoum.proofs.rachdoum_relation.Goals as goal

refusal_in : RelationAnswer → ℕ
refusal_in a = a.refusal

size_in : RelationAnswer → ℕ
size_in a = a.size

pub overflow_cast-size : goal.overflow_cast-size
unfolding size_in
overflow_cast-size c =
    let a = c.args in
    let e = ap size_in (sym (ap relation_in c.in-Ok.is) ∙ c.relation.ensures.answer) in
    record { fits = omega (arith, e, relation_few a.plots a.family.now a.size) }

pub returns-in-Ok : goal.returns-in-Ok
unfolding refusal_in
returns-in-Ok c =
    let e = sym (ap relation_in c.in-Ok.is) ∙ c.relation.ensures.answer in
    record { refusal = ap refusal_in e; numbers = c.words.ensures ∙ ap relation_numbers e }

pub returns-in-Err : goal.returns-in-Err
unfolding refusal_in relation_refused
returns-in-Err c =
    let e = sym (ap relation_in c.in-Err.is) ∙ c.relation.ensures.answer in
    record { refusal = c.number.ensures ∙ ap refusal_in e; numbers = ap relation_numbers e }
