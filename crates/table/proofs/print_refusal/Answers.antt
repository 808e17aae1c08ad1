-- `print_refusal`: the names at the two places, and the line.
use mathlib.Core.Path.{ap, ap₂, ◌∙◌}
use mathlib.Core.List.{List, [], ◌∷◌}
use Prim.Native.Nat.{ℕ}
use Rattle.rules.specs.Naming.{Kind}
use Rattle.rules.specs.Table.{rows_bytes, refused_row}
use Rattle.decimal.proofs.Writing.{wrote_as}
use Rattle.naming.specs.Answers.{kind_of}
use Rattle.refusal.specs.Numbers.{number_of}
use Rattle.table.specs.Names.{placed_name}
use Rattle.table.specs.Designs.{buffer_for, placed_row}
use Rattle.table.proofs.TableLaws.{nameable_for}
use Rattle.table.proofs.print_refusal.Goals as goal

pub at_place-first-requires : goal.at_place-first-requires
at_place-first-requires c =
    let a = c.args in
    let s = a.source in
    let k = kind_of c.kinds_at_fault-kinds.result.0 in
    let w = c.requires.0 in
    ((rw c.family_for-family.ensures (nameable_for k s.text.now s.levels.now a.plot_family.now a.treatment_family.now s.counts.plots w.0 w.1), w.2), c.requires.1)

pub at_place-second-requires : goal.at_place-second-requires
at_place-second-requires c =
    let a = c.args in
    let s = a.source in
    let k = kind_of c.kinds_at_fault-kinds.result.1 in
    let w = c.requires.0 in
    ((rw c.family_for-other.ensures (nameable_for k s.text.now s.levels.now a.plot_family.now a.treatment_family.now s.counts.plots w.0 w.1), w.2), c.requires.2)

pub returns : goal.returns
unfolding placed_row
returns c =
    let a = c.args in
    let s = a.source in
    let kinds = c.kinds_at_fault-kinds in
    let name = λ (k : Kind) (family : List ℕ) (i : ℕ). placed_name k s.text.now s.counts.plots s.levels.now family i in
    let one =
    c.bytes.ensures ∙ c.at_place-first.ensures ∙ ap (λ (F : List ℕ). name (kind_of kinds.result.0) F a.refusal.first) c.family_for-family.ensures
    ∙ ap (λ (k : Kind). name k (buffer_for k a.plot_family.now a.treatment_family.now) a.refusal.first) kinds.ensures.first in
    let two =
    c.bytes-2.ensures ∙ c.at_place-second.ensures ∙ ap (λ (F : List ℕ). name (kind_of kinds.result.1) F a.refusal.second) c.family_for-other.ensures
    ∙ ap (λ (k : Kind). name k (buffer_for k a.plot_family.now a.treatment_family.now) a.refusal.second) kinds.ensures.second in
    wrote_as a.out.now 0
    (ap (λ (q : ℕ). rows_bytes (refused_row q c.bytes.result.now c.bytes-2.result.now ∷ [])) c.number-number.ensures
    ∙ ap₂ (λ (x y : List ℕ). rows_bytes (refused_row (number_of a.refusal.question) x y ∷ [])) one two)
    c.put_refused.ensures
