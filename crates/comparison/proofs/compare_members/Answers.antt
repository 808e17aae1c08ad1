-- `compare_members` meets its contract: 6 and then 15 are asked of each family, and the members at the places are compared.
use mathlib.Core.Path.{◌≡◌, sym, ◌∙◌}
use mathlib.Core.Bool.{◌&&◌}
use Rattle.families.specs.Lent.{formed_in}
use Rattle.standing.specs.Cases.{case_of}
use Rattle.comparison.proofs.Questions.{and_asked, and_left_out, asked, refused_6, refused_15, stands}
use Rattle.comparison.proofs.compare_members.Goals as goal
use Rattle.comparison.proofs.compare_members.Goals.{Joined-is_within, then-is_within, else-is_within, Joined-is_well_formed, then-is_well_formed, else-is_well_formed}

-- 6 of both
six : (c : Joined-is_within) → let a = c.args in asked a.plots a.first.family.now a.first.size a.first.number && asked a.plots a.second.family.now a.second.size a.second.number ≡ c.if-is_within.value
six c = elim c.if-is_within.branch [
  | then-is_within w ↦ and_asked _ _ _ (sym c.is_within.ensures ∙ w.if-is_within.true) (w.value-is ∙ w.is_within-then-is_within.ensures)
  | else-is_within w ↦ and_left_out _ _ _ (sym c.is_within.ensures ∙ w.if-is_within.false) (w.value-is ∙ w.if-is_within.false)
]

-- 15 of both
fifteen : (c : Joined-is_well_formed) → let a = c.args in formed_in a.plots a.first.family.now a.first.size && formed_in a.plots a.second.family.now a.second.size ≡ c.if-is_well_formed.value
fifteen c = elim c.if-is_well_formed.branch [
  | then-is_well_formed w ↦ and_asked _ _ _ (sym c.is_well_formed.ensures ∙ w.if-is_well_formed.true) (w.value-is ∙ w.is_well_formed-then-is_well_formed.ensures)
  | else-is_well_formed w ↦ and_left_out _ _ _ (sym c.is_well_formed.ensures ∙ w.if-is_well_formed.false) (w.value-is ∙ w.if-is_well_formed.false)
]

pub returns-then-not-is_within : goal.returns-then-not-is_within
returns-then-not-is_within c =
    let a = c.args in
    refused_6 a.plots a.first.family.now a.first.size a.first.number a.second.family.now a.second.size a.second.number
    (six (goal.at.returns-then-not-is_within c).Joined-is_within ∙ c.if-not-is_within.true)

pub returns-then-not-is_well_formed : goal.returns-then-not-is_well_formed
returns-then-not-is_well_formed c =
    let a = c.args in
    refused_15 a.plots a.first.family.now a.first.size a.first.number a.second.family.now a.second.size a.second.number
    (six (goal.at.returns-then-not-is_well_formed c).Joined-is_within ∙ c.if-not-is_within.false)
    (fifteen (goal.at.returns-then-not-is_well_formed c).Joined-is_well_formed ∙ c.if-not-is_well_formed.true)

pub returns : goal.returns
returns c =
    let a = c.args in
    stands a.plots a.first.family.now a.first.size a.first.number a.second.family.now a.second.size a.second.number
    (six (goal.at.returns c).Joined-is_within ∙ c.if-not-is_within.false)
    (fifteen (goal.at.returns c).Joined-is_well_formed ∙ c.if-not-is_well_formed.false)
    _ _ c.member.ensures c.member-2.ensures (case_of c.compare.result) c.compare.ensures
