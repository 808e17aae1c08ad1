-- `sheet::header::is_column` meets its contract.
use mathlib.Core.Path.{◌≡◌, sym, ◌∙◌}
use mathlib.Core.Bool.{◌&&◌}
use native.Mathlib.Omega.{arith}
use lib.Dec.{eqb}
use lib.ListN.{get_or}
use Rattle.std.proofs.lemmas.Grind.{common_steps}
use Rattle.std.proofs.lemmas.Bool.Decides.{nat_tests}
use Rattle.sheet.specs.Walk.{is_mark}
use Rattle.sheet.proofs.NameForm.{column_short, column_bytes}
use Rattle.sheet.proofs.header.is_column.Goals as goal
use Rattle.sheet.proofs.header.is_column.Goals.{Joined-is_mark, then-is_mark, else-is_mark}

-- the mark and the colon
front : (c : Joined-is_mark) → c.if-is_mark.value ≡ is_mark (get_or c.args.field.now 0 0) && eqb (get_or c.args.field.now 1 0) 58
front c = elim c.if-is_mark.branch [ then-is_mark w ↦ grind (arith, common_steps, nat_tests) | else-is_mark w ↦ grind (arith, common_steps, nat_tests) ]

pub returns-in_default : goal.returns-in_default
returns-in_default c = sym (column_short c.args.field.now (omega arith))

pub returns-then-colon-eq58 : goal.returns-then-colon-eq58
returns-then-colon-eq58 c =
    let f = front (goal.at.returns-then-colon-eq58 c).Joined-is_mark in
    c.is_name.ensures ∙ sym (column_bytes c.args.field.now c.in-len2-up.len_at_least ∙ rw (← f, c.if-colon-eq58.true))

pub returns-else-colon-eq58 : goal.returns-else-colon-eq58
returns-else-colon-eq58 c =
    let f = front (goal.at.returns-else-colon-eq58 c).Joined-is_mark in
    rw c.if-colon-eq58.false (sym (column_bytes c.args.field.now c.in-len2-up.len_at_least ∙ rw (← f, c.if-colon-eq58.false)))
