-- `sheet::header::column_end` meets its contract.
use mathlib.Core.Path.{◌≡◌, sym, ap, ◌∙◌}
use mathlib.Core.Bool.{Bool}
use native.Mathlib.Omega.{arith}
use lib.ListN.{take, drop}
use borrow.Author.Tests.{le-ltb}
use Rattle.std.specs.Bool.{then_some}
use Rattle.sheet.specs.Walk.{column_there}
use Rattle.sheet.proofs.ColumnLaws.{there_ended, there_unended, column_end_is, near_start}
use Rattle.sheet.proofs.header.column_end.Goals as goal
use Rattle.sheet.proofs.header.column_end.Goals.{Joined-end-near, then-end-near, else-end-near}

-- whether the column is there
told : (c : Joined-end-near) → c.if-end-near.then_some ≡ column_there (drop c.args.start (take c.min.result c.args.text.now))
told c =
    let a = c.args in
    let n = take c.min.result a.text.now in
    elim c.if-end-near.branch [
      | then-end-near w ↦ w.then_some-is ∙ w.is_column.ensures ∙ sym (there_ended n a.start c.end_of-end.result c.end_of-end.ensures w.if-end-near.true)
      | else-end-near w ↦ w.then_some-is ∙ le-ltb _ _ w.if-end-near.false ∙ sym (there_unended n a.start c.end_of-end.result c.end_of-end.ensures w.if-end-near.false)
    ]

pub returns : goal.returns
returns c =
    let d = (goal.at.returns c).Joined-end-near in
    let a = d.args in
    c.then_some.ensures
    ∙ ap (λ (b : Bool). then_some b d.end_of-end.result) (told d)
    ∙ column_end_is (take d.min.result a.text.now) a.start d.end_of-end.result d.end_of-end.ensures
    ∙ near_start d.min.result a.start a.text.now d.min.ensures (omega arith)
