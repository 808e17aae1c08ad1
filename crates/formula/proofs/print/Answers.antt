-- The sheet of the formula, and then what is printed for the answer.
use Rattle.std.proofs.Common.{ℕ, List, length, take, ap}
use Rattle.rules.specs.Formula.{formula_sheet}
use Rattle.rules.proofs.Formula.{formula_fits}
use Rattle.decimal.proofs.Writing.{wrote_as}
use Rattle.writer.specs.Answers.{answer_text}
use Rattle.writer.proofs.Answers.{answer_printed}
use Rattle.table.proofs.Printed.{entry_printed, told_by_number}
use Rattle.formula.proofs.print.Goals as goal

pub returns : goal.returns
returns c =
    let out = c.args.out.now in
    let formula = take c.formula_size-size.result c.args.input.now in
    let answer = c.expand in
    let told = told_by_number answer.result c.map_err-answer.result c.map_err-answer.ensures.cases in
    let printed = answer_printed (formula_sheet formula (length out)) answer.result out answer.new.out (formula_fits formula (length out)) answer.ensures.answer answer.ensures.sheet
    (entry_printed answer.result c.map_err-answer.result answer.new.out _ _ told c.put_answer.ensures) in
    wrote_as out 0 (ap (λ (t : List ℕ). answer_text (formula_sheet t (length out))) c.formula_size-size.ensures.formula) printed
