-- The conversion, and then what is printed for its answer.
use Rattle.std.proofs.Common.{length}
use Rattle.rules.specs.Parents.{conversion}
use Rattle.rules.proofs.Parents.{conversion_fits}
use Rattle.writer.proofs.Answers.{answer_printed}
use Rattle.table.proofs.Printed.{entry_printed, told_by_number}
use Rattle.convert.proofs.print.Goals as goal

pub returns : goal.returns
returns c =
    let old = c.args.old.now in
    let out = c.args.out.now in
    let answer = c.convert in
    let told = told_by_number answer.result c.map_err-answer.result c.map_err-answer.ensures.cases in
    answer_printed (conversion old (length out)) answer.result out answer.new.out (conversion_fits old (length out)) answer.ensures.answer answer.ensures.sheet
    (entry_printed answer.result c.map_err-answer.result answer.new.out _ _ told c.put_answer.ensures)
