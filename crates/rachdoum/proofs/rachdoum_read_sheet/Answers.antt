-- `rachdoum::rachdoum_read_sheet` meets its contract: each case of the reader's answer has the rules' numbers.
use mathlib.Core.Path.{sym, ap, ◌∙◌}
use Rattle.sheet.specs.Answers.{outcome_of}
use Rattle.rachdoum.specs.Numbers.{reading_refusal, reading_numbers}
use Rattle.rachdoum.proofs.rachdoum_read_sheet.Goals as goal

pub returns-in-Ok : goal.returns-in-Ok
returns-in-Ok c =
    let e = sym (ap outcome_of c.in-Ok.is) ∙ c.read_sheet.ensures.answer in
    record { refusal = ap reading_refusal e; table = c.read_sheet.ensures.table; numbers = ap reading_numbers e }

pub returns-in-Err : goal.returns-in-Err
returns-in-Err c =
    let e = sym (ap outcome_of c.in-Err.is) ∙ c.read_sheet.ensures.answer in
    record { refusal = c.number.ensures ∙ ap reading_refusal e; table = c.read_sheet.ensures.table; numbers = ap reading_numbers e }
