-- `expand`: 6, and whether the text is a formula, are asked first.
use mathlib.Core.Path.{refl, sym, ◌∙◌}
use native.Mathlib.Omega.{arith}
use lib.ListN.{length}
use Rattle.writer.specs.Answers.{writing_numbers, answer_numbers}
use Rattle.block_formula.proofs.AnswerLaws.{planned_by, unreadable_17}
use Rattle.block_formula.proofs.expand.Goals as goal

pub returns-then-not-is_readable : goal.returns-then-not-is_readable
unfolding writing_numbers answer_numbers
returns-then-not-is_readable c =
    let t = c.args.formula.now in
    let out = c.args.out.now in
    let refused = unreadable_17 t (length out) (omega arith) (sym c.is_readable.ensures ∙ c.if-not-is_readable.true) in
    record { answer = rw refused refl; sheet = rw refused refl; planned = planned_by t out out (rw refused refl) }

pub expand_readable-requires : goal.expand_readable-requires
expand_readable-requires c = (omega arith, sym c.is_readable.ensures ∙ c.if-not-is_readable.false)

pub returns : goal.returns
returns c =
    let k = c.expand_readable in
    record { answer = k.ensures.answer; sheet = k.ensures.sheet; planned = planned_by c.args.formula.now c.args.out.now k.new.out k.ensures.sheet }
