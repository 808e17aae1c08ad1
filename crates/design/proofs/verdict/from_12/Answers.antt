-- `verdict::from_12` meets its contract: two treatment members that are not orthogonal, or question 13.
use mathlib.Core.Path.{sym, ap, ◌∙◌}
use native.Mathlib.Omega.{arith}
use Rattle.rules.specs.Factor.{orthogonal}
use Rattle.rules.specs.Family.{members_of}
use Rattle.rules.specs.Design.{Places, first_pair, treatment_buffer}
use Rattle.rules.proofs.Buffer.{length_members}
use Rattle.design.specs.Answers.{full_numbers_of}
use Rattle.design.proofs.FullAnswered.{full_refusing_is, told_12, passed_12, told_buffer}
use Rattle.design.proofs.Rewriting.{written_again}
use Rattle.design.proofs.verdict.from_12.Goals as goal
use Rattle.design.proofs.verdict.from_12.Goals.{Start}

-- the first pair of treatment members that are not orthogonal
abbrev pair : Start → Places
pair c = first_pair (orthogonal c.args.n) 1 (members_of c.args.n c.args.treatment_family.now c.args.size)

pub returns-then-at-ne0 : goal.returns-then-at-ne0
returns-then-at-ne0 c =
    let s = (goal.at.returns-then-at-ne0 c).Start in
    let n = s.args.n in
    let P = members_of n s.args.plot_family.now s.args.plot in
    let S = members_of n s.args.treatment_family.now s.args.size in
    let t = told_12 P S n (pair s) (λ z. c.if-at-ne0.true (s.requires.4 ∙ z)) in record {
      answer = c.treatments_refused.ensures ∙ full_refusing_is 12 s.requires.4 s.requires.5 (sym (length_members n s.requires.1 s.args.plot_family.now s.args.plot)) (sym (length_members n s.requires.1 s.args.treatment_family.now s.args.size)) ∙ sym t.numbers;
      buffer = sym (written_again n s.requires.1 s.args.treatment_family.now s.args.size (omega (arith, s.requires.3.room, s.requires.3.few))) ∙ sym (told_buffer s.args.treatment_family.now t);
    }

pub returns : goal.returns
returns c =
    let s = (goal.at.returns c).Start in
    let n = s.args.n in
    let P = members_of n s.args.plot_family.now s.args.plot in
    let S = members_of n s.args.treatment_family.now s.args.size in
    let e = passed_12 P S n (pair s) (sym s.requires.4 ∙ c.if-at-ne0.false) in
    record {
      answer = c.from_13.ensures.answer ∙ ap full_numbers_of (sym e);
      buffer = c.from_13.ensures.buffer ∙ ap (treatment_buffer s.args.treatment_family.now) (sym e);
    }
