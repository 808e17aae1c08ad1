-- `verdict::judge_treatments` meets its contract: a first treatment family that is too large, or question 12.
use mathlib.Core.Path.{refl, sym, ap, ◌∙◌}
use Rattle.rules.specs.Family.{members_of, written}
use Rattle.rules.specs.Design.{treatment_buffer}
use Rattle.rules.proofs.Buffer.{length_members}
use Rattle.design.specs.Answers.{full_numbers_of}
use Rattle.design.specs.Closings.{closed_in}
use Rattle.design.specs.Judging.{apart_at}
use Rattle.design.specs.declared.questions.Places as found
use Rattle.design.proofs.FullAnswered.{full_refusing_is, told_11, passed_11, told_buffer}
use Rattle.design.proofs.verdict.judge_treatments.Goals as goal

pub returns-in_default : goal.returns-in_default
unfolding written
returns-in_default c =
    let n = c.args.n in
    let P = members_of n c.args.plot_family.now c.args.plot in
    let first = c.args.treatment_family.now in
    let t = told_11 n P (closed_in n first c.args.closed) (ap (closed_in n first) c.in_default.is) in record {
      answer = c.treatments_refused.ensures ∙ full_refusing_is 11 refl refl (sym (length_members n c.requires.1 c.args.plot_family.now c.args.plot)) refl ∙ sym t.numbers;
      buffer = sym (told_buffer first t);
    }

pub first_apart-pair-requires : goal.first_apart-pair-requires
first_apart-pair-requires c =
    let w = rw c.in-Some.is at c.requires.3 in
    (w.0.few, w.1.places)

pub from_12-requires : goal.from_12-requires
unfolding apart_at
from_12-requires c =
    let w = rw c.in-Some.is at c.requires.3 in (
      c.requires.0,
      c.requires.1,
      c.requires.2,
      w.0,
      ap (λ (q : found.Places). q.first) c.first_apart-pair.ensures ∙ w.1.first,
      ap (λ (q : found.Places). q.second) c.first_apart-pair.ensures ∙ w.1.second,
    )

pub returns : goal.returns
returns c =
    let n = c.args.n in
    let P = members_of n c.args.plot_family.now c.args.plot in
    let first = c.args.treatment_family.now in
    let q = passed_11 n P (closed_in n first c.args.closed) (members_of n first c.in-Some.closed.size) (ap (closed_in n first) c.in-Some.is) in
    record {
      answer = c.from_12.ensures.answer ∙ ap full_numbers_of (sym q);
      buffer = c.from_12.ensures.buffer ∙ ap (treatment_buffer first) (sym q);
    }
