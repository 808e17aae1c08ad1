-- `convert`: 6, 2 and half of 3 are asked first.
use Prim.Native.Nat.{ℕ, ◌≤◌}
use mathlib.Core.Path.{◌≡◌, refl, sym, ap, ◌∙◌, subst}
use mathlib.Core.List.{List}
use mathlib.Core.Bool.{true, ◌&&◌}
use lib.Dec.{leb}
use native.Mathlib.Omega.{arith}
use borrow.Author.Tests.{leb-true}
use lib.ListN.{length, take}
use Rattle.rules.specs.Sheet.{newline, has, all, header}
use Rattle.rules.specs.SheetText.{sheet_buffer}
use Rattle.rules.specs.Parents.{slash_form, conversion, Converted}
use Rattle.rules.proofs.Sheet.{and_left, and_right}
use Rattle.rules.proofs.SheetText.{buffer_sheet}
use Rattle.rules.proofs.Parents.{conversion_converted}
use Rattle.writer.specs.Answers.{writing_numbers, answer_numbers}
use Rattle.conversion.specs.Answers.{HoldsConverted}
use Rattle.std.proofs.Common.{Result, Err}
use Rattle.std.proofs.lemmas.Grind.{common_steps}
use Rattle.rules.specs.Sheet.{within}
use Rattle.rules.specs.Limits.{most_text}
use Rattle.refusal.specs.declared.Refusal.{Refusal}
use Rattle.refusal.specs.declared.Refusal.TheVariants.{Limits, TextLength, FirstLine}
use Rattle.conversion.proofs.PlainLaws.{short_6, size_2, unformed_3, from_3}
use Rattle.conversion.proofs.convert.Goals as goal
use Rattle.conversion.proofs.convert.Goals.{After-contains}

-- the last clause follows from the others
whole : (old out after : List ℕ) (r : Result ℕ Refusal) → (writing_numbers r ≡ answer_numbers (conversion old (length out))) × (after ≡ sheet_buffer out (conversion old (length out)))
    → (writing_numbers r ≡ answer_numbers (conversion old (length out))) × ((after ≡ sheet_buffer out (conversion old (length out))) × HoldsConverted old (length out) after)
whole old out after r p = (
  p.0,
  (p.1, λ e levels h. subst (λ (t : List ℕ). Converted old t levels) (sym (ap (take (length (conversion old (length out)).sheet)) p.1 ∙ buffer_sheet out (conversion old (length out)))) (conversion_converted old (length out) levels e h)),
)

pub returns-then-out-lt-TEXT : goal.returns-then-out-lt-TEXT
unfolding writing_numbers answer_numbers
returns-then-out-lt-TEXT c =
    let a = c.args in
    let o = a.old.now in
    let l = length a.out.now in
    let all = whole o a.out.now a.out.now (Err Limits) (rw (short_6 o l (omega arith)) (refl, refl)) in record { answer = all.0; sheet = all.1.0; converted = all.1.1 }

in_range : (c : After-contains) → within 1 most_text (length c.args.old.now) ≡ c.contains.result
in_range c = let e = c.contains.ensures.value in let f = c.new.ensures in grind (arith, common_steps)

least : (c : After-contains) → c.contains.result ≡ true → 1 ≤ length c.args.old.now
least c e = let o = c.args.old.now in leb-true 1 (length o) (and_left (leb 1 (length o)) (leb (length o) 32768) (in_range c ∙ e))

most : (c : After-contains) → c.contains.result ≡ true → length c.args.old.now ≤ 32768
most c e = let o = c.args.old.now in leb-true (length o) 32768 (and_right (leb 1 (length o)) (leb (length o) 32768) (in_range c ∙ e))

pub returns-then-not-contains : goal.returns-then-not-contains
unfolding writing_numbers answer_numbers
returns-then-not-contains c =
    let a = c.args in
    let o = a.old.now in
    let l = length a.out.now in
    let all = whole o a.out.now a.out.now (Err TextLength) (rw (size_2 o l (omega arith) (in_range (goal.at.returns-then-not-contains c).After-contains ∙ c.if-not-contains.true)) (refl, refl)) in record { answer = all.0; sheet = all.1.0; converted = all.1.1 }

pub returns-then-not-slashes_formed : goal.returns-then-not-slashes_formed
unfolding writing_numbers answer_numbers
returns-then-not-slashes_formed c =
    let w = (goal.at.returns-then-not-slashes_formed c).After-contains in
    let a = c.args in
    let o = a.old.now in
    let l = length a.out.now in
    let all = whole o a.out.now a.out.now (Err FirstLine) (rw (unformed_3 o l (omega arith) (least w c.if-not-contains.false) (most w c.if-not-contains.false) (sym c.slashes_formed.ensures ∙ c.if-not-slashes_formed.true)) (refl, refl)) in record { answer = all.0; sheet = all.1.0; converted = all.1.1 }

pub convert_formed-requires : goal.convert_formed-requires
convert_formed-requires c =
    let w = (goal.at.convert_formed-requires c).After-contains in
    let a = c.args in
    let o = a.old.now in
    let l = length a.out.now in
    let y : has newline o && all slash_form (header o) ≡ true = sym c.slashes_formed.ensures ∙ c.if-not-slashes_formed.false in
    record {
      room = omega arith;
      size = in_range w ∙ c.if-not-contains.false;
      ended = and_left (has newline o) (all slash_form (header o)) y;
      slashes = and_right (has newline o) (all slash_form (header o)) y;
    }

pub returns : goal.returns
returns c =
    let w = (goal.at.returns c).After-contains in
    let a = c.args in
    let o = a.old.now in
    let l = length a.out.now in
    let k = c.convert_formed in
    let all = whole o a.out.now k.new.out k.result (rw (from_3 o l (omega arith) (least w c.if-not-contains.false) (most w c.if-not-contains.false)) (k.ensures.answer, k.ensures.sheet)) in record { answer = all.0; sheet = all.1.0; converted = all.1.1 }
