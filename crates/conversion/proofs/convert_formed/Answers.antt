-- `convert_formed`: what the reader answers of the plain text.
use Prim.Native.Nat.{ℕ, ◌≤◌}
use mathlib.Core.Path.{◌≡◌, refl, sym, ap, ap₂, ◌∙◌}
use mathlib.Core.List.{List}
use native.Mathlib.Omega.{arith}
use lib.ListN.{length, take, drop, replicate, length-take, length-replicate}
use lib.Seq.{take_at}
use Rattle.rules.specs.Sheet.{refused, reading}
use Rattle.rules.specs.SheetText.{no_sheet}
use Rattle.rules.specs.Parents.{conversion_from3}
use borrow.Author.Tests.{ne_eqb}
use Rattle.rules.proofs.TableSize.{reading_number}
use Rattle.decimal.proofs.Writing.{written_all, place_all}
use Rattle.sheet.specs.Answers.{outcome_of}
use Rattle.conversion.specs.Plain.{plain_text}
use Rattle.writer.specs.Answers.{writing_numbers, answer_numbers}
use Rattle.conversion.proofs.PlainLaws.{text_size, plain_answers, answer_after}
use Rattle.std.proofs.lemmas.Result.{err_from_is_err_and}
use Rattle.refusal.specs.Numbers.{number_of}
use Rattle.conversion.proofs.convert_formed.Goals as goal
use Rattle.conversion.proofs.convert_formed.Goals.{After-write_plain-size}

abbrev zeros : ℕ → List ℕ
zeros n = replicate n 0

-- the level table before it is read
table : 2880 ≤ length (zeros 2880)
table = let z : ℕ = 0 in omega (arith, length-replicate 2880 z)

-- the plain text is written whole
fits : (w : After-write_plain-size) → length (plain_text w.args.old.now) ≤ length (zeros 32768)
fits w =
    let s = w in
    let z : ℕ = 0 in
    omega (arith, length-replicate 32768 z, text_size s.args.old.now (length s.args.out.now) s.requires (zeros 2880) table)

plain-length : (w : After-write_plain-size) → w.write_plain-size.result ≡ length (plain_text w.args.old.now)
plain-length w = w.write_plain-size.ensures.0 ∙ place_all (zeros 32768) (plain_text w.args.old.now) (fits w)

plain-is : (w : After-write_plain-size) → take w.write_plain-size.result w.write_plain-size.new.out ≡ plain_text w.args.old.now
plain-is w =
    let t = plain_text w.args.old.now in
    ap₂ take (plain-length w) (w.write_plain-size.ensures.1 ∙ written_all (zeros 32768) t (fits w)) ∙ take_at t (drop (length t) (zeros 32768)) (length t) refl

pub slice_bounds-text-end : goal.slice_bounds-text-end
slice_bounds-text-end c =
    let w = (goal.at.slice_bounds-text-end c).After-write_plain-size in
    omega (arith, plain-length w, ap length (plain-is w), length-take w.write_plain-size.result w.write_plain-size.new.out)

pub slice_bounds-plain-end : goal.slice_bounds-plain-end
slice_bounds-plain-end c =
    let w = (goal.at.slice_bounds-plain-end c).After-write_plain-size in
    plain-length w ∙ sym (ap length (plain-is w))

pub convert_read-requires : goal.convert_read-requires
convert_read-requires c =
    let w = (goal.at.convert_read-requires c).After-write_plain-size in
    let s = w in
    let sheet = c.read_sheet in
    record {
      formed = s.requires;
      is_plain = plain-is w;
      before = zeros 2880;
      is_read = sym sheet.ensures.answer ∙ ap outcome_of c.in_ok-counts.was;
      table = sheet.ensures.table;
    }

pub returns-in_err-counts : goal.returns-in_err-counts
unfolding writing_numbers answer_numbers answer_after
returns-in_err-counts c =
    let w = (goal.at.returns-in_err-counts c).After-write_plain-size in
    let a = w.args in
    let p = err_from_is_err_and c.from_residual.result c.from_residual.ensures.1 in
    let q = c.in_err-counts.field-0.0 in
    let is : reading (plain_text a.old.now) (zeros 2880) ≡ refused (number_of q) = ap (λ (t : List ℕ). reading t (zeros 2880)) (sym (plain-is w)) ∙ sym c.in_err-counts.ensures.answer in
    let e : conversion_from3 a.old.now ≡ no_sheet (number_of q) = plain_answers a.old.now (length a.out.now) w.requires (zeros 2880) table ∙ ap (answer_after a.old.now) is in
    let some = (reading_number (plain_text a.old.now) (zeros 2880) (number_of q) is).0 in
    rw (p.1, p.2) record { answer = rw e (rw (ne_eqb (number_of q) 0 (λ z. omega arith)) refl); sheet = rw e refl }
