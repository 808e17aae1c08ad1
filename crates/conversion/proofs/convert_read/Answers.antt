-- `convert_read`: 23, or the sheet of the converted columns.
use Rattle.std.proofs.Common.{ℕ, List, Option, Some, ◌+◌, ◌≡◌, refl, sym, ap, ◌∙◌, subst, true, arith, length, take, length-take, length-take-le}
use Rattle.std.proofs.lemmas.Result.{err_from_is_err_and}
use Rattle.rules.specs.Sheet.{header}
use Rattle.rules.specs.Parents.{converted_sheet}
use Rattle.decimal.proofs.Writing.{wrote_as, written_all, place_all}
use Rattle.sheet.specs.Answers.{headed}
use Rattle.conversion.specs.Plain.{parents_of}
use Rattle.conversion.specs.Table.{Convertible, ConvertedTo}
use Rattle.writer.specs.Answers.{writing_numbers, answer_numbers}
use Rattle.conversion.proofs.PlainLaws.{text_size}
use Rattle.conversion.proofs.ConvertLaws.{same_length, read_room, field_count, few_fields, header_some, columns_long, line_end, line_taken, answer_23, answer_0, found_length, parents_convertible, sheet_written, sheet_fits}
use Rattle.conversion.proofs.convert_read.Goals as goal
use Rattle.conversion.proofs.convert_read.Goals.{After-unwrap-header}

-- as many fields as columns
abbrev fields : After-unwrap-header → ℕ
fields w = w.args.counts.plot_columns + w.args.counts.treatment_columns

-- the first line was read
header_is : (w : After-unwrap-header) → headed w.args.plain.now ≡ Some w.unwrap-header.result
header_is w = sym w.read_header.ensures ∙ w.unwrap-header.ensures

-- the parents' places, one for each field
abbrev parents : After-unwrap-header → List (Option ℕ)
parents w = take (fields w) w.in_ok-parents.parents

found : (w : After-unwrap-header) → parents w ≡ parents_of (header w.args.plain.now) (header w.args.old.now)
found w =
    let a = w.args in
    ap (λ (k : ℕ). take k w.in_ok-parents.parents) (sym (field_count a.old.now a.plain.now a.counts a.levels.now (length a.out.now) w.requires)) ∙ w.in_ok-parents.ensures.1

long : (w : After-unwrap-header) → length (parents w) ≡ fields w
long w = let a = w.args in found_length a.old.now a.plain.now a.counts a.levels.now (length a.out.now) w.requires w.in_ok-parents.ensures.0 (parents w) (found w)

pub parent_places-requires : goal.parent_places-requires
parent_places-requires c =
    let a = c.args in
    let f = c.requires.formed in
    let count = field_count a.old.now a.plain.now a.counts a.levels.now (length a.out.now) c.requires in
    let few = few_fields a.old.now a.plain.now a.counts a.levels.now (length a.out.now) c.requires in
    record {
      ended = f.ended;
      few = omega (arith, count, few);
      alike = omega (arith, same_length a.old.now a.plain.now a.counts a.levels.now (length a.out.now) c.requires);
      size = rw c.requires.is_plain (text_size a.old.now (length a.out.now) f c.requires.before (read_room a.old.now a.plain.now a.counts a.levels.now (length a.out.now) c.requires));
    }

pub returns-in_err-parents : goal.returns-in_err-parents
unfolding writing_numbers answer_numbers
returns-in_err-parents c =
    let a = c.args in
    let q = c.in_err-parents.ensures in
    let p = err_from_is_err_and c.from_residual.result c.from_residual.ensures.1 in
    let e = answer_23 a.old.now a.plain.now a.counts a.levels.now (length a.out.now) c.requires q.1 in
    record { answer = rw (p.1, p.2, q.0, e) refl; sheet = rw e refl }

pub unwrap-header-requires : goal.unwrap-header-requires
unwrap-header-requires c =
    let a = c.args in
    rw (c.read_header.ensures ∙ header_some a.old.now a.plain.now a.counts a.levels.now (length a.out.now) c.requires) refl

pub overflow_add-n : goal.overflow_add-n
overflow_add-n c =
    let a = c.args in
    omega (arith, few_fields a.old.now a.plain.now a.counts a.levels.now (length a.out.now) c.requires)

pub slice_bounds-parents-end : goal.slice_bounds-parents-end
slice_bounds-parents-end c =
    let w = (goal.at.slice_bounds-parents-end c).After-unwrap-header in
    omega (arith, long w, length-take (fields w) w.in_ok-parents.parents)

pub slice_bounds-convert_columns-end-2 : goal.slice_bounds-convert_columns-end-2
slice_bounds-convert_columns-end-2 c = sym (long (goal.at.slice_bounds-convert_columns-end-2 c).After-unwrap-header)

pub convert_columns-requires : goal.convert_columns-requires
convert_columns-requires c =
    let w = (goal.at.convert_columns-requires c).After-unwrap-header in
    let a = w.args in
    let h = w.unwrap-header.result in
    subst (λ (m : ℕ). Convertible h.columns (parents w) m a.counts.plots (length a.levels.now)) (sym (long w))
    (parents_convertible a.old.now a.plain.now a.counts a.levels.now (length a.out.now) w.requires w.in_ok-parents.ensures.0 (parents w) (found w) h (header_is w))

pub slice_bounds-line-count : goal.slice_bounds-line-count
slice_bounds-line-count c =
    let w = (goal.at.slice_bounds-line-count c).After-unwrap-header in
    let a = w.args in
    omega (arith, line_end a.old.now a.plain.now a.counts a.levels.now (length a.out.now) w.requires w.unwrap-header.result (header_is w))

pub slice_bounds-line-length : goal.slice_bounds-line-length
slice_bounds-line-length c =
    let w = (goal.at.slice_bounds-line-length c).After-unwrap-header in
    let a = w.args in
    let h = w.unwrap-header.result in
    omega (arith, line_end a.old.now a.plain.now a.counts a.levels.now (length a.out.now) w.requires h (header_is w), ap length (line_taken a.old.now a.plain.now a.counts a.levels.now (length a.out.now) w.requires h (header_is w)))

pub slice_bounds-columns-end : goal.slice_bounds-columns-end
slice_bounds-columns-end c =
    let w = (goal.at.slice_bounds-columns-end c).After-unwrap-header in
    let a = w.args in
    columns_long a.old.now a.plain.now a.counts a.levels.now (length a.out.now) w.requires w.unwrap-header.result (header_is w)

pub slice_bounds-write_sheet-end : goal.slice_bounds-write_sheet-end
slice_bounds-write_sheet-end c =
    let w = (goal.at.slice_bounds-write_sheet-end c).After-unwrap-header in
    let a = w.args in
    let h = w.unwrap-header.result in
    sym (length-take-le (fields w) h.columns (columns_long a.old.now a.plain.now a.counts a.levels.now (length a.out.now) w.requires h (header_is w)))

pub returns : goal.returns
unfolding writing_numbers answer_numbers
returns c =
    let w = (goal.at.returns c).After-unwrap-header in
    let a = w.args in
    let h = w.unwrap-header.result in
    let k = c.convert_columns in
    let out = a.out.now in
    let left = w.in_ok-parents.ensures.0 in
    let text = converted_sheet a.old.now in
    let made : ConvertedTo h.columns (parents w) (fields w) a.counts.plots a.levels.now k.new.levels =
    subst (λ (m : ℕ). ConvertedTo h.columns (parents w) m a.counts.plots a.levels.now k.new.levels) (long w) k.ensures in
    let wrote = wrote_as out 0 (sheet_written a.old.now a.plain.now a.counts a.levels.now (length a.out.now) w.requires left (parents w) (found w) h (header_is w) k.new.levels made) c.write_sheet.ensures in
    let fits = sheet_fits a.old.now a.plain.now a.counts a.levels.now (length a.out.now) w.requires left in
    let z = answer_0 a.old.now a.plain.now a.counts a.levels.now (length a.out.now) w.requires left in
    record {
      answer = rw z (ap (λ (m : ℕ). record { accepted = true; refusal = 0; size = m }) (wrote.0 ∙ place_all out text fits));
      sheet = rw z (wrote.1 ∙ written_all out text fits);
    }
