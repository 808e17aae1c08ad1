-- `write_plots`: the columns of all names, written as a sheet.
use Prim.Native.Nat.{ℕ, ◌≤◌}
use mathlib.Core.Path.{◌≡◌, sym, ap, ap₂, ◌∙◌, subst}
use mathlib.Core.Bool.{true}
use mathlib.Core.List.{List, [], ◌∷◌}
use Rattle.std.proofs.Common.{length-take-le}
use native.Mathlib.Omega.{arith}
use lib.ListN.{length, length-replicate}
use Rattle.rules.specs.Factor.{Column}
use Rattle.rules.specs.SheetText.{SheetAnswer, sheet_text}
use Rattle.rules.specs.Formula.{plot_count, header_of, columns_of, sheet_of}
use Rattle.rules.proofs.Formula.{answered_0, formula_fits}
use Rattle.decimal.proofs.Writing.{wrote_as, written_all, place_all}
use Rattle.writer.specs.Rows.{sheet_bytes}
use Rattle.writer.specs.Answers.{writing_numbers, answer_numbers}
use Rattle.writer.proofs.Rows.{sheet_bytes_lem}
use Rattle.block_formula.specs.Answers.{Within}
use Rattle.block_formula.proofs.AnswerLaws.{few_names, few_plots, columns_in_lem, first_columns}
use Rattle.block_formula.proofs.write_plots.Goals as goal

-- the sheet of the formula's columns
written_is : {text line counts : List ℕ} {plots outLength : ℕ} (w : Within text line counts plots outLength) {Cs : List Column} → Cs ≡ columns_of w.formula → sheet_bytes line plots Cs ≡ sheet_of w.formula
unfolding sheet_of
written_is {plots = plots} w e =
    ap₂ (λ (l : List ℕ) (Ds : List Column). sheet_bytes l plots Ds) w.line_is e ∙ sheet_bytes_lem plots (header_of w.formula) (columns_of w.formula)
    ∙ ap (λ (n : ℕ). sheet_text n (header_of w.formula) (columns_of w.formula)) w.plots_are

pub slice_bounds-columns-end : goal.slice_bounds-columns-end
slice_bounds-columns-end c = sym (length-take-le (length c.args.counts.now) (0 ∷ 1 ∷ 2 ∷ 3 ∷ 4 ∷ 5 ∷ []) (few_names c.requires))

pub new-requires : goal.new-requires
new-requires c =
    let p = c.requires in
    record { names = few_names p; plots_are = p.plots_are ∙ ap plot_count (sym p.counts_are); few = few_plots p }

pub write_columns-requires : goal.write_columns-requires
write_columns-requires c =
    let z : ℕ = 0 in
    record { short = c.requires.is_formula.most; room = omega (arith, length-replicate 2880 z) }

pub returns : goal.returns
unfolding writing_numbers answer_numbers
returns c =
    let a = c.args in
    let p = c.requires in
    let out = a.out.now in
    let text = a.formula.now in
    let sheet = sheet_of p.formula in
    let k = c.write_columns in
    let written = rw (c.new.ensures.0, c.new.ensures.1) at k.ensures in
    let m = length a.counts.now in
    let columns = first_columns a.plots k.new.levels m (few_names p) ∙ written ∙ columns_in_lem p in
    let answer = answered_0 text p.formula (length out) p.room p.is_formula p.limits in
    let fits : length sheet ≤ length out = subst (λ (x : SheetAnswer). length x.sheet ≤ length out) answer (formula_fits text (length out)) in
    let wrote = wrote_as out 0 (written_is p columns) c.write_sheet.ensures in
    rw answer record {
      answer = ap (λ (n : ℕ). record { accepted = true; refusal = 0; size = n }) (wrote.0 ∙ place_all out sheet fits);
      sheet = wrote.1 ∙ written_all out sheet fits;
    }
