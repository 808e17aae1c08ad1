-- `print`: the line of a refusal by 1 to 5, or the text of the design.
use mathlib.Core.Path.{◌≡◌, sym, ap, ◌∙◌}
use mathlib.Core.List.{[], ◌∷◌}
use Prim.Native.Nat.{ℕ}
use Rattle.rules.specs.Sheet.{read, refused, reading}
use Rattle.rules.specs.Table.{rows_bytes, refused_row, dash, empty_table}
use Rattle.rules.proofs.ReadSheets.{read_questions}
use Rattle.rules.proofs.Sheet.{read_accepts}
use Rattle.decimal.proofs.Writing.{wrote_as}
use Rattle.refusal.specs.declared.Refusal.{Refusal}
use Rattle.refusal.specs.Numbers.{number_of}
use Rattle.sheet.specs.Answers.{outcome_of}
use Rattle.sheet.specs.declared.Counts.{Counts}
use Rattle.std.specs.Prelude.{Result}
use Rattle.table.specs.Answers.{refused_number}
use Rattle.table.proofs.TableLaws.{refused_text, read_text, levels_long}
use Rattle.table.proofs.print.Goals as goal

pub returns-in_default : goal.returns-in_default
unfolding empty_table
returns-in_default c =
    let a = c.args in
    let sheet = c.read_sheet-reading in
    let told = c.in_default in
    let q = number_of told.field-0 in
    let e : refused q ≡ reading a.text.now empty_table = sym (ap outcome_of told.is) ∙ sheet.ensures.answer in
    let is : c.reading_refusal.result ≡ q = c.reading_refusal.ensures ∙ ap (λ (x : Result Counts Refusal). refused_number (outcome_of x)) told.is in
    wrote_as a.out.now 0
    (ap (λ (m : ℕ). rows_bytes (refused_row m dash dash ∷ [])) is ∙ refused_text a.text.now q e)
    c.put_refused.ensures

pub print_design-requires : goal.print_design-requires
unfolding empty_table
print_design-requires c =
    let text = c.args.text.now in
    let sheet = c.read_sheet-reading in
    let given = c.in-Ok in
    let k = given.counts in
    let e : reading text empty_table ≡ read k.plots k.plot_columns k.treatment_columns = sym sheet.ensures.answer ∙ ap outcome_of given.is in
    let w = read_accepts text empty_table k.plots k.plot_columns k.treatment_columns e in (
      (read_questions text empty_table k.plots k.plot_columns k.treatment_columns e).1,
      w.plots_some,
      w.plots_few,
      levels_long text sheet.new.levels sheet.ensures.table,
      record { plot_columns_holds = w.plot_columns_holds; treatment_columns_holds = w.treatment_columns_holds },
    )

pub returns : goal.returns
unfolding empty_table
returns c =
    let a = c.args in
    let sheet = c.read_sheet-reading in
    let given = c.in-Ok in
    let k = given.counts in
    let e : read k.plots k.plot_columns k.treatment_columns ≡ reading a.text.now empty_table = sym (ap outcome_of given.is) ∙ sheet.ensures.answer in
    wrote_as a.out.now 0
    (read_text a.text.now k.plots k.plot_columns k.treatment_columns sheet.new.levels e sheet.ensures.table)
    c.print_design.ensures
