-- Laws of questions 6, 17 and 18, asked in turn.
-- Assumes nothing.
use mathlib.Core.Path.{◌≡◌, refl, sym, ap, ◌∙◌, subst}
use mathlib.Core.Bool.{true, false}
use mathlib.Core.List.{List, [], ◌∷◌, append-nil}
use Prim.Native.Nat.{ℕ, zero, suc, ◌≤◌, ◌<◌}
use native.Mathlib.Omega.{arith}
use lib.Dec.{leb}
use lib.ListN.{length, take}
use borrow.Author.Tests.{le-leb, lt-leb, leb-true}
use Rattle.rules.specs.Limits.{most_plots, most_columns, most_text, most_formula}
use Rattle.rules.specs.Sheet.{within, names_differ}
use Rattle.rules.specs.Family.{columns_from, members_of}
use Rattle.rules.specs.SheetText.{no_sheet, sheet_buffer}
use Rattle.rules.specs.Formula.{Formula, Planned, names_of, counts_of, plot_count, columns_of, header_of, operators, items, Written, IsFormula, Parsed, nothing, parsed, formula_at, whole, formula_of, question18, question17, formula_sheet}
use Rattle.rules.proofs.Numbering.{by_cases}
use Rattle.rules.proofs.Members.{clash}
use Rattle.rules.proofs.Sheet.{and_left, and_right, and_false}
use Rattle.rules.proofs.Grammar.{Begins, some, formula_begins}
use Rattle.rules.proofs.Formula.{counts_names, written_good, plots_some, answered_18, formula_planned}
use Rattle.rules.proofs.SheetText.{buffer_sheet}
use Rattle.writer.specs.Answers.{writing_numbers, answer_numbers}
use Rattle.std.proofs.Common.{Err}
use Rattle.refusal.specs.declared.Refusal.TheVariants.{Limits}
use Rattle.writer.specs.Rows.{columns_at}
use Rattle.block_formula.specs.Text.{to_end, readable}
use Rattle.block_formula.specs.Plots.{columns_in}
use Rattle.block_formula.specs.Answers.{Within, HoldsPlanned}
use Rattle.block_formula.proofs.NestingLaws.{seen_text_lem}
use Rattle.block_formula.proofs.PlotLaws.{columns_are}

-- ---- 6

pub short_6 : (text : List ℕ) (outLength : ℕ) → outLength < most_text → formula_sheet text outLength ≡ no_sheet 6
unfolding formula_sheet
short_6 text outLength h = rw (lt-leb most_text outLength h, formula_sheet)

-- what is answered and left where the buffer is too short
pub short_numbers : (text : List ℕ) (m : ℕ) → m < 32768 → writing_numbers (Err Limits) ≡ answer_numbers (formula_sheet text m)
unfolding writing_numbers answer_numbers
short_numbers text m h = rw (short_6 text m h)

pub short_sheet : (text out : List ℕ) → length out < 32768 → out ≡ sheet_buffer out (formula_sheet text (length out))
short_sheet text out h = rw (short_6 text (length out) h)

-- the last clause follows from the others
pub planned_by : (text out after : List ℕ) → after ≡ sheet_buffer out (formula_sheet text (length out)) → HoldsPlanned text (length out) after
planned_by text out after p e levels b h k =
    subst (λ (t : List ℕ). Planned text t levels b) (sym (ap (take (length (formula_sheet text (length out)).sheet)) p ∙ buffer_sheet out (formula_sheet text (length out)))) (formula_planned text (length out) levels b e h k)

pub short_planned : (text out : List ℕ) → length out < 32768 → HoldsPlanned text (length out) out
short_planned text out h = planned_by text out out (short_sheet text out h)

-- ---- 17

module _ (text : List ℕ) (outLength : ℕ) (room : most_text ≤ outLength) where
  asked : formula_sheet text outLength ≡ question17 (formula_of text)
  unfolding formula_sheet
  asked = rw (le-leb most_text outLength room, formula_sheet)

  pub unreadable_17 : readable text ≡ false → formula_sheet text outLength ≡ no_sheet 17
  unfolding readable formula_of question17 whole
  unreadable_17 e =
      asked
      ∙ by_cases (within 1 most_formula (length text))
      (λ w. rw (w, formula_of) (go (formula_at (suc (length text)) operators text) (rw w at e)))
      (λ w. rw (w, formula_of))
    where
      go : (q : Parsed) → to_end q ≡ false → question17 (whole q) ≡ no_sheet 17
      go nothing z = refl
      go (parsed f []) z = clash refl z
      go (parsed f (x ∷ xs)) z = refl

-- a text that is a formula but for its names
pub record Readable (text : List ℕ) : Type 0 where
  pub formula : Formula
  pub least : 1 ≤ length text
  pub most : length text ≤ most_formula
  pub reads : formula_at (suc (length text)) operators text ≡ parsed formula []
  pub written : Written (items operators) text formula

pub is_readable : (text : List ℕ) → readable text ≡ true → Readable text
unfolding readable
is_readable text e =
    let w = and_left (within 1 most_formula (length text)) (to_end (formula_at (suc (length text)) operators text)) e in
    go w (formula_at (suc (length text)) operators text) refl (formula_begins (suc (length text)) operators text) (and_right (within 1 most_formula (length text)) (to_end (formula_at (suc (length text)) operators text)) e)
  where
    go : within 1 most_formula (length text) ≡ true → (q : Parsed) → formula_at (suc (length text)) operators text ≡ q → Begins (items operators) text q → to_end q ≡ true → Readable text
    go w nothing r b z = clash z refl
    go w (parsed f (x ∷ xs)) r b z = clash z refl
    go w (parsed f []) r (some s y v) z = record {
      formula = f;
      least = leb-true 1 (length text) (and_left (leb 1 (length text)) (leb (length text) most_formula) w);
      most = leb-true (length text) most_formula (and_right (leb 1 (length text)) (leb (length text) most_formula) w);
      reads = r;
      written = subst (λ (l : List ℕ). Written (items operators) l f) (sym (y ∙ append-nil s)) v;
    }

module _ (text : List ℕ) (outLength : ℕ) (room : most_text ≤ outLength) (r : Readable text) where
  pub alike_17 : names_differ (header_of r.formula) ≡ false → formula_sheet text outLength ≡ no_sheet 17
  unfolding formula_of question17 whole
  alike_17 e =
      asked text outLength room ∙ rw (le-leb 1 (length text) r.least, le-leb (length text) most_formula r.most, formula_of) (ap (λ (q : Parsed). question17 (whole q)) r.reads ∙ rw (e, whole))

  -- ---- 18

  module _ (differ : names_differ (header_of r.formula) ≡ true) where
    pub is_formula : IsFormula text r.formula
    is_formula = record { least = r.least; most = r.most; written = r.written; differ = differ }

    pub names_18 : most_columns < length (names_of r.formula) → formula_sheet text outLength ≡ no_sheet 18
    unfolding question18
    names_18 h = answered_18 text r.formula outLength room is_formula (rw (lt-leb (length (names_of r.formula)) most_columns h))

    pub plots_18 : most_plots < plot_count (counts_of r.formula) → formula_sheet text outLength ≡ no_sheet 18
    unfolding question18
    plots_18 h =
        answered_18 text r.formula outLength room is_formula (rw (lt-leb (plot_count (counts_of r.formula)) most_plots h) (and_false (leb (length (names_of r.formula)) most_columns)))

-- ---- a formula within the limits

pub within_limits_lem : (f : Formula) → length (names_of f) ≤ most_columns → plot_count (counts_of f) ≤ most_plots → question18 f ≡ true
unfolding question18
within_limits_lem f h l = rw (le-leb (length (names_of f)) most_columns h, le-leb (plot_count (counts_of f)) most_plots l)

module _ {text line counts : List ℕ} {plots outLength : ℕ} (w : Within text line counts plots outLength) where
  abbrev f : Formula
  f = w.formula

  pub few_names : length counts ≤ most_columns
  unfolding question18
  few_names =
      let n = leb-true (length (names_of f)) most_columns (and_left (leb (length (names_of f)) most_columns) (leb (plot_count (counts_of f)) most_plots) w.limits) in
      omega (arith, n, counts_names f, ap length w.counts_are)

  pub few_plots : plots ≤ most_plots
  unfolding question18
  few_plots =
      let n = leb-true (plot_count (counts_of f)) most_plots (and_right (leb (length (names_of f)) most_columns) (leb (plot_count (counts_of f)) most_plots) w.limits) in
      omega (arith, n, w.plots_are)

  -- the columns that the program works out are the formula's
  pub columns_in_lem : columns_in text counts plots ≡ columns_of f
  columns_in_lem =
      ap (λ (cs : List ℕ). columns_in text cs plots) w.counts_are ∙ ap (columns_in text (counts_of f)) w.plots_are
      ∙ columns_are text f (λ i j h l. seen_text_lem w.is_formula.written i h j l) (rw (ap length w.counts_are) at few_names) (plots_some (counts_of f) (written_good w.is_formula.written).counted)

-- the first columns of a level table, by their numbers
pub first_columns : (n : ℕ) (levels : List ℕ) (m : ℕ) → m ≤ most_columns → columns_at n levels (take m (0 ∷ 1 ∷ 2 ∷ 3 ∷ 4 ∷ 5 ∷ [])) ≡ members_of n levels m
unfolding members_of columns_from
first_columns n levels zero h = refl
first_columns n levels (suc zero) h = refl
first_columns n levels (suc (suc zero)) h = refl
first_columns n levels (suc (suc (suc zero))) h = refl
first_columns n levels (suc (suc (suc (suc zero)))) h = refl
first_columns n levels (suc (suc (suc (suc (suc zero))))) h = refl
first_columns n levels (suc (suc (suc (suc (suc (suc zero)))))) h = refl
first_columns n levels (suc (suc (suc (suc (suc (suc (suc m))))))) h = absurd (no m h)
  where
    no : (k : ℕ) → suc (suc (suc (suc (suc (suc (suc k)))))) ≤ 6 → ⊥
    no k z = omega arith
