-- What is known on the way to the answer, and what the output holds afterwards.
-- Assumes nothing.
use Rattle.std.specs.Prelude.{true, List, ◌≡◌, ℕ, ◌≤◌, length, take}
use Rattle.rules.specs.Limits.{most_text, table_cells, family_bytes}
use Rattle.rules.specs.Sheet.{joined}
use Rattle.rules.specs.Formula.{Formula, counts_of, plot_count, header_of, IsFormula, question18, formula_sheet, Planned}

-- "such a sheet is always read, and its plot design is refused by 8 or not at all": what an output that begins with a formula's sheet holds, for any
-- level table and family buffer that are long enough
abbrev pub HoldsPlanned : List ℕ → ℕ → List ℕ → Type 0
HoldsPlanned text outLength out =
    (formula_sheet text outLength).refusal ≡ 0 → (levels : List ℕ) (b : ℕ) → table_cells ≤ length levels → family_bytes ≤ b
    → Planned text (take (length (formula_sheet text outLength).sheet) out) levels b

-- the text is a formula within the limits, with its first line, its counts and its number of plots
pub record Within (text line counts : List ℕ) (plots outLength : ℕ) : Type 0 where
  pub room : most_text ≤ outLength
  pub formula : Formula
  pub is_formula : IsFormula text formula
  pub limits : question18 formula ≡ true
  pub line_is : line ≡ joined (header_of formula)
  pub counts_are : counts ≡ counts_of formula
  pub plots_are : plots ≡ plot_count (counts_of formula)
