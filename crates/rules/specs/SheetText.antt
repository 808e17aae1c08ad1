-- Sheets that are written: the text of a sheet from its first line and its columns, and the answer of an entry that writes one.
-- Assumes nothing.
use Rattle.std.specs.Prelude.{List, [], ◌∷◌, ◌++◌, map, ℕ, ◌*◌, length, get_or, take, drop}
use Rattle.rules.specs.Limits.{most_plots}
use Rattle.rules.specs.Lists.{tabulate, decimal_of}
use Rattle.rules.specs.Factor.{Column, at}
use Rattle.rules.specs.Sheet.{Line, Field, fields, plot_mark, header, decimal, decimal_from, later_lines, columns_after, printed}

-- ---- columns and text

-- a plot column's field in the first line: `p:` and its name
abbrev pub plot_heading : List ℕ → Field
plot_heading name = plot_mark ∷ 58 ∷ name

-- the levels of plot u, one a column
unfoldable pub row_of : List Column → ℕ → List Field
unfolding decimal_of
row_of Cs u = map (λ (C : Column). decimal_of (at C u)) Cs

-- the sheet of n plots with this first line and these columns, one a field
unfoldable pub sheet_text : ℕ → List Field → List Column → List ℕ
unfolding printed tabulate row_of
sheet_text n fs Cs = printed (fs ∷ tabulate (row_of Cs) n)

-- the levels that stand in field j of each line, from 0
unfoldable pub field_column : List Line → ℕ → Column
unfolding fields decimal_from
field_column ls j = map (λ (l : Line). decimal (get_or (fields l.bytes) j [])) ls

-- the columns of a sheet, one a field of its first line
unfoldable pub sheet_columns : List ℕ → List Column
unfolding tabulate field_column later_lines header
sheet_columns text = tabulate (field_column (later_lines text)) (length (header text))

-- the columns of a level table on n plots that the fields of a first line take, in their order
unfoldable pub table_columns : ℕ → List Field → List ℕ → List Column
unfolding columns_after
table_columns n fs levels = map (λ (c : ℕ). take n (drop (most_plots * c) levels)) (columns_after 0 0 fs)

-- ---- the answer

-- the number of the refusal, 0 for none, and the sheet written
pub record SheetAnswer : Type 0 where
  pub refusal : ℕ
  pub sheet : List ℕ

-- no sheet is written
abbrev pub no_sheet : ℕ → SheetAnswer
no_sheet q = record { refusal = q; sheet = [] }

-- what the lent output holds afterwards: "bytes past it, and on a refusal all the output, are untouched"
abbrev pub sheet_buffer : List ℕ → SheetAnswer → List ℕ
sheet_buffer out a = a.sheet ++ drop (length a.sheet) out

-- ---- trials with known outcome

pub data SheetTrial : Type 0 where
  -- a text and the bytes lent; the number of the refusal and the sheet
  gives : List ℕ → ℕ → ℕ → List ℕ → SheetTrial

-- the trial with the outcome that an entry gives it
abbrev pub observed_by : (List ℕ → ℕ → SheetAnswer) → SheetTrial → SheetTrial
observed_by entry (gives text lent q sheet) = gives text lent (entry text lent).refusal (entry text lent).sheet
