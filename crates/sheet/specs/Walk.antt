-- What the steps of a walk over a text answer, by the rules' definitions. `xs` is the text from the walk's place on.
-- Assumes nothing.
use Rattle.std.specs.Prelude.{Bool, true, false, Option, Some, None, ◌&&◌, ◌||◌, List, [], ◌∷◌, ◌≡◌, ℕ, zero, suc, ◌+◌, ◌≤◌, eqb, ltb, length, get_or, drop}
use Rattle.rules.specs.Sheet.{Field, tab, newline, all, up_to, has, fields, lines, header, is_column, is_level, is_row, is_plot_line, decimal, decimal_from, plot_mark, treatment_mark}
use Rattle.rules.specs.Limits.{table_cells, most_fields, most_plots, most_level}
use Rattle.sheet.specs.declared.field.FieldLevel.{FieldLevel}

-- the field that xs starts with: the bytes before the first tab or newline
unfoldable pub field_of : List ℕ → Field
field_of [] = []
field_of (x ∷ xs) = elim (eqb x tab || eqb x newline) [ true ↦ [] | false ↦ x ∷ field_of xs ]

-- p or t
abbrev pub is_mark : ℕ → Bool
is_mark x = eqb x plot_mark || eqb x treatment_mark

-- xs starts with a column and then a tab or newline
unfoldable pub column_there : List ℕ → Bool
unfolding field_of is_column
column_there xs = ltb (length (field_of xs)) (length xs) && is_column (field_of xs)

-- the place of that byte, when xs stands at `at`
unfoldable pub column_end : ℕ → List ℕ → Option ℕ
unfolding column_there field_of
column_end at xs = elim (column_there xs) [ true ↦ Some (at + length (field_of xs)) | false ↦ None ]

-- a line that byte 10 ends, of columns only
abbrev pub OfColumns : List ℕ → Type 0
OfColumns xs = (has newline xs ≡ true) × (all is_column (header xs) ≡ true)

-- ---- later lines

-- xs starts with a level and then the byte `stop`
unfoldable pub level_there : ℕ → List ℕ → Bool
unfolding field_of is_level
level_there stop xs = ltb (length (field_of xs)) (length xs) && eqb (get_or xs (length (field_of xs)) 0) stop && is_level most_level (field_of xs)

-- the level that a field writes
unfoldable pub level_of : Field → Option ℕ
unfolding is_level decimal_from
level_of f = elim (is_level most_level f) [ true ↦ Some (decimal f) | false ↦ None ]

-- the level, and the place after that byte, when xs stands at `at`
unfoldable pub level_then : ℕ → ℕ → List ℕ → Option FieldLevel
unfolding level_there field_of decimal_from
level_then stop at xs = elim (level_there stop xs) [ true ↦ Some (record { end = at + suc (length (field_of xs)); level = decimal (field_of xs) }) | false ↦ None ]

-- the byte after a field that m others follow in its line
abbrev pub stop_before : ℕ → ℕ
stop_before zero = newline
stop_before (suc m) = tab

-- xs starts with a line of n levels
unfoldable pub row_there : ℕ → List ℕ → Bool
unfolding has is_row fields up_to
row_there n xs = has newline xs && is_row most_level n (fields (up_to newline xs))

-- the place after it
unfoldable pub row_end : ℕ → ℕ → List ℕ → Option ℕ
unfolding row_there up_to
row_end n at xs = elim (row_there n xs) [ true ↦ Some (at + suc (length (up_to newline xs))) | false ↦ None ]

-- ---- storing

-- a column of the level table
abbrev pub is_place : ℕ → Bool
is_place c = ltb c most_fields

-- what storing asks: a column of the level table for each field
pub record Store (columns : List ℕ) (cells : ℕ) : Type 0 where
  pub some : 1 ≤ length columns
  pub places : all is_place columns ≡ true
  pub room : table_cells ≤ cells

-- and of the lines: from `start` on so many plots, a line each
pub record PlotLines (text : List ℕ) (start n plots : ℕ) : Type 0 where
  pub counted : plots ≡ length (lines (drop start text))
  pub few : plots ≤ most_plots
  pub form : all (is_plot_line most_level n) (lines (drop start text)) ≡ true
