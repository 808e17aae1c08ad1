-- The limits, each named once.
-- "Limits: 1 to 240 plots (N); 0 to 6 plot columns; 0 to 6 treatment columns; 1 to 32 members in a family; interaction level k from 1 to 6; sheet text 1 to 32,768 bytes."
use Rattle.std.specs.Prelude.{ℕ, ◌≤◌}

-- plots of a sheet, and the distance from one column or member to the next in lent memory
abbrev pub most_plots : ℕ
most_plots = 240

-- columns of one kind
abbrev pub most_columns : ℕ
most_columns = 6

-- members of a family
abbrev pub most_members : ℕ
most_members = 32

-- the interaction level k
abbrev pub most_interaction : ℕ
most_interaction = 6

-- "all lent slices long enough (level table 2,880, family 7,680, name 96)"; "The name buffer grows from 96 to 160 bytes"
abbrev pub table_cells : ℕ
table_cells = 2880

abbrev pub family_bytes : ℕ
family_bytes = 7680

abbrev pub name_bytes : ℕ
name_bytes = 160

-- bytes of a sheet's text
abbrev pub most_text : ℕ
most_text = 32768

-- fields of a line: "1 to 12 fields"
abbrev pub most_fields : ℕ
most_fields = 12

-- a level: "1 to 4294967295"
abbrev pub most_level : ℕ
most_level = 4294967295

-- a level of the older sheets: 1 to 65535
abbrev pub most_older_level : ℕ
most_older_level = 65535

-- bytes of a column's name after its first: "a letter and then 1 to 11 letters or digits"
abbrev pub most_name_tail : ℕ
most_name_tail = 11

-- bytes of a formula: "1 to 256 bytes"
abbrev pub most_formula : ℕ
most_formula = 256

-- a count in a formula: "2 to 240"
abbrev pub least_count : ℕ
least_count = 2

abbrev pub most_count : ℕ
most_count = 240

-- 6 for the plot design: "Are the plot count, column counts .. within limits, .. and are all lent slices long enough"
pub record PlotLimits (n c tableLength bufferLength : ℕ) : Type 0 where
  pub plots_some : 1 ≤ n
  pub plots_few : n ≤ most_plots
  pub columns : c ≤ most_columns
  pub table : table_cells ≤ tableLength
  pub room : family_bytes ≤ bufferLength
