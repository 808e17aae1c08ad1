-- The bytes of a sheet written from a level table.
-- Assumes nothing.
use Rattle.std.specs.Prelude.{List, [], ◌∷◌, ◌++◌, map, ℕ, zero, suc}
use Rattle.rules.specs.Lists.{tabulate}
use Rattle.rules.specs.Factor.{Column}
use Rattle.rules.specs.Sheet.{Field, newline, tab, joined, printed}
use Rattle.rules.specs.SheetText.{row_of}
use Rattle.factor.specs.Lent.{column_at}

-- the columns with these numbers of a level table on n plots
abbrev pub columns_at : ℕ → List ℕ → List ℕ → List Column
columns_at n levels cs = map (column_at n levels) cs

-- the line of plot u in these columns
unfoldable pub line_bytes : List Column → ℕ → List ℕ
unfolding joined row_of
line_bytes Cs u = joined (row_of Cs u) ++ newline ∷ []

-- field i of a line, from 0, with the tab before it
abbrev pub field_bytes : ℕ → Field → List ℕ
field_bytes zero f = f
field_bytes (suc i) f = tab ∷ f

-- a first line, and for each of n plots its levels in these columns
unfoldable pub sheet_bytes : List ℕ → ℕ → List Column → List ℕ
unfolding printed tabulate row_of
sheet_bytes line n Cs = line ++ newline ∷ printed (tabulate (row_of Cs) n)

-- the same of a level table
abbrev pub table_sheet : List ℕ → ℕ → List ℕ → List ℕ → List ℕ
table_sheet line n levels cs = sheet_bytes line n (columns_at n levels cs)
