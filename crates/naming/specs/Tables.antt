-- The columns of a table of numbered columns.
-- Assumes nothing.
use Rattle.std.specs.Prelude.{List}
use Rattle.rules.specs.Factor.{Column}
use Rattle.rules.specs.Family.{members_of}
use Rattle.naming.specs.declared.columns.ColumnTable.{ColumnTable}

-- one by one
abbrev pub columns_in : ColumnTable → List Column
columns_in t = members_of t.plots t.bytes.now t.count
