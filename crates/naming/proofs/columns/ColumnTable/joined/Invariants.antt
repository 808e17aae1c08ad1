-- `joined` meets its contract: the columns from c on are joined.
use mathlib.Core.Bool.{false}
use mathlib.Core.Path.{◌≡◌}
use lib.ListN.{get_or, drop}
use Rattle.naming.specs.Columns.{side_of, join_by, made_of}
use Rattle.naming.specs.Tables.{columns_in}
use Rattle.naming.proofs.columns.ColumnTable.joined.Given as goal

abbrev pub invariant-loop-c : goal.invariant-loop-c
invariant-loop-c l = made_of l.self.plots (side_of l.self.plots l.side) l.made ≡ join_by (λ j. get_or l.there j false) (side_of l.self.plots l.side) l.c (drop l.c (columns_in l.self))
