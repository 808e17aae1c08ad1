-- `columns::convert_columns`. The loop's invariant: the columns passed are converted, the others are as they were.
use Rattle.std.proofs.Common.{◌≡◌, List, ◌++◌, length, take, drop}
use Rattle.rules.specs.Factor.{Column}
use Rattle.writer.specs.Rows.{columns_at}
use Rattle.conversion.specs.Table.{Within}
use Rattle.conversion.proofs.columns.convert_columns.Given as goal

abbrev pub invariant-loop-i : goal.invariant-loop-i
invariant-loop-i l =
    (length l.levels ≡ length l.initial.levels)
    × ((Ds : List Column) → Within l.parents (columns_at l.plots l.initial.levels (take (length l.parents) l.columns)) Ds
    → columns_at l.plots l.levels (take (length l.parents) l.columns) ≡ take l.i Ds ++ drop l.i (columns_at l.plots l.initial.levels (take (length l.parents) l.columns)))
