-- `write_sheet`: after the first line, what is still to be written is the rest of the lines.
use Rattle.decimal.proofs.Writing.{Rest}
use Rattle.writer.specs.Rows.{columns_at}
use Rattle.writer.proofs.Rows.{lines_from}
use Rattle.writer.proofs.write_sheet.Given as goal

abbrev pub invariant-loop-u : goal.invariant-loop-u
invariant-loop-u l =
    Rest l.out l.at (lines_from l.plots (columns_at l.plots l.levels l.columns) l.u) l.initial.out l.initial.at (lines_from l.plots (columns_at l.plots l.levels l.columns) 0)
