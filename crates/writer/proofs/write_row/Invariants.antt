-- `write_row`: what is still to be written is the rest of the line.
use Rattle.decimal.proofs.Writing.{Rest}
use Rattle.writer.proofs.Rows.{left}
use Rattle.writer.proofs.write_row.Given as goal

abbrev pub invariant-loop-i : goal.invariant-loop-i
invariant-loop-i l =
    Rest l.out l.next (left l.plots l.levels l.columns l.u l.i) l.initial.out l.at (left l.plots l.levels l.columns l.u 0)
