-- `list_cells` meets its contract: the list is that of the plots passed.
use Rattle.standing.specs.Cells.{Cover}
use Rattle.standing.proofs.meet.list_cells.Given as goal

abbrev pub invariant-loop-u : goal.invariant-loop-u
invariant-loop-u l = Cover l.u l.columns.f.now l.columns.g.now l.cells.f l.cells.g l.cells.count
