-- `Plots::code`. The loop's invariant: the code so far, and the code that what is left of the plot has in the names that are left, make the plot's code.
use Rattle.std.proofs.Common.{length}
use Rattle.block_formula.proofs.PlotLaws.{Coding}
use Rattle.block_formula.proofs.plots.Plots.code.Given as goal

abbrev pub invariant-loop-count : goal.invariant-loop-count
invariant-loop-count l = Coding l.self.counts.now l.fn.seen l.u l.code l.rest l.size (length l.yielded)
