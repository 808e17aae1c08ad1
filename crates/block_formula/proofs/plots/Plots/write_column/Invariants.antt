-- `Plots::write_column`: one level after another is written.
use Rattle.std.proofs.Common.{◌≡◌, ◌<◌, ℕ, suc, get_or}
use Rattle.block_formula.specs.Plots.{code_of, in_set}
use Rattle.block_formula.proofs.plots.Plots.write_column.Given as goal

abbrev pub invariant-loop-u : goal.invariant-loop-u
invariant-loop-u l = (k : ℕ) → k < l.u → get_or l.column k 0 ≡ suc (code_of l.self.counts.now (in_set l.seen) k)
