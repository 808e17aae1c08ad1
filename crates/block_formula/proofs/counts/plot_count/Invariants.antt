-- `counts::plot_count`. The loop's invariant: the plots so far times those of the counts that are left, cut at 241, are the answer.
use Rattle.std.proofs.Common.{◌≡◌, ◌*◌, ◌≤◌, min, drop}
use Rattle.rules.specs.Formula.{plot_count}
use Rattle.block_formula.proofs.counts.plot_count.Given as goal

abbrev pub invariant-loop-count : goal.invariant-loop-count
invariant-loop-count l = (l.plots ≤ 241) × (min 241 (l.plots * plot_count (drop l.count-index l.counts)) ≡ min 241 (plot_count l.counts))
