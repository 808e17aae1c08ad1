use Rattle.std.proofs.Common.{arith}
use Rattle.block_formula.specs.Plots.{in_set}
use Rattle.block_formula.proofs.PlotLaws.{code_few, levels_all}
use Rattle.block_formula.proofs.plots.Plots.write_column.Goals as goal

pub overflow_add-level : goal.overflow_add-level
overflow_add-level c =
    let p = c.args.self.now.counted in
    omega (arith, p.few, c.code.ensures, code_few c.args.self.now.counts.now (in_set c.args.seen) c.loop-u.u (omega (arith, p.plots_are)))

pub overflow_cast-level : goal.overflow_cast-level
overflow_cast-level c =
    let p = c.args.self.now.counted in
    omega (arith, p.few, c.code.ensures, code_few c.args.self.now.counts.now (in_set c.args.seen) c.loop-u.u (omega (arith, p.plots_are)))

pub returns : goal.returns
returns c =
    let a = c.args in
    levels_all a.self.now.counts.now a.seen a.self.now.plots c.loop-u.column (omega arith) (λ k h. c.loop-u.invariant k (omega arith))
