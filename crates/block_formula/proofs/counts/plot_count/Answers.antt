use Rattle.std.proofs.Common.{ℕ, ◌≡◌, ◌+◌, ◌*◌, min, arith, length, get_or, drop, ap, ◌∙◌}
use Rattle.std.proofs.Math.Seq.{drop-length}
use Rattle.rules.specs.Formula.{plot_count}
use Rattle.block_formula.proofs.PlotLaws.{count_turn}
use Rattle.block_formula.proofs.counts.plot_count.Goals as goal

pub loop-count-preserved : goal.loop-count-preserved
loop-count-preserved c =
    let a = c.args.counts.now in
    let i = c.loop-count.count-index in
    let p = c.loop-count.plots in
    let e : c.min-plots.result ≡ min 241 (p * get_or a i 0) = omega (arith, ap (λ (x : ℕ). p * x) c.from.ensures) in
    (omega arith, ap (λ (q : ℕ). min 241 (q * plot_count (drop (i + 1) a))) e ∙ count_turn a p i (omega arith) ∙ c.loop-count.invariant.1)

pub returns : goal.returns
unfolding plot_count
returns c =
    let a = c.args.counts.now in
    let z : c.loop-count.count-index ≡ length a = omega arith in
    let e : min 241 (c.loop-count.plots * 1) ≡ min 241 (plot_count a) = rw (z, drop-length) at c.loop-count.invariant.1 in
    omega (arith, c.loop-count.invariant.0)
