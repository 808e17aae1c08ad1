-- `finer` meets its contract: the parts lent are the members, on the same plots.
use Rattle.std.proofs.Common.{ℕ, ◌≤◌, length, sym, ap, ◌∙◌, arith}
use Rattle.rules.specs.Factor.{finer}
use Rattle.families.specs.Lent.{column_at}
use Rattle.strata.specs.Family.{column}
use Rattle.factor.proofs.Lent.{test_parts}
use Rattle.strata.proofs.family.Family.finer.Goals as goal

pub returns : goal.returns
returns c =
    let f = c.args.self.now in
    let g = c.args.other.now in
    let few : f.plots ≤ 240 = f.formed.few_plots in
    let long : 7680 ≤ length f.bytes.now = f.formed.long in
    let wide : 7680 ≤ length g.bytes.now = g.formed.long in
    let small : f.size ≤ 32 = f.formed.few in
    let few_others : g.size ≤ 32 = g.formed.few in
    let other = c.member-2.ensures ∙ ap (λ (n : ℕ). column_at n g.bytes.now c.args.j) (sym c.requires.2) in
    c.finer.ensures ∙ test_parts finer f.plots f.bytes.now g.bytes.now c.args.i c.args.j (omega arith) (omega arith) (omega arith) _ _ c.member.ensures other
    ∙ ap (λ (n : ℕ). finer f.plots (column f c.args.i) (column_at n g.bytes.now c.args.j)) c.requires.2
