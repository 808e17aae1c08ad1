-- `uniform` meets its contract: a column without a plot has classes of one size, and else they are looked at.
use mathlib.Core.Path.{◌≡◌, sym, ◌∙◌}
use lib.ListN.{length, take, length-take}
use borrow.Author.Tests.{eq-eqb}
use Rattle.rules.specs.Factor.{every, uniform}
use Rattle.factor.proofs.Fill.{take_min}
use Rattle.factor.proofs.sizes.uniform.Goals as goal

pub returns-then-n-eq0 : goal.returns-then-n-eq0
unfolding uniform every
returns-then-n-eq0 c =
    let f = c.args.f.now in
    let e : length (take 240 f) ≡ 0 = length-take 240 f ∙ sym c.numbered_plots-n.ensures ∙ c.if-n-eq0.true in
    rw e (eq-eqb c.numbered_plots-n.result 0 c.if-n-eq0.true)

pub returns-else-n-eq0 : goal.returns-else-n-eq0
returns-else-n-eq0 c =
    let f = c.args.f.now in
    let e : take c.numbered_plots-n.result f ≡ take 240 f = rw c.numbered_plots-n.ensures (take_min 240 f) in
    rw e at c.one_size.ensures
