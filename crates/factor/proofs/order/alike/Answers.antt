-- `alike` meets its contract: `==` compares plot by plot.
use mathlib.Core.Path.{◌∙◌}
use Rattle.factor.proofs.Compared.{alike_pointwise}
use Rattle.factor.proofs.order.alike.Goals as goal

pub returns : goal.returns
returns c = c.eq.ensures ∙ alike_pointwise c.args.f.now c.args.g.now
