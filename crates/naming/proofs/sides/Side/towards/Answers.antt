-- `towards` meets its contract: the order of the two, by the side.
use mathlib.Core.Path.{refl, ◌∙◌}
use lib.ListN.{length}
use Rattle.factor.proofs.Lent.{finer_common}
use Rattle.naming.proofs.sides.Side.towards.Goals as goal

pub returns-in-Coarser : goal.returns-in-Coarser
returns-in-Coarser c =
    let f = c.args.f.now in
    rw c.in-Coarser.is (c.finer.ensures ∙ finer_common (length f) f c.args.g.now c.requires.0 refl c.requires.1)

pub returns-in-Finer : goal.returns-in-Finer
returns-in-Finer c =
    let f = c.args.f.now in
    rw c.in-Finer.is (c.finer-in-Finer.ensures ∙ finer_common (length f) c.args.g.now f c.requires.0 c.requires.1 refl)
