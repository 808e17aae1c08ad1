-- `none` meets its contract: ones, or the numbers of the plots.
use mathlib.Core.Path.{ap, ◌∙◌}
use lib.ListN.{take}
use Rattle.factor.proofs.PlotNumbers.{equality_part}
use Rattle.naming.proofs.Tables.{ones}
use Rattle.naming.proofs.sides.Side.none.Goals as goal

pub returns-in-Coarser : goal.returns-in-Coarser
returns-in-Coarser c =
    rw c.in-Coarser.is (ones c.args.n 240 c.requires)

pub returns-in-Finer : goal.returns-in-Finer
returns-in-Finer c =
    rw c.in-Finer.is (ap (take c.args.n) c.equality.ensures ∙ equality_part c.args.n c.requires)
