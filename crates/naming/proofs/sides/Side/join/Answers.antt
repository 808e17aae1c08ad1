-- `join_pair` meets its contract: the infimum or the supremum, by the side.
use Rattle.naming.proofs.sides.Side.join.Goals as goal

pub returns-in-Coarser : goal.returns-in-Coarser
returns-in-Coarser c = rw c.in-Coarser.is c.infimum.ensures.numbers

pub returns-in-Finer : goal.returns-in-Finer
returns-in-Finer c = rw c.in-Finer.is c.bounds_of.ensures.above
