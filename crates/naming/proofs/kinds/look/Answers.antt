-- `look`: the columns of each kind.
use Rattle.naming.proofs.kinds.look.Goals as goal

pub returns-in-Plot : goal.returns-in-Plot
returns-in-Plot c = rw c.in-Plot.is

pub returns-in-Treatment : goal.returns-in-Treatment
returns-in-Treatment c = rw c.in-Treatment.is
