-- `columns` meets its contract: the columns looked at are numbered.
use Rattle.naming.proofs.compose.Looked.columns.Goals as goal

pub invariant_of-result : goal.invariant_of-result
invariant_of-result c = let w = c.args.self.now.numbered in record { placed = w.columns; numbered = w.numbered }
