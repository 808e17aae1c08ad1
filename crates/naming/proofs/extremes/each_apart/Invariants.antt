-- `each_apart` meets its contract: the table keeps the places of the labels passed.
use Rattle.naming.proofs.Apart.{Placed}
use Rattle.naming.proofs.extremes.each_apart.Given as goal

abbrev pub invariant-loop-u : goal.invariant-loop-u
invariant-loop-u l = Placed l.column l.u l.places
