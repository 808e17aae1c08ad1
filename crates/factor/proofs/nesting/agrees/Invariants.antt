-- `agrees` meets its contract: the plots passed agree, and the table has their labels.
use mathlib.Core.Path.{◌≡◌}
use lib.ListN.{length}
use Rattle.factor.proofs.Agreeing.{Agrees}
use Rattle.factor.proofs.nesting.agrees.Given as goal

abbrev pub invariant-loop-u : goal.invariant-loop-u
invariant-loop-u l = (length l.table ≡ 256) × Agrees l.f l.g l.u l.table
