-- `put_level` meets its contract: the first levels of the column are pasted.
use mathlib.Core.Path.{◌≡◌}
use lib.ListN.{length}
use lib.Seq.{paste}
use Rattle.design.proofs.replicates.put_level.Given as goal

abbrev pub invariant-loop-u : goal.invariant-loop-u
invariant-loop-u l = (length l.own ≡ length l.initial.own) × (l.own ≡ paste l.initial.own l.start l.column l.u)
