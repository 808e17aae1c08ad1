-- `put` meets its contract: the first numbers of the column are pasted.
use mathlib.Core.Path.{◌≡◌}
use lib.ListN.{length}
use lib.Seq.{paste}
use Rattle.design.proofs.store.put.Given as goal

abbrev pub invariant-loop-u : goal.invariant-loop-u
invariant-loop-u l = (length l.store ≡ length l.initial.store) × (l.store ≡ paste l.initial.store l.at l.column l.u)
