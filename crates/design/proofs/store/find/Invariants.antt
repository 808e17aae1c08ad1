-- `find` meets its contract: no member passed is the column.
use mathlib.Core.Path.{◌≡◌}
use Prim.Native.Nat.{ℕ, ◌<◌}
use lib.ListN.{length}
use Rattle.rules.specs.Family.{members_of}
use Rattle.rules.specs.Relation.{member_at}
use Rattle.design.proofs.store.find.Given as goal

abbrev pub invariant-loop-i : goal.invariant-loop-i
invariant-loop-i l = (k : ℕ) → k < l.i → member_at (members_of (length l.column) l.store l.size) k ≡ l.column → ⊥
