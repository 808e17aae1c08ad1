-- `number_columns` meets its contract: the columns before c are numbered.
use mathlib.Core.Path.{◌≡◌}
use Prim.Native.Nat.{◌-◌, ◌≤◌}
use lib.ListN.{length}
use Rattle.rules.specs.Family.{members_of}
use Rattle.naming.specs.Columns.{numbered_from}
use Rattle.naming.proofs.columns.number_columns.Given as goal

abbrev pub invariant-loop-c : goal.invariant-loop-c
invariant-loop-c l = (l.c ≤ l.count) × (length l.out ≡ length l.initial.out) × (members_of l.n l.out l.c ≡ numbered_from l.n l.levels l.first l.c)

abbrev pub decreases-loop-c : goal.decreases-loop-c
decreases-loop-c l = l.count - l.c
