-- `first_unequal` meets its contract: the first place is that of what is left to search.
use mathlib.Core.Path.{◌≡◌}
use Prim.Native.Nat.{◌-◌, ◌≤◌}
use Rattle.rules.specs.Factor.{uniform}
use Rattle.rules.specs.Family.{members_of}
use Rattle.rules.specs.Design.{first_failing}
use Rattle.design.specs.State.{column_at}
use Rattle.design.specs.Search.{first_from}
use Rattle.design.proofs.questions.first_unequal.Given as goal

abbrev pub invariant-loop-i : goal.invariant-loop-i
invariant-loop-i l = (l.i ≤ l.size) × (first_failing (uniform l.n) 1 (members_of l.n l.family l.size) ≡ first_from (λ k. uniform l.n (column_at l.n l.family k)) l.i (l.size - l.i))

abbrev pub decreases-loop-i : goal.decreases-loop-i
decreases-loop-i l = l.size - l.i
