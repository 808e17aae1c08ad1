-- `first_apart` meets its contract: the first pair is that of what is left to search.
use mathlib.Core.Path.{◌≡◌}
use mathlib.Core.Bool.{Bool}
use mathlib.Core.List.{List}
use Prim.Native.Nat.{ℕ, ◌+◌, ◌-◌, ◌≤◌}
use lib.ListN.{get_or}
use Rattle.design.specs.Search.{first_from, partner, first_place}
use Rattle.design.specs.State.{marked}
use Rattle.design.proofs.Search.{alone}
use Rattle.design.proofs.questions.first_apart.Given as goal

-- the test of two places
abbrev pub test : List ℕ → List ℕ → ℕ → ℕ → Bool
test order marks i j = marked marks (get_or order i 0) (get_or order j 0)

abbrev pub invariant-loop-j : goal.invariant-loop-j
invariant-loop-j l =
    (l.j ≤ l.size) × (l.first ≡ 0) × (l.second ≡ 0) × (l.i + 1 ≤ l.j) × (partner (test l.order l.marks) l.size l.i ≡ first_from (test l.order l.marks l.i) l.j (l.size - l.j))

abbrev pub decreases-loop-j : goal.decreases-loop-j
decreases-loop-j l = l.size - l.j

abbrev pub invariant-pairs : goal.invariant-pairs
invariant-pairs l =
    (l.i ≤ l.size) × (l.first ≡ 0) × (l.second ≡ 0) × (first_place (test l.order l.marks) l.size ≡ first_from (alone (test l.order l.marks) l.size) l.i (l.size - l.i))

abbrev pub decreases-pairs : goal.decreases-pairs
decreases-pairs l = l.size - l.i
