-- `numbered_in_order` meets its contract: the members before the present one are numbered and in order.
use mathlib.Core.Path.{◌≡◌}
use Prim.Native.Nat.{◌-◌, ◌≤◌}
use lib.ListN.{length}
use Rattle.families.specs.Lent.{column_at}
use Rattle.families.proofs.InOrder.{Come}
use Rattle.families.proofs.numbered_in_order.Given as goal

abbrev pub invariant-loop-i : goal.invariant-loop-i
invariant-loop-i l =
    (l.f ≡ column_at l.n l.family (l.i - 1)) × ((few : l.n ≤ 240) (long : 7680 ≤ length l.family) (most : l.size ≤ 32) → Come l.n few l.family long l.size most l.k l.i)
