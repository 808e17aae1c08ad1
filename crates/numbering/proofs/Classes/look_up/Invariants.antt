-- `look_up` meets its contract: what is found from class `c` on is what is found from the bucket's latest.
use mathlib.Core.Path.{◌≡◌}
use Prim.Native.Nat.{suc, ◌≤◌}
use Rattle.numbering.specs.Seen.{look_up, look}
use Rattle.numbering.proofs.Classes.look_up.Given as goal

abbrev pub invariant-loop-c : goal.invariant-loop-c
invariant-loop-c l =
    (l.c ≤ l.self.count) × (look_up l.self.labels l.self.chain l.x (suc l.c) l.c ≡ look l.self.labels l.self.chain l.self.last l.x)

abbrev pub decreases-loop-c : goal.decreases-loop-c
decreases-loop-c l = l.c
