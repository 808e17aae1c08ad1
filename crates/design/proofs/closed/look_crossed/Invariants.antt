-- `look_crossed` meets its contract: its numbers stay within range.
use Prim.Native.Nat.{◌≤◌}
use Rattle.design.proofs.closed.look_crossed.Given as goal

abbrev pub invariant-loop-k : goal.invariant-loop-k
invariant-loop-k l = l.combinations ≤ 240
