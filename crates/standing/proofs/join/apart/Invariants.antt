-- `apart` meets its contract: the labels passed are their own entries.
use mathlib.Core.Path.{◌≡◌}
use Prim.Native.Nat.{ℕ, ◌<◌}
use Rattle.rules.specs.Factor.{at}
use Rattle.standing.proofs.join.apart.Given as goal

abbrev pub invariant-loop-x : goal.invariant-loop-x
invariant-loop-x l = (y : ℕ) → y < l.x → at l.entry-items y ≡ y
