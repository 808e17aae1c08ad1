-- `smaller` meets its contract: what is left of the columns stands as they do.
use mathlib.Core.Path.{◌≡◌}
use Prim.Native.Nat.{◌≤◌}
use lib.ListN.{length, drop}
use Rattle.rules.specs.Family.{smaller}
use Rattle.factor.proofs.order.smaller.Given as goal

abbrev pub invariant-loop-u : goal.invariant-loop-u
invariant-loop-u l = (l.u ≤ length l.g) × (smaller (drop l.u l.f) (drop l.u l.g) ≡ smaller l.f l.g)
