-- `coded` meets its contract: the plots before `u` have their numbers, which two bytes hold.
use mathlib.Core.Path.{◌≡◌}
use Prim.Native.Nat.{ℕ, ◌+◌, ◌*◌, ◌<◌}
use lib.ListN.{length}
use Rattle.rules.specs.Factor.{at}
use Rattle.standing.proofs.many.coded.Given as goal

abbrev pub invariant-loop-u : goal.invariant-loop-u
invariant-loop-u l =
    (length l.codes ≡ 240) × ((v : ℕ) → v < l.u → at l.codes v ≡ l.columns.past_g * at l.columns.f.now v + at l.columns.g.now v)
