-- `gathered_level` meets its contract: the points of the first `u` plots have the labels of these.
use mathlib.Core.Path.{◌≡◌}
use Prim.Native.Nat.{ℕ, ◌-◌, ◌<◌}
use lib.ListN.{length}
use Rattle.rules.specs.Factor.{at}
use Rattle.design.specs.State.{column_at}
use Rattle.design.proofs.replicates.gathered_level.Given as goal

abbrev pub invariant-loop-u : goal.invariant-loop-u
invariant-loop-u l = (length l.column ≡ 240) × ((v : ℕ) → v < l.u → at l.column (at l.points v - 1) ≡ at (column_at l.n l.levels l.c) v)
