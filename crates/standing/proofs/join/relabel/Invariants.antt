-- `relabel` meets its contract: the entries before `y` are relabelled, and `all` says whether each of these is `b`.
use mathlib.Core.Path.{◌≡◌}
use Prim.Native.Nat.{ℕ, ◌<◌}
use Rattle.std.proofs.Common.{IsTrue, ◌↔◌}
use Rattle.rules.specs.Factor.{at, relabel}
use Rattle.factor.proofs.Fill.{filled}
use Rattle.standing.proofs.join.relabel.Given as goal

abbrev pub invariant-loop-y : goal.invariant-loop-y
invariant-loop-y l =
    (l.entries ≡ filled l.initial.entries (relabel l.a l.b l.initial.entries) l.y-index)
    × (IsTrue l.all ↔ ((k : ℕ) → k < l.y-index → at (relabel l.a l.b l.initial.entries) k ≡ l.b))
