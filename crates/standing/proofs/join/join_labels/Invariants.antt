-- `join_labels` meets its contract: the plots passed are linked to the first of their class in `g`.
use mathlib.Core.Path.{◌≡◌}
use Prim.Native.Nat.{ℕ, ◌<◌}
use lib.ListN.{length}
use Rattle.rules.specs.Factor.{at}
use Rattle.standing.proofs.Joining.{Sound, Linked}
use Rattle.standing.proofs.join.join_labels.Given as goal

abbrev pub invariant-loop-u : goal.invariant-loop-u
invariant-loop-u l =
    (length l.entries ≡ 256) × (length l.first ≡ 256) × ((x : ℕ) → x < l.wide → at l.entries x < 256) × Linked l.f l.g l.u l.first l.entries × Sound l.f l.g l.entries
