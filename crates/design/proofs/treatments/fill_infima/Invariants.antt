-- `fill_infima` meets its contract: after each turn the infima are those of the choices of the columns from the last to the one at `c`.
use mathlib.Core.Path.{◌≡◌}
use Prim.Native.Nat.{◌/◌, ◌≤◌}
use lib.ListN.{length}
use Rattle.design.specs.Treatments.{Infima}
use Rattle.design.proofs.Choosing.{doubled, last_of}
use Rattle.design.proofs.treatments.fill_infima.Given as goal

abbrev pub invariant-loop-c : goal.invariant-loop-c
invariant-loop-c l = (l.c ≤ l.d) × (doubled l.c l.total ≤ 64) × (doubled l.c l.total ≤ length l.infima / 240) × (length l.infima ≡ length l.initial.infima) × Infima l.n l.infima l.lengths l.total (last_of l.n l.k l.first l.d l.levels l.c)
