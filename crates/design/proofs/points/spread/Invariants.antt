-- `spread` meets its contract: the first `u` plots have the labels of their points.
use mathlib.Core.Path.{◌≡◌}
use lib.ListN.{length, take}
use Rattle.design.specs.State.{column_at}
use Rattle.design.specs.Points.{points_on_plots}
use Rattle.design.proofs.points.spread.Given as goal

abbrev pub invariant-loop-u : goal.invariant-loop-u
invariant-loop-u l = (length l.column ≡ 240) × (take l.u l.column ≡ points_on_plots (take l.u l.points) (column_at 240 l.own l.i))
