-- `place_plot_columns` meets its contract: after each turn the members are U, E and the columns so far.
use Prim.Native.Nat.{◌-◌, ◌≤◌}
use Rattle.design.specs.State.{Begun}
use Rattle.design.proofs.Start.{first_of}
use Rattle.design.proofs.columns.place_plot_columns.Given as goal

abbrev pub invariant-loop-j : goal.invariant-loop-j
invariant-loop-j l = (l.j ≤ l.c) × Begun l.n (first_of l.n l.levels l.j) l.store l.counts l.size

abbrev pub decreases-loop-j : goal.decreases-loop-j
decreases-loop-j l = l.c - l.j
