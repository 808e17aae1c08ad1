-- `all_nonzero` meets its contract: the columns that are left stand as all do.
use mathlib.Core.Path.{◌≡◌}
use Prim.Native.Nat.{◌+◌, ◌-◌}
use Rattle.rules.specs.Family.{columns_from}
use Rattle.rules.specs.Design.{all_nonzero}
use Rattle.levels.proofs.all_nonzero.Given as goal

abbrev pub invariant-loop-c : goal.invariant-loop-c
invariant-loop-c l = all_nonzero (columns_from l.n l.levels l.first l.count) ≡ all_nonzero (columns_from l.n l.levels l.c (l.first + l.count - l.c))
