-- `even_cells` meets its contract: the cells passed have equal products.
use mathlib.Core.Path.{◌≡◌}
use mathlib.Core.Bool.{Bool, true}
use mathlib.Core.List.{List}
use Prim.Native.Nat.{ℕ, ◌*◌}
use lib.Dec.{eqb}
use Rattle.rules.specs.Factor.{Column, at, every}
use Rattle.standing.specs.Cells.{cell_size}
use Rattle.standing.proofs.cells.even_cells.Given as goal

-- the two products of cell i
abbrev pub even : List ℕ → List ℕ → List ℕ → List ℕ → List ℕ → Column → Column → ℕ → Bool
even sizes t inK inF inG X Y i = eqb (cell_size sizes i * at inK (at t (at X i))) (at inF (at X i) * at inG (at Y i))

abbrev pub invariant-loop-i : goal.invariant-loop-i
invariant-loop-i l =
    every l.i (even l.sizes l.joins.entries l.in_k l.in_f l.in_g l.f l.g) ≡ true
