-- `equality` meets its contract: on at most 240 plots the column is E.
use mathlib.Core.Path.{ap, ◌∙◌}
use mathlib.Core.List.{List}
use Prim.Native.Nat.{ℕ}
use lib.ListN.{take}
use Rattle.factor.proofs.PlotNumbers.{equality_part}
use Rattle.design.proofs.columns.equality.Goals as goal

pub returns : goal.returns
returns c =
    ap (λ (l : List ℕ). take c.args.n l) c.equality.ensures ∙ equality_part c.args.n c.requires
