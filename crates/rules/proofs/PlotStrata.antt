-- C-13 for plots: no stratum of an accepted plot design is below 0, and the strata sum to N. Demand 3 says so; where a design is accepted, all that demand 3 asks for is there.
-- Assumes nothing.
use mathlib.Core.Path.{◌≡◌}
use mathlib.Core.Logic.{inl}
use mathlib.Core.List.{List}
use Prim.Native.Nat.{ℕ}
use lib.Dec.{lit≤}
use lib.ListN.{length}
use Rattle.rules.specs.Family.{AtMost, columns_from}
use Rattle.rules.specs.Closing.{InPlotFamily}
use Rattle.rules.specs.Design.{plot_design, returned}
use Rattle.rules.specs.Structure.{Lent}
use Rattle.rules.specs.Degrees.{TrustedStrata}
use Rattle.rules.specs.Demand2.{AllHold, plot_conditions}
use Rattle.rules.proofs.FirstNo.{NumberedFrom1, broken_none}
use Rattle.rules.proofs.Demand2.{plot_first_broken}
use Rattle.rules.proofs.Demand3.{demand_3}

module _ (n c : ℕ) (levels buffer : List ℕ) (e : (plot_design n c levels (length buffer)).refusal ≡ 0) where
  numbered : NumberedFrom1 (plot_conditions n c levels buffer)
  unfolding NumberedFrom1
  numbered = (lit≤ tt, (lit≤ tt, (lit≤ tt, (lit≤ tt, (lit≤ tt, tt)))))

  hold : AllHold (plot_conditions n c levels buffer)
  hold = (broken_none (plot_conditions n c levels buffer) (plot_design n c levels (length buffer)).refusal numbered (plot_first_broken n c levels buffer)).0 e

  lent : Lent n c levels buffer
  unfolding AllHold
  lent = let l = hold.0 in record {
    plots_least = l.plots_some;
    plots_most = l.plots_few;
    columns_most = l.columns;
    table = l.table;
    family = l.room;
    present = λ j u hj hu. hold.1.0 j u (inl hj) hu;
  }

  few : AtMost 32 (InPlotFamily n (columns_from n levels 0 c))
  unfolding AllHold
  few = hold.1.1.0

  -- of the family left in the buffer no stratum is below 0, and they sum to N
  pub plot_trusted : TrustedStrata n (returned n buffer (plot_design n c levels (length buffer)))
  plot_trusted = let d = demand_3 n c levels buffer lent few in record { no_stratum = d.strata e; strata_sum = d.total e }
