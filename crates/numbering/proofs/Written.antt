-- The numbers of the first plots of a column, written at the start of an array.
-- Assumes nothing.
use mathlib.Core.Path.{◌≡◌, sym, ap, ◌∙◌}
use mathlib.Core.List.{List}
use Prim.Native.Nat.{ℕ, min}
use native.Mathlib.Omega.{arith}
use lib.ListN.{length, take, length-take}
use lib.Seq.{take-take, length-take-le}
use Rattle.rules.specs.Limits.{most_plots}
use Rattle.rules.specs.Factor.{Column, number}
use Rattle.rules.proofs.Numbering.{length_number}
use Rattle.rules.proofs.Columns.{stopped}
use Rattle.factor.specs.Lent.{plots_of, overlay}
use Rattle.factor.proofs.Fill.{filled, take_min}

module _ (F : Column) (stop : ℕ) where
  -- how many plots are walked
  abbrev pub walked : ℕ
  walked = min most_plots (min (length F) stop)

  -- they are the first `stop` of at most 240
  pub walked_plots : take walked F ≡ take stop (plots_of F)
  walked_plots =
      let e : min stop (length (take most_plots F)) ≡ walked = rw length-take (omega arith) in
      sym (take-take walked most_plots F (omega arith)) ∙ sym (ap (λ (k : ℕ). take k (take most_plots F)) e) ∙ take_min stop (take most_plots F)

  -- their numbers are written
  pub filled_number : (b : List ℕ) → filled b (number F) walked ≡ overlay b (number (take stop (plots_of F)))
  filled_number b =
      let e : number (take stop (plots_of F)) ≡ take walked (number F) = ap number (sym walked_plots) ∙ (stopped walked F).0 in
      let l : length (take walked (number F)) ≡ walked = length-take-le walked (number F) (rw length_number (omega arith)) in
      sym (rw (e, l))
