-- The kinds of the members that a refusal names.
-- Assumes nothing.
use mathlib.Core.Path.{◌≡◌, refl}
use Rattle.rules.specs.Naming.{plot, treatment}
use Rattle.rules.specs.Table.{first_kind, second_kind}
use Rattle.refusal.specs.declared.Refusal.{Refusal}
use Rattle.refusal.specs.declared.Refusal.TheVariants.{LevelTable, TextLength, FirstLine, LaterLine, PlotCount, Limits, MissingLevel, PlotFamilySize, ClassSizes, PlotPair, TreatmentFamilySize, TreatmentPair, CrossedPair, FinalFamilySize, Family, Stratum, Formula, FormulaLimits, Parent}
use Rattle.refusal.specs.Numbers.{number_of}

-- one of each in all but 10 and 12
pub one_of_each : (q : Refusal) → (q ≡ PlotPair → ⊥) → (q ≡ TreatmentPair → ⊥) → (plot ≡ first_kind (number_of q)) × (treatment ≡ second_kind (number_of q))
unfolding first_kind second_kind
one_of_each LevelTable a b = (refl, refl)
one_of_each TextLength a b = (refl, refl)
one_of_each FirstLine a b = (refl, refl)
one_of_each LaterLine a b = (refl, refl)
one_of_each PlotCount a b = (refl, refl)
one_of_each Limits a b = (refl, refl)
one_of_each MissingLevel a b = (refl, refl)
one_of_each PlotFamilySize a b = (refl, refl)
one_of_each ClassSizes a b = (refl, refl)
one_of_each PlotPair a b = absurd (a refl)
one_of_each TreatmentFamilySize a b = (refl, refl)
one_of_each TreatmentPair a b = absurd (b refl)
one_of_each CrossedPair a b = (refl, refl)
one_of_each FinalFamilySize a b = (refl, refl)
one_of_each Family a b = (refl, refl)
one_of_each Stratum a b = (refl, refl)
one_of_each Formula a b = (refl, refl)
one_of_each FormulaLimits a b = (refl, refl)
one_of_each Parent a b = (refl, refl)
