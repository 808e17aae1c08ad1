-- Laws of the numbers of the questions.
-- Assumes nothing.
use Rattle.std.specs.Prelude.{◌≤◌}
use Rattle.std.proofs.Common.{arith}
use Rattle.refusal.specs.declared.Refusal.{Refusal}
use Rattle.refusal.specs.declared.Refusal.TheVariants.{LevelTable, TextLength, FirstLine, LaterLine, PlotCount, Limits, MissingLevel, PlotFamilySize, ClassSizes, PlotPair, TreatmentFamilySize, TreatmentPair, CrossedPair, FinalFamilySize, Family, Stratum, Formula, FormulaLimits, Parent}
use Rattle.refusal.specs.Numbers.{number_of}

-- no question has the number 0, which stands for no refusal
pub numbered : (q : Refusal) → 1 ≤ number_of q
numbered LevelTable = omega arith
numbered TextLength = omega arith
numbered FirstLine = omega arith
numbered LaterLine = omega arith
numbered PlotCount = omega arith
numbered Limits = omega arith
numbered MissingLevel = omega arith
numbered PlotFamilySize = omega arith
numbered ClassSizes = omega arith
numbered PlotPair = omega arith
numbered TreatmentFamilySize = omega arith
numbered TreatmentPair = omega arith
numbered CrossedPair = omega arith
numbered FinalFamilySize = omega arith
numbered Family = omega arith
numbered Stratum = omega arith
numbered Formula = omega arith
numbered FormulaLimits = omega arith
numbered Parent = omega arith
