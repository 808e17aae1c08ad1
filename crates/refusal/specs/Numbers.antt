-- The numbers of the rules' questions.
-- Assumes nothing.
use Rattle.std.specs.Prelude.{ℕ}
use Rattle.refusal.specs.declared.Refusal.{Refusal}
use Rattle.refusal.specs.declared.Refusal.TheVariants.{LevelTable, TextLength, FirstLine, LaterLine, PlotCount, Limits, MissingLevel, PlotFamilySize, ClassSizes, PlotPair, TreatmentFamilySize, TreatmentPair, CrossedPair, FinalFamilySize, Family, Stratum, Formula, FormulaLimits, Parent}

-- the number of the question that a case stands for
abbrev pub number_of : Refusal → ℕ
number_of LevelTable = 1
number_of TextLength = 2
number_of FirstLine = 3
number_of LaterLine = 4
number_of PlotCount = 5
number_of Limits = 6
number_of MissingLevel = 7
number_of PlotFamilySize = 8
number_of ClassSizes = 9
number_of PlotPair = 10
number_of TreatmentFamilySize = 11
number_of TreatmentPair = 12
number_of CrossedPair = 13
number_of FinalFamilySize = 14
number_of Family = 15
number_of Stratum = 16
number_of Formula = 17
number_of FormulaLimits = 18
number_of Parent = 23
