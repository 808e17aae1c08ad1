-- A family in lent memory, and question 15 of it.
-- Assumes nothing.
use Rattle.std.specs.Prelude.{Bool, true, false, ◌&&◌, List, ℕ, leb, length, Option, Some, None}
use Rattle.rules.specs.Limits.{most_plots, family_bytes}
use Rattle.rules.specs.Factor.{Column, number, classes}
use Rattle.rules.specs.Family.{alike, members_of, well_formed}
pub use Rattle.factor.specs.Lent.{column_at}

-- 15 of the family that a buffer lends: at most 240 plots, a buffer that is long enough, and members of the form
unfoldable pub formed_in : ℕ → List ℕ → ℕ → Bool
unfolding members_of well_formed
formed_in n buffer size = leb n most_plots && leb family_bytes (length buffer) && well_formed (members_of n buffer size)

-- how many classes a column has that is numbered by first appearance
unfoldable pub numbered_classes : Column → Option ℕ
unfolding alike number classes
numbered_classes F = elim (alike (number F) F) [ true ↦ Some (classes F) | false ↦ None ]
