-- The enum of how two factors stand, read by the rules' cases.
-- Assumes nothing.
use Rattle.rules.specs.Comparison.{Comparison as Rule, is_equivalent, is_finer, is_coarser, is_orthogonal, not_orthogonal}
use Rattle.standing.specs.declared.comparing.Comparison.{Comparison}
use Rattle.standing.specs.declared.comparing.Comparison.TheVariants.{Equivalent, Finer, Coarser, Orthogonal, NotOrthogonal}

abbrev pub case_of : Comparison → Rule
case_of Equivalent = is_equivalent
case_of Finer = is_finer
case_of Coarser = is_coarser
case_of Orthogonal = is_orthogonal
case_of NotOrthogonal = not_orthogonal
