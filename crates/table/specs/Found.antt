-- What is found for the members of both families.
-- Assumes nothing.
use Rattle.std.specs.Prelude.{◌≡◌, length}
use Rattle.rules.specs.Limits.{most_members}
use Rattle.strata.specs.declared.stratum.Analysis.{Analysis}

-- there is a number for each of 32 members
pub record Whole (a : Analysis) : Type 0 where
  pub totals : length a.totals ≡ most_members
  pub degrees : length a.degrees ≡ most_members
  pub places : length a.strata.places ≡ most_members
  pub residuals : length a.strata.residuals ≡ most_members
