-- A family in lent memory.
-- Assumes nothing.
use Rattle.std.specs.Prelude.{◌≡◌, true, false, List, ℕ, ◌≤◌, length, Option, Some, None}
use Rattle.rules.specs.Limits.{most_plots, most_members, family_bytes}
use Rattle.rules.specs.Family.{members_of, well_formed}
use Rattle.rules.specs.Relation.{family_within}
use Rattle.refusal.specs.declared.Refusal.{Refusal}
use Rattle.refusal.specs.declared.Refusal.TheVariants.{Limits, Family}

-- a family that questions 6 and 15 accept
pub record Formed (n : ℕ) (buffer : List ℕ) (size : ℕ) : Type 0 where
  pub few_plots : n ≤ most_plots
  pub long : family_bytes ≤ length buffer
  pub few : size ≤ most_members
  pub formed : well_formed (members_of n buffer size) ≡ true

-- what a family is refused for: 6 is asked, then 15
unfoldable pub family_refusal : ℕ → List ℕ → ℕ → Option Refusal
unfolding family_within well_formed members_of
family_refusal n buffer size = elim (family_within n buffer) [
  | true ↦ elim (well_formed (members_of n buffer size)) [ true ↦ None | false ↦ Some Family ]
  | false ↦ Some Limits
]
