-- What questions 6 and 15 ask of families already made, said of factors and families.
-- Assumes nothing.
use Rattle.std.specs.Prelude.{◌≡◌, List, [], ◌∷◌, ℕ, ◌≤◌, length}
use Rattle.rules.specs.Limits.{most_plots, most_members, family_bytes}
use Rattle.rules.specs.Factor.{Column, number}
use Rattle.rules.specs.Family.{Family, ◌∈◌, Ascending, members_of}
use Rattle.rules.specs.Demand2.{Condition, condition}

-- 6, of two families: the plot count within limits, both buffers long enough
pub record FamiliesWithin (n : ℕ) (first second : List ℕ) : Type 0 where
  pub plots_least : 1 ≤ n
  pub plots_most : n ≤ most_plots
  pub first_family : family_bytes ≤ length first
  pub second_family : family_bytes ≤ length second

-- 6 of comparing: "is a place asked about from 1 to its family's size"
pub record ComparingWithin (n : ℕ) (first : List ℕ) (firstSize i : ℕ) (second : List ℕ) (secondSize j : ℕ) : Type 0 where
  pub families : FamiliesWithin n first second
  pub first_least : 1 ≤ i
  pub first_most : i ≤ firstSize
  pub second_least : 1 ≤ j
  pub second_most : j ≤ secondSize

-- 15. "Is each family 1 to 32 members in the numbering and order above, no two alike? (It need not be closed.)"
pub record Formed (S : Family) : Type 0 where
  pub some : 1 ≤ length S
  pub few : length S ≤ most_members
  pub numbered : (F : Column) → F ∈ S → number F ≡ F
  pub ascending : Ascending S

-- comparing: "with questions 6 and 15"
abbrev pub comparing_conditions : ℕ → List ℕ → ℕ → ℕ → List ℕ → ℕ → ℕ → List Condition
comparing_conditions n first firstSize i second secondSize j =
    condition 6 (ComparingWithin n first firstSize i second secondSize j) ∷ condition 15 (Formed (members_of n first firstSize) × Formed (members_of n second secondSize)) ∷ []
