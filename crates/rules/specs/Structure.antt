-- Orthogonal block structures, and what demand 3 asks of the plot design.
-- Assumes nothing.
use Rattle.std.specs.Prelude.{◌≡◌, List, [], ◌∷◌, ◌↔◌, ◌⊎◌, ℕ, ◌+◌, ◌*◌, ◌<◌, ◌≤◌, pos, length, get_or}
use Rattle.rules.specs.Limits.{most_plots, most_columns, table_cells, family_bytes}
use Rattle.rules.specs.Factor.{Column, Equivalent, infimum, supremum, universal, equality, Uniform, Orthogonal}
use Rattle.rules.specs.Family.{Family, ◌∈◌}
use Rattle.rules.specs.Degrees.{degrees, add_up, NoneBelow0}

-- "A family contains a factor when one of its members is equivalent to it."
pub record Contains (n : ℕ) (S : Family) (F : Column) : Type 0 where
  pub member : Column
  pub is_member : member ∈ S
  pub equivalent : Equivalent n member F

abbrev pub ContainsAll : ℕ → Family → List Column → Type 0
ContainsAll n S Fs = (F : Column) → F ∈ Fs → Contains n S F

-- "It lies inside another family when that one contains each of its members."
pub record Inside (n : ℕ) (S R : Family) : Type 0 where
  pub each : (F : Column) → F ∈ S → Contains n R F

-- no two members are equivalent
pub data Inequivalent (n : ℕ) : Family → Type 0 where
  no_member : Inequivalent n []
  unlike : {F : Column} {S : Family} → ((G : Column) → G ∈ S → Equivalent n F G → ⊥) → Inequivalent n S → Inequivalent n (F ∷ S)

-- "a set of inequivalent factors with U and E, closed under infimum and supremum, each with classes of one size, every two orthogonal. Its members may be any factors on those plots, in any number."
pub record OrthogonalBlockStructure (n : ℕ) (S : Family) : Type 0 where
  pub on_plots : (F : Column) → F ∈ S → length F ≡ n
  pub inequivalent : Inequivalent n S
  pub has_universal : Contains n S (universal n)
  pub has_equality : Contains n S (equality n)
  pub has_infima : (F G : Column) → F ∈ S → G ∈ S → Contains n S (infimum F G)
  pub has_suprema : (F G : Column) → F ∈ S → G ∈ S → Contains n S (supremum F G)
  pub uniform : (F : Column) → F ∈ S → Uniform n F
  pub orthogonal : (F G : Column) → F ∈ S → G ∈ S → Orthogonal n F G

-- ---- demand 3

-- "any plots and plot factors within the stated limits, with no missing level, in lent slices as long as the rules ask, whatever else these hold"
pub record Lent (n c : ℕ) (levels buffer : List ℕ) : Type 0 where
  pub plots_least : 1 ≤ n
  pub plots_most : n ≤ most_plots
  pub columns_most : c ≤ most_columns
  pub table : table_cells ≤ length levels
  pub family : family_bytes ≤ length buffer
  pub present : (j u : ℕ) → j < c → u < n → get_or levels (most_plots * j + u) 0 ≡ 0 → ⊥

-- of the plot factors Fs on n plots: the number answered, 0 for none, and the family returned
pub record Demand3 (n : ℕ) (Fs : List Column) (refusal : ℕ) (R : Family) : Type 0 where
  -- "a refusal is the 9 or 10 .. that these rules assign"
  pub number : (refusal ≡ 0) ⊎ ((refusal ≡ 9) ⊎ (refusal ≡ 10))
  -- "refuses the plot factors exactly when no orthogonal block structure of any size on those plots contains them"
  pub refuses : (refusal ≡ 0 → ⊥) ↔ ((S : Family) → OrthogonalBlockStructure n S → ContainsAll n S Fs → ⊥)
  -- "the family it returns is an orthogonal block structure that contains them"
  pub structure : refusal ≡ 0 → OrthogonalBlockStructure n R
  pub contains : refusal ≡ 0 → ContainsAll n R Fs
  -- "and lies inside every other one that contains them"
  pub least : refusal ≡ 0 → (S : Family) → OrthogonalBlockStructure n S → ContainsAll n S Fs → Inside n R S
  -- C-13: "no stratum is below 0 and the strata sum to N"
  pub strata : refusal ≡ 0 → NoneBelow0 (degrees n R)
  pub total : refusal ≡ 0 → add_up (degrees n R) ≡ pos n
