-- The levels of a formula's plots, by the names that each column sees.
-- Assumes nothing.
use Rattle.std.specs.Prelude.{Bool, true, false, List, [], ◌∷◌, ◌≡◌, ℕ, suc, ◌+◌, ◌*◌, ◌/◌, ◌%◌, ◌≤◌, length, get_or}
use Rattle.rules.specs.Limits.{most_plots, most_columns, most_formula, table_cells}
use Rattle.rules.specs.Lists.{tabulate}
use Rattle.rules.specs.Factor.{Column}
use Rattle.rules.specs.Formula.{plot_count}
use Rattle.block_formula.specs.Text.{seen_text}

-- how many combinations the names of a set have
unfoldable pub radix : List ℕ → (ℕ → Bool) → ℕ
radix [] S = 1
radix (c ∷ cs) S = elim (S 0) [ true ↦ c * radix cs (λ i. S (suc i)) | false ↦ radix cs (λ i. S (suc i)) ]

-- the place of plot u's combination among them, from 0
unfoldable pub code_of : List ℕ → (ℕ → Bool) → ℕ → ℕ
unfolding radix plot_count
code_of [] S u = 0
code_of (c ∷ cs) S u = elim (S 0) [
  | true ↦ u / plot_count cs * radix cs (λ i. S (suc i)) + code_of cs (λ i. S (suc i)) (u % plot_count cs)
  | false ↦ code_of cs (λ i. S (suc i)) (u % plot_count cs)
]

-- counts as a formula within the limits has them, and their number of plots
pub record Counted (counts : List ℕ) (plots : ℕ) : Type 0 where
  pub names : length counts ≤ most_columns
  pub plots_are : plots ≡ plot_count counts
  pub few : plots ≤ most_plots

-- the set of names that an array marks
abbrev pub in_set : List Bool → ℕ → Bool
in_set seen j = get_or seen j false

-- the levels of a column that sees these names
abbrev pub levels_by : List ℕ → List Bool → ℕ → Column
levels_by counts seen plots = tabulate (λ u. suc (code_of counts (in_set seen) u)) plots

-- a text and a level table that all columns have room in
pub record Placed (text levels : List ℕ) : Type 0 where
  pub short : length text ≤ most_formula
  pub room : table_cells ≤ length levels

-- the columns of all names
unfoldable pub columns_in : List ℕ → List ℕ → ℕ → List Column
unfolding seen_text tabulate code_of
columns_in text counts plots = tabulate (λ i. levels_by counts (seen_text text i) plots) (length counts)
