-- The columns of a level table, converted in place.
-- Assumes nothing.
use Rattle.std.specs.Prelude.{List, [], ◌≡◌, Option, Some, None, ℕ, ◌+◌, ◌*◌, ◌≤◌, ◌<◌, length, get_or, take}
use Rattle.std.proofs.Math.Seq.{paste}
use Rattle.rules.specs.Limits.{most_plots}
use Rattle.rules.specs.Factor.{Column, infimum}
use Rattle.factor.specs.Lent.{column_at}
use Rattle.writer.specs.Rows.{columns_at}

-- the level table once column c is the infimum of itself and another one
unfoldable pub within_column : ℕ → List ℕ → ℕ → ℕ → List ℕ
unfolding infimum
within_column n levels c parent = paste levels (most_plots * c) (infimum (column_at n levels c) (column_at n levels parent)) n

-- the columns c and d of n plots lie in a table of so many cells
pub record Inside (n c d cells : ℕ) : Type 0 where
  pub few : n ≤ most_plots
  pub own : most_plots * c + n ≤ cells
  pub other : most_plots * d + n ≤ cells

-- the columns Ds are the columns Cs, each with a parent made the infimum of itself and the parent's of the Ds, which is further left
pub record Within (parents : List (Option ℕ)) (Cs Ds : List Column) : Type 0 where
  pub size : length Ds ≡ length Cs
  pub copied : (i : ℕ) → i < length Cs → get_or parents i None ≡ None → get_or Ds i [] ≡ get_or Cs i []
  pub within : (i j : ℕ) → i < length Cs → get_or parents i None ≡ Some j → (j < i) × (get_or Ds i [] ≡ infimum (get_or Cs i []) (get_or Ds j []))

-- what converting asks: different columns that lie in the table, and parents further left
pub record Convertible (columns : List ℕ) (parents : List (Option ℕ)) (n plots cells : ℕ) : Type 0 where
  pub few : plots ≤ most_plots
  pub columns_long : n ≤ length columns
  pub inside : (i : ℕ) → i < n → most_plots * get_or columns i 0 + plots ≤ cells
  pub differ : (i j : ℕ) → i < n → j < n → get_or columns i 0 ≡ get_or columns j 0 → i ≡ j
  pub left : (i j : ℕ) → i < n → get_or parents i None ≡ Some j → j < i

-- the level table afterwards has the columns that the parents make
abbrev pub ConvertedTo : List ℕ → List (Option ℕ) → ℕ → ℕ → List ℕ → List ℕ → Type 0
ConvertedTo columns parents n plots before after =
    (Ds : List Column) → Within parents (columns_at plots before (take n columns)) Ds → columns_at plots after (take n columns) ≡ Ds
