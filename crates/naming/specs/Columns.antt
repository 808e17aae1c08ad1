-- The columns that a member is named by, in a table of numbered columns and in a level table, and the tests on them.
-- Assumes nothing.
use Rattle.std.specs.Prelude.{Bool, true, false, not, ◌&&◌, List, [], ◌∷◌, ◌++◌, map, Option, None, Some, ◌≡◌, ℕ, suc, ◌+◌, ◌*◌, ◌≤◌, length, get_or, take, drop}
use Rattle.rules.specs.Factor.{Column, every, number}
use Rattle.rules.specs.Limits.{most_plots, most_columns, most_fields, table_cells}
use Rattle.rules.specs.Lists.{tabulate}
use Rattle.rules.specs.Family.{columns_from, members_of, all_numbered}
use Rattle.rules.specs.Sheet.{column_names, header, plot_mark}
use Rattle.rules.specs.Names.{Side as RuleSide, coarser_side, finer_side, hides}
use Rattle.naming.specs.declared.columns.Look.{Look}
use Rattle.naming.specs.declared.sides.Side.{Side}
use Rattle.naming.specs.declared.sides.Side.TheVariants.{Coarser, Finer}

-- columns in a table, `count` of them, each on n plots and 240 bytes from the next
pub record Columns (n count : ℕ) (table : List ℕ) : Type 0 where
  pub few_plots : n ≤ most_plots
  pub few : count ≤ most_fields
  pub long : most_plots * count ≤ length table

-- ---- the columns of a member's kind, and all those that it looks at

-- in a level table
abbrev pub own_of : Look → List ℕ → List Column
own_of look levels = columns_from look.plots levels look.first look.count

abbrev pub looked_of : Look → List ℕ → List Column
looked_of look levels = columns_from look.plots levels 0 look.before ++ own_of look levels

-- in a table of numbered columns
abbrev pub own_in : Look → List ℕ → List Column
own_in look table = members_of look.plots (drop (most_plots * look.before) table) look.count

abbrev pub looked_in : Look → List ℕ → List Column
looked_in look table = members_of look.plots table (look.before + look.count)

-- their names; no byte where the first line has fewer plot columns
abbrev pub own_names : Look → List ℕ → List (List ℕ)
own_names look text = column_names look.mark (header text)

abbrev pub plot_name : List ℕ → ℕ → List ℕ
plot_name text i = get_or (column_names plot_mark (header text)) i []

unfoldable pub look_names : Look → List ℕ → List (List ℕ)
unfolding tabulate
look_names look text = tabulate (plot_name text) look.before ++ own_names look text

-- the columns of its kind alone
abbrev pub alone : Look → Look
alone look = record { mark = look.mark; plots = look.plots; before = 0; first = look.first; count = look.count }

-- all these columns, numbered, stand in a table
pub record NumberedIn (look : Look) (table : List ℕ) : Type 0 where
  pub columns : Columns look.plots (look.before + look.count) table
  pub numbered : all_numbered (looked_in look table) ≡ true

-- the first are plot columns of the level table, the others stand from column `first` on
pub record InTable (look : Look) (levels : List ℕ) : Type 0 where
  pub few_plots : look.plots ≤ most_plots
  pub few_before : look.before ≤ most_columns
  pub few : look.count ≤ most_columns
  pub inside : look.first + look.count ≤ most_fields
  pub long : table_cells ≤ length levels

-- the numbered columns of a level table
unfoldable pub numbered_from : ℕ → List ℕ → ℕ → ℕ → List Column
unfolding number columns_from
numbered_from n levels first count = map number (columns_from n levels first count)

-- ---- one side of a member

-- the side that the rules name
abbrev pub side_of : ℕ → Side → RuleSide
side_of n Coarser = coarser_side n
side_of n Finer = finer_side n

-- what was made so far, in the first n bytes; what no column makes where nothing was
abbrev pub made_of : ℕ → RuleSide → Option (List ℕ) → Column
made_of n s None = s.none
made_of n s (Some made) = take n made

-- column i is among those that pass, with no other among them that is strictly nearer, or equivalent and lower
unfoldable pub listed_by : (ℕ → Bool) → RuleSide → List Column → ℕ → Bool
unfolding every hides
listed_by t s Cs i = t i && every (length Cs) (λ j. not (t j && hides s Cs j i))

-- what the columns that pass make, the first of them counted as i
unfoldable pub join_by : (ℕ → Bool) → RuleSide → ℕ → List Column → Column
join_by t s i [] = s.none
join_by t s i (C ∷ Cs) = elim (t i) [ true ↦ s.join C (join_by t s (suc i) Cs) | false ↦ join_by t s (suc i) Cs ]

-- the place of a column, counted from 0, as the rules count it: from 1, and 0 for none
abbrev pub counted_from_one : Option ℕ → ℕ
counted_from_one None = 0
counted_from_one (Some c) = suc c
