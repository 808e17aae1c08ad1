-- Names of all members of a family, worked out once: 160 bytes a member, and the length of each name.
-- Assumes nothing.
use Rattle.std.specs.Prelude.{Bool, true, false, not, ◌||◌, ◌&&◌, List, [], ◌∷◌, ◌++◌, ◌≡◌, ℕ, zero, suc, ◌*◌, ◌≤◌, eqb, ℤ, length, get_or, take, drop}
use Rattle.rules.specs.Lists.{tabulate, decimal_of}
use Rattle.rules.specs.Limits.{most_plots, table_cells, family_bytes, name_bytes}
use Rattle.rules.specs.Family.{members_of}
use Rattle.rules.specs.Sheet.{question3}
use Rattle.rules.specs.Naming.{Kind, name_on}
use Rattle.families.specs.Lent.{column_at}
use Rattle.sheet.specs.declared.Counts.{Counts}
use Rattle.naming.specs.declared.Kind.{Kind as Stated}
use Rattle.naming.specs.Answers.{kind_of, CountedIn}
use Rattle.rules.specs.Table.{dash, names_from, Row, signed, is_zero, word_residual, word_stratum, word_source, word_df, word_all, word_total}

-- the name of the member at a place, from 0
unfoldable pub name_in : List ℕ → List ℕ → ℕ → List ℕ
name_in names lengths j = take (get_or lengths j 0) (drop (name_bytes * j) names)

-- what naming members of a family buffer asks: a first line of the form, a level table and a buffer long enough
pub record Nameable (text levels buffer : List ℕ) (n : ℕ) : Type 0 where
  pub form : question3 text ≡ true
  pub some : 1 ≤ n
  pub few : n ≤ most_plots
  pub table : table_cells ≤ length levels
  pub long : family_bytes ≤ length buffer

-- the same by a sheet's counts, which are those of its first line
abbrev pub NameableBy : List ℕ → List ℕ → Counts → List ℕ → Type 0
NameableBy text levels counts buffer = Nameable text levels buffer counts.plots × CountedIn text counts

-- the name at a place of a family buffer, from 1; `-` at place 0
unfoldable pub placed_name : Kind → List ℕ → ℕ → List ℕ → List ℕ → ℕ → List ℕ
unfolding name_on
placed_name kind text n levels buffer zero = dash
placed_name kind text n levels buffer (suc i) = name_on kind text n levels (suc i) (column_at n buffer i)

-- the names of the first members
unfoldable pub names_in : List ℕ → List ℕ → ℕ → List (List ℕ)
unfolding tabulate name_in
names_in names lengths size = tabulate (name_in names lengths) size

-- the names of the first members of a lent family
abbrev pub family_names : Stated → Counts → ℕ → List ℕ → List ℕ → List ℕ → List (List ℕ)
family_names kind counts size text levels family = names_from (kind_of kind) text counts.plots levels (members_of counts.plots family size) 1 size

-- a place is among those of the strata
unfoldable pub among : ℕ → List ℕ → Bool
among i [] = false
among i (s ∷ ss) = eqb s i || among i ss

-- the residual's line of a stratum that has a treatment member or has none
unfoldable pub residual_of : List ℕ → Bool → ℤ → List Row
unfolding signed is_zero
residual_of name found r = elim (found && not (is_zero r)) [ true ↦ (name ∷ word_residual ∷ signed r ∷ []) ∷ [] | false ↦ [] ]

-- the first line, the lines of the strata, and the last line with the number of plots
unfoldable pub table_of : ℕ → List Row → List Row
unfolding decimal_of
table_of n rows = (word_stratum ∷ word_source ∷ word_df ∷ []) ∷ rows ++ (word_all ∷ word_total ∷ decimal_of n ∷ []) ∷ []
