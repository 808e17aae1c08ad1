-- The enums of the entries, read by the rules' definitions, and what naming one member by itself answers.
-- Assumes nothing.
use Rattle.std.specs.Prelude.{Bool, true, false, ◌&&◌, List, ◌++◌, ◌≡◌, ℕ, Result, Ok, Err, eqb, leb, length, take, drop}
use Rattle.rules.specs.Limits.{most_columns, table_cells, name_bytes}
use Rattle.rules.specs.Factor.{Column}
use Rattle.rules.specs.Design.{plots_within}
use Rattle.rules.specs.Family.{columns_from, members_of}
use Rattle.rules.specs.Sheet.{column_names, count_kind, header, plot_mark, treatment_mark, question3}
use Rattle.rules.specs.Names.{name_of, bytes_of}
use Rattle.rules.specs.Naming.{Kind as Rule, plot, treatment, first_column, NameAnswer, name_refused, naming_within, naming_from7, naming}
use Rattle.refusal.specs.declared.Refusal.{Refusal}
use Rattle.refusal.specs.Numbers.{number_of}
use Rattle.sheet.specs.declared.Counts.{Counts}
use Rattle.naming.specs.Columns.{own_of, looked_of, own_names, look_names}
use Rattle.naming.specs.declared.columns.Look.{Look}
use Rattle.naming.specs.declared.Kind.{Kind}
use Rattle.naming.specs.declared.Kind.TheVariants.{Plot, Treatment}

-- the kind that the caller states
abbrev pub kind_of : Kind → Rule
kind_of Plot = plot
kind_of Treatment = treatment

-- the columns that a member of the kind looks at: a treatment member at the plot columns too, which come first
abbrev pub look_of : Kind → Counts → Look
look_of Plot counts = record { mark = plot_mark; plots = counts.plots; before = 0; first = first_column plot; count = counts.plot_columns }
look_of Treatment counts = record { mark = treatment_mark; plots = counts.plots; before = counts.plot_columns; first = first_column treatment; count = counts.treatment_columns }

-- the columns counted are those of a first line
pub record CountedIn (text : List ℕ) (counts : Counts) : Type 0 where
  pub plot_columns_holds : counts.plot_columns ≡ count_kind plot_mark (header text)
  pub treatment_columns_holds : counts.treatment_columns ≡ count_kind treatment_mark (header text)

-- 1 to 240 plots, at most 6 columns of either kind, and a level table long enough
unfoldable pub look_fits : Look → ℕ → Bool
unfolding plots_within
look_fits look tableLength = plots_within look.plots && leb look.before most_columns && leb look.count most_columns && leb table_cells tableLength

-- these, room for a name, and a member on these plots
unfoldable pub member_fits : Look → ℕ → ℕ → ℕ → Bool
unfolding look_fits
member_fits look tableLength nameLength memberLength = look_fits look tableLength && leb name_bytes nameLength && eqb memberLength look.plots

-- the name of the member F at a place, from 1, by the columns of a level table
unfoldable pub name_by : Look → List ℕ → List ℕ → ℕ → Column → List ℕ
unfolding bytes_of name_of column_names columns_from header look_names
name_by look text levels place F = bytes_of (own_names look text) (look_names look text) (name_of look.plots (own_of look levels) (looked_of look levels) place F)

-- naming one member by itself: 6 where a count or a length is out of range, or the member is not on these plots; else as much of the name
-- as the buffer holds
unfoldable pub naming_by : Look → List ℕ → List ℕ → Column → ℕ → ℕ → NameAnswer
unfolding member_fits name_by
naming_by look text levels F place room = elim (member_fits look (length levels) room (length F)) [
  | true ↦ record { refusal = 0; name = take room (name_by look text levels place F) }
  | false ↦ name_refused 6
]

-- the same by a sheet's counts, into a lent buffer
abbrev pub counted_naming : Kind → Counts → ℕ → List ℕ → List ℕ → Column → List ℕ → NameAnswer
counted_naming kind counts place text levels F name = naming_by (look_of kind counts) text levels F place (length name)

-- the name of a member of a lent family, into a lent buffer
abbrev pub member_naming : Kind → ℕ → ℕ → ℕ → List ℕ → List ℕ → List ℕ → List ℕ → NameAnswer
member_naming kind n size place text levels family name = naming (kind_of kind) text levels family n size place (length name)

-- the same once 2, 3 and 6 are answered, and what these tell
abbrev pub naming_of : Kind → Counts → ℕ → ℕ → List ℕ → List ℕ → List ℕ → NameAnswer
naming_of kind counts size place text levels family = naming_from7 (kind_of kind) text counts.plots levels (members_of counts.plots family size) place

abbrev pub Asked : Counts → ℕ → ℕ → List ℕ → List ℕ → List ℕ → List ℕ → Type 0
Asked counts size place text levels family name =
    (question3 text ≡ true) × (naming_within counts.plots size place (length levels) (length family) (length name) ≡ true) × CountedIn text counts

-- a buffer that starts with these bytes, and past them is as it was
abbrev pub starting_with : List ℕ → List ℕ → List ℕ
starting_with name buffer = name ++ drop (length name) buffer

-- ---- the answer

-- whether a name is written, the number of the question that failed or 0, and how many bytes the name has
pub record NameNumbers : Type 0 where
  pub accepted : Bool
  pub refusal : ℕ
  pub size : ℕ

-- each case of the result
unfoldable pub name_numbers : Result ℕ Refusal → NameNumbers
name_numbers (Ok m) = record { accepted = true; refusal = 0; size = m }
name_numbers (Err q) = record { accepted = false; refusal = number_of q; size = 0 }

-- an answer of the rules
unfoldable pub name_numbers_of : NameAnswer → NameNumbers
name_numbers_of a = record { accepted = eqb a.refusal 0; refusal = a.refusal; size = length a.name }
