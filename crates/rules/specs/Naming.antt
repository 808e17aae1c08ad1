-- Naming a member of a family by the sheet's column names: questions 2, 3, 6, 7 and 15.
-- Assumes nothing.
use Rattle.std.specs.Prelude.{Bool, true, false, ◌&&◌, List, [], ◌++◌, ℕ, ◌-◌, ltb, leb, length, drop}
use Rattle.rules.specs.Limits.{most_columns, table_cells, family_bytes, name_bytes}
use Rattle.rules.specs.Factor.{Column}
use Rattle.rules.specs.Family.{Family, columns_from, members_of, well_formed}
use Rattle.rules.specs.Design.{plots_within, all_nonzero}
use Rattle.rules.specs.Relation.{member_at}
use Rattle.rules.specs.Sheet.{Field, header, column_names, count_kind, plot_mark, treatment_mark, question2, question3}
use Rattle.rules.specs.Names.{name_of, bytes_of}

-- "the family's kind, plot or treatment, which the caller states"
pub data Kind : Type 0 where
  plot : Kind
  treatment : Kind

-- how the first line marks a column of the kind
abbrev pub mark_of : Kind → ℕ
mark_of plot = plot_mark
mark_of treatment = treatment_mark

-- where the columns of the kind begin in the level table
abbrev pub first_column : Kind → ℕ
first_column plot = 0
first_column treatment = most_columns

-- the names of the columns of the kind, in sheet order
abbrev pub kind_names : Kind → List Field → List (List ℕ)
kind_names kind fs = column_names (mark_of kind) fs

-- the columns of the kind on n plots: "uses its first line for the column names and column counts, and reads the columns in the level table"
unfoldable pub kind_columns : Kind → List ℕ → ℕ → List ℕ → List Column
unfolding columns_from count_kind header
kind_columns kind text n levels = columns_from n levels (first_column kind) (count_kind (mark_of kind) (header text))

-- "Plot members look at plot columns, treatment members at plot and then treatment columns, named in that order"
unfoldable pub looked_at : Kind → List ℕ → ℕ → List ℕ → List Column
unfolding kind_columns
looked_at plot text n levels = kind_columns plot text n levels
looked_at treatment text n levels = kind_columns plot text n levels ++ kind_columns treatment text n levels

unfoldable pub looked_names : Kind → List Field → List (List ℕ)
unfolding column_names
looked_names plot fs = kind_names plot fs
looked_names treatment fs = kind_names plot fs ++ kind_names treatment fs

-- the name of the member F at a place, from 1
unfoldable pub name_on : Kind → List ℕ → ℕ → List ℕ → ℕ → Column → List ℕ
unfolding bytes_of name_of column_names kind_columns looked_at looked_names header
name_on kind text n levels place F =
    bytes_of (kind_names kind (header text)) (looked_names kind (header text)) (name_of n (kind_columns kind text n levels) (looked_at kind text n levels) place F)

-- the name of the member that stands at a place of the family
unfoldable pub name_at : Kind → List ℕ → ℕ → List ℕ → Family → ℕ → List ℕ
unfolding name_on
name_at kind text n levels S place = name_on kind text n levels place (member_at S (place - 1))

-- ---- the answer

-- the number of the question that failed, 0 for none, and the name
pub record NameAnswer : Type 0 where
  pub refusal : ℕ
  pub name : List ℕ

abbrev pub name_refused : ℕ → NameAnswer
name_refused q = record { refusal = q; name = [] }

-- 6. "is a place asked about from 1 to its family's size, and are all lent slices long enough (level table 2,880, family 7,680, name 160)?"
unfoldable pub naming_within : ℕ → ℕ → ℕ → ℕ → ℕ → ℕ → Bool
unfolding plots_within
naming_within n size place tableLength familyLength nameLength =
    plots_within n && ltb 0 place && leb place size && leb table_cells tableLength && leb family_bytes familyLength && leb name_bytes nameLength

-- "7 covers every column looked at", then 15
unfoldable pub naming_from7 : Kind → List ℕ → ℕ → List ℕ → Family → ℕ → NameAnswer
unfolding all_nonzero looked_at well_formed name_at
naming_from7 kind text n levels S place = elim (all_nonzero (looked_at kind text n levels)) [
  | false ↦ name_refused 7
  | true ↦ elim (well_formed S) [ false ↦ name_refused 15 | true ↦ record { refusal = 0; name = name_at kind text n levels S place } ]
]

-- "it asks 2, 3, 6, 7 and 15"
unfoldable pub naming : Kind → List ℕ → List ℕ → List ℕ → ℕ → ℕ → ℕ → ℕ → NameAnswer
unfolding question3 naming_within naming_from7 members_of
naming kind text levels buffer n size place nameLength = elim (question2 text) [
  | false ↦ name_refused 2
  | true ↦ elim (question3 text) [
    | false ↦ name_refused 3
    | true ↦ elim (naming_within n size place (length levels) (length buffer) nameLength) [
      | false ↦ name_refused 6
      | true ↦ naming_from7 kind text n levels (members_of n buffer size) place
    ]
  ]
]

-- what the name buffer holds afterwards: "bytes past the name are not touched"
abbrev pub name_buffer : List ℕ → NameAnswer → List ℕ
name_buffer buffer a = a.name ++ drop (length a.name) buffer
