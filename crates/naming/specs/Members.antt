-- The names of all members of a family: 160 bytes a member, and the length of each name.
-- Assumes nothing.
use Rattle.std.specs.Prelude.{Bool, true, false, ◌&&◌, List, [], ◌∷◌, ◌++◌, ℕ, zero, suc, ◌+◌, ◌*◌, ◌≤◌, Option, None, Some, Result, Ok, Err, eqb, leb, length, get_or, take, drop, set}
use Rattle.rules.specs.Limits.{most_members, family_bytes, name_bytes}
use Rattle.rules.specs.Factor.{Column, classes}
use Rattle.rules.specs.Family.{alike}
use Rattle.rules.specs.Lists.{passing_from, decimal_of}
use Rattle.rules.specs.Names.{name_U, name_E, name_of, name_by_column, name_by_infimum, name_by_supremum, equivalent_column, join_of, shown, with_commas, bytes_of}
use Rattle.families.specs.Lent.{column_at}
use Rattle.naming.specs.declared.columns.Look.{Look}
use Rattle.naming.specs.declared.sides.Side.{Side}
use Rattle.naming.specs.declared.sides.Side.TheVariants.{Coarser, Finer}
use Rattle.naming.specs.Columns.{own_in, looked_in, own_names, look_names, side_of, listed_by}
use Rattle.refusal.specs.declared.Refusal.{Refusal}
use Rattle.refusal.specs.declared.Refusal.TheVariants.{Limits}
use Rattle.naming.specs.declared.Kind.{Kind}
use Rattle.sheet.specs.declared.Counts.{Counts}
use Rattle.naming.specs.Answers.{starting_with, look_fits, name_by, look_of}

-- ---- by numbered columns

-- `I(` or `S(` names `)`
abbrev pub letter_of : Side → ℕ
letter_of Coarser = 73
letter_of Finer = 83

abbrev pub list_text : Look → Side → List ℕ → List ℕ → List ℕ
list_text look side text cs = letter_of side ∷ 40 ∷ with_commas (look_names look text) cs ++ 41 ∷ []

-- that, where the member F is what the columns on the side make
unfoldable pub side_text : Look → Side → List ℕ → List ℕ → Column → Option (List ℕ)
unfolding alike join_of shown look_names with_commas
side_text look side text table F = elim (alike (join_of (side_of look.plots side) F (looked_in look table)) F) [
  | true ↦ Some (list_text look side text (shown (side_of look.plots side) F (looked_in look table)))
  | false ↦ None
]

-- the columns that are listed of those told to be there
abbrev pub listed_in : Look → Side → List ℕ → List Bool → List ℕ
listed_in look side table there = passing_from (listed_by (λ j. get_or there j false) (side_of look.plots side) (looked_in look table)) 0 (look.before + look.count)

-- the name of a member with one class or a class for each plot
unfoldable pub extreme_name : ℕ → Column → Option (List ℕ)
unfolding classes bytes_of
extreme_name n F = elim (eqb (classes F) 1) [ true ↦ Some (bytes_of [] [] name_U) | false ↦ elim (eqb (classes F) n) [ true ↦ Some (bytes_of [] [] name_E) | false ↦ None ] ]

-- a text, or the next where there is none
abbrev pub or_else : Option (List ℕ) → List ℕ → List ℕ
or_else None next = next
or_else (Some text) next = text

-- what is written of the member F at a place, from 1: the first rule that fits, and the rules after U and E, after an equivalent column, and
-- after an infimum
abbrev pub name_text : Look → List ℕ → List ℕ → ℕ → Column → List ℕ
name_text look text table place F = bytes_of (own_names look text) (look_names look text) (name_of look.plots (own_in look table) (looked_in look table) place F)

abbrev pub column_text : Look → List ℕ → List ℕ → ℕ → Column → List ℕ
column_text look text table place F =
    bytes_of (own_names look text) (look_names look text) (name_by_column look.plots (own_in look table) (looked_in look table) place F (equivalent_column F 0 (own_in look table)))

abbrev pub infimum_text : Look → List ℕ → List ℕ → ℕ → Column → List ℕ
infimum_text look text table place F = bytes_of (own_names look text) (look_names look text) (name_by_infimum look.plots (own_in look table) (looked_in look table) place F)

abbrev pub supremum_text : Look → List ℕ → List ℕ → ℕ → Column → List ℕ
supremum_text look text table place F = bytes_of (own_names look text) (look_names look text) (name_by_supremum look.plots (looked_in look table) place F)

abbrev pub place_text : ℕ → List ℕ
place_text place = 35 ∷ decimal_of place

-- ---- the names of a family

-- the buffer once the first m of the names f 0, f 1, .. are written, name i from byte 160 × i on
unfoldable pub names_written : (ℕ → List ℕ) → List ℕ → ℕ → List ℕ
names_written f names zero = names
names_written f names (suc m) = take (name_bytes * m) (names_written f names m) ++ starting_with (f m) (drop (name_bytes * m) (names_written f names m))

-- their lengths, by place
unfoldable pub lengths_written : (ℕ → List ℕ) → List ℕ → ℕ → List ℕ
lengths_written f lengths zero = lengths
lengths_written f lengths (suc m) = set (lengths_written f lengths m) m (length (f m))

-- plots, columns and level table within limits, at most 32 members, and lent slices long enough for these
unfoldable pub members_fit : Look → ℕ → ℕ → ℕ → ℕ → ℕ → Bool
unfolding look_fits
members_fit look size tableLength familyLength nameLength lengths =
    look_fits look tableLength && leb size most_members && leb family_bytes familyLength && leb (name_bytes * size) nameLength && leb size lengths

-- the answer where these are in range, and where they are out of range: 6
abbrev pub answer6 : Bool → Result Unit Refusal
answer6 true = Ok tt
answer6 false = Err Limits

-- as much of a name as its 160 bytes hold; by columns of a first line of the form it is the name
abbrev pub held : (ℕ → List ℕ) → ℕ → List ℕ
held f i = take name_bytes (f i)

-- the name of member i, from 0, of a family buffer, by numbered columns and by a level table
unfoldable pub member_text : Look → List ℕ → List ℕ → List ℕ → ℕ → List ℕ
unfolding bytes_of name_of look_names
member_text look text table buffer i = name_text look text table (suc i) (column_at look.plots buffer i)

unfoldable pub member_by : Look → List ℕ → List ℕ → List ℕ → ℕ → List ℕ
unfolding name_by
member_by look text levels buffer i = name_by look text levels (suc i) (column_at look.plots buffer i)

-- each as far as its 160 bytes hold it
abbrev pub each_held : Look → List ℕ → List ℕ → List ℕ → ℕ → List ℕ
each_held look text table buffer = held (member_text look text table buffer)

abbrev pub level_held : Look → List ℕ → List ℕ → List ℕ → ℕ → List ℕ
level_held look text levels buffer = held (member_by look text levels buffer)

-- room for the names of at most 32 members of a family buffer
pub record Slots (buffer : List ℕ) (size : ℕ) (names lengths : List ℕ) : Type 0 where
  pub few : size ≤ most_members
  pub long : family_bytes ≤ length buffer
  pub room : name_bytes * size ≤ length names
  pub counted : size ≤ length lengths

-- what is written where the members can be named, and what was there where they cannot
abbrev pub if_named : {A : Type 0} → Bool → A → A → A
if_named true new old = new
if_named false new old = old

-- ---- by a sheet's counts, into lent memory

abbrev pub family_fits : Kind → Counts → ℕ → List ℕ → List ℕ → List ℕ → List ℕ → Bool
family_fits kind counts size levels family names lengths = members_fit (look_of kind counts) size (length levels) (length family) (length names) (length lengths)

-- the names written, each as far as its 160 bytes hold it
abbrev pub family_held : Kind → Counts → List ℕ → List ℕ → List ℕ → ℕ → List ℕ
family_held kind counts text levels family = level_held (look_of kind counts) text levels family

-- what the lent memory holds afterwards
abbrev pub names_after : Kind → Counts → ℕ → List ℕ → List ℕ → List ℕ → List ℕ → List ℕ → List ℕ
names_after kind counts size text levels family names lengths =
    if_named (family_fits kind counts size levels family names lengths) (names_written (family_held kind counts text levels family) names size) names

abbrev pub lengths_after : Kind → Counts → ℕ → List ℕ → List ℕ → List ℕ → List ℕ → List ℕ → List ℕ
lengths_after kind counts size text levels family names lengths =
    if_named (family_fits kind counts size levels family names lengths) (lengths_written (family_held kind counts text levels family) lengths size) lengths
