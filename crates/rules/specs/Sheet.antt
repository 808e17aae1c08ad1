-- The sheet: lines and fields, names, levels, the level table, and questions 1 to 5. A text is the list of its bytes.
-- Assumes nothing.
use Rattle.std.specs.Prelude.{Bool, true, false, not, ◌&&◌, ◌||◌, List, [], ◌∷◌, ◌++◌, ◌⊎◌, ◌≡◌, ℕ, suc, ◌+◌, ◌-◌, ◌*◌, ◌<◌, ◌≤◌, eqb, leb, length, get_or, drop, set}
use Rattle.rules.specs.Limits.{most_text, most_plots, most_columns, most_fields, most_level, most_older_level, most_name_tail, table_cells}

-- ---- tests

-- a ≤ x ≤ b
abbrev pub within : ℕ → ℕ → ℕ → Bool
within a b x = leb a x && leb x b

-- each element passes the test
unfoldable pub all {ℓ} : {A : Type ℓ} → (A → Bool) → List A → Bool
all p [] = true
all p (x ∷ xs) = p x && all p xs

-- ---- lines and fields

-- "lines of text, each ended by byte 10 (decimal), fields parted by one tab (byte 9)"
abbrev pub newline : ℕ
newline = 10

abbrev pub tab : ℕ
tab = 9

-- the bytes before the first b; all of them where there is no b
unfoldable pub up_to : ℕ → List ℕ → List ℕ
up_to b [] = []
up_to b (x ∷ xs) = elim (eqb x b) [ true ↦ [] | false ↦ x ∷ up_to b xs ]

-- the bytes after the first b
unfoldable pub past : ℕ → List ℕ → List ℕ
past b [] = []
past b (x ∷ xs) = elim (eqb x b) [ true ↦ xs | false ↦ past b xs ]

unfoldable pub has : ℕ → List ℕ → Bool
has b [] = false
has b (x ∷ xs) = elim (eqb x b) [ true ↦ true | false ↦ has b xs ]

-- a line: its bytes, and whether byte 10 ends it, as it does every line but perhaps the last
pub record Line : Type 0 where
  pub bytes : List ℕ
  pub ended : Bool

-- one byte more at the start of the first line
unfoldable pub extend : ℕ → List Line → List Line
extend x [] = record { bytes = x ∷ []; ended = false } ∷ []
extend x (l ∷ ls) = record { bytes = x ∷ l.bytes; ended = l.ended } ∷ ls

-- a text's lines; the empty rest after the last byte 10 is none
unfoldable pub lines : List ℕ → List Line
unfolding extend
lines [] = []
lines (x ∷ xs) = elim (eqb x newline) [ true ↦ record { bytes = []; ended = true } ∷ lines xs | false ↦ extend x (lines xs) ]

abbrev pub Field : Type 0
Field = List ℕ

-- one byte more at the start of the first field
unfoldable pub widen : ℕ → List Field → List Field
widen x [] = (x ∷ []) ∷ []
widen x (f ∷ fs) = (x ∷ f) ∷ fs

-- a line of k tabs has k + 1 fields
unfoldable pub fields : List ℕ → List Field
unfolding widen
fields [] = [] ∷ []
fields (x ∷ xs) = elim (eqb x tab) [ true ↦ [] ∷ fields xs | false ↦ widen x (fields xs) ]

-- ---- names

abbrev pub letter : ℕ → Bool
letter x = within 65 90 x || within 97 122 x

abbrev pub digit : ℕ → Bool
digit x = within 48 57 x

abbrev pub letter_or_digit : ℕ → Bool
letter_or_digit x = letter x || digit x

-- "A name is a letter and then 1 to 11 letters or digits, all ASCII"
unfoldable pub is_name : List ℕ → Bool
unfolding all
is_name [] = false
is_name (x ∷ xs) = letter x && within 1 most_name_tail (length xs) && all letter_or_digit xs

unfoldable pub same_bytes : List ℕ → List ℕ → Bool
same_bytes [] [] = true
same_bytes [] (y ∷ ys) = false
same_bytes (x ∷ xs) [] = false
same_bytes (x ∷ xs) (y ∷ ys) = eqb x y && same_bytes xs ys

-- ---- the first line

-- the bytes p and t, which tell a column's kind
abbrev pub plot_mark : ℕ
plot_mark = 112

abbrev pub treatment_mark : ℕ
treatment_mark = 116

-- "each `p:` (plot) or `t:` (treatment) and a name"
unfoldable pub is_column : Field → Bool
unfolding is_name
is_column [] = false
is_column (x ∷ []) = false
is_column (x ∷ y ∷ name) = (eqb x plot_mark || eqb x treatment_mark) && eqb y 58 && is_name name

-- the column is of the kind that the byte marks
unfoldable pub is_kind : ℕ → Field → Bool
is_kind mark [] = false
is_kind mark (x ∷ xs) = eqb x mark

abbrev pub name_of : Field → List ℕ
name_of f = drop 2 f

-- how many columns are of a kind
unfoldable pub count_kind : ℕ → List Field → ℕ
unfolding is_kind
count_kind mark [] = 0
count_kind mark (f ∷ fs) = elim (is_kind mark f) [ true ↦ suc (count_kind mark fs) | false ↦ count_kind mark fs ]

-- the names of a kind's columns, in sheet order
unfoldable pub column_names : ℕ → List Field → List (List ℕ)
unfolding is_kind
column_names mark [] = []
column_names mark (f ∷ fs) = elim (is_kind mark f) [ true ↦ name_of f ∷ column_names mark fs | false ↦ column_names mark fs ]

-- the name of f is the name of none of these
unfoldable pub new_name : Field → List Field → Bool
unfolding same_bytes
new_name f [] = true
new_name f (g ∷ fs) = not (same_bytes (name_of f) (name_of g)) && new_name f fs

-- "no two names are equal"
unfoldable pub names_differ : List Field → Bool
unfolding new_name
names_differ [] = true
names_differ (f ∷ fs) = new_name f fs && names_differ fs

-- "1 to 12 fields, each `p:` (plot) or `t:` (treatment) and a name. At most 6 are of one kind."
unfoldable pub is_header : List Field → Bool
unfolding all is_column count_kind names_differ
is_header fs =
    within 1 most_fields (length fs) && all is_column fs && leb (count_kind plot_mark fs) most_columns && leb (count_kind treatment_mark fs) most_columns
    && names_differ fs

-- the fields of the first line
unfoldable pub header : List ℕ → List Field
unfolding up_to fields
header text = fields (up_to newline text)

-- ---- later lines

-- the decimal number that digits write, after a number v
unfoldable pub decimal_from : ℕ → List ℕ → ℕ
decimal_from v [] = v
decimal_from v (x ∷ xs) = decimal_from (10 * v + (x - 48)) xs

abbrev pub decimal : Field → ℕ
decimal f = decimal_from 0 f

unfoldable pub no_leading_zero : Field → Bool
no_leading_zero [] = true
no_leading_zero (x ∷ xs) = not (eqb x 48)

-- "a decimal level 1 to 4294967295 without leading zeros"; `top` is the highest level: older sheets have a lower one
unfoldable pub is_level : ℕ → Field → Bool
unfolding all decimal_from no_leading_zero
is_level top f = no_leading_zero f && all digit f && within 1 top (decimal f)

-- "as many fields as the first line, each a decimal level"
unfoldable pub is_row : ℕ → ℕ → List Field → Bool
unfolding all is_level
is_row top n fs = eqb (length fs) n && all (is_level top) fs

unfoldable pub is_plot_line : ℕ → ℕ → Line → Bool
unfolding fields is_row
is_plot_line top n l = l.ended && is_row top n (fields l.bytes)

unfoldable pub later_lines : List ℕ → List Line
unfolding past lines
later_lines text = lines (past newline text)

-- ---- the level table

-- the column of the level table that each field takes, after p plot and t treatment columns:
-- "plot columns take c = 0 to 5 and treatment columns c = 6 to 11, each kind in sheet order"
unfoldable pub columns_after : ℕ → ℕ → List Field → List ℕ
unfolding is_kind
columns_after p t [] = []
columns_after p t (f ∷ fs) = elim (is_kind plot_mark f) [
  | true ↦ p ∷ columns_after (suc p) t fs
  | false ↦ (most_columns + t) ∷ columns_after p (suc t) fs
]

-- the level table with the levels of plot u: "Column c, plot u (both from 0) is number 240 × c + u"
unfoldable pub with_plot : List ℕ → ℕ → List Field → List ℕ → List ℕ
with_plot [] u fs levels = levels
with_plot (c ∷ cs) u [] levels = levels
with_plot (c ∷ cs) u (f ∷ fs) levels = with_plot cs u fs (set levels (most_plots * c + u) (decimal f))

-- the level table with the levels of plots u, u + 1, .., one a line
unfoldable pub with_plots : List ℕ → ℕ → List Line → List ℕ → List ℕ
unfolding with_plot fields
with_plots cs u [] levels = levels
with_plots cs u (l ∷ ls) levels = with_plots cs (suc u) ls (with_plot cs u (fields l.bytes) levels)

-- the same by cells (cell-read and cell-kept in proofs/Sheet, cells-equal in proofs/Labels): the field that takes column c
unfoldable pub field_in : ℕ → List ℕ → List Field → Field
field_in c [] fs = []
field_in c (d ∷ cs) [] = []
field_in c (d ∷ cs) (f ∷ fs) = elim (eqb d c) [ true ↦ f | false ↦ field_in c cs fs ]

abbrev pub no_line : Line
no_line = record { bytes = []; ended = false }

-- the field of cell 240 × c + u: column c, plot u
abbrev pub cell_field : List ℕ → ℕ → ℕ → Field
cell_field text c u = field_in c (columns_after 0 0 (header text)) (fields (get_or (later_lines text) u no_line).bytes)

-- column c is used by p plot and t treatment columns
abbrev pub Used : ℕ → ℕ → ℕ → Type 0
Used p t c = (c < p) ⊎ ((most_columns ≤ c) × (c < most_columns + t))

-- ---- printing

-- the byte b is not in the field
abbrev pub free : ℕ → List ℕ → Bool
free b f = not (has b f)

-- a line's fields, parted by tabs
unfoldable pub joined : List Field → List ℕ
joined [] = []
joined (f ∷ []) = f
joined (f ∷ g ∷ fs) = f ++ tab ∷ joined (g ∷ fs)

-- lines of fields, each ended by byte 10
unfoldable pub printed : List (List Field) → List ℕ
unfolding joined
printed [] = []
printed (fs ∷ ls) = joined fs ++ newline ∷ printed ls

-- ---- questions 1 to 5

-- 1. "Does the lent level table hold at least 2,880 numbers?"
abbrev pub question1 : List ℕ → Bool
question1 levels = leb table_cells (length levels)

-- 2. "Is the text 1 to 32,768 bytes?"
abbrev pub question2 : List ℕ → Bool
question2 text = within 1 most_text (length text)

-- 3. "Does the first line have the form above?"
unfoldable pub question3 : List ℕ → Bool
unfolding has is_header header
question3 text = has newline text && is_header (header text)

-- 4. "Does every later line have it?"
unfoldable pub question4 : ℕ → List ℕ → Bool
unfolding all is_plot_line header later_lines
question4 top text = all (is_plot_line top (length (header text))) (later_lines text)

-- 5. "Are there 1 to 240 plot lines?"
unfoldable pub question5 : List ℕ → Bool
unfolding later_lines
question5 text = within 1 most_plots (length (later_lines text))

-- "For every text the reader answers the three counts or one refusal: the counts are plots, plot columns and treatment columns."
pub data Outcome : Type 0 where
  read : ℕ → ℕ → ℕ → Outcome
  refused : ℕ → Outcome

unfoldable pub counts : List ℕ → Outcome
unfolding later_lines header count_kind
counts text = read (length (later_lines text)) (count_kind plot_mark (header text)) (count_kind treatment_mark (header text))

-- questions 3 to 5
unfoldable pub reading_from3 : ℕ → List ℕ → Outcome
unfolding question3 question4 question5 counts
reading_from3 top text = elim (question3 text) [
  | false ↦ refused 3
  | true ↦ elim (question4 top text) [ false ↦ refused 4 | true ↦ elim (question5 text) [ false ↦ refused 5 | true ↦ counts text ] ]
]

-- questions 1 to 5, with levels up to `top`: "The first "no" gives its number."
unfoldable pub reading_to : ℕ → List ℕ → List ℕ → Outcome
unfolding reading_from3
reading_to top text levels = elim (question1 levels) [ false ↦ refused 1 | true ↦ elim (question2 text) [ false ↦ refused 2 | true ↦ reading_from3 top text ] ]

abbrev pub reading : List ℕ → List ℕ → Outcome
reading = reading_to most_level

-- The level table after a reading. "After 1 to 8 .. no lent memory has changed"; "Cells that no plot or column uses are not touched."
unfoldable pub levels_after : Outcome → List ℕ → List ℕ → List ℕ
unfolding with_plots columns_after header later_lines
levels_after (refused q) text levels = levels
levels_after (read n p t) text levels = with_plots (columns_after 0 0 (header text)) 0 (later_lines text) levels

-- "Every older sheet gives the same families": an outcome o and the level table afterwards are those with levels up to 65535, unless these give 4
abbrev pub OlderKept : List ℕ → List ℕ → Outcome → List ℕ → Type 0
OlderKept text levels o after =
    (reading_to most_older_level text levels ≡ refused 4)
    ⊎ ((o ≡ reading_to most_older_level text levels) × (after ≡ levels_after (reading_to most_older_level text levels) text levels))
