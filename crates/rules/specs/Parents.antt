-- Sheets numbered within a parent (C-22): the old sheet's first line, the converted columns and the converted sheet, and questions 6, 2 to 5 and 23.
-- Assumes nothing.
use Rattle.std.specs.Prelude.{◌≡◌, Bool, true, false, not, ◌&&◌, ◌||◌, List, [], ◌∷◌, ◌++◌, map, ℕ, suc, ◌≤◌, leb, ltb, length, get_or}
use Rattle.rules.specs.Limits.{most_text, most_level}
use Rattle.rules.specs.Factor.{Column, index_of, infimum}
use Rattle.rules.specs.Sheet.{newline, all, up_to, past, has, Field, is_name, same_bytes, plot_mark, treatment_mark, is_kind, count_kind, is_header, header, later_lines, question2, question4, question5, read, reading, levels_after}
use Rattle.rules.specs.SheetText.{plot_heading, sheet_text, sheet_columns, table_columns, SheetAnswer, no_sheet}

-- ---- the first line

abbrev pub slash : ℕ
slash = 47

-- "the slash part dropped"
abbrev pub without_parent : Field → Field
without_parent f = up_to slash f

-- "written `p:Section/Bench`, the part after `/`, in a name's form": only on a plot column
unfoldable pub slash_form : Field → Bool
unfolding has past is_kind is_name
slash_form f = not (has slash f) || is_kind plot_mark f && is_name (past slash f)

-- the first line of the converted sheet
unfoldable pub plain_header : List ℕ → List Field
unfolding up_to header
plain_header text = map without_parent (header text)

-- 3, "asked of the old sheet with this one addition to its header": without the slash parts it is that of any sheet
unfoldable pub old_question3 : List ℕ → Bool
unfolding has all slash_form is_header header plain_header
old_question3 text = has newline text && all slash_form (header text) && is_header (plain_header text)

-- ---- parents

-- "naming a plot column further left": where `p:` and the part after the slash stands among the plain fields, from 0; past them where it does not
unfoldable pub parent_place : List Field → Field → ℕ
unfolding index_of same_bytes past
parent_place ps f = index_of same_bytes ps (plot_heading (past slash f))

-- 23, "when a parent isn't a plot column further left": of the fields from place i on
unfoldable pub parents_left : List Field → ℕ → List Field → Bool
unfolding has parent_place
parents_left ps i [] = true
parents_left ps i (f ∷ fs) = (not (has slash f) || ltb (parent_place ps f) i) && parents_left ps (suc i) fs

unfoldable pub question23 : List ℕ → Bool
unfolding parents_left plain_header header
question23 text = parents_left (plain_header text) 0 (header text)

-- ---- columns

-- "the column becomes the infimum of itself and its converted parent, levels by first appearance .. Columns without a slash are copied."
-- Ds are the converted columns further left.
unfoldable pub converted_column : List Field → List Column → Field → Column → Column
unfolding has parent_place infimum
converted_column ps Ds f C = elim (has slash f) [ true ↦ infimum C (get_or Ds (parent_place ps f) []) | false ↦ C ]

-- all of them, from left to right
unfoldable pub converted_after : List Field → List Column → List Field → List Column → List Column
unfolding converted_column
converted_after ps Ds [] Cs = Ds
converted_after ps Ds (f ∷ fs) [] = Ds
converted_after ps Ds (f ∷ fs) (C ∷ Cs) = converted_after ps (Ds ++ converted_column ps Ds f C ∷ []) fs Cs

unfoldable pub converted_columns : List ℕ → List Column
unfolding converted_after plain_header header sheet_columns
converted_columns text = converted_after (plain_header text) [] (header text) (sheet_columns text)

-- the converted sheet
unfoldable pub converted_sheet : List ℕ → List ℕ
unfolding sheet_text later_lines plain_header converted_columns
converted_sheet text = sheet_text (length (later_lines text)) (plain_header text) (converted_columns text)

-- ---- the questions

-- 3, 4, 5 and 23
unfoldable pub conversion_from3 : List ℕ → SheetAnswer
unfolding old_question3 question4 question5 question23 converted_sheet
conversion_from3 text = elim (old_question3 text) [
  | false ↦ no_sheet 3
  | true ↦ elim (question4 most_level text) [
    | false ↦ no_sheet 4
    | true ↦ elim (question5 text) [
      | false ↦ no_sheet 5
      | true ↦ elim (question23 text) [ false ↦ no_sheet 23 | true ↦ record { refusal = 0; sheet = converted_sheet text } ]
    ]
  ]
]

-- "Questions 2 to 5 are asked of the old sheet .., and the lent output must hold 32,768 bytes by 6, asked first. 23, after 5"
unfoldable pub conversion : List ℕ → ℕ → SheetAnswer
unfolding conversion_from3
conversion text outLength = elim (leb most_text outLength) [ false ↦ no_sheet 6 | true ↦ elim (question2 text) [ false ↦ no_sheet 2 | true ↦ conversion_from3 text ] ]

-- ---- what holds of a sheet converted from an old one

-- column j is column i, its parent, its parent's parent and so on
pub data Above (fs : List Field) : ℕ → ℕ → Type 0 where
  itself : {i : ℕ} → Above fs i i
  parent : {i j : ℕ} → has slash (get_or fs i []) ≡ true → Above fs (parent_place (map without_parent fs) (get_or fs i [])) j → Above fs i j

-- of an old sheet's text, what it is converted to, and a level table
pub record Converted (text sheet levels : List ℕ) : Type 0 where
  pub fits : length sheet ≤ most_text
  -- it is read, as many plots and columns as the old sheet has
  pub is_read : reading sheet levels ≡ read (length (later_lines text)) (count_kind plot_mark (plain_header text)) (count_kind treatment_mark (plain_header text))
  pub first_line_holds : header sheet ≡ plain_header text
  -- and finds the converted columns
  pub columns : table_columns (length (later_lines text)) (plain_header text) (levels_after (reading sheet levels) sheet levels) ≡ converted_columns text
  -- "Converting the result again changes nothing."
  pub again : (outLength : ℕ) → most_text ≤ outLength → conversion sheet outLength ≡ record { refusal = 0; sheet = sheet }
