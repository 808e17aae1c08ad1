-- The skeleton table: what the program prints for a sheet, as a list of lines of three or four fields, then as bytes.
-- Assumes nothing.
use Rattle.std.specs.Prelude.{Bool, true, false, not, ◌&&◌, List, [], ◌∷◌, ◌++◌, map, ℕ, zero, suc, eqb, ltb, leb, ℤ, pos, negsuc, length, drop, replicate}
use Rattle.rules.specs.Limits.{most_interaction, table_cells, family_bytes}
use Rattle.rules.specs.Family.{Family}
use Rattle.rules.specs.Design.{Answer, full_design}
use Rattle.rules.specs.Degrees.{degrees}
use Rattle.rules.specs.Strata.{stratum, residuals}
use Rattle.rules.specs.Lists.{decimal_of}
use Rattle.rules.specs.Sheet.{Outcome, read, refused, reading_to, reading, levels_after, newline, tab}
use Rattle.rules.specs.Naming.{Kind, plot, treatment, name_at}

-- ---- lines

-- a line's fields, as bytes
abbrev pub Row : Type 0
Row = List (List ℕ)

-- "Every line has its fields parted by one tab and ends with byte 10."
unfoldable pub row_bytes : Row → List ℕ
row_bytes [] = newline ∷ []
row_bytes (f ∷ []) = f ++ newline ∷ []
row_bytes (f ∷ g ∷ fs) = f ++ tab ∷ row_bytes (g ∷ fs)

unfoldable pub rows_bytes : List Row → List ℕ
unfolding row_bytes
rows_bytes [] = []
rows_bytes (r ∷ rs) = row_bytes r ++ rows_bytes rs

-- ---- words

-- `stratum`, `source`, `df`
abbrev pub word_stratum : List ℕ
word_stratum = 115 ∷ 116 ∷ 114 ∷ 97 ∷ 116 ∷ 117 ∷ 109 ∷ []

abbrev pub word_source : List ℕ
word_source = 115 ∷ 111 ∷ 117 ∷ 114 ∷ 99 ∷ 101 ∷ []

abbrev pub word_df : List ℕ
word_df = 100 ∷ 102 ∷ []

-- `=residual`, `=total`, `=all`
abbrev pub word_residual : List ℕ
word_residual = 61 ∷ 114 ∷ 101 ∷ 115 ∷ 105 ∷ 100 ∷ 117 ∷ 97 ∷ 108 ∷ []

abbrev pub word_total : List ℕ
word_total = 61 ∷ 116 ∷ 111 ∷ 116 ∷ 97 ∷ 108 ∷ []

abbrev pub word_all : List ℕ
word_all = 61 ∷ 97 ∷ 108 ∷ 108 ∷ []

-- `refused`, `-`
abbrev pub word_refused : List ℕ
word_refused = 114 ∷ 101 ∷ 102 ∷ 117 ∷ 115 ∷ 101 ∷ 100 ∷ []

abbrev pub dash : List ℕ
dash = 45 ∷ []

-- a signed number in decimal
unfoldable pub signed : ℤ → List ℕ
unfolding decimal_of
signed (pos n) = decimal_of n
signed (negsuc n) = 45 ∷ decimal_of (suc n)

-- ---- an accepted sheet

-- the lines of the treatment members in the stratum at place i, named `name`, from place j on: names, places of strata, degrees of freedom
unfoldable pub source_rows : List ℕ → ℕ → List (List ℕ) → List ℕ → List ℤ → List Row
unfolding signed
source_rows name i [] ss ds = []
source_rows name i (t ∷ ts) [] ds = []
source_rows name i (t ∷ ts) (s ∷ ss) [] = []
source_rows name i (t ∷ ts) (s ∷ ss) (d ∷ ds) = elim (eqb s i) [ true ↦ (name ∷ t ∷ signed d ∷ []) ∷ source_rows name i ts ss ds | false ↦ source_rows name i ts ss ds ]

unfoldable pub is_zero : ℤ → Bool
is_zero (pos n) = eqb n 0
is_zero (negsuc n) = false

-- "then `=residual` if the stratum has a treatment member and the residual is not 0"
unfoldable pub residual_rows : List ℕ → List Row → ℤ → List Row
unfolding signed is_zero
residual_rows name sources r = elim (ltb 0 (length sources) && not (is_zero r)) [ true ↦ (name ∷ word_residual ∷ signed r ∷ []) ∷ [] | false ↦ [] ]

-- "For each plot member in order come its treatment members in order, then `=residual` .., then `=total`."
unfoldable pub stratum_rows : List ℕ → ℕ → List (List ℕ) → List ℕ → List ℤ → ℤ → ℤ → List Row
unfolding source_rows residual_rows signed
stratum_rows name i ts ss ds total r = source_rows name i ts ss ds ++ residual_rows name (source_rows name i ts ss ds) r ++ (name ∷ word_total ∷ signed total ∷ []) ∷ []

-- the lines of the strata from place i on: their names, degrees of freedom and residuals
unfoldable pub strata_rows : ℕ → List (List ℕ) → List ℤ → List ℤ → List (List ℕ) → List ℕ → List ℤ → List Row
unfolding stratum_rows
strata_rows i [] es rs ts ss ds = []
strata_rows i (p ∷ ps) [] rs ts ss ds = []
strata_rows i (p ∷ ps) (e ∷ es) [] ts ss ds = []
strata_rows i (p ∷ ps) (e ∷ es) (r ∷ rs) ts ss ds = stratum_rows p i ts ss ds e r ++ strata_rows (suc i) ps es rs ts ss ds

-- the names of all members of a family, from place i on
unfoldable pub names_from : Kind → List ℕ → ℕ → List ℕ → Family → ℕ → ℕ → List (List ℕ)
unfolding name_at
names_from kind text n levels S i zero = []
names_from kind text n levels S i (suc m) = name_at kind text n levels S i ∷ names_from kind text n levels S (suc i) m

-- "The first line is the three words below. .. Last comes `=all`, `=total`, N."
unfoldable pub accepted_rows : List ℕ → ℕ → List ℕ → Family → Family → List Row
unfolding strata_rows names_from degrees residuals stratum decimal_of
accepted_rows text n levels P R =
    (word_stratum ∷ word_source ∷ word_df ∷ [])
    ∷ strata_rows 1 (names_from plot text n levels P 1 (length P)) (degrees n P) (residuals n P R) (names_from treatment text n levels R 1 (length R)) (map (stratum n P) R) (degrees n R)
    ++ (word_all ∷ word_total ∷ decimal_of n ∷ []) ∷ []

-- ---- a refused sheet

-- "one line instead: `refused`, the number, and two names, `-` where there is none"
unfoldable pub refused_row : ℕ → List ℕ → List ℕ → Row
unfolding decimal_of
refused_row q a b = word_refused ∷ decimal_of q ∷ a ∷ b ∷ []

-- the families that the two places of a refusal are counted in: 9 and 10 in the plot family, 12 in the first treatment family, 13 in both
unfoldable pub first_kind : ℕ → Kind
first_kind q = elim (eqb q 12) [ true ↦ treatment | false ↦ plot ]

unfoldable pub second_kind : ℕ → Kind
second_kind q = elim (eqb q 10) [ true ↦ plot | false ↦ treatment ]

abbrev pub family_of : Kind → Answer → Family
family_of plot a = a.plot
family_of treatment a = a.treatment

-- the name at a place, `-` at place 0
unfoldable pub place_name : Kind → List ℕ → ℕ → List ℕ → Family → ℕ → List ℕ
unfolding name_at
place_name kind text n levels S zero = dash
place_name kind text n levels S (suc i) = name_at kind text n levels S (suc i)

unfoldable pub design_refused_row : List ℕ → ℕ → List ℕ → Answer → Row
unfolding refused_row place_name first_kind second_kind
design_refused_row text n levels a =
    refused_row a.refusal (place_name (first_kind a.refusal) text n levels (family_of (first_kind a.refusal) a) a.places.first)
    (place_name (second_kind a.refusal) text n levels (family_of (second_kind a.refusal) a) a.places.second)

-- ---- the whole output

unfoldable pub design_rows : List ℕ → ℕ → List ℕ → Answer → List Row
unfolding accepted_rows design_refused_row
design_rows text n levels a = elim a.refusal [
  | zero ↦ accepted_rows text n levels a.plot a.treatment
  | suc q ↦ design_refused_row text n levels a ∷ []
]

-- the planner's own level table, before a sheet is read
unfoldable pub empty_table : List ℕ
empty_table = replicate table_cells 0

-- "reads a sheet on standard input with k = 6"
unfoldable pub outcome_rows : List ℕ → Outcome → List Row
unfolding refused_row design_rows full_design levels_after empty_table
outcome_rows text (refused q) = refused_row q dash dash ∷ []
outcome_rows text (read n p t) =
    design_rows text n (levels_after (read n p t) text empty_table) (full_design n p t most_interaction (levels_after (read n p t) text empty_table) family_bytes family_bytes)

unfoldable pub table_rows : List ℕ → List Row
unfolding outcome_rows reading_to empty_table
table_rows text = outcome_rows text (reading text empty_table)

unfoldable pub table_text : List ℕ → List ℕ
unfolding rows_bytes table_rows
table_text text = rows_bytes (table_rows text)

-- ---- the answer of the entry that writes it

-- the bytes that a lent text must have room for, by 6
abbrev pub table_bytes : ℕ
table_bytes = 32768

-- the number of the refusal, 0 for none, and the text written
pub record TableAnswer : Type 0 where
  pub refusal : ℕ
  pub text : List ℕ

unfoldable pub skeleton_table : List ℕ → ℕ → TableAnswer
unfolding table_text
skeleton_table text outLength = elim (leb table_bytes outLength) [ true ↦ record { refusal = 0; text = table_text text } | false ↦ record { refusal = 6; text = [] } ]

-- what the lent text holds afterwards
abbrev pub table_buffer : List ℕ → TableAnswer → List ℕ
table_buffer out a = a.text ++ drop (length a.text) out
