-- More small trials that are proved about the rules, in one list as those of Trials. Each outcome was worked out by hand.
-- The claim stands in proofs/FurtherTrials. Assumes nothing.
use Rattle.std.specs.Prelude.{Bool, true, false, not, ◌&&◌, List, [], ◌∷◌, ◌++◌, ℕ, ◌-◌, ℤ, pos, negsuc, length, replicate}
use Rattle.rules.specs.Limits.{most_columns, most_interaction, table_cells, family_bytes, name_bytes}
use Rattle.rules.specs.Factor.{Column}
use Rattle.rules.specs.Family.{Family, alike, written}
use Rattle.rules.specs.Asking.{Verdict, first_no, plot_questions_by, full_questions_by}
use Rattle.rules.specs.Relation.{RelationAnswer, relation}
use Rattle.rules.specs.Comparison.{Comparison, is_equivalent, is_finer, is_coarser, is_orthogonal, not_orthogonal, comparison, ComparisonAnswer, comparing}
use Rattle.rules.specs.Degrees.{DegreesAnswer, degrees_of_freedom}
use Rattle.rules.specs.Strata.{StrataAnswer, strata}
use Rattle.rules.specs.Sheet.{Outcome, read, refused, reading_to, reading}
use Rattle.rules.specs.Naming.{Kind, plot, treatment, NameAnswer, naming}
use Rattle.rules.specs.Table.{signed, table_text, TableAnswer, skeleton_table}
use Rattle.rules.specs.Trials.{Trial, refuses, treats, observed}

pub data FurtherTrial : Type 0 where
  -- a trial as in Trials
  plans : Trial → FurtherTrial
  -- plots, the members in the buffer, the size asked about; the answer
  relates : ℕ → Family → ℕ → RelationAnswer → FurtherTrial
  subtracts : ℕ → Family → ℕ → DegreesAnswer → FurtherTrial
  -- plots, two factors; how the first stands to the second, and the second to the first
  stand : ℕ → Column → Column → Comparison → Comparison → FurtherTrial
  -- plots, plot and treatment columns, a test that two factors have to pass; the first "no" of the plot design, and of the full design
  plots_by : ℕ → List Column → (Column → Column → Bool) → Verdict → FurtherTrial
  treats_by : ℕ → List Column → List Column → (Column → Column → Bool) → Verdict → FurtherTrial
  -- plots, of each family the bytes of its buffer, the members in it, the size and the place asked about; the answer
  compares : ℕ → ℕ → Family → ℕ → ℕ → ℕ → Family → ℕ → ℕ → ComparisonAnswer → FurtherTrial
  -- plots, the members in both buffers; the answer
  allots : ℕ → Family → Family → StrataAnswer → FurtherTrial
  -- the kind, the text, plots, plot and treatment columns of the level table, the members in the buffer, the place asked about; the answer
  names_member : Kind → List ℕ → ℕ → List Column → List Column → Family → ℕ → NameAnswer → FurtherTrial
  -- the lengths of level table, family buffer and name buffer; the number answered for the text `two_and_two`, the columns and members beside it, place 2
  fits : ℕ → ℕ → ℕ → ℕ → FurtherTrial
  -- a signed number; its bytes
  writes : ℤ → List ℕ → FurtherTrial
  -- the text, the cells of the level table; the answer of the reader
  reads : List ℕ → ℕ → Outcome → FurtherTrial
  -- a sheet; its whole output
  prints : List ℕ → List ℕ → FurtherTrial
  -- a sheet, the bytes of the lent text; the number answered and the text written
  prints_into : List ℕ → ℕ → TableAnswer → FurtherTrial

-- ---- families

-- numbers for 32 members: these, then 0
filled : List ℕ → List ℕ
filled xs = xs ++ replicate (32 - length xs) 0

filled_signed : List ℤ → List ℤ
filled_signed xs = xs ++ replicate (32 - length xs) (pos 0)

-- four plots: U, three columns of two classes, E
abbrev one : Column
one = 1 ∷ 1 ∷ 1 ∷ 1 ∷ []

abbrev halves : Column
halves = 1 ∷ 1 ∷ 2 ∷ 2 ∷ []

abbrev turns : Column
turns = 1 ∷ 2 ∷ 1 ∷ 2 ∷ []

abbrev ends : Column
ends = 1 ∷ 2 ∷ 2 ∷ 1 ∷ []

abbrev each : Column
each = 1 ∷ 2 ∷ 3 ∷ 4 ∷ []

abbrev square : Family
square = one ∷ halves ∷ turns ∷ each ∷ []

-- six plots: U, three divisions into pairs with no pair twice, E; closed, but no two of the three are orthogonal
abbrev pairings : Family
pairings =
    (1 ∷ 1 ∷ 1 ∷ 1 ∷ 1 ∷ 1 ∷ []) ∷ (1 ∷ 1 ∷ 2 ∷ 2 ∷ 3 ∷ 3 ∷ []) ∷ (1 ∷ 2 ∷ 1 ∷ 3 ∷ 2 ∷ 3 ∷ []) ∷ (1 ∷ 2 ∷ 3 ∷ 1 ∷ 3 ∷ 2 ∷ []) ∷ (1 ∷ 2 ∷ 3 ∷ 4 ∷ 5 ∷ 6 ∷ []) ∷ []

-- classes of unequal sizes: three plots and one; four and two, three and three, in proportion
abbrev three_and_one : Column
three_and_one = 1 ∷ 1 ∷ 1 ∷ 2 ∷ []

abbrev four_and_two : Column
four_and_two = 1 ∷ 1 ∷ 1 ∷ 1 ∷ 2 ∷ 2 ∷ []

abbrev in_proportion : Column
in_proportion = 1 ∷ 1 ∷ 2 ∷ 2 ∷ 1 ∷ 2 ∷ []

-- a refusal with its places
abbrev refused_at : ℕ → ℕ → ℕ → Verdict
refused_at q i j = record { refusal = q; places = record { first = i; second = j } }

-- a member of each of two whole families in buffers that are long enough
abbrev compares_members : ℕ → Family → ℕ → Family → ℕ → ComparisonAnswer → FurtherTrial
compares_members n S i R j a = compares n family_bytes S (length S) i family_bytes R (length R) j a

-- eight plots: two columns that cross, their infimum, U
abbrev fours : Column
fours = 1 ∷ 1 ∷ 1 ∷ 1 ∷ 2 ∷ 2 ∷ 2 ∷ 2 ∷ []

abbrev twos : Column
twos = 1 ∷ 1 ∷ 2 ∷ 2 ∷ 1 ∷ 1 ∷ 2 ∷ 2 ∷ []

abbrev pairs_of_eight : Column
pairs_of_eight = 1 ∷ 1 ∷ 2 ∷ 2 ∷ 3 ∷ 3 ∷ 4 ∷ 4 ∷ []

abbrev alternate : Column
alternate = 1 ∷ 2 ∷ 1 ∷ 2 ∷ 1 ∷ 2 ∷ 1 ∷ 2 ∷ []

abbrev crossed_in_halves : Column
crossed_in_halves = 1 ∷ 2 ∷ 1 ∷ 2 ∷ 3 ∷ 4 ∷ 3 ∷ 4 ∷ []

abbrev each_of_eight : Column
each_of_eight = 1 ∷ 2 ∷ 3 ∷ 4 ∷ 5 ∷ 6 ∷ 7 ∷ 8 ∷ []

-- U, pairs, E; and all infima of one or two of three crossed columns: each column and infimum has supremum U with the pairs and is not orthogonal to them
abbrev pairs_across : Family
pairs_across = (1 ∷ 1 ∷ 1 ∷ 1 ∷ 1 ∷ 1 ∷ 1 ∷ 1 ∷ []) ∷ (1 ∷ 2 ∷ 3 ∷ 1 ∷ 2 ∷ 4 ∷ 4 ∷ 3 ∷ []) ∷ each_of_eight ∷ []

abbrev three_crossed : Family
three_crossed =
    (1 ∷ 1 ∷ 1 ∷ 1 ∷ 1 ∷ 1 ∷ 1 ∷ 1 ∷ []) ∷ fours ∷ twos ∷ alternate ∷ pairs_of_eight ∷ crossed_in_halves ∷ (1 ∷ 2 ∷ 3 ∷ 4 ∷ 1 ∷ 2 ∷ 3 ∷ 4 ∷ []) ∷ []

abbrev one_of_eight : Column
one_of_eight = 1 ∷ 1 ∷ 1 ∷ 1 ∷ 1 ∷ 1 ∷ 1 ∷ 1 ∷ []

-- three divisions of which all together join plots 1 to 4 and 5 to 8, and no two do
abbrev links : List Column
links = (1 ∷ 1 ∷ 2 ∷ 3 ∷ 4 ∷ 4 ∷ 5 ∷ 6 ∷ []) ∷ (1 ∷ 2 ∷ 2 ∷ 3 ∷ 4 ∷ 5 ∷ 5 ∷ 6 ∷ []) ∷ (1 ∷ 2 ∷ 3 ∷ 3 ∷ 4 ∷ 5 ∷ 6 ∷ 6 ∷ []) ∷ []

abbrev hut_and_bay : List Column
hut_and_bay = fours ∷ twos ∷ []

abbrev gain_and_row : List Column
gain_and_row = alternate ∷ pairs_of_eight ∷ []

abbrev one_and_pairs : Family
one_and_pairs = one_of_eight ∷ pairs_of_eight ∷ []

-- ---- texts (→ is a tab)

-- the names of columns: `Cot`, `Hut`, `Bay`, `Gain`, `Row`
abbrev cot : List ℕ
cot = 67 ∷ 111 ∷ 116 ∷ []

abbrev hut : List ℕ
hut = 72 ∷ 117 ∷ 116 ∷ []

abbrev bay : List ℕ
bay = 66 ∷ 97 ∷ 121 ∷ []

abbrev gain : List ℕ
gain = 71 ∷ 97 ∷ 105 ∷ 110 ∷ []

abbrev row : List ℕ
row = 82 ∷ 111 ∷ 119 ∷ []

-- of members: `I(..)`, `S(..)`, `#..`
abbrev infimum_of : List ℕ → List ℕ
infimum_of w = 73 ∷ 40 ∷ w ++ 41 ∷ []

abbrev supremum_of : List ℕ → List ℕ
supremum_of w = 83 ∷ 40 ∷ w ++ 41 ∷ []

abbrev place_of : ℕ → List ℕ
place_of digit = 35 ∷ digit ∷ []

abbrev named : List ℕ → NameAnswer
named w = record { refusal = 0; name = w }

-- a first line with two columns of each kind
abbrev two_and_two : List ℕ
two_and_two =
    -- p:Hut→p:Bay→t:Gain→t:Row
    112 ∷ 58 ∷ 72 ∷ 117 ∷ 116 ∷ 9 ∷ 112 ∷ 58 ∷ 66 ∷ 97 ∷ 121 ∷ 9 ∷ 116 ∷ 58 ∷ 71 ∷ 97 ∷ 105 ∷ 110 ∷ 9 ∷ 116 ∷ 58 ∷ 82 ∷ 111 ∷ 119 ∷ 10 ∷ []

-- a first line with the treatment column first
abbrev gain_then_hut : List ℕ
gain_then_hut =
    -- t:Gain→p:Hut
    116 ∷ 58 ∷ 71 ∷ 97 ∷ 105 ∷ 110 ∷ 9 ∷ 112 ∷ 58 ∷ 72 ∷ 117 ∷ 116 ∷ 10 ∷ []

-- a first line with four plot columns
abbrev four_plots : List ℕ
four_plots =
    -- p:Cot→p:Hut→p:Bay→p:Dam
    112 ∷ 58 ∷ 67 ∷ 111 ∷ 116 ∷ 9 ∷ 112 ∷ 58 ∷ 72 ∷ 117 ∷ 116 ∷ 9 ∷ 112 ∷ 58 ∷ 66 ∷ 97 ∷ 121 ∷ 9 ∷ 112 ∷ 58 ∷ 68 ∷ 97 ∷ 109 ∷ 10 ∷ []

-- classes of two sizes
abbrev uneven_sheet : List ℕ
uneven_sheet =
    -- p:Hut
    112 ∷ 58 ∷ 72 ∷ 117 ∷ 116 ∷ 10 ∷
    -- 1
    49 ∷ 10 ∷
    -- 1
    49 ∷ 10 ∷
    -- 2
    50 ∷ 10 ∷ []

abbrev uneven_table : List ℕ
uneven_table =
    -- refused→9→Hut→-
    114 ∷ 101 ∷ 102 ∷ 117 ∷ 115 ∷ 101 ∷ 100 ∷ 9 ∷ 57 ∷ 9 ∷ 72 ∷ 117 ∷ 116 ∷ 9 ∷ 45 ∷ 10 ∷ []

-- six plots, two columns that are not orthogonal: of the plots, of the treatments, one of each kind
abbrev six_plots : List ℕ
six_plots =
    -- 1→1
    49 ∷ 9 ∷ 49 ∷ 10 ∷
    -- 1→2
    49 ∷ 9 ∷ 50 ∷ 10 ∷
    -- 2→1
    50 ∷ 9 ∷ 49 ∷ 10 ∷
    -- 2→3
    50 ∷ 9 ∷ 51 ∷ 10 ∷
    -- 3→2
    51 ∷ 9 ∷ 50 ∷ 10 ∷
    -- 3→3
    51 ∷ 9 ∷ 51 ∷ 10 ∷ []

abbrev crossed_sheet : List ℕ
crossed_sheet =
    -- p:Hut→p:Bay
    (112 ∷ 58 ∷ 72 ∷ 117 ∷ 116 ∷ 9 ∷ 112 ∷ 58 ∷ 66 ∷ 97 ∷ 121 ∷ 10 ∷ []) ++ six_plots

abbrev crossed_table : List ℕ
crossed_table =
    -- refused→10→Hut→Bay
    114 ∷ 101 ∷ 102 ∷ 117 ∷ 115 ∷ 101 ∷ 100 ∷ 9 ∷ 49 ∷ 48 ∷ 9 ∷ 72 ∷ 117 ∷ 116 ∷ 9 ∷ 66 ∷ 97 ∷ 121 ∷ 10 ∷ []

abbrev treated_sheet : List ℕ
treated_sheet =
    -- t:Gain→t:Row
    (116 ∷ 58 ∷ 71 ∷ 97 ∷ 105 ∷ 110 ∷ 9 ∷ 116 ∷ 58 ∷ 82 ∷ 111 ∷ 119 ∷ 10 ∷ []) ++ six_plots

abbrev treated_table : List ℕ
treated_table =
    -- refused→12→Gain→Row
    114 ∷ 101 ∷ 102 ∷ 117 ∷ 115 ∷ 101 ∷ 100 ∷ 9 ∷ 49 ∷ 50 ∷ 9 ∷ 71 ∷ 97 ∷ 105 ∷ 110 ∷ 9 ∷ 82 ∷ 111 ∷ 119 ∷ 10 ∷ []

abbrev mixed_sheet : List ℕ
mixed_sheet =
    -- p:Hut→t:Gain
    (112 ∷ 58 ∷ 72 ∷ 117 ∷ 116 ∷ 9 ∷ 116 ∷ 58 ∷ 71 ∷ 97 ∷ 105 ∷ 110 ∷ 10 ∷ []) ++ six_plots

abbrev mixed_table : List ℕ
mixed_table =
    -- refused→13→Hut→Gain
    114 ∷ 101 ∷ 102 ∷ 117 ∷ 115 ∷ 101 ∷ 100 ∷ 9 ∷ 49 ∷ 51 ∷ 9 ∷ 72 ∷ 117 ∷ 116 ∷ 9 ∷ 71 ∷ 97 ∷ 105 ∷ 110 ∷ 10 ∷ []

-- a plot column that is the supremum of a plot and a treatment member, and strata that the treatment members use up
abbrev full_sheet : List ℕ
full_sheet =
    -- t:Gain→p:Hut→t:Row
    116 ∷ 58 ∷ 71 ∷ 97 ∷ 105 ∷ 110 ∷ 9 ∷ 112 ∷ 58 ∷ 72 ∷ 117 ∷ 116 ∷ 9 ∷ 116 ∷ 58 ∷ 82 ∷ 111 ∷ 119 ∷ 10 ∷
    -- 1→1→1
    49 ∷ 9 ∷ 49 ∷ 9 ∷ 49 ∷ 10 ∷
    -- 1→2→2
    49 ∷ 9 ∷ 50 ∷ 9 ∷ 50 ∷ 10 ∷
    -- 2→1→2
    50 ∷ 9 ∷ 49 ∷ 9 ∷ 50 ∷ 10 ∷
    -- 2→2→1
    50 ∷ 9 ∷ 50 ∷ 9 ∷ 49 ∷ 10 ∷ []

abbrev full_table : List ℕ
full_table =
    -- stratum→source→df
    115 ∷ 116 ∷ 114 ∷ 97 ∷ 116 ∷ 117 ∷ 109 ∷ 9 ∷ 115 ∷ 111 ∷ 117 ∷ 114 ∷ 99 ∷ 101 ∷ 9 ∷ 100 ∷ 102 ∷ 10 ∷
    -- U→U→1
    85 ∷ 9 ∷ 85 ∷ 9 ∷ 49 ∷ 10 ∷
    -- U→=total→1
    85 ∷ 9 ∷ 61 ∷ 116 ∷ 111 ∷ 116 ∷ 97 ∷ 108 ∷ 9 ∷ 49 ∷ 10 ∷
    -- Hut→S(Hut)→1
    72 ∷ 117 ∷ 116 ∷ 9 ∷ 83 ∷ 40 ∷ 72 ∷ 117 ∷ 116 ∷ 41 ∷ 9 ∷ 49 ∷ 10 ∷
    -- Hut→=total→1
    72 ∷ 117 ∷ 116 ∷ 9 ∷ 61 ∷ 116 ∷ 111 ∷ 116 ∷ 97 ∷ 108 ∷ 9 ∷ 49 ∷ 10 ∷
    -- E→Gain→1
    69 ∷ 9 ∷ 71 ∷ 97 ∷ 105 ∷ 110 ∷ 9 ∷ 49 ∷ 10 ∷
    -- E→Row→1
    69 ∷ 9 ∷ 82 ∷ 111 ∷ 119 ∷ 9 ∷ 49 ∷ 10 ∷
    -- E→E→0
    69 ∷ 9 ∷ 69 ∷ 9 ∷ 48 ∷ 10 ∷
    -- E→=total→2
    69 ∷ 9 ∷ 61 ∷ 116 ∷ 111 ∷ 116 ∷ 97 ∷ 108 ∷ 9 ∷ 50 ∷ 10 ∷
    -- =all→=total→4
    61 ∷ 97 ∷ 108 ∷ 108 ∷ 9 ∷ 61 ∷ 116 ∷ 111 ∷ 116 ∷ 97 ∷ 108 ∷ 9 ∷ 52 ∷ 10 ∷ []

-- ---- the trials

unfoldable pub further_trials : List FurtherTrial
unfolding filled filled_signed alike
further_trials =
    -- plot 1,1,1,1,2,2,2,2, treatments 1,1,2,2,1,1,2,2 and 1,2,1,2,1,2,1,2: both and their infimum stand in the stratum E, whose residual is 6 − 3
    plans (treats 8 (fours ∷ []) (twos ∷ alternate ∷ []) (1 ∷ 2 ∷ 2 ∷ 4 ∷ []) (1 ∷ 3 ∷ 3 ∷ 3 ∷ []) (pos 0 ∷ pos 1 ∷ pos 3 ∷ []))
    -- the relation: U stands directly above both columns, these directly above E
    ∷ relates 4 square 4 (record { refusal = 0; size = 4; coarser = filled (0 ∷ 1 ∷ 1 ∷ 7 ∷ []); direct = filled (0 ∷ 1 ∷ 1 ∷ 6 ∷ []); counts = filled (0 ∷ 1 ∷ 1 ∷ 2 ∷ []) })
    -- no plots; no members
    ∷ relates 0 square 4 (record { refusal = 6; size = 0; coarser = filled []; direct = filled []; counts = filled [] })
    ∷ relates 4 square 0 (record { refusal = 15; size = 0; coarser = filled []; direct = filled []; counts = filled [] })
    -- degrees of freedom: 4 less 1, 1 and 1; 4 less 2, 2 and 2, where the family is not closed
    ∷ subtracts 4 square 4 (record { refusal = 0; degrees = filled_signed (pos 1 ∷ pos 1 ∷ pos 1 ∷ pos 1 ∷ []) })
    ∷ subtracts 4 (halves ∷ turns ∷ ends ∷ each ∷ []) 4 (record { refusal = 0; degrees = filled_signed (pos 2 ∷ pos 2 ∷ pos 2 ∷ negsuc 1 ∷ []) })
    -- closed, but not orthogonal: refused as a plot design; E has 6 less 1, 2, 2 and 2
    ∷ plans (refuses 6 pairings 10 2 3)
    ∷ subtracts 6 pairings 5 (record { refusal = 0; degrees = filled_signed (pos 1 ∷ pos 2 ∷ pos 2 ∷ pos 2 ∷ negsuc 0 ∷ []) })
    ∷ subtracts 0 square 4 (record { refusal = 6; degrees = filled_signed [] })
    ∷ subtracts 4 square 0 (record { refusal = 15; degrees = filled_signed [] })
    -- two factors: the same classes under other labels; E and a column; two that cross; three pairs, where some two classes do not meet
    ∷ stand 4 halves (2 ∷ 2 ∷ 1 ∷ 1 ∷ []) is_equivalent is_equivalent
    ∷ stand 4 each halves is_finer is_coarser
    ∷ stand 4 halves turns is_orthogonal is_orthogonal
    ∷ stand 6 (1 ∷ 1 ∷ 2 ∷ 2 ∷ 3 ∷ 3 ∷ []) (1 ∷ 2 ∷ 1 ∷ 3 ∷ 2 ∷ 3 ∷ []) not_orthogonal not_orthogonal
    -- classes of unequal sizes: against U; against two pairs; in proportion
    ∷ stand 4 three_and_one one is_finer is_coarser
    ∷ stand 4 three_and_one halves not_orthogonal not_orthogonal
    ∷ stand 6 four_and_two in_proportion is_orthogonal is_orthogonal
    -- orthogonal within each class of the supremum: 1 × 4 = 2 × 2, and not 1 × 8
    ∷ stand 8 pairs_of_eight crossed_in_halves is_orthogonal is_orthogonal
    -- one plot: U is E
    ∷ stand 1 (1 ∷ []) (1 ∷ []) is_equivalent is_equivalent
    -- the designs by other tests of two factors: 10 where none passes; 12 where none passes with `turns` second; 13 where only `halves` and `turns` do not pass
    ∷ plots_by 4 (halves ∷ turns ∷ []) (λ F G. false) (refused_at 10 1 2)
    ∷ treats_by 4 (halves ∷ []) (turns ∷ []) (λ F G. false) (refused_at 10 1 2)
    ∷ treats_by 4 (halves ∷ []) (turns ∷ []) (λ F G. not (alike G turns)) (refused_at 12 1 2)
    ∷ treats_by 4 (halves ∷ []) (turns ∷ []) (λ F G. not (alike F halves && alike G turns)) (refused_at 13 2 2)
    -- members of two families, one of each case
    ∷ compares_members 4 square 3 (one ∷ turns ∷ []) 2 (record { refusal = 0; case = 1 })
    ∷ compares_members 4 square 4 (one ∷ turns ∷ []) 2 (record { refusal = 0; case = 2 })
    ∷ compares_members 4 square 1 (one ∷ turns ∷ []) 2 (record { refusal = 0; case = 3 })
    ∷ compares_members 4 square 2 (one ∷ turns ∷ []) 2 (record { refusal = 0; case = 4 })
    ∷ compares_members 6 pairings 2 pairings 3 (record { refusal = 0; case = 5 })
    -- no plots and too many; a place past the size of its family, though not of the other; no place 0
    ∷ compares_members 0 square 1 square 1 (record { refusal = 6; case = 0 })
    ∷ compares_members 241 square 1 square 1 (record { refusal = 6; case = 0 })
    ∷ compares_members 4 (one ∷ turns ∷ []) 3 square 1 (record { refusal = 6; case = 0 })
    ∷ compares_members 4 square 1 (one ∷ turns ∷ []) 3 (record { refusal = 6; case = 0 })
    ∷ compares_members 4 square 0 square 1 (record { refusal = 6; case = 0 })
    ∷ compares_members 4 square 1 square 0 (record { refusal = 6; case = 0 })
    -- a buffer that is one byte short
    ∷ compares 4 7679 square 4 1 7680 square 4 1 (record { refusal = 6; case = 0 })
    ∷ compares 4 7680 square 4 1 7679 square 4 1 (record { refusal = 6; case = 0 })
    -- the size 0 has no place; of 33 members place 34 is none, and place 33 is one, but they are too many
    ∷ compares 4 7680 square 0 0 7680 square 4 1 (record { refusal = 6; case = 0 })
    ∷ compares 4 7680 square 4 1 7680 square 0 1 (record { refusal = 6; case = 0 })
    ∷ compares 4 7680 square 33 34 7680 square 4 1 (record { refusal = 6; case = 0 })
    ∷ compares 4 7680 square 33 33 7680 square 4 1 (record { refusal = 15; case = 0 })
    -- members out of order, at other places than those asked about; 6 comes first
    ∷ compares_members 4 (one ∷ each ∷ turns ∷ []) 1 square 1 (record { refusal = 15; case = 0 })
    ∷ compares_members 4 square 1 (one ∷ each ∷ turns ∷ []) 1 (record { refusal = 15; case = 0 })
    ∷ compares_members 4 (one ∷ each ∷ turns ∷ []) 4 square 1 (record { refusal = 6; case = 0 })
    -- strata: beside U and E both treatment columns are in E; beside U alone a column has none
    ∷ allots 4 (one ∷ each ∷ []) (one ∷ halves ∷ turns ∷ []) (record { refusal = 0; places = filled (1 ∷ 2 ∷ 2 ∷ []); residuals = filled_signed (pos 0 ∷ pos 1 ∷ []) })
    -- treatment members that are not orthogonal to the plot members: six with 1 each in E, which has 8 less 1 and 3
    ∷ allots 8 pairs_across three_crossed (record { refusal = 0; places = filled (1 ∷ 3 ∷ 3 ∷ 3 ∷ 3 ∷ 3 ∷ 3 ∷ []); residuals = filled_signed (pos 0 ∷ pos 3 ∷ negsuc 1 ∷ []) })
    ∷ allots 0 square square (record { refusal = 6; places = filled []; residuals = filled_signed [] })
    ∷ allots 4 square (halves ∷ one ∷ []) (record { refusal = 15; places = filled []; residuals = filled_signed [] })
    ∷ allots 4 (halves ∷ one ∷ []) square (record { refusal = 15; places = filled []; residuals = filled_signed [] })
    ∷ allots 4 (one ∷ []) (one ∷ halves ∷ []) (record { refusal = 16; places = filled []; residuals = filled_signed [] })
    -- names: U; the infimum of both plot columns, which is the second treatment column
    ∷ names_member plot two_and_two 8 hut_and_bay gain_and_row one_and_pairs 1 (named (85 ∷ []))
    ∷ names_member plot two_and_two 8 hut_and_bay gain_and_row one_and_pairs 2 (named (infimum_of (hut ++ 44 ∷ bay)))
    ∷ names_member treatment two_and_two 8 hut_and_bay gain_and_row one_and_pairs 2 (named row)
    -- the same with a column of one class before them and one equivalent to the first after them, which are not named
    ∷ names_member plot four_plots 8 (one_of_eight ∷ fours ∷ twos ∷ (2 ∷ 2 ∷ 2 ∷ 2 ∷ 1 ∷ 1 ∷ 1 ∷ 1 ∷ []) ∷ []) [] one_and_pairs 2 (named (infimum_of (hut ++ 44 ∷ bay)))
    -- the infimum of a plot and a treatment column has no name, nor has a member that no column is finer than
    ∷ names_member treatment two_and_two 8 hut_and_bay (twos ∷ alternate ∷ []) one_and_pairs 2 (named (place_of 50))
    ∷ names_member treatment two_and_two 8 hut_and_bay hut_and_bay (alternate ∷ []) 1 (named (place_of 49))
    -- the supremum of both plot columns; that of a plot and a treatment column is no name of a plot member, which looks at plot columns alone
    ∷ names_member plot two_and_two 8 (pairs_of_eight ∷ crossed_in_halves ∷ []) gain_and_row (fours ∷ []) 1 (named (supremum_of (hut ++ 44 ∷ bay)))
    ∷ names_member plot two_and_two 8 (pairs_of_eight ∷ alternate ∷ []) (crossed_in_halves ∷ alternate ∷ []) (fours ∷ []) 1 (named (place_of 49))
    -- a treatment member that is a plot column; the second treatment column is finer and not named
    ∷ names_member treatment two_and_two 8 hut_and_bay gain_and_row (fours ∷ []) 1 (named (supremum_of hut))
    -- the supremum of a plot and a treatment column, "in that order" whatever the first line's is
    ∷ names_member treatment gain_then_hut 8 (pairs_of_eight ∷ []) (crossed_in_halves ∷ []) (fours ∷ []) 1 (named (supremum_of (hut ++ 44 ∷ gain)))
    -- "of equivalents the first": a plot column and not a treatment column, and of two plot columns the lower
    ∷ names_member treatment two_and_two 8 (pairs_of_eight ∷ crossed_in_halves ∷ []) (pairs_of_eight ∷ alternate ∷ []) (fours ∷ []) 1 (named (supremum_of (hut ++ 44 ∷ bay)))
    ∷ names_member plot four_plots 8 (pairs_of_eight ∷ crossed_in_halves ∷ (2 ∷ 2 ∷ 1 ∷ 1 ∷ 3 ∷ 3 ∷ 4 ∷ 4 ∷ []) ∷ one_of_eight ∷ []) [] (fours ∷ []) 1 (named (supremum_of (cot ++ 44 ∷ hut)))
    -- a column with every plot by itself is finer than all and never named
    ∷ names_member treatment two_and_two 8 (each_of_eight ∷ pairs_of_eight ∷ []) (crossed_in_halves ∷ alternate ∷ []) (fours ∷ []) 1 (named (supremum_of (bay ++ 44 ∷ gain)))
    -- the supremum of three columns, by chains through all of them
    ∷ names_member plot four_plots 8 (links ++ one_of_eight ∷ []) [] (fours ∷ []) 1 (named (supremum_of (cot ++ 44 ∷ hut ++ 44 ∷ bay)))
    -- `I(` of columns of its kind before `S(`, though it is the first plot column
    ∷ names_member treatment two_and_two 8 (crossed_in_halves ∷ twos ∷ []) (fours ∷ alternate ∷ []) (crossed_in_halves ∷ []) 1 (named (infimum_of (gain ++ 44 ∷ row)))
    -- no text; a first line that is not ended; no place 0 and no place 3; members out of order
    ∷ names_member plot [] 8 hut_and_bay gain_and_row one_and_pairs 2 (record { refusal = 2; name = [] })
    ∷ names_member plot (112 ∷ 58 ∷ 72 ∷ 117 ∷ 116 ∷ []) 8 hut_and_bay gain_and_row one_and_pairs 2 (record { refusal = 3; name = [] })
    ∷ names_member plot two_and_two 8 hut_and_bay gain_and_row one_and_pairs 0 (record { refusal = 6; name = [] })
    ∷ names_member plot two_and_two 8 hut_and_bay gain_and_row one_and_pairs 3 (record { refusal = 6; name = [] })
    ∷ names_member plot two_and_two 8 hut_and_bay gain_and_row (pairs_of_eight ∷ one_of_eight ∷ []) 2 (record { refusal = 15; name = [] })
    -- a missing level: of its own kind; in a plot column that a treatment member looks at; in a treatment column, which a plot member does not
    ∷ names_member plot two_and_two 8 (fours ∷ []) gain_and_row one_and_pairs 2 (record { refusal = 7; name = [] })
    ∷ names_member treatment two_and_two 8 hut_and_bay (alternate ∷ []) one_and_pairs 2 (record { refusal = 7; name = [] })
    ∷ names_member treatment two_and_two 8 (fours ∷ []) gain_and_row one_and_pairs 2 (record { refusal = 7; name = [] })
    ∷ names_member plot two_and_two 8 hut_and_bay (alternate ∷ []) one_and_pairs 2 (named (infimum_of (hut ++ 44 ∷ bay)))
    -- no plots; a level table, a family buffer and a name buffer that are long enough, and one number shorter each
    ∷ names_member plot two_and_two 0 hut_and_bay gain_and_row one_and_pairs 2 (record { refusal = 6; name = [] })
    ∷ fits 2880 7680 160 0
    ∷ fits 2879 7680 160 6
    ∷ fits 2880 7679 160 6
    ∷ fits 2880 7680 159 6
    -- a level table of 2,879 numbers; no text
    ∷ reads (112 ∷ 58 ∷ 65 ∷ 98 ∷ []) 2879 (refused 1)
    ∷ reads [] table_cells (refused 2)
    -- first lines that are refused: an empty one, `p:Ab` without byte 10, `p`, `p:`, `p:A`, `q:Ab`, `p;Ab`, `p:0b`, `p:A/`, `p:A:`, `p:A@`, `p:A[`, `p:A``, `p:A{`, `p:Abcdefghijklm`, `p:Ab→t:Ab`, `p:Ab→`
    ∷ reads (10 ∷ []) table_cells (refused 3)
    ∷ reads (112 ∷ 58 ∷ 65 ∷ 98 ∷ []) table_cells (refused 3)
    ∷ reads (112 ∷ 10 ∷ []) table_cells (refused 3)
    ∷ reads (112 ∷ 58 ∷ 10 ∷ []) table_cells (refused 3)
    ∷ reads (112 ∷ 58 ∷ 65 ∷ 10 ∷ []) table_cells (refused 3)
    ∷ reads (113 ∷ 58 ∷ 65 ∷ 98 ∷ 10 ∷ []) table_cells (refused 3)
    ∷ reads (112 ∷ 59 ∷ 65 ∷ 98 ∷ 10 ∷ []) table_cells (refused 3)
    ∷ reads (112 ∷ 58 ∷ 48 ∷ 98 ∷ 10 ∷ []) table_cells (refused 3)
    ∷ reads (112 ∷ 58 ∷ 65 ∷ 47 ∷ 10 ∷ []) table_cells (refused 3)
    ∷ reads (112 ∷ 58 ∷ 65 ∷ 58 ∷ 10 ∷ []) table_cells (refused 3)
    ∷ reads (112 ∷ 58 ∷ 65 ∷ 64 ∷ 10 ∷ []) table_cells (refused 3)
    ∷ reads (112 ∷ 58 ∷ 65 ∷ 91 ∷ 10 ∷ []) table_cells (refused 3)
    ∷ reads (112 ∷ 58 ∷ 65 ∷ 96 ∷ 10 ∷ []) table_cells (refused 3)
    ∷ reads (112 ∷ 58 ∷ 65 ∷ 123 ∷ 10 ∷ []) table_cells (refused 3)
    ∷ reads (112 ∷ 58 ∷ 65 ∷ 98 ∷ 99 ∷ 100 ∷ 101 ∷ 102 ∷ 103 ∷ 104 ∷ 105 ∷ 106 ∷ 107 ∷ 108 ∷ 109 ∷ 10 ∷ []) table_cells (refused 3)
    ∷ reads (112 ∷ 58 ∷ 65 ∷ 98 ∷ 9 ∷ 116 ∷ 58 ∷ 65 ∷ 98 ∷ 10 ∷ []) table_cells (refused 3)
    ∷ reads (112 ∷ 58 ∷ 65 ∷ 98 ∷ 9 ∷ 10 ∷ []) table_cells (refused 3)
    -- first lines that are not, on sheets without plots: `p:AZ`, `t:Zaz09`, `p:zA`, `t:Abcdefghijkl`, `p:Ab→t:Ac→p:Abc`
    ∷ reads (112 ∷ 58 ∷ 65 ∷ 90 ∷ 10 ∷ []) table_cells (refused 5)
    ∷ reads (116 ∷ 58 ∷ 90 ∷ 97 ∷ 122 ∷ 48 ∷ 57 ∷ 10 ∷ []) table_cells (refused 5)
    ∷ reads (112 ∷ 58 ∷ 122 ∷ 65 ∷ 10 ∷ []) table_cells (refused 5)
    ∷ reads (116 ∷ 58 ∷ 65 ∷ 98 ∷ 99 ∷ 100 ∷ 101 ∷ 102 ∷ 103 ∷ 104 ∷ 105 ∷ 106 ∷ 107 ∷ 108 ∷ 10 ∷ []) table_cells (refused 5)
    ∷ reads (112 ∷ 58 ∷ 65 ∷ 98 ∷ 9 ∷ 116 ∷ 58 ∷ 65 ∷ 99 ∷ 9 ∷ 112 ∷ 58 ∷ 65 ∷ 98 ∷ 99 ∷ 10 ∷ []) table_cells (refused 5)
    -- six columns of each kind; seven of one
    ∷ reads (112 ∷ 58 ∷ 65 ∷ 48 ∷ 9 ∷ 112 ∷ 58 ∷ 65 ∷ 49 ∷ 9 ∷ 112 ∷ 58 ∷ 65 ∷ 50 ∷ 9 ∷ 112 ∷ 58 ∷ 65 ∷ 51 ∷ 9 ∷ 112 ∷ 58 ∷ 65 ∷ 52 ∷ 9 ∷ 112 ∷ 58 ∷ 65 ∷ 53 ∷ 9 ∷ 116 ∷ 58 ∷ 66 ∷ 48 ∷ 9 ∷ 116 ∷ 58 ∷ 66 ∷ 49 ∷ 9 ∷ 116 ∷ 58 ∷ 66 ∷ 50 ∷ 9 ∷ 116 ∷ 58 ∷ 66 ∷ 51 ∷ 9 ∷ 116 ∷ 58 ∷ 66 ∷ 52 ∷ 9 ∷ 116 ∷ 58 ∷ 66 ∷ 53 ∷ 10 ∷ []) table_cells (refused 5)
    ∷ reads (112 ∷ 58 ∷ 65 ∷ 48 ∷ 9 ∷ 112 ∷ 58 ∷ 65 ∷ 49 ∷ 9 ∷ 112 ∷ 58 ∷ 65 ∷ 50 ∷ 9 ∷ 112 ∷ 58 ∷ 65 ∷ 51 ∷ 9 ∷ 112 ∷ 58 ∷ 65 ∷ 52 ∷ 9 ∷ 112 ∷ 58 ∷ 65 ∷ 53 ∷ 9 ∷ 112 ∷ 58 ∷ 65 ∷ 54 ∷ 10 ∷ []) table_cells (refused 3)
    ∷ reads (116 ∷ 58 ∷ 66 ∷ 48 ∷ 9 ∷ 116 ∷ 58 ∷ 66 ∷ 49 ∷ 9 ∷ 116 ∷ 58 ∷ 66 ∷ 50 ∷ 9 ∷ 116 ∷ 58 ∷ 66 ∷ 51 ∷ 9 ∷ 116 ∷ 58 ∷ 66 ∷ 52 ∷ 9 ∷ 116 ∷ 58 ∷ 66 ∷ 53 ∷ 9 ∷ 116 ∷ 58 ∷ 66 ∷ 54 ∷ 10 ∷ []) table_cells (refused 3)
    -- later lines that are refused: `1` without byte 10, an empty one, `0`, `01`, `1→1`, `/1`, `1:`, `4294967296`
    ∷ reads (112 ∷ 58 ∷ 65 ∷ 98 ∷ 10 ∷ 49 ∷ []) table_cells (refused 4)
    ∷ reads (112 ∷ 58 ∷ 65 ∷ 98 ∷ 10 ∷ 10 ∷ []) table_cells (refused 4)
    ∷ reads (112 ∷ 58 ∷ 65 ∷ 98 ∷ 10 ∷ 48 ∷ 10 ∷ []) table_cells (refused 4)
    ∷ reads (112 ∷ 58 ∷ 65 ∷ 98 ∷ 10 ∷ 48 ∷ 49 ∷ 10 ∷ []) table_cells (refused 4)
    ∷ reads (112 ∷ 58 ∷ 65 ∷ 98 ∷ 10 ∷ 49 ∷ 9 ∷ 49 ∷ 10 ∷ []) table_cells (refused 4)
    ∷ reads (112 ∷ 58 ∷ 65 ∷ 98 ∷ 10 ∷ 47 ∷ 49 ∷ 10 ∷ []) table_cells (refused 4)
    ∷ reads (112 ∷ 58 ∷ 65 ∷ 98 ∷ 10 ∷ 49 ∷ 58 ∷ 10 ∷ []) table_cells (refused 4)
    ∷ reads (112 ∷ 58 ∷ 65 ∷ 98 ∷ 10 ∷ 52 ∷ 50 ∷ 57 ∷ 52 ∷ 57 ∷ 54 ∷ 55 ∷ 50 ∷ 57 ∷ 54 ∷ 10 ∷ []) table_cells (refused 4)
    -- later lines that are not: `1`, `10`, `9`, `4294967295`
    ∷ reads (112 ∷ 58 ∷ 65 ∷ 98 ∷ 10 ∷ 49 ∷ 10 ∷ 49 ∷ 48 ∷ 10 ∷ 57 ∷ 10 ∷ 52 ∷ 50 ∷ 57 ∷ 52 ∷ 57 ∷ 54 ∷ 55 ∷ 50 ∷ 57 ∷ 53 ∷ 10 ∷ []) table_cells (read 4 1 0)
    -- two treatment columns, one plot column
    ∷ reads (116 ∷ 58 ∷ 65 ∷ 98 ∷ 9 ∷ 112 ∷ 58 ∷ 65 ∷ 99 ∷ 9 ∷ 116 ∷ 58 ∷ 65 ∷ 100 ∷ 10 ∷ 49 ∷ 9 ∷ 49 ∷ 9 ∷ 49 ∷ 10 ∷ []) table_cells (read 1 1 2)
    -- sheets that are refused, with the names of the places
    ∷ prints (112 ∷ []) (114 ∷ 101 ∷ 102 ∷ 117 ∷ 115 ∷ 101 ∷ 100 ∷ 9 ∷ 51 ∷ 9 ∷ 45 ∷ 9 ∷ 45 ∷ 10 ∷ [])
    ∷ prints uneven_sheet uneven_table
    ∷ prints crossed_sheet crossed_table
    ∷ prints treated_sheet treated_table
    ∷ prints mixed_sheet mixed_table
    -- a sheet that is accepted
    ∷ prints full_sheet full_table
    -- a lent text that is long enough, and one byte shorter
    ∷ prints_into uneven_sheet 32768 (record { refusal = 0; text = uneven_table })
    ∷ prints_into uneven_sheet 32767 (record { refusal = 6; text = [] })
    -- signed numbers: `0`, `-2`, `-10`
    ∷ writes (pos 0) (48 ∷ [])
    ∷ writes (negsuc 1) (45 ∷ 50 ∷ [])
    ∷ writes (negsuc 9) (45 ∷ 49 ∷ 48 ∷ [])
    ∷ []

-- ---- what the rules give them

-- a family buffer of this length with the members in it, and a level table with the plot and treatment columns
in_buffer : ℕ → Family → List ℕ
unfolding written
in_buffer bytes S = written (replicate bytes 0) 0 S

in_table : ℕ → List Column → List Column → List ℕ
unfolding written
in_table cells Fs Ts = written (written (replicate cells 0) 0 Fs) most_columns Ts

unfoldable pub seen : FurtherTrial → FurtherTrial
unfolding observed in_buffer in_table relation degrees_of_freedom comparison first_no comparing strata naming reading_to table_text skeleton_table signed
seen (plans t) = plans (observed t)
seen (relates n S m a) = relates n S m (relation n (in_buffer family_bytes S) m)
seen (subtracts n S m a) = subtracts n S m (degrees_of_freedom n (in_buffer family_bytes S) m)
seen (stand n F G c d) = stand n F G (comparison n F G) (comparison n G F)
seen (plots_by n Fs test v) = plots_by n Fs test (first_no (plot_questions_by test true n Fs))
seen (treats_by n Fs Ts test v) = treats_by n Fs Ts test (first_no (full_questions_by test true n most_interaction Fs Ts))
seen (compares n bytes S size i room R many j a) = compares n bytes S size i room R many j (comparing n (in_buffer bytes S) size i (in_buffer room R) many j)
seen (allots n P R a) = allots n P R (strata n (in_buffer family_bytes P) (length P) (in_buffer family_bytes R) (length R))
seen (names_member kind text n Fs Ts S i a) = names_member kind text n Fs Ts S i (naming kind text (in_table table_cells Fs Ts) (in_buffer family_bytes S) n (length S) i name_bytes)
seen (fits cells bytes room q) = fits cells bytes room (naming plot two_and_two (in_table cells hut_and_bay gain_and_row) (in_buffer bytes one_and_pairs) 8 2 2 room).refusal
seen (writes z w) = writes z (signed z)
seen (reads text cells o) = reads text cells (reading text (replicate cells 0))
seen (prints text out) = prints text (table_text text)
seen (prints_into text room a) = prints_into text room (skeleton_table text room)
