-- How two factors stand, and the entry that compares a member of one lent family with a member of another; questions 6 and 15.
-- Assumes nothing.
use Rattle.std.specs.Prelude.{◌≡◌, ◌↔◌, Bool, true, false, ◌&&◌, List, ℕ, ◌-◌, ◌<◌, ltb, leb, length, get_or}
use Rattle.rules.specs.Factor.{Column, finer, orthogonal}
use Rattle.rules.specs.Family.{Family, members_of, well_formed}
use Rattle.rules.specs.Lists.{bit_at}
use Rattle.rules.specs.Relation.{member_at, family_within}

-- "equivalent, finer, coarser, orthogonal without either being finer, or not orthogonal", "each said of the first factor"
pub data Comparison : Type 0 where
  is_equivalent : Comparison
  is_finer : Comparison
  is_coarser : Comparison
  is_orthogonal : Comparison
  not_orthogonal : Comparison

-- "the first that fits": whether the first factor is finer than or equivalent to the second, the second to the first, and the two are orthogonal
abbrev pub first_fitting : Bool → Bool → Bool → Comparison
first_fitting true true o = is_equivalent
first_fitting true false o = is_finer
first_fitting false true o = is_coarser
first_fitting false false true = is_orthogonal
first_fitting false false false = not_orthogonal

unfoldable pub comparison : ℕ → Column → Column → Comparison
unfolding finer orthogonal
comparison n F G = first_fitting (finer n F G) (finer n G F) (orthogonal n F G)

-- ---- where it is asked

-- "In the design a pair fails exactly when the answer is not orthogonal"
abbrev pub passes : Comparison → Bool
passes is_equivalent = true
passes is_finer = true
passes is_coarser = true
passes is_orthogonal = true
passes not_orthogonal = false

abbrev pub pair_passes : ℕ → Column → Column → Bool
pair_passes n F G = passes (comparison n F G)

-- "in the relation a bit is set exactly when it is finer": of all bits of all words, places counted from 0
abbrev pub BitsCompared : ℕ → Family → List ℕ → Type 0
BitsCompared n S words = (i j : ℕ) → bit_at (get_or words i 0) j ≡ true ↔ ((i < length S) × (j < length S) × (comparison n (member_at S i) (member_at S j) ≡ is_finer))

-- ---- the entry

-- a number for each case, in the order in which they are tried; 0 is for a refusal
abbrev pub case_number : Comparison → ℕ
case_number is_equivalent = 1
case_number is_finer = 2
case_number is_coarser = 3
case_number is_orthogonal = 4
case_number not_orthogonal = 5

-- the number of the question that failed, 0 for none, and the number of the case, 0 after a refusal
pub record ComparisonAnswer : Type 0 where
  pub refusal : ℕ
  pub case : ℕ

abbrev pub comparison_refused : ℕ → ComparisonAnswer
comparison_refused q = record { refusal = q; case = 0 }

abbrev pub compared : Comparison → ComparisonAnswer
compared c = record { refusal = 0; case = case_number c }

-- 6. "is a place asked about from 1 to its family's size"
abbrev pub place_within : ℕ → ℕ → Bool
place_within size place = ltb 0 place && leb place size

-- "Users may ask it too, of two lent families and a place in each, with questions 6 and 15": of each family its buffer, its size and the place
unfoldable pub comparing : ℕ → List ℕ → ℕ → ℕ → List ℕ → ℕ → ℕ → ComparisonAnswer
unfolding family_within well_formed members_of comparison
comparing n first firstSize i second secondSize j = elim (family_within n first && family_within n second && place_within firstSize i && place_within secondSize j) [
  | true ↦ elim (well_formed (members_of n first firstSize) && well_formed (members_of n second secondSize)) [
    | true ↦ compared (comparison n (member_at (members_of n first firstSize) (i - 1)) (member_at (members_of n second secondSize) (j - 1)))
    | false ↦ comparison_refused 15
  ]
  | false ↦ comparison_refused 6
]
