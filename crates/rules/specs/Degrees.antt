-- Degrees of freedom; questions 6 and 15.
-- Assumes nothing.
use Rattle.std.specs.Prelude.{◌≡◌, true, false, ℕ, ℤ, pos, ◌+ℤ◌, ◌-ℤ◌, get_or}
use mathlib.Core.List.{List, [], ◌∷◌, ◌++◌}
use Rattle.rules.specs.Factor.{Column, finer, coarser, classes}
use Rattle.rules.specs.Family.{Family, members_of, well_formed}
use Rattle.rules.specs.Lists.{for_places}
use Rattle.rules.specs.Relation.{family_within}

-- the sum of those numbers that belong to members strictly coarser than F
unfoldable pub coarser_sum : ℕ → Column → Family → List ℤ → ℤ
unfolding coarser finer
coarser_sum n F [] ds = pos 0
coarser_sum n F (G ∷ S) [] = pos 0
coarser_sum n F (G ∷ S) (d ∷ ds) = elim (coarser n F G) [ true ↦ d +ℤ coarser_sum n F S ds | false ↦ coarser_sum n F S ds ]

module _ (own : Column → ℤ) (n : ℕ) where
  -- its own number less those of the strictly coarser members
  unfoldable pub remainder : Column → Family → List ℤ → ℤ
  unfolding coarser_sum
  remainder F S ds = own F -ℤ coarser_sum n F S ds

  -- The numbers of the members of the second family, which follow those of the first, with numbers ds.
  -- A strictly coarser member has fewer classes, and stands before: remainders-equation in proofs/Degrees.
  unfoldable pub remainders_after : Family → List ℤ → Family → List ℤ
  unfolding remainder
  remainders_after done ds [] = []
  remainders_after done ds (F ∷ S) = remainder F done ds ∷ remainders_after (done ++ F ∷ []) (ds ++ remainder F done ds ∷ []) S

  -- each member's own number less those of all strictly coarser members of its family
  unfoldable pub remainders : Family → List ℤ
  unfolding remainders_after
  remainders S = remainders_after [] [] S

-- the number of classes, signed
abbrev pub class_number : Column → ℤ
class_number F = pos (classes F)

-- "Degrees of freedom of a member: its number of classes less those of all strictly coarser members of its family. They are signed."
unfoldable pub degrees : ℕ → Family → List ℤ
unfolding remainders classes
degrees n S = remainders class_number n S

-- ---- what C-13 says of them

-- numbers added up
unfoldable pub add_up : List ℤ → ℤ
add_up [] = pos 0
add_up (d ∷ ds) = d +ℤ add_up ds

-- a number that is not below 0
pub record NonNeg (z : ℤ) : Type 0 where
  pub value : ℕ
  pub is : z ≡ pos value

-- no number of a list is below 0; past its end stands 0
abbrev pub NoneBelow0 : List ℤ → Type 0
NoneBelow0 ds = (i : ℕ) → NonNeg (get_or ds i (pos 0))

-- "no stratum is below 0 and the strata sum to N", of a plot family on n plots
pub record TrustedStrata (n : ℕ) (P : Family) : Type 0 where
  pub no_stratum : NoneBelow0 (degrees n P)
  pub strata_sum : add_up (degrees n P) ≡ pos n

-- ---- the answer

pub record DegreesAnswer : Type 0 where
  pub refusal : ℕ
  pub degrees : List ℤ

unfoldable pub degrees_refused : ℕ → DegreesAnswer
unfolding for_places
degrees_refused q = record { refusal = q; degrees = for_places (pos 0) [] }

-- "they ask 6, then 15"
unfoldable pub degrees_of_freedom : ℕ → List ℕ → ℕ → DegreesAnswer
unfolding family_within well_formed members_of degrees for_places degrees_refused
degrees_of_freedom n buffer size = elim (family_within n buffer) [
  | true ↦ elim (well_formed (members_of n buffer size)) [
    | true ↦ record { refusal = 0; degrees = for_places (pos 0) (degrees n (members_of n buffer size)) }
    | false ↦ degrees_refused 15
  ]
  | false ↦ degrees_refused 6
]
