-- From columns to families (003, Algorithm 1): the plot family, the first and the final treatment family.
-- Assumes nothing.
use Rattle.std.specs.Prelude.{◌≡◌, true, false, ℕ, zero, suc, ◌≤◌, eqb, leb, length}
use mathlib.Core.List.{List, [], ◌∷◌, ◌++◌, map}
use Rattle.rules.specs.Limits.{most_members}
use Rattle.rules.specs.Factor.{Column, number, infimum, supremum, universal, equality}
use Rattle.rules.specs.Family.{Family, ◌∈◌, insert_all}

-- ---- closing under operations

-- what two members make, where a family is closed under both operations, and where it is closed under supremum
unfoldable pub both : Column → Column → List Column
unfolding infimum supremum
both F G = infimum F G ∷ supremum F G ∷ []

unfoldable pub only_supremum : Column → Column → List Column
unfolding supremum
only_supremum F G = supremum F G ∷ []

module _ (make : Column → Column → List Column) where
  -- what F makes with each member
  unfoldable pub products_of : Column → Family → List Column
  products_of F [] = []
  products_of F (G ∷ S) = make F G ++ products_of F S

  -- what each member of the first family makes with each of the second
  unfoldable pub products : Family → Family → List Column
  unfolding products_of
  products [] S = []
  products (F ∷ Fs) S = products_of F S ++ products Fs S

  -- a round: the members, and what every two make
  unfoldable pub round : Family → Family
  unfolding insert_all products
  round S = insert_all (products S S) S

  -- Made Fs F: F is in the smallest set that has the columns Fs and whatever two of its columns make
  pub data Made (Fs : List Column) : Column → Type 0 where
    given : {F : Column} → F ∈ Fs → Made Fs F
    made : {F G H : Column} → Made Fs F → Made Fs G → H ∈ make F G → Made Fs H

-- a closed family, or that it would have more members than a family may
pub data Closing : Type 0 where
  too_many : Closing
  family : Family → Closing

-- rounds until none adds a member, or there are more than 32: "the family's true size decides it"
unfoldable pub closing : (Column → Column → List Column) → ℕ → Family → Closing
unfolding round
closing make zero S = too_many
closing make (suc k) S = elim (leb (length S) most_members) [
  | false ↦ too_many
  | true ↦ elim (eqb (length (round make S)) (length S)) [ true ↦ family S | false ↦ closing make k (round make S) ]
]

-- The smallest set with the columns, closed, in the order of members. Each round but the last adds a member, so 33 are enough.
unfoldable pub close : (Column → Column → List Column) → List Column → Closing
unfolding closing insert_all
close make Fs = closing make (suc most_members) (insert_all Fs [])

-- ---- "The plot family is the smallest set with the plot columns, U and E, closed under both operations."

unfoldable pub plot_generators : ℕ → List Column → List Column
unfolding number universal equality
plot_generators n Fs = universal n ∷ equality n ∷ map number Fs

unfoldable pub plot_family : ℕ → List Column → Closing
unfolding close both plot_generators
plot_family n Fs = close both (plot_generators n Fs)

pub data InPlotFamily (n : ℕ) (Fs : List Column) : Column → Type 0 where
  by_column : {F : Column} → F ∈ Fs → InPlotFamily n Fs (number F)
  by_universal : InPlotFamily n Fs (universal n)
  by_equality : InPlotFamily n Fs (equality n)
  by_infimum : {F G : Column} → InPlotFamily n Fs F → InPlotFamily n Fs G → InPlotFamily n Fs (infimum F G)
  by_supremum : {F G : Column} → InPlotFamily n Fs F → InPlotFamily n Fs G → InPlotFamily n Fs (supremum F G)

-- ---- "The first treatment family is the smallest set with U and all infima of 1 to k different treatment columns, closed under supremum."

-- the choices of at most k different columns, the empty one among them
unfoldable pub choices : ℕ → List Column → List (List Column)
choices zero Ts = [] ∷ []
choices (suc k) [] = [] ∷ []
choices (suc k) (T ∷ Ts) = choices (suc k) Ts ++ map (λ (C : List Column). T ∷ C) (choices k Ts)

-- the infimum of all columns of a choice; of none it is U
unfoldable pub infimum_all : ℕ → List Column → Column
unfolding infimum universal
infimum_all n [] = universal n
infimum_all n (T ∷ Ts) = infimum T (infimum_all n Ts)

unfoldable pub treatment_generators : ℕ → ℕ → List Column → List Column
unfolding choices infimum_all
treatment_generators n k Ts = map (infimum_all n) (choices k Ts)

unfoldable pub first_treatment_family : ℕ → ℕ → List Column → Closing
unfolding close only_supremum treatment_generators
first_treatment_family n k Ts = close only_supremum (treatment_generators n k Ts)

-- C is made of columns of Ts at different places, in their order
pub data Chosen : List Column → List Column → Type 0 where
  none_of : Chosen [] []
  skipping : {T : Column} {C Ts : List Column} → Chosen C Ts → Chosen C (T ∷ Ts)
  taking : {T : Column} {C Ts : List Column} → Chosen C Ts → Chosen (T ∷ C) (T ∷ Ts)

pub data InFirstTreatmentFamily (n k : ℕ) (Ts : List Column) : Column → Type 0 where
  of_universal : InFirstTreatmentFamily n k Ts (universal n)
  of_infimum : {T : Column} {C : List Column} → Chosen (T ∷ C) Ts → length (T ∷ C) ≤ k → InFirstTreatmentFamily n k Ts (infimum_all n (T ∷ C))
  of_supremum : {F G : Column} → InFirstTreatmentFamily n k Ts F → InFirstTreatmentFamily n k Ts G → InFirstTreatmentFamily n k Ts (supremum F G)

-- ---- "The final treatment family is all suprema of one plot member with one first-treatment member."

unfoldable pub final_treatment_family : Family → Family → Family
unfolding insert_all products only_supremum
final_treatment_family P S = insert_all (products only_supremum P S) []

-- "all suprema of one plot member with one first-treatment member": H is the supremum of one of Q and one of R
pub record SupremumOfEach (Q R : Column → Type 0) (H : Column) : Type 0 where
  pub plot : Column
  pub treatment : Column
  pub in_plot : Q plot
  pub in_treatment : R treatment
  pub is : H ≡ supremum plot treatment

-- the same of two families listed
abbrev pub InFinalTreatmentFamily : Family → Family → Column → Type 0
InFinalTreatmentFamily P S = SupremumOfEach (λ F. F ∈ P) (λ F. F ∈ S)
