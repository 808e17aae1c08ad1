-- The plot design (questions 6 to 10) and the full design (questions 6 to 14): the first "no", its places, the sizes answered and the lent memory afterwards.
-- Assumes nothing.
use Rattle.std.specs.Prelude.{Bool, true, false, ◌&&◌, List, [], ◌∷◌, ◌++◌, ℕ, zero, suc, eqb, ltb, leb, length}
use Rattle.rules.specs.Limits.{most_plots, most_columns, most_members, most_interaction, table_cells, family_bytes}
use Rattle.rules.specs.Factor.{Column, uniform, orthogonal}
use Rattle.rules.specs.Family.{Family, columns_from, members_of, written}
use Rattle.rules.specs.Closing.{Closing, too_many, family, plot_family, first_treatment_family, final_treatment_family}

-- ---- "places from 1: for 9 the first member that fails and 0; otherwise the first failing pair"

pub record Places : Type 0 where
  pub first : ℕ
  pub second : ℕ

abbrev pub none : Places
none = record { first = 0; second = 0 }

-- the place of the first member that fails a test, the first member of S having place i; 0 where none fails
unfoldable pub first_failing : (Column → Bool) → ℕ → Family → ℕ
first_failing p i [] = zero
first_failing p i (F ∷ S) = elim (p F) [ true ↦ first_failing p (suc i) S | false ↦ i ]

-- the places i and j, unless j is 0: then what is found further on
unfoldable pub pair_at : ℕ → ℕ → Places → Places
pair_at i zero rest = rest
pair_at i (suc j) rest = record { first = i; second = suc j }

-- "in the order of the places, smaller first place, then smaller second": the first two members of S that fail a test
unfoldable pub first_pair : (Column → Column → Bool) → ℕ → Family → Places
unfolding first_failing pair_at
first_pair p i [] = none
first_pair p i (F ∷ S) = pair_at i (first_failing (p F) (suc i) S) (first_pair p (suc i) S)

-- "in 13 the first is a plot member": the first member of P, from place i, and member of S that fail a test
unfoldable pub first_cross : (Column → Column → Bool) → ℕ → Family → Family → Places
unfolding first_failing pair_at
first_cross p i [] S = none
first_cross p i (F ∷ P) S = pair_at i (first_failing (p F) 1 S) (first_cross p (suc i) P S)

-- ---- answers

-- The number of the question that failed, 0 for none; its places; the families written, none where a family is not written.
pub record Answer : Type 0 where
  pub refusal : ℕ
  pub places : Places
  pub plot : Family
  pub treatment : Family

-- "All others carry 0 and 0." "After 1 to 8 .. no lent memory has changed."
abbrev pub refused : ℕ → Answer
refused q = record { refusal = q; places = none; plot = []; treatment = [] }

-- ---- the plot design

-- 10. "Are every two plot members orthogonal?" p is the first failing pair
unfoldable pub question10 : Family → Places → Answer
question10 P p = elim p.first [
  | zero ↦ record { refusal = 0; places = none; plot = P; treatment = [] }
  | suc i ↦ record { refusal = 10; places = p; plot = P; treatment = [] }
]

-- 9. "Has every plot member classes of one size?" The last argument is the place of the first that has not.
unfoldable pub question9 : ℕ → Family → ℕ → Answer
unfolding question10 first_pair orthogonal
question9 n P zero = question10 P (first_pair (orthogonal n) 1 P)
question9 n P (suc i) = record { refusal = 9; places = record { first = suc i; second = 0 }; plot = P; treatment = [] }

-- 8. "Has the plot family at most 32 members?"
unfoldable pub question8 : ℕ → Closing → Answer
unfolding question9 first_failing uniform
question8 n too_many = refused 8
question8 n (family P) = question9 n P (first_failing (uniform n) 1 P)

-- 7. "Is every used level nonzero?"
unfoldable pub nonzero : Column → Bool
nonzero [] = true
nonzero (x ∷ F) = elim (eqb x 0) [ true ↦ false | false ↦ nonzero F ]

unfoldable pub all_nonzero : List Column → Bool
unfolding nonzero
all_nonzero [] = true
all_nonzero (F ∷ Fs) = elim (nonzero F) [ true ↦ all_nonzero Fs | false ↦ false ]

unfoldable pub question7 : ℕ → List Column → Answer
unfolding all_nonzero question8 plot_family
question7 n Fs = elim (all_nonzero Fs) [ true ↦ question8 n (plot_family n Fs) | false ↦ refused 7 ]

-- 6. "Are the plot count, column counts .. within limits, .. are all lent slices long enough"
unfoldable pub plots_within : ℕ → Bool
plots_within n = ltb 0 n && leb n most_plots

unfoldable pub within_limits : ℕ → ℕ → ℕ → ℕ → Bool
unfolding plots_within
within_limits n c tableLength bufferLength = plots_within n && leb c most_columns && leb table_cells tableLength && leb family_bytes bufferLength

-- "The plot design asks 6 to 10": n plots, c plot columns, the level table and the length of the family buffer
unfoldable pub plot_design : ℕ → ℕ → List ℕ → ℕ → Answer
unfolding within_limits question7 columns_from
plot_design n c levels bufferLength = elim (within_limits n c (length levels) bufferLength) [
  | true ↦ question7 n (columns_from n levels 0 c)
  | false ↦ refused 6
]

-- ---- the full design

-- 14. "Has the final treatment family at most 32 members?" R is the final family, S the first.
unfoldable pub question14 : Family → Family → Family → Answer
question14 P S R = elim (leb (length R) most_members) [
  | true ↦ record { refusal = 0; places = none; plot = P; treatment = R }
  | false ↦ record { refusal = 14; places = none; plot = P; treatment = S }
]

-- 13. "Is every plot member orthogonal to every one of them?" p is the first failing pair
unfoldable pub question13 : Family → Family → Places → Answer
unfolding question14 final_treatment_family
question13 P S p = elim p.first [
  | zero ↦ question14 P S (final_treatment_family P S)
  | suc i ↦ record { refusal = 13; places = p; plot = P; treatment = S }
]

-- 12. "Are every two of its members orthogonal?" p is the first failing pair
unfoldable pub question12 : ℕ → Family → Family → Places → Answer
unfolding question13 first_cross orthogonal
question12 n P S p = elim p.first [
  | zero ↦ question13 P S (first_cross (orthogonal n) 1 P S)
  | suc i ↦ record { refusal = 12; places = p; plot = P; treatment = S }
]

-- 11. "Has the first treatment family at most 32 members?"
unfoldable pub question11 : ℕ → Family → Closing → Answer
unfolding question12 first_pair orthogonal
question11 n P too_many = record { refusal = 11; places = none; plot = P; treatment = [] }
question11 n P (family S) = question12 n P S (first_pair (orthogonal n) 1 S)

-- an accepted plot family goes on to the treatments
unfoldable pub with_treatments : ℕ → ℕ → List Column → Answer → Answer
unfolding question11 first_treatment_family
with_treatments n k Ts a = elim a.refusal [
  | zero ↦ question11 n a.plot (first_treatment_family n k Ts)
  | suc q ↦ a
]

-- 7 for the full design: the treatment columns too
unfoldable pub full_question7 : ℕ → ℕ → List Column → List Column → Answer
unfolding with_treatments question8 plot_family all_nonzero
full_question7 n k Fs Ts = elim (all_nonzero (Fs ++ Ts)) [
  | true ↦ with_treatments n k Ts (question8 n (plot_family n Fs))
  | false ↦ refused 7
]

-- 6 for the full design
unfoldable pub full_within_limits : ℕ → ℕ → ℕ → ℕ → ℕ → ℕ → ℕ → Bool
unfolding within_limits
full_within_limits n c d k tableLength plotLength treatmentLength =
    within_limits n c tableLength plotLength && leb d most_columns && ltb 0 k && leb k most_interaction && leb family_bytes treatmentLength

-- "the full design 6 to 14": n plots, c plot and d treatment columns, level k, the level table and the lengths of the two family buffers
unfoldable pub full_design : ℕ → ℕ → ℕ → ℕ → List ℕ → ℕ → ℕ → Answer
unfolding full_question7 full_within_limits columns_from
full_design n c d k levels plotLength treatmentLength = elim (full_within_limits n c d k (length levels) plotLength treatmentLength) [
  | true ↦ full_question7 n k (columns_from n levels 0 c) (columns_from n levels most_columns d)
  | false ↦ refused 6
]

-- ---- lent memory afterwards, and the sizes answered

-- "the design answers the sizes of the families written, and 0 for one not written"
abbrev pub plot_size : Answer → ℕ
plot_size a = length a.plot

abbrev pub treatment_size : Answer → ℕ
treatment_size a = length a.treatment

-- what the two family buffers hold afterwards
abbrev pub plot_buffer : List ℕ → Answer → List ℕ
plot_buffer buffer a = written buffer 0 a.plot

abbrev pub treatment_buffer : List ℕ → Answer → List ℕ
treatment_buffer buffer a = written buffer 0 a.treatment

-- "The family returned is the members left in that buffer, as many as the size answered"
unfoldable pub returned : ℕ → List ℕ → Answer → Family
unfolding members_of written
returned n buffer a = members_of n (plot_buffer buffer a) (plot_size a)
