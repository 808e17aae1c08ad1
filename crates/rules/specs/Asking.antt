-- Questions asked in turn: what each of 6 to 14 asks, that the first "no" gives its number and its places, and the two designs as the lists of questions that they ask.
-- Assumes nothing.
use Rattle.std.specs.Prelude.{Bool, true, false, ◌||◌, List, [], ◌∷◌, ◌++◌, ℕ, zero, suc, eqb, leb, length}
use Rattle.rules.specs.Limits.{most_columns, most_members}
use Rattle.rules.specs.Factor.{Column, uniform, orthogonal}
use Rattle.rules.specs.Family.{Family, columns_from}
use Rattle.rules.specs.Closing.{Closing, too_many, family, plot_family, first_treatment_family, final_treatment_family}
use Rattle.rules.specs.Design.{Answer, Places, none, first_failing, first_pair, first_cross, all_nonzero, within_limits, full_within_limits}

-- the number of the question that failed, 0 for none, and its places
pub record Verdict : Type 0 where
  pub refusal : ℕ
  pub places : Places

abbrev pub nothing_refused : Verdict
nothing_refused = record { refusal = 0; places = none }

-- the reply to a question: it passes, or it fails at places
pub data Reply : Type 0 where
  pass : Reply
  fail : Places → Reply

-- a question asked: its number and its reply
pub record Asked : Type 0 where
  pub number : ℕ
  pub reply : Reply

abbrev pub asked : ℕ → Reply → Asked
asked q r = record { number = q; reply = r }

-- "The first "no" gives its number."
unfoldable pub first_no : List Asked → Verdict
first_no [] = nothing_refused
first_no (a ∷ rest) = elim a.reply [ pass ↦ first_no rest | fail p ↦ record { refusal = a.number; places = p } ]

-- ---- replies

-- "All others carry 0 and 0."
abbrev pub without_places : Bool → Reply
without_places true = pass
without_places false = fail none

-- "Refusals 9, 10, 12 and 13 carry places from 1": the places where it first fails, 0 where it does not
abbrev pub at_places : ℕ → ℕ → Reply
at_places zero j = pass
at_places (suc i) j = fail (record { first = suc i; second = j })

abbrev pub at_both : Places → Reply
at_both p = at_places p.first p.second

-- ---- closings

-- at most 32 members
abbrev pub few_enough : Closing → Bool
few_enough too_many = false
few_enough (family S) = true

-- the members, none where they are too many
abbrev pub members_in : Closing → Family
members_in too_many = []
members_in (family S) = S

-- ---- the questions

-- 6. "Are the plot count, column counts and k within limits, .. and are all lent slices long enough"
abbrev pub asks6 : Bool → Asked
asks6 within = asked 6 (without_places within)

-- 7. "Is every used level nonzero?"
abbrev pub asks7 : List Column → Asked
asks7 Fs = asked 7 (without_places (all_nonzero Fs))

-- 8. "Has the plot family at most 32 members?"
abbrev pub asks8 : Closing → Asked
asks8 x = asked 8 (without_places (few_enough x))

-- 9. "Has every plot member classes of one size?"
abbrev pub asks9 : ℕ → Family → Asked
asks9 n P = asked 9 (at_places (first_failing (uniform n) 1 P) 0)

-- 10. "Are every two plot members orthogonal?": by a test of two factors
abbrev pub asks10_by : (Column → Column → Bool) → Family → Asked
asks10_by test P = asked 10 (at_both (first_pair test 1 P))

abbrev pub asks10 : ℕ → Family → Asked
asks10 n P = asks10_by (orthogonal n) P

-- 11. "Has the first treatment family at most 32 members?"
abbrev pub asks11 : Closing → Asked
asks11 x = asked 11 (without_places (few_enough x))

-- 12. "Are every two of its members orthogonal?"
abbrev pub asks12_by : (Column → Column → Bool) → Family → Asked
asks12_by test S = asked 12 (at_both (first_pair test 1 S))

abbrev pub asks12 : ℕ → Family → Asked
asks12 n S = asks12_by (orthogonal n) S

-- 13. "Is every plot member orthogonal to every one of them?"
abbrev pub asks13_by : (Column → Column → Bool) → Family → Family → Asked
asks13_by test P S = asked 13 (at_both (first_cross test 1 P S))

abbrev pub asks13 : ℕ → Family → Family → Asked
asks13 n P S = asks13_by (orthogonal n) P S

-- 14. "Has the final treatment family at most 32 members?"
abbrev pub asks14 : Family → Family → Asked
asks14 P S = asked 14 (without_places (leb (length (final_treatment_family P S)) most_members))

-- ---- the designs

-- the plot and the treatment columns of a level table on n plots
abbrev pub plot_columns : ℕ → ℕ → List ℕ → List Column
plot_columns n c levels = columns_from n levels 0 c

abbrev pub treatment_columns : ℕ → ℕ → List ℕ → List Column
treatment_columns n d levels = columns_from n levels most_columns d

-- the plot family and the first treatment family of columns, none where they have more than 32 members
abbrev pub plot_members : ℕ → List Column → Family
plot_members n Fs = members_in (plot_family n Fs)

abbrev pub first_members : ℕ → ℕ → List Column → Family
first_members n k Ts = members_in (first_treatment_family n k Ts)

-- "The plot design asks 6 to 10": `within` is the reply to 6, and `test` is what two factors have to pass
abbrev pub plot_questions_by : (Column → Column → Bool) → Bool → ℕ → List Column → List Asked
plot_questions_by test within n Fs = asks6 within ∷ asks7 Fs ∷ asks8 (plot_family n Fs) ∷ asks9 n (plot_members n Fs) ∷ asks10_by test (plot_members n Fs) ∷ []

-- "the full design 6 to 14"
abbrev pub full_questions_by : (Column → Column → Bool) → Bool → ℕ → ℕ → List Column → List Column → List Asked
full_questions_by test within n k Fs Ts =
    asks6 within ∷ asks7 (Fs ++ Ts) ∷ asks8 (plot_family n Fs) ∷ asks9 n (plot_members n Fs) ∷ asks10_by test (plot_members n Fs) ∷ asks11 (first_treatment_family n k Ts)
    ∷ asks12_by test (first_members n k Ts) ∷ asks13_by test (plot_members n Fs) (first_members n k Ts) ∷ asks14 (plot_members n Fs) (first_members n k Ts) ∷ []

abbrev pub full_questions : Bool → ℕ → ℕ → List Column → List Column → List Asked
full_questions within n k Fs Ts = full_questions_by (orthogonal n) within n k Fs Ts

-- ---- answers: a verdict and the families whose sizes are answered

abbrev pub verdict_of : Answer → Verdict
verdict_of a = record { refusal = a.refusal; places = a.places }

abbrev pub answered : Verdict → Family → Family → Answer
answered v P S = record { refusal = v.refusal; places = v.places; plot = P; treatment = S }

-- a family that is written where nothing is refused and after refusals from m on; q is the refusal, 0 for none
abbrev pub written_from : ℕ → ℕ → Family → Family
written_from m q F = elim (eqb q 0 || leb m q) [ true ↦ F | false ↦ [] ]

-- the plot design: "After 1 to 8 .. no lent memory has changed. After 9 to 14 the plot family is written"
abbrev pub plot_answer : Verdict → Family → Answer
plot_answer v P = answered v (written_from 9 v.refusal P) []

-- the full design: "after 12 to 14 the first treatment family is too"; where nothing is refused it is the final one
abbrev pub full_answer : Verdict → Family → Family → Answer
full_answer v P S = answered v (written_from 9 v.refusal P) (elim v.refusal [ zero ↦ final_treatment_family P S | suc q ↦ written_from 12 (suc q) S ])

-- ---- the designs by a test of two factors: 10, 12 and 13 ask whether it is passed

abbrev pub plot_design_by : (Column → Column → Bool) → ℕ → ℕ → List ℕ → ℕ → Answer
plot_design_by test n c levels r = plot_answer (first_no (plot_questions_by test (within_limits n c (length levels) r) n (plot_columns n c levels))) (plot_members n (plot_columns n c levels))

abbrev pub full_design_by : (Column → Column → Bool) → ℕ → ℕ → ℕ → ℕ → List ℕ → ℕ → ℕ → Answer
full_design_by test n c d k levels p r =
    full_answer (first_no (full_questions_by test (full_within_limits n c d k (length levels) p r) n k (plot_columns n c levels) (treatment_columns n d levels))) (plot_members n (plot_columns n c levels)) (first_members n k (treatment_columns n d levels))
