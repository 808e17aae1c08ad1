-- What questions 6 to 14 ask, said of factors and families; the first condition broken, its places, and what demand 2 asks of the full design.
-- Assumes nothing.
use Rattle.std.specs.Prelude.{◌≡◌, ◌↔◌, ◌⊎◌, List, [], ◌∷◌, ℕ, ◌+◌, ◌*◌, ◌≤◌, ◌<◌, length, get_or}
use Rattle.rules.specs.Limits.{most_plots, most_columns, most_members, most_interaction, table_cells, family_bytes, PlotLimits}
use Rattle.rules.specs.Factor.{Column, Uniform, Orthogonal}
use Rattle.rules.specs.Family.{Family, AtMost, Lists, members_of}
use Rattle.rules.specs.Closing.{InPlotFamily, InFirstTreatmentFamily, SupremumOfEach}
use Rattle.rules.specs.Design.{Answer, none, plot_size, treatment_size}
use Rattle.rules.specs.Places.{at_place, Earlier}
use Rattle.rules.specs.Asking.{Verdict, plot_columns, treatment_columns, verdict_of}

-- ---- conditions in turn

-- a question's number and what it asks for
pub record Condition : Type 1 where
  pub number : ℕ
  pub holds : Type 0

abbrev pub condition : ℕ → Type 0 → Condition
condition q A = record { number = q; holds = A }

-- "refused at the first one broken": q is the number of the first condition that does not hold, 0 where all do
unfoldable pub FirstBroken : List Condition → ℕ → Type 0
FirstBroken [] q = q ≡ 0
FirstBroken (C ∷ Cs) q = (C.holds × FirstBroken Cs q) ⊎ ((C.holds → ⊥) × (q ≡ C.number))

-- "A design that meets the conditions and limits in the rules"
unfoldable pub AllHold : List Condition → Type 0
AllHold [] = Unit {0}
AllHold (C ∷ Cs) = C.holds × AllHold Cs

-- ---- what is asked of a design

-- 6. "Are the plot count, column counts and k within limits, .. and are all lent slices long enough"
pub record Within (n c d k : ℕ) (levels plots treatments : List ℕ) : Type 0 where
  pub plots_least : 1 ≤ n
  pub plots_most : n ≤ most_plots
  pub plot_columns_holds : c ≤ most_columns
  pub treatment_columns_holds : d ≤ most_columns
  pub level_least : 1 ≤ k
  pub level_most : k ≤ most_interaction
  pub table : table_cells ≤ length levels
  pub plot_family_holds : family_bytes ≤ length plots
  pub treatment_family : family_bytes ≤ length treatments

-- 7. "Is every used level nonzero?" "Column c, plot u (both from 0) is number 240 × c + u"
abbrev pub NoneMissing : ℕ → ℕ → ℕ → List ℕ → Type 0
NoneMissing n c d levels = (j u : ℕ) → (j < c) ⊎ ((most_columns ≤ j) × (j < most_columns + d)) → u < n → get_or levels (most_plots * j + u) 0 ≡ 0 → ⊥

-- ---- the conditions, each with its number

module _ (n k : ℕ) (Fs Ts : List Column) where
  -- 8. "Has the plot family at most 32 members?"
  abbrev pub condition8 : Condition
  condition8 = condition 8 (AtMost most_members (InPlotFamily n Fs))

  -- 9. "Has every plot member classes of one size?"
  abbrev pub condition9 : Condition
  condition9 = condition 9 ((F : Column) → InPlotFamily n Fs F → Uniform n F)

  -- 10. "Are every two plot members orthogonal?"
  abbrev pub condition10 : Condition
  condition10 = condition 10 ((F G : Column) → InPlotFamily n Fs F → InPlotFamily n Fs G → Orthogonal n F G)

  -- 11. "Has the first treatment family at most 32 members?"
  abbrev pub condition11 : Condition
  condition11 = condition 11 (AtMost most_members (InFirstTreatmentFamily n k Ts))

  -- 12. "Are every two of its members orthogonal?"
  abbrev pub condition12 : Condition
  condition12 = condition 12 ((F G : Column) → InFirstTreatmentFamily n k Ts F → InFirstTreatmentFamily n k Ts G → Orthogonal n F G)

  -- 13. "Is every plot member orthogonal to every one of them?"
  abbrev pub condition13 : Condition
  condition13 = condition 13 ((F G : Column) → InPlotFamily n Fs F → InFirstTreatmentFamily n k Ts G → Orthogonal n F G)

  -- 14. "Has the final treatment family at most 32 members?"
  abbrev pub condition14 : Condition
  condition14 = condition 14 (AtMost most_members (SupremumOfEach (InPlotFamily n Fs) (InFirstTreatmentFamily n k Ts)))

module _ (n c d k : ℕ) (levels plots treatments : List ℕ) where
  abbrev pub condition6 : Condition
  condition6 = condition 6 (Within n c d k levels plots treatments)

  abbrev pub condition7 : Condition
  condition7 = condition 7 (NoneMissing n c d levels)

  abbrev from : (ℕ → ℕ → List Column → List Column → Condition) → Condition
  from C = C n k (plot_columns n c levels) (treatment_columns n d levels)

  -- "the full design 6 to 14"
  abbrev pub full_conditions : List Condition
  full_conditions =
      condition6 ∷ condition7 ∷ from condition8 ∷ from condition9 ∷ from condition10 ∷ from condition11 ∷ from condition12 ∷ from condition13 ∷ from condition14 ∷ []

-- "The plot design asks 6 to 10"
abbrev pub plot_conditions : ℕ → ℕ → List ℕ → List ℕ → List Condition
plot_conditions n c levels plots =
    condition 6 (PlotLimits n c (length levels) (length plots)) ∷ condition 7 (NoneMissing n c 0 levels) ∷ condition8 n 0 (plot_columns n c levels) [] ∷ condition9 n 0 (plot_columns n c levels) [] ∷ condition10 n 0 (plot_columns n c levels) [] ∷ []

-- ---- places: "Refusals 9, 10, 12 and 13 carry places from 1"

-- "for 9 the first member that fails"
pub record FirstUneven (n : ℕ) (P : Family) (i : ℕ) : Type 0 where
  pub least : 1 ≤ i
  pub most : i ≤ length P
  pub fails : Uniform n (at_place P i) → ⊥
  pub before : (h : ℕ) → 1 ≤ h → h < i → Uniform n (at_place P h)

-- "otherwise the first failing pair": of one family
pub record FirstApart (n : ℕ) (S : Family) (i j : ℕ) : Type 0 where
  pub least : 1 ≤ i
  pub order : i < j
  pub most : j ≤ length S
  pub fails : Orthogonal n (at_place S i) (at_place S j) → ⊥
  pub before : (h k : ℕ) → 1 ≤ h → h < k → k ≤ length S → Earlier h k i j → Orthogonal n (at_place S h) (at_place S k)

-- "(in 13 the first is a plot member)"
pub record FirstApartAcross (n : ℕ) (P S : Family) (i j : ℕ) : Type 0 where
  pub least_first : 1 ≤ i
  pub least_second : 1 ≤ j
  pub most_first : i ≤ length P
  pub most_second : j ≤ length S
  pub fails : Orthogonal n (at_place P i) (at_place S j) → ⊥
  pub before : (h k : ℕ) → 1 ≤ h → 1 ≤ k → h ≤ length P → k ≤ length S → Earlier h k i j → Orthogonal n (at_place P h) (at_place S k)

abbrev pub WithPlaces : ℕ → Type 0
WithPlaces q = (q ≡ 9) ⊎ ((q ≡ 10) ⊎ ((q ≡ 12) ⊎ (q ≡ 13)))

-- the places of a verdict on the families P and S
pub record Carries (n : ℕ) (P S : Family) (v : Verdict) : Type 0 where
  pub nine : v.refusal ≡ 9 → FirstUneven n P v.places.first × (v.places.second ≡ 0)
  pub ten : v.refusal ≡ 10 → FirstApart n P v.places.first v.places.second
  pub twelve : v.refusal ≡ 12 → FirstApart n S v.places.first v.places.second
  pub thirteen : v.refusal ≡ 13 → FirstApartAcross n P S v.places.first v.places.second
  -- "All others carry 0 and 0."
  pub others : (WithPlaces v.refusal → ⊥) → v.places ≡ none

-- ---- demand 2

-- an answer, the families being the members that the two buffers hold, as many as the sizes answered
abbrev pub read_back : ℕ → List ℕ → List ℕ → Answer → Answer
read_back n plots treatments a = record { refusal = a.refusal; places = a.places; plot = members_of n plots (plot_size a); treatment = members_of n treatments (treatment_size a) }

module _ (n c d k : ℕ) (levels plots treatments : List ℕ) where
  abbrev plot_set : Column → Type 0
  plot_set = InPlotFamily n (plot_columns n c levels)

  abbrev first_set : Column → Type 0
  first_set = InFirstTreatmentFamily n k (treatment_columns n d levels)

  -- of n plots, c plot and d treatment columns, level k, the level table and the two family buffers: the number and the places answered, and the families written
  pub record Demand2 (a : Answer) : Type 0 where
    -- "A design that meets the conditions and limits in the rules is accepted"
    pub accepts : a.refusal ≡ 0 ↔ AllHold (full_conditions n c d k levels plots treatments)
    -- "and one that breaks any is refused at the first one broken"
    pub refuses : FirstBroken (full_conditions n c d k levels plots treatments) a.refusal
    -- "Refusals 9, 10, 12 and 13 carry places from 1 .. All others carry 0 and 0."
    pub carries : Carries n a.plot a.treatment (verdict_of a)
    -- "After 9 to 14 the plot family is written"
    pub plot_family_holds : (a.refusal ≡ 0) ⊎ (9 ≤ a.refusal) → Lists plot_set a.plot
    -- "after 12 to 14 the first treatment family is too"
    pub first_family : 12 ≤ a.refusal → Lists first_set a.treatment
    -- accepted: "all suprema of one plot member with one first-treatment member"
    pub final_family : a.refusal ≡ 0 → Lists (SupremumOfEach plot_set first_set) a.treatment
    -- "and 0 for one not written"
    pub no_plot_family : 1 ≤ a.refusal → a.refusal ≤ 8 → a.plot ≡ []
    pub no_treatment_family : 1 ≤ a.refusal → a.refusal ≤ 11 → a.treatment ≡ []
