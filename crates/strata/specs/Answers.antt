-- What the entries answer, read as the answers of the rules.
-- Assumes nothing.
use Rattle.std.specs.Prelude.{◌≡◌, true, false, List, [], ℕ, eqb, ℤ, pos, Result, Ok, Err}
use Rattle.rules.specs.Family.{Family, members_of}
use Rattle.rules.specs.Lists.{for_places}
use Rattle.rules.specs.Relation.{RelationAnswer, relation_refused}
use Rattle.rules.specs.Comparison.{BitsCompared}
use Rattle.rules.specs.Degrees.{DegreesAnswer, degrees, degrees_refused}
use Rattle.rules.specs.Strata.{StrataAnswer, strata, strata_refused}
use Rattle.refusal.specs.declared.Refusal.{Refusal}
use Rattle.refusal.specs.Numbers.{number_of}
use Rattle.strata.specs.declared.order.Relation.{Relation}
use Rattle.strata.specs.declared.stratum.Strata.{Strata}
use Rattle.strata.specs.declared.stratum.Analysis.{Analysis}

abbrev pub relation_in : Result Relation Refusal → RelationAnswer
relation_in (Ok r) = record { refusal = 0; size = r.size; coarser = r.coarser; direct = r.direct; counts = r.counts }
relation_in (Err q) = relation_refused (number_of q)

-- "in the relation a bit is set exactly when it is finer"
abbrev pub RelationCompared : ℕ → List ℕ → ℕ → RelationAnswer → Type 0
RelationCompared n buffer size a = a.refusal ≡ 0 → BitsCompared n (members_of n buffer size) a.coarser

abbrev pub degrees_in : Result (List ℤ) Refusal → DegreesAnswer
degrees_in (Ok ds) = record { refusal = 0; degrees = ds }
degrees_in (Err q) = degrees_refused (number_of q)

-- the answer for a family that questions 6 and 15 accept
unfoldable pub degrees_found : ℕ → Family → DegreesAnswer
unfolding for_places degrees
degrees_found n S = record { refusal = 0; degrees = for_places (pos 0) (degrees n S) }

abbrev pub strata_in : Result Strata Refusal → StrataAnswer
strata_in (Ok r) = record { refusal = 0; places = r.places; residuals = r.residuals }
strata_in (Err q) = strata_refused (number_of q)

-- strata, and the degrees of freedom that their residuals are found by
pub record AnalysisAnswer : Type 0 where
  pub strata : StrataAnswer
  pub totals : List ℤ
  pub degrees : List ℤ

abbrev pub analysis_in : Result Analysis Refusal → AnalysisAnswer
analysis_in (Ok r) = record {
  strata = record { refusal = 0; places = r.strata.places; residuals = r.strata.residuals };
  totals = r.totals;
  degrees = r.degrees;
}
analysis_in (Err q) = record { strata = strata_refused (number_of q); totals = for_places (pos 0) []; degrees = for_places (pos 0) [] }

-- an answer about strata with the degrees of freedom of the plot and the treatment members, all 0 where it is a refusal
unfoldable pub with_degrees : ℕ → Family → Family → StrataAnswer → AnalysisAnswer
unfolding for_places degrees
with_degrees n P R a = elim (eqb a.refusal 0) [
  | true ↦ record { strata = a; totals = for_places (pos 0) (degrees n P); degrees = for_places (pos 0) (degrees n R) }
  | false ↦ record { strata = a; totals = for_places (pos 0) []; degrees = for_places (pos 0) [] }
]

-- strata, or what a question answers, of the families that two buffers lend, with the degrees of freedom
abbrev pub analysis_of : ℕ → List ℕ → ℕ → List ℕ → ℕ → StrataAnswer → AnalysisAnswer
analysis_of n plots plot_size treatments treatment_size a = with_degrees n (members_of n plots plot_size) (members_of n treatments treatment_size) a

abbrev pub analysis_from : (ℕ → Family → Family → StrataAnswer) → ℕ → List ℕ → ℕ → List ℕ → ℕ → AnalysisAnswer
analysis_from question n plots plot_size treatments treatment_size =
    analysis_of n plots plot_size treatments treatment_size (question n (members_of n plots plot_size) (members_of n treatments treatment_size))

-- strata of the families that two buffers lend, with the degrees of freedom
abbrev pub strata_analysis : ℕ → List ℕ → ℕ → List ℕ → ℕ → AnalysisAnswer
strata_analysis n plots plot_size treatments treatment_size =
    analysis_of n plots plot_size treatments treatment_size (strata n plots plot_size treatments treatment_size)
