-- The numbers that each entry answers, in the order of its array.
-- Assumes nothing.
use Rattle.std.specs.Prelude.{true, false, List, [], ◌∷◌, ◌++◌, map, ℕ, ℤ, pos, eqb, length, Result, Ok, Err}
use Rattle.rules.specs.Sheet.{Outcome, read, refused}
use Rattle.rules.specs.Design.{Answer, plot_size, treatment_size}
use Rattle.rules.specs.Relation.{RelationAnswer}
use Rattle.rules.specs.Comparison.{ComparisonAnswer}
use Rattle.rules.specs.Strata.{StrataAnswer}
use Rattle.rules.specs.Naming.{Kind, plot, treatment, NameAnswer}
use Rattle.rules.specs.Table.{TableAnswer}
use Rattle.rules.specs.SheetText.{SheetAnswer}
use Rattle.refusal.specs.declared.Refusal.{Refusal}
use Rattle.refusal.specs.Numbers.{number_of}

-- the number of the refusal, 0 for none
abbrev pub reading_refusal : Outcome → ℕ
reading_refusal (read n p t) = 0
reading_refusal (refused q) = q

-- plots, plot columns, treatment columns
abbrev pub reading_numbers : Outcome → List ℕ
reading_numbers (read n p t) = n ∷ p ∷ t ∷ []
reading_numbers (refused q) = 0 ∷ 0 ∷ 0 ∷ []

-- the places and the size of the plot family
abbrev pub plot_design_numbers : Answer → List ℕ
plot_design_numbers a = a.places.first ∷ a.places.second ∷ plot_size a ∷ []

-- the places and both sizes
abbrev pub full_design_numbers : Answer → List ℕ
full_design_numbers a = a.places.first ∷ a.places.second ∷ plot_size a ∷ treatment_size a ∷ []

-- the size, the words, the words of direct neighbours, the counts
abbrev pub relation_numbers : RelationAnswer → List ℕ
relation_numbers a = a.size ∷ a.coarser ++ a.direct ++ a.counts

-- the number of the case
abbrev pub comparison_numbers : ComparisonAnswer → List ℕ
comparison_numbers a = a.case ∷ []

-- the places of the strata, then the residuals
abbrev pub strata_numbers : StrataAnswer → List ℤ
strata_numbers a = map pos a.places ++ a.residuals

-- the kind that the caller states: "plot or treatment"
abbrev pub stated_kind : ℕ → Kind
stated_kind k = elim (eqb k 0) [ true ↦ plot | false ↦ treatment ]

-- how many bytes the name has
abbrev pub naming_numbers : NameAnswer → List ℕ
naming_numbers a = length a.name ∷ []

-- how many bytes the text has
abbrev pub text_numbers : TableAnswer → List ℕ
text_numbers a = length a.text ∷ []

-- how many bytes the sheet has
abbrev pub sheet_numbers : SheetAnswer → List ℕ
sheet_numbers a = length a.sheet ∷ []

-- the number of the refusal, 0 for none, and how many bytes are written
abbrev pub refusal_of : Result ℕ Refusal → ℕ
refusal_of (Ok m) = 0
refusal_of (Err q) = number_of q

abbrev pub size_of : Result ℕ Refusal → ℕ
size_of (Ok m) = m
size_of (Err q) = 0
