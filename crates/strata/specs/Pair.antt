-- What the struct of a plot family and a treatment family stands for.
-- Assumes nothing.
use Rattle.std.specs.Prelude.{◌≡◌, Bool, map, List, ℕ, ◌<◌, Option, IfSome}
use Rattle.rules.specs.Factor.{Column, classes}
use Rattle.rules.specs.Family.{Family as Members, members_of}
use Rattle.families.specs.Lent.{column_at}
use Rattle.rules.specs.Lists.{for_places}
use Rattle.rules.specs.Strata.{stratum, all_have_stratum}
use Rattle.strata.specs.declared.family.Pair.{Pair}
use Rattle.strata.specs.Family.{members, column}
use Rattle.strata.specs.Words.{WordsOf, finer_word, candidate_word}

-- treatment member t, and all of them, on the plots of the plot family
abbrev pub treatment_at : Pair → ℕ → Column
treatment_at d t = column_at d.plot.plots d.treatment.bytes.now t

abbrev pub treatments : Pair → Members
treatments d = members_of d.plot.plots d.treatment.bytes.now d.treatment.size

-- the place of the stratum of treatment member t, from 1
abbrev pub stratum_of : Pair → ℕ → ℕ
stratum_of d t = stratum d.plot.plots (members d.plot) (treatment_at d t)

-- the plot members among the first k that are finer than or equivalent to treatment member t
abbrev pub candidates_before : Pair → ℕ → ℕ → ℕ
candidates_before d t k = candidate_word d.plot.plots d.plot.bytes.now k d.treatment.bytes.now t

abbrev pub candidates_of : Pair → ℕ → ℕ
candidates_of d t = candidates_before d t d.plot.size

-- the place of a plot member with a class for each plot
abbrev pub IsFinest : Pair → Option ℕ → Type 0
IsFinest d finest = IfSome finest (λ p. classes (column d.plot p) ≡ d.plot.plots)

-- plot member p with its word, those before it that are candidates for treatment member t, and the place of a member with a class for each plot
abbrev pub CandidatesBefore : Pair → ℕ → ℕ → ℕ → ℕ → Option ℕ → Type 0
CandidatesBefore d p word among t finest =
    (p < d.plot.size) × (t < d.treatment.size) × (word ≡ finer_word d.plot.plots d.plot.bytes.now p) × (among ≡ candidates_before d t p) × IsFinest d finest

-- the words of the plot family, treatment member t, and the place of a plot member with a class for each plot
abbrev pub CandidatesAsked : Pair → List ℕ → ℕ → Option ℕ → Type 0
CandidatesAsked d words t finest = WordsOf d.plot words × (t < d.treatment.size) × IsFinest d finest

-- the places of the strata of the treatment members, by places; and whether each member has one
abbrev pub strata_places : Pair → List ℕ
strata_places d = for_places 0 (map (stratum d.plot.plots (members d.plot)) (treatments d))

abbrev pub all_placed : Pair → Bool
all_placed d = all_have_stratum d.plot.plots (members d.plot) (treatments d)
