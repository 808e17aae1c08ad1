-- The relation of a family: who is strictly coarser, and the neighbours directly above; questions 6 and 15.
-- Places are counted from 0 here: place i is the member that the answers count as i + 1. Assumes nothing.
use Rattle.std.specs.Prelude.{Bool, true, false, not, ◌&&◌, List, [], ℕ, leb, length, get_or}
use Rattle.rules.specs.Limits.{family_bytes}
use Rattle.rules.specs.Factor.{Column, every, count, coarser}
use Rattle.rules.specs.Family.{Family, members_of, well_formed}
use Rattle.rules.specs.Design.{plots_within}
use Rattle.rules.specs.Lists.{tabulate, for_places, word_of}

abbrev pub member_at : Family → ℕ → Column
member_at S i = get_or S i []

-- "member j is strictly coarser" than member i
unfoldable pub coarser_at : ℕ → Family → ℕ → ℕ → Bool
unfolding coarser
coarser_at n S i j = coarser n (member_at S i) (member_at S j)

-- "the neighbours directly above, with no member between"
unfoldable pub directly_above : ℕ → Family → ℕ → ℕ → Bool
unfolding coarser_at every
directly_above n S i j = coarser_at n S i j && every (length S) (λ k. not (coarser_at n S i k && coarser_at n S k j))

-- "bit j − 1 of member i's word is set when member j is strictly coarser"
unfoldable pub coarser_words : ℕ → Family → List ℕ
unfolding tabulate word_of coarser_at
coarser_words n S = tabulate (λ i. word_of (coarser_at n S i) (length S)) (length S)

-- "A second word keeps only the neighbours directly above"
unfoldable pub direct_words : ℕ → Family → List ℕ
unfolding tabulate word_of directly_above
direct_words n S = tabulate (λ i. word_of (directly_above n S i) (length S)) (length S)

-- "the number of neighbours directly above a member is reported too"
unfoldable pub direct_counts : ℕ → Family → List ℕ
unfolding tabulate count directly_above
direct_counts n S = tabulate (λ i. count (length S) (directly_above n S i)) (length S)

-- ---- the answer

-- "words and counts past the size are 0, and after a refusal all are, the size too"
pub record RelationAnswer : Type 0 where
  pub refusal : ℕ
  pub size : ℕ
  pub coarser : List ℕ
  pub direct : List ℕ
  pub counts : List ℕ

unfoldable pub relation_refused : ℕ → RelationAnswer
unfolding for_places
relation_refused q = record { refusal = q; size = 0; coarser = for_places 0 []; direct = for_places 0 []; counts = for_places 0 [] }

unfoldable pub relation_of : ℕ → Family → RelationAnswer
unfolding for_places coarser_words direct_words direct_counts
relation_of n S = record { refusal = 0; size = length S; coarser = for_places 0 (coarser_words n S); direct = for_places 0 (direct_words n S); counts = for_places 0 (direct_counts n S) }

-- "Relation, degrees of freedom, strata and names take families already made: they ask 6, then 15."
-- 6. the plot count within limits, the family buffer long enough; "A family's size itself is judged by 15."
unfoldable pub family_within : ℕ → List ℕ → Bool
unfolding plots_within
family_within n buffer = plots_within n && leb family_bytes (length buffer)

unfoldable pub relation : ℕ → List ℕ → ℕ → RelationAnswer
unfolding family_within well_formed members_of relation_of relation_refused
relation n buffer size = elim (family_within n buffer) [
  | true ↦ elim (well_formed (members_of n buffer size)) [ true ↦ relation_of n (members_of n buffer size) | false ↦ relation_refused 15 ]
  | false ↦ relation_refused 6
]
