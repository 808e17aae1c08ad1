-- Words of members, built bit by bit. Places are counted from 0.
-- Assumes nothing.
use Rattle.std.specs.Prelude.{◌≡◌, Bool, true, false, not, ◌&&◌, ◌||◌, List, ℕ, zero, suc, ◌+◌, ◌^◌, ◌≤◌, ◌<◌, eqb, get_or, Option, Some, None}
use Rattle.rules.specs.Limits.{most_members}
use Rattle.rules.specs.Factor.{every, classes, finer}
use Rattle.rules.specs.Lists.{word_of, bit_at, for_places}
use Rattle.rules.specs.Relation.{coarser_words}
use Rattle.families.specs.Lent.{column_at}
use Rattle.strata.specs.declared.family.Family.{Family}
use Rattle.strata.specs.declared.family.Counted.{Counted}
use Rattle.strata.specs.Family.{members, column, IsCounted}

-- words of 32 bits
abbrev pub AllWords : List ℕ → Type 0
AllWords words = (i : ℕ) → get_or words i 0 < 4294967296

-- the members before member i to which it is finer
unfoldable pub finer_word : ℕ → List ℕ → ℕ → ℕ
unfolding word_of finer
finer_word n buffer i = word_of (λ j. finer n (column_at n buffer i) (column_at n buffer j)) i

-- a word of members before member i to which it is finer: all of them from member j on
pub record FinerFrom (n : ℕ) (buffer : List ℕ) (i j word : ℕ) : Type 0 where
  pub below : word < 2 ^ i
  pub only : (k : ℕ) → bit_at word k ≡ true → finer n (column_at n buffer i) (column_at n buffer k) ≡ true
  pub all : (k : ℕ) → j ≤ k → k < i → bit_at word k ≡ finer n (column_at n buffer i) (column_at n buffer k)

-- no member before member i with as many classes is coarser
abbrev pub Apart : ℕ → List ℕ → ℕ → Type 0
Apart n buffer i = (j : ℕ) → j < i → classes (column_at n buffer i) ≡ classes (column_at n buffer j) → finer n (column_at n buffer i) (column_at n buffer j) ≡ false

-- two members of a family with their numbers of classes, a word of the first that is known from the member after the second on, and the word of the second
abbrev pub WordAfter : Family → Counted → Counted → ℕ → ℕ → Type 0
WordAfter f member before word coarser =
    IsCounted f member × IsCounted f before × (before.place < member.place)
    × FinerFrom f.plots f.bytes.now member.place (before.place + 1) word × (coarser ≡ finer_word f.plots f.bytes.now before.place)

-- a member with its number of classes, and the words and the numbers of classes of all members before it
abbrev pub WordsBefore : Family → Counted → List ℕ → List ℕ → Type 0
WordsBefore f member words counts =
    IsCounted f member × ((j : ℕ) → j < member.place → get_or words j 0 ≡ finer_word f.plots f.bytes.now j)
    × ((j : ℕ) → j < member.place → get_or counts j 0 ≡ classes (column f j))

-- bit k of word i, unless one of the first m places has a bit in word i and bit k in its own word
unfoldable pub direct_bit : List ℕ → ℕ → ℕ → ℕ → Bool
unfolding bit_at every
direct_bit words i m k = bit_at (get_or words i 0) k && every m (λ j. not (bit_at (get_or words i 0) j && bit_at (get_or words j 0) k))

-- word i without what is in the word of a place before it that has a bit in it
unfoldable pub direct_word : List ℕ → ℕ → ℕ
unfolding word_of direct_bit
direct_word words i = word_of (direct_bit words i i) most_members

-- the members of the first family that are finer than or equivalent to member t of the second
unfoldable pub candidate_word : ℕ → List ℕ → ℕ → List ℕ → ℕ → ℕ
unfolding word_of finer
candidate_word n plot_buffer plot_size treatment_buffer t = word_of (λ p. finer n (column_at n plot_buffer p) (column_at n treatment_buffer t)) plot_size

-- the words of strictly coarser members of a family
abbrev pub WordsOf : Family → List ℕ → Type 0
WordsOf f words = words ≡ for_places 0 (coarser_words f.plots (members f))

-- q, with its word of coarser members, is no candidate, or p itself, or finer than p
unfoldable pub below : ℕ → ℕ → ℕ → ℕ → Bool
unfolding bit_at
below word among p q = not (bit_at among q) || eqb q p || bit_at word p

-- p is a candidate, and every other candidate is finer
unfoldable pub coarsest : List ℕ → ℕ → ℕ → ℕ → Bool
unfolding bit_at every below
coarsest words size among p = bit_at among p && every size (λ q. below (get_or words q 0) among p q)

-- the first number that passes, of k numbers from i on, counted from 1; 0 where none does
unfoldable pub first_passing : (ℕ → Bool) → ℕ → ℕ → ℕ
first_passing t i zero = 0
first_passing t i (suc k) = elim (t i) [ true ↦ suc i | false ↦ first_passing t (suc i) k ]

-- a place counted from 1, or 0
abbrev pub numbered : Option ℕ → ℕ
numbered None = 0
numbered (Some p) = suc p
