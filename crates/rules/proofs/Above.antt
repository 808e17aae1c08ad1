-- Laws of the relation, said of factors: what each bit of its words means, and that each strictly coarser member is reached by direct neighbours.
-- Assumes nothing.
use mathlib.Core.Path.{◌≡◌, sym, ap, ap₂, ◌∙◌, subst}
use mathlib.Core.Logic.{◌↔◌}
use mathlib.Core.Bool.{Bool, true, false, not, ◌&&◌}
use mathlib.Core.List.{List}
use Prim.Native.Nat.{ℕ, zero, suc, ◌+◌, ◌≤◌, ◌<◌}
use native.Mathlib.Nat.{not-suc-le-zero}
use native.Mathlib.Omega.{arith}
use lib.Count.{ones}
use lib.Dec.{ltb}
use lib.ListN.{length, get_or, replicate, get_or-eq_default}
use borrow.Author.Tests.{not-true, not-false, ltb-true, ltb-false}
use Rattle.rules.specs.Factor.{Column, finer, coarser, every, count, classes}
use Rattle.rules.specs.Family.{Family, ◌∈◌, members_of, well_formed}
use Rattle.rules.specs.Lists.{tabulate, bit_at, for_places, word_of}
use Rattle.rules.specs.Relation.{member_at, coarser_at, directly_above, coarser_words, direct_words, direct_counts, family_within, RelationAnswer, relation, relation_of, relation_refused}
use Rattle.rules.specs.Above.{StrictlyCoarser, DirectlyAbove, Climb, one_step, further}
use Rattle.rules.proofs.Numbering.{by_cases}
use Rattle.rules.proofs.Members.{clash}
use Rattle.rules.proofs.Walks.{bool_false}
use Rattle.rules.proofs.Classes.{finer_test}
use Rattle.rules.proofs.Bounds.{finer_trans}
use Rattle.rules.proofs.Tests.{every_at, every_all, every_false}
use Rattle.rules.proofs.Sheet.{and_left, and_right}
use Rattle.rules.proofs.Degrees.{coarser_fewer}
use Rattle.rules.proofs.WellFormed.{accepted, member_at_lem}
use Rattle.rules.proofs.WorkList.{PlaceOf, place_of}
use Rattle.rules.proofs.Relation.{direct_ones}
use Rattle.rules.proofs.Words.{bit_word}
use Rattle.rules.proofs.Taken.{places_found, taken_many, relation_taken}
use Rattle.rules.proofs.Bits.{bit_none, bit_past}
use Rattle.rules.proofs.Lists.{length_tabulate, get_d_tabulate}

-- ---- the tests

pub coarser_test : (n : ℕ) (F G : Column) → coarser n F G ≡ true ↔ StrictlyCoarser n F G
unfolding coarser
coarser_test n F G = (
  λ e. record {
    finer = (finer_test n F G).0 (and_left (finer n F G) (not (finer n G F)) e);
    not_back = λ h. clash {P = ⊥} ((finer_test n G F).1 h) (not-true (finer n G F) (and_right (finer n F G) (not (finer n G F)) e));
  },
  λ w. ap₂ ◌&&◌ ((finer_test n F G).1 w.finer) (ap not (bool_false (finer n G F) (λ e. w.not_back ((finer_test n G F).0 e)))),
)

module _ (n : ℕ) (S : Family) where
  pub coarser_at_test : (i j : ℕ) → coarser_at n S i j ≡ true ↔ StrictlyCoarser n (member_at S i) (member_at S j)
  unfolding coarser_at
  coarser_at_test i j = coarser_test n (member_at S i) (member_at S j)

  between : ℕ → ℕ → ℕ → Bool
  between i j k = coarser_at n S i k && coarser_at n S k j

  -- "with no member between"
  pub direct_test : (i j : ℕ) → directly_above n S i j ≡ true ↔ DirectlyAbove n S (member_at S i) (member_at S j)
  unfolding directly_above between
  direct_test i j = (to, from)
    where
      free : ℕ → Bool
      free k = not (between i j k)

      to : coarser_at n S i j && every (length S) free ≡ true → DirectlyAbove n S (member_at S i) (member_at S j)
      to e = record { coarser = (coarser_at_test i j).0 (and_left (coarser_at n S i j) (every (length S) free) e); none_between = none }
        where
          none : (H : Column) → H ∈ S → StrictlyCoarser n (member_at S i) H → StrictlyCoarser n H (member_at S j) → ⊥
          none H m a b =
              let k = place_of S H m in
              let x = (coarser_at_test i k.place).1 (subst (λ (K : Column). StrictlyCoarser n (member_at S i) K) (sym k.is) a) in
              let y = (coarser_at_test k.place j).1 (subst (λ (K : Column). StrictlyCoarser n K (member_at S j)) (sym k.is) b) in
              clash (ap₂ ◌&&◌ x y)
              (not-true (between i j k.place) (every_at (length S) free (and_right (coarser_at n S i j) (every (length S) free) e) k.place k.less))

      from : DirectlyAbove n S (member_at S i) (member_at S j) → coarser_at n S i j && every (length S) free ≡ true
      from w = ap₂ ◌&&◌ ((coarser_at_test i j).1 w.coarser) (every_all (length S) free (λ k h. ap not (bool_false (between i j k) (λ e. no k h e))))
        where
          no : (k : ℕ) → k < length S → between i j k ≡ true → ⊥
          no k h e = w.none_between (member_at S k) (member_at_lem S k h)
              ((coarser_at_test i k).0 (and_left (coarser_at n S i k) (coarser_at n S k j) e))
              ((coarser_at_test k j).0 (and_right (coarser_at n S i k) (coarser_at n S k j) e))

-- ---- chains of direct neighbours

module _ (n : ℕ) (S : Family) where
  pub climb_on : {F G H : Column} → Climb n S F G → Climb n S G H → Climb n S F H
  climb_on c (one_step m d) = further c m d
  climb_on c (further e m d) = further (climb_on c e) m d

  module _ (on : (F : Column) → F ∈ S → length F ≡ n) where
    fewer : (i j : ℕ) → i < length S → j < length S → coarser_at n S i j ≡ true → classes (member_at S j) < classes (member_at S i)
    unfolding coarser_at
    fewer i j hi hj e = coarser_fewer n (member_at S i) (member_at S j) (on (member_at S i) (member_at_lem S i hi)) (on (member_at S j) (member_at_lem S j hj)) e

    abbrev Between : ℕ → ℕ → Type 0
    Between i j = (k : ℕ) × (k < length S) × (coarser_at n S i k ≡ true) × (coarser_at n S k j ≡ true)

    -- a coarser member that is not directly above has one between
    one_between : (i j : ℕ) → coarser_at n S i j ≡ true → directly_above n S i j ≡ false → Between i j
    unfolding between directly_above
    one_between i j e f =
        let w = every_false (length S) (λ k. not (between n S i j k)) (sym (rw e) ∙ f) in
        let q = not-false (between n S i j w.plot) w.fails in
        (w.plot, w.less, and_left (coarser_at n S i w.plot) (coarser_at n S w.plot j) q, and_right (coarser_at n S i w.plot) (coarser_at n S w.plot j) q)

    climbing : (m i j : ℕ) → i < length S → j < length S → classes (member_at S i) ≤ classes (member_at S j) + m → coarser_at n S i j ≡ true → Climb n S (member_at S i) (member_at S j)
    climbing zero i j hi hj l e = let z : 1 ≤ 0 = omega (arith, fewer i j hi hj e) in absurd (not-suc-le-zero z)
    climbing (suc m) i j hi hj l e =
        by_cases (directly_above n S i j)
        (λ d. one_step (member_at_lem S j hj) ((direct_test n S i j).0 d))
        (λ d. go (λ k. climbing m i k hi) (λ k h. climbing m k j h hj) (one_between i j e d))
      where
        go : ((k : ℕ) → k < length S → classes (member_at S i) ≤ classes (member_at S k) + m → coarser_at n S i k ≡ true → Climb n S (member_at S i) (member_at S k))
            → ((k : ℕ) → k < length S → classes (member_at S k) ≤ classes (member_at S j) + m → coarser_at n S k j ≡ true → Climb n S (member_at S k) (member_at S j)) → Between i j → Climb n S (member_at S i) (member_at S j)
        go up on-top (k, h, a, b) = climb_on (up k h (omega (arith, fewer k j h hj b)) a) (on-top k h (omega (arith, fewer i k hi h a)) b)

    strictly_trans : {F G H : Column} → StrictlyCoarser n F G → StrictlyCoarser n G H → StrictlyCoarser n F H
    strictly_trans {F} {G} {H} a b = record { finer = finer_trans n F G H a.finer b.finer; not_back = λ h. b.not_back (finer_trans n H F G h a.finer) }

    climb_coarser : {F G : Column} → Climb n S F G → StrictlyCoarser n F G
    climb_coarser (one_step m d) = d.coarser
    climb_coarser (further c m d) = strictly_trans (climb_coarser c) d.coarser

    -- of two members the second is strictly coarser exactly where direct neighbours lead up to it
    pub coarser_climbs : (F G : Column) → F ∈ S → G ∈ S → StrictlyCoarser n F G ↔ Climb n S F G
    coarser_climbs F G f g = (to, climb_coarser)
      where
        i : PlaceOf S F
        i = place_of S F f

        j : PlaceOf S G
        j = place_of S G g

        to : StrictlyCoarser n F G → Climb n S F G
        to w = subst (λ (K : Column). Climb n S F K) j.is (subst (λ (K : Column). Climb n S K (member_at S j.place)) i.is
            (climbing (classes (member_at S i.place)) i.place j.place i.less j.less (omega arith)
            ((coarser_at_test n S i.place j.place).1 (subst (λ (K : Column). StrictlyCoarser n K (member_at S j.place)) (sym i.is) (subst (λ (K : Column). StrictlyCoarser n F K) (sym j.is) w)))))

-- ---- the answer

module _ (t : ℕ → ℕ → Bool) (m : ℕ) where
  abbrev words : List ℕ
  words = tabulate (λ i. word_of (t i) m) m

  -- the bits of words that hold a relation among m members
  words_bit : (i j : ℕ) → bit_at (get_or words i 0) j ≡ true ↔ ((i < m) × (j < m) × (t i j ≡ true))
  words_bit i j = (to, λ w. ap (λ (x : ℕ). bit_at x j) (get_d_tabulate (λ k. word_of (t k) m) m i 0 w.0) ∙ bit_word (t i) m j w.1 ∙ w.2)
    where
      to : bit_at (get_or words i 0) j ≡ true → (i < m) × (j < m) × (t i j ≡ true)
      to e =
          by_cases (ltb i m)
          (λ a. let hi = ltb-true i m a in
          let f : bit_at (word_of (t i) m) j ≡ true = ap (λ (x : ℕ). bit_at x j) (sym (get_d_tabulate (λ k. word_of (t k) m) m i 0 hi)) ∙ e in
          by_cases (ltb j m)
          (λ b. (hi, ltb-true j m b, sym (bit_word (t i) m j (ltb-true j m b)) ∙ f))
          (λ b. clash f (bit_past (t i) m j (ltb-false j m b))))
          (λ a. clash e (ap (λ (x : ℕ). bit_at x j) (get_or-eq_default words 0 (short (ltb-false i m a))) ∙ bit_none j))
        where
          short : m ≤ i → length words ≤ i
          short h = omega (arith, length_tabulate (λ k. word_of (t k) m) m)

module _ (n : ℕ) (buffer : List ℕ) (size : ℕ) where
  abbrev pub members_taken : Family
  members_taken = members_of n buffer size

  abbrev answer : RelationAnswer
  answer = relation n buffer size

  -- "after a refusal all are" 0, "the size too"
  pub relation_refused_lem : (answer.refusal ≡ 0 → ⊥) → answer ≡ record { refusal = answer.refusal; size = 0; coarser = replicate 32 0; direct = replicate 32 0; counts = replicate 32 0 }
  unfolding relation relation_refused relation_of for_places tabulate
  relation_refused_lem h =
      by_cases (family_within n buffer)
      (λ w. by_cases (well_formed members_taken) (λ f. absurd (h (rw (w, relation, f)))) (λ f. rw (w, relation, f)))
      (λ w. rw (w, relation))

  module _ (accepts : answer.refusal ≡ 0) where
    is : answer ≡ relation_of n members_taken
    is = (relation_taken n buffer size accepts).1

    few : length members_taken ≤ 32
    few = (accepted members_taken (relation_taken n buffer size accepts).0.formed).few

    pub relation_size : answer.size ≡ size
    unfolding relation_of
    relation_size = ap (λ (a : RelationAnswer). a.size) is ∙ taken_many n buffer size

    -- "bit j − 1 of member i's word is set when member j is strictly coarser", i and j counted from 0; every other bit of the 32 words is 0
    pub relation_coarser : (i j : ℕ) → bit_at (get_or answer.coarser i 0) j ≡ true ↔ ((i < size) × (j < size) × StrictlyCoarser n (member_at members_taken i) (member_at members_taken j))
    unfolding relation_of coarser_words
    relation_coarser i j = (
      λ e. let w = (words_bit (coarser_at n members_taken) (length members_taken) i j).0 (sym (ap (λ (x : ℕ). bit_at x j) word) ∙ e) in
          (omega (arith, w.0, taken_many n buffer size), omega (arith, w.1, taken_many n buffer size), (coarser_at_test n members_taken i j).0 w.2),
      λ w. ap (λ (x : ℕ). bit_at x j) word
          ∙ (words_bit (coarser_at n members_taken) (length members_taken) i j).1 (omega (arith, w.0, taken_many n buffer size), omega (arith, w.1, taken_many n buffer size), (coarser_at_test n members_taken i j).1 w.2),
    )
      where
        short : length (coarser_words n members_taken) ≤ 32
        short = omega (arith, length_tabulate (λ k. word_of (coarser_at n members_taken k) (length members_taken)) (length members_taken), few)

        word : get_or answer.coarser i 0 ≡ get_or (coarser_words n members_taken) i 0
        word = ap (λ (a : RelationAnswer). get_or a.coarser i 0) is ∙ places_found 0 (coarser_words n members_taken) short i

    direct_word_lem : (i : ℕ) → get_or answer.direct i 0 ≡ get_or (direct_words n members_taken) i 0
    unfolding relation_of direct_words
    direct_word_lem i = ap (λ (a : RelationAnswer). get_or a.direct i 0) is ∙ places_found 0 (direct_words n members_taken) short i
      where
        short : length (direct_words n members_taken) ≤ 32
        short = omega (arith, length_tabulate (λ k. word_of (directly_above n members_taken k) (length members_taken)) (length members_taken), few)

    -- "A second word keeps only the neighbours directly above, with no member between"
    pub relation_direct : (i j : ℕ) → bit_at (get_or answer.direct i 0) j ≡ true ↔ ((i < size) × (j < size) × DirectlyAbove n members_taken (member_at members_taken i) (member_at members_taken j))
    unfolding direct_words
    relation_direct i j = (
      λ e. let w = (words_bit (directly_above n members_taken) (length members_taken) i j).0 (sym (ap (λ (x : ℕ). bit_at x j) (direct_word_lem i)) ∙ e) in
          (omega (arith, w.0, taken_many n buffer size), omega (arith, w.1, taken_many n buffer size), (direct_test n members_taken i j).0 w.2),
      λ w. ap (λ (x : ℕ). bit_at x j) (direct_word_lem i)
          ∙ (words_bit (directly_above n members_taken) (length members_taken) i j).1 (omega (arith, w.0, taken_many n buffer size), omega (arith, w.1, taken_many n buffer size), (direct_test n members_taken i j).1 w.2),
    )

    -- "the number of neighbours directly above a member is reported too"
    pub relation_counts : (i : ℕ) → get_or answer.counts i 0 ≡ ones (get_or answer.direct i 0)
    unfolding relation_of direct_counts direct_words ones
    relation_counts i =
        ap (λ (a : RelationAnswer). get_or a.counts i 0) is ∙ places_found 0 (direct_counts n members_taken) short i ∙ counted ∙ sym (ap ones (direct_word_lem i))
      where
        short : length (direct_counts n members_taken) ≤ 32
        short = omega (arith, length_tabulate (λ k. count (length members_taken) (directly_above n members_taken k)) (length members_taken), few)

        counted : get_or (direct_counts n members_taken) i 0 ≡ ones (get_or (direct_words n members_taken) i 0)
        counted =
            by_cases (ltb i (length members_taken))
            (λ e. direct_ones n members_taken i (ltb-true i (length members_taken) e))
            (λ e. let l = ltb-false i (length members_taken) e in
            get_or-eq_default (direct_counts n members_taken) 0 (let k : length (direct_counts n members_taken) ≤ i = omega (arith, length_tabulate (λ k. count (length members_taken) (directly_above n members_taken k)) (length members_taken)) in k)
            ∙ sym (ap ones (get_or-eq_default (direct_words n members_taken) 0 (let k : length (direct_words n members_taken) ≤ i = omega (arith, length_tabulate (λ k. word_of (directly_above n members_taken k) (length members_taken)) (length members_taken)) in k))))
