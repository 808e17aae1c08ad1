-- Laws of the relation's words: what the loops build is what the rules say.
-- Assumes nothing.
use mathlib.Core.Path.{◌≡◌, refl, sym, ap, ap₂, ◌∙◌}
use mathlib.Core.Bool.{Bool, true, false, not, ◌&&◌, and-true}
use mathlib.Core.List.{List, []}
use Prim.Native.Nat.{ℕ, ◌+◌, ◌-◌, ◌≤◌, ◌<◌, ◌^◌}
use native.Mathlib.Nat.{pow-le-pow_right, lt_of_lt_of_le}
use native.Mathlib.Numerals.{add-one}
use native.Mathlib.Omega.{arith}
use lib.Bits.{bit_and}
use lib.Count.{ones}
use lib.Dec.{ltb}
use lib.ListN.{length, get_or, get_or-eq_default}
use borrow.Author.Tests.{ltb-true, ltb-false}
use Rattle.rules.specs.Factor.{every, count, finer}
use Rattle.rules.specs.Family.{Family, members_of}
use Rattle.rules.specs.Lists.{tabulate, for_places, word_of, bit_at}
use Rattle.rules.specs.Relation.{RelationAnswer, coarser_at, directly_above, coarser_words, direct_words, direct_counts, relation_of}
use Rattle.rules.proofs.Numbering.{by_cases}
use Rattle.rules.proofs.Buffer.{member_is}
use Rattle.rules.proofs.Lists.{length_tabulate, get_d_tabulate}
use Rattle.rules.proofs.Places.{tabulate_ext, length_places, at_places_lem, at_past}
use Rattle.rules.proofs.Words.{word_lt, word_ext, word_bits, bit_word}
use Rattle.rules.proofs.Bits.{word_none, word_more, bit_past, bit_none, every_more, every_ext, every_suc, mask_out}
use Rattle.rules.proofs.Relation.{direct_ones}
use Rattle.rules.proofs.WellFormed.{Accepted}
use Rattle.rules.proofs.StrictOrder.{earlier_coarser, later_not_coarser}
use Rattle.families.specs.Lent.{column_at}
use Rattle.strata.specs.Lent.{Formed}
use Rattle.strata.specs.Words.{AllWords, finer_word, direct_bit, direct_word}
use Rattle.strata.proofs.Lent.{accepted_members, size_members, on_plots_lem}

-- ---- the strictly coarser members

module _ {n : ℕ} {b : List ℕ} {size : ℕ} (is : Formed n b size) where
  -- the members before member i to which it is finer are those strictly coarser
  pub finer_word_is : (i : ℕ) → i < size → finer_word n b i ≡ get_or (coarser_words n (members_of n b size)) i 0
  unfolding finer_word coarser_words
  finer_word_is i h =
      word_ext (λ j. finer n (column_at n b i) (column_at n b j)) (coarser_at n S i) i (λ j l. earlier j l)
      ∙ word_more (coarser_at n S i) i (length S) (omega (arith, size_members is)) (λ j l k. later_not_coarser n S (accepted_members is) (on_plots_lem is) i j l k)
      ∙ sym (get_d_tabulate (λ k. word_of (coarser_at n S k) (length S)) (length S) i 0 hi)
    where
      S : Family
      S = members_of n b size

      hi : i < length S
      hi = omega (arith, size_members is)

      earlier : (j : ℕ) → j < i → finer n (column_at n b i) (column_at n b j) ≡ coarser_at n S i j
      earlier j l =
          sym (earlier_coarser n S (accepted_members is) (on_plots_lem is) i j l hi
          ∙ ap₂ (finer n) (member_is n is.few_plots b size i h) (member_is n is.few_plots b size j (omega arith)))

pub length_coarser : (n : ℕ) (S : Family) → length (coarser_words n S) ≡ length S
unfolding coarser_words
length_coarser n S = length_tabulate (λ k. word_of (coarser_at n S k) (length S)) (length S)

-- ---- the neighbours directly above, by masking

module _ (words : List ℕ) (i : ℕ) where
  -- nothing masked yet
  pub direct_start : get_or words i 0 < 2 ^ 32 → get_or words i 0 ≡ word_of (direct_bit words i 0) 32
  unfolding direct_bit every
  direct_start h = sym (word_ext (direct_bit words i 0) (bit_at (get_or words i 0)) 32 (λ k l. and-true (bit_at (get_or words i 0) k)) ∙ word_bits 32 (get_or words i 0) h)

  -- place m has a bit: its word is masked out
  pub direct_mask : (m : ℕ) → get_or words m 0 < 2 ^ 32 → bit_at (get_or words i 0) m ≡ true → bit_and (word_of (direct_bit words i m) 32) (4294967295 - get_or words m 0) ≡ word_of (direct_bit words i (m + 1)) 32
  unfolding direct_bit
  direct_mask m h e =
      mask_out (direct_bit words i m) (get_or words m 0) h
      ∙ word_ext (λ k. direct_bit words i m k && not (bit_at (get_or words m 0) k)) (direct_bit words i (m + 1)) 32
      (λ k l. sym (ap (λ (x : ℕ). bit_at (get_or words i 0) k && every x (λ j. not (bit_at (get_or words i 0) j && bit_at (get_or words j 0) k))) (add-one m)
      ∙ ap (λ (x : Bool). bit_at (get_or words i 0) k && x) (every_suc m (λ j. not (bit_at (get_or words i 0) j && bit_at (get_or words j 0) k)))
      ∙ rw e (turn (bit_at (get_or words i 0) k) (bit_at (get_or words m 0) k) (every m (λ j. not (bit_at (get_or words i 0) j && bit_at (get_or words j 0) k))))))
    where
      turn : (a b p : Bool) → a && (not b && p) ≡ a && p && not b
      turn true true true = refl
      turn true true false = refl
      turn true false true = refl
      turn true false false = refl
      turn false b p = refl

  -- place m has none
  pub direct_skip : (m : ℕ) → bit_at (get_or words i 0) m ≡ false → word_of (direct_bit words i m) 32 ≡ word_of (direct_bit words i (m + 1)) 32
  unfolding direct_bit
  direct_skip m e =
      word_ext (direct_bit words i m) (direct_bit words i (m + 1)) 32
      (λ k l. sym (ap (λ (x : ℕ). bit_at (get_or words i 0) k && every x (λ j. not (bit_at (get_or words i 0) j && bit_at (get_or words j 0) k))) (add-one m)
      ∙ ap (λ (x : Bool). bit_at (get_or words i 0) k && x) (every_suc m (λ j. not (bit_at (get_or words i 0) j && bit_at (get_or words j 0) k)))
      ∙ rw e))

-- ---- all words

-- the words of the strictly coarser members as the array holds them
abbrev pub words_of : ℕ → Family → List ℕ
words_of n S = for_places 0 (coarser_words n S)

module _ (n : ℕ) (S : Family) (is : Accepted S) (on : (i : ℕ) → i < length S → length (get_or S i []) ≡ n) where
  word_at : (i : ℕ) → i < length S → get_or (words_of n S) i 0 ≡ word_of (coarser_at n S i) (length S)
  unfolding coarser_words
  word_at i h =
      let few : length S ≤ 32 = is.few in
      at_places_lem 0 (coarser_words n S) i (omega arith) ∙ get_d_tabulate (λ k. word_of (coarser_at n S k) (length S)) (length S) i 0 h

  pub bit_at_lem : (i k : ℕ) → i < length S → k < length S → bit_at (get_or (words_of n S) i 0) k ≡ coarser_at n S i k
  bit_at_lem i k hi hk = ap (λ (w : ℕ). bit_at w k) (word_at i hi) ∙ bit_word (coarser_at n S i) (length S) k hk

  -- they fit
  pub words_fit : AllWords (words_of n S)
  unfolding coarser_words
  words_fit i =
      by_cases (ltb i (length S))
      (λ e. let l : i < length S = ltb-true i (length S) e in
      let two : 0 < 2 = omega arith in
      let w : word_of (coarser_at n S i) (length S) < 2 ^ 32 = lt_of_lt_of_le (word_lt (coarser_at n S i) (length S)) (pow-le-pow_right two is.few) in
      rw (word_at i l) w)
      (λ e. let l : length S ≤ i = ltb-false i (length S) e in rw (past i l) (omega arith))
    where
      past : (i : ℕ) → length S ≤ i → get_or (words_of n S) i 0 ≡ 0
      past i l =
          by_cases (ltb i 32)
          (λ e. at_past 0 (coarser_words n S) i (ltb-true i 32 e) (rw (length_tabulate (λ k. word_of (coarser_at n S k) (length S)) (length S)) l))
          (λ e. get_or-eq_default (words_of n S) 0 (rw (length_places 0 (coarser_words n S)) (ltb-false i 32 e)))

  direct_at : (i : ℕ) → i < length S → direct_word (words_of n S) i ≡ word_of (directly_above n S i) (length S)
  unfolding direct_word direct_bit directly_above
  direct_at i hi =
      sym (word_more (direct_bit (words_of n S) i i) (length S) 32 is.few (λ k l h. rw (word_at i hi, bit_past (coarser_at n S i) (length S) k l)))
      ∙ word_ext (direct_bit (words_of n S) i i) (directly_above n S i) (length S) (λ k hk. ap₂ ◌&&◌ (bit_at_lem i k hi hk) (between k hk))
    where
      between : (k : ℕ) → k < length S
          → every i (λ j. not (bit_at (get_or (words_of n S) i 0) j && bit_at (get_or (words_of n S) j 0) k)) ≡ every (length S) (λ j. not (coarser_at n S i j && coarser_at n S j k))
      between k hk =
          every_ext (λ j. not (bit_at (get_or (words_of n S) i 0) j && bit_at (get_or (words_of n S) j 0) k)) (λ j. not (coarser_at n S i j && coarser_at n S j k)) i
          (λ j l. ap₂ (λ (x y : Bool). not (x && y)) (bit_at_lem i j hi (omega arith)) (bit_at_lem j k (omega arith) hk))
          ∙ every_more (λ j. not (coarser_at n S i j && coarser_at n S j k)) i (length S) (omega arith) (λ j l h. rw (later_not_coarser n S is on i j l h))

  -- the masked words are those of the neighbours directly above
  pub direct_words_are : tabulate (direct_word (words_of n S)) 32 ≡ for_places 0 (direct_words n S)
  unfolding for_places coarser_words direct_words direct_word direct_bit
  direct_words_are =
      tabulate_ext (direct_word (words_of n S)) (λ i. get_or (direct_words n S) i 0) 32
      (λ i h. by_cases (ltb i (length S))
      (λ e. let l : i < length S = ltb-true i (length S) e in direct_at i l ∙ sym (get_d_tabulate (λ k. word_of (directly_above n S k) (length S)) (length S) i 0 l))
      (λ e. let l : length S ≤ i = ltb-false i (length S) e in
      word_none (direct_bit (words_of n S) i i) 32 (λ k hk. rw (at_past 0 (coarser_words n S) i h (short (λ j. word_of (coarser_at n S j) (length S)) i l), bit_none k))
      ∙ sym (get_or-eq_default (direct_words n S) 0 (short (λ j. word_of (directly_above n S j) (length S)) i l))))
    where
      short : (f : ℕ → ℕ) (i : ℕ) → length S ≤ i → length (tabulate f (length S)) ≤ i
      short f i h = rw (length_tabulate f (length S)) h

  -- and their ones are as many as the neighbours directly above
  pub direct_counts_are : tabulate (λ i. ones (get_or (for_places 0 (direct_words n S)) i 0)) 32 ≡ for_places 0 (direct_counts n S)
  unfolding for_places direct_words direct_counts ones
  direct_counts_are =
      tabulate_ext (λ i. ones (get_or (for_places 0 (direct_words n S)) i 0)) (λ i. get_or (direct_counts n S) i 0) 32
      (λ i h. by_cases (ltb i (length S))
      (λ e. let l : i < length S = ltb-true i (length S) e in ap ones (at_places_lem 0 (direct_words n S) i h) ∙ sym (direct_ones n S i l))
      (λ e. let l : length S ≤ i = ltb-false i (length S) e in
      ap ones (at_past 0 (direct_words n S) i h (short (λ j. word_of (directly_above n S j) (length S)) i l))
      ∙ sym (get_or-eq_default (direct_counts n S) 0 (short (λ j. count (length S) (directly_above n S j)) i l))))
    where
      short : (f : ℕ → ℕ) (i : ℕ) → length S ≤ i → length (tabulate f (length S)) ≤ i
      short f i h = rw (length_tabulate f (length S)) h

-- ---- the answer

module _ (n : ℕ) (S : Family) (is : Accepted S) (on : (i : ℕ) → i < length S → length (get_or S i []) ≡ n) where
  pub relation_is : (size : ℕ) (words direct counts : List ℕ) → size ≡ length S → words ≡ words_of n S → direct ≡ tabulate (direct_word words) 32 → counts ≡ tabulate (λ i. ones (get_or direct i 0)) 32
      → ◌≡◌ {A = RelationAnswer} (record { refusal = 0; size = size; coarser = words; direct = direct; counts = counts }) (relation_of n S)
  unfolding relation_of
  relation_is size words direct counts l w d c = rw (l, w, direct_is, counts_is)
    where
      direct_is : direct ≡ for_places 0 (direct_words n S)
      direct_is = d ∙ ap (λ (v : List ℕ). tabulate (direct_word v) 32) w ∙ direct_words_are n S is on

      counts_is : counts ≡ for_places 0 (direct_counts n S)
      counts_is = c ∙ ap (λ (v : List ℕ). tabulate (λ i. ones (get_or v i 0)) 32) direct_is ∙ direct_counts_are n S is on
