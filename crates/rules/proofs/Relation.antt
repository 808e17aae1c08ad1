-- Laws of the relation: each bit of a word says just what the rule says, and the ones of a word of neighbours are counted.
-- Assumes nothing.
use mathlib.Core.Path.{◌≡◌, sym, ap, ◌∙◌}
use Prim.Native.Nat.{ℕ, ◌<◌}
use lib.Count.{ones}
use lib.ListN.{length, get_or}
use Rattle.rules.specs.Factor.{count}
use Rattle.rules.specs.Family.{Family}
use Rattle.rules.specs.Lists.{word_of, bit_at}
use Rattle.rules.specs.Relation.{coarser_at, directly_above, coarser_words, direct_words, direct_counts}
use Rattle.rules.proofs.Lists.{get_d_tabulate}
use Rattle.rules.proofs.Words.{bit_word, ones_word}

module _ (n : ℕ) (S : Family) (i : ℕ) (hi : i < length S) where
  -- bit j of member i's word is set exactly when member j is strictly coarser
  pub coarser_bit : (j : ℕ) → j < length S → bit_at (get_or (coarser_words n S) i 0) j ≡ coarser_at n S i j
  unfolding coarser_words
  coarser_bit j hj = rw (get_d_tabulate (λ k. word_of (coarser_at n S k) (length S)) (length S) i 0 hi) (bit_word (coarser_at n S i) (length S) j hj)

  -- bit j of its second word is set exactly when member j is a neighbour directly above
  pub direct_bit_lem : (j : ℕ) → j < length S → bit_at (get_or (direct_words n S) i 0) j ≡ directly_above n S i j
  unfolding direct_words
  direct_bit_lem j hj = rw (get_d_tabulate (λ k. word_of (directly_above n S k) (length S)) (length S) i 0 hi) (bit_word (directly_above n S i) (length S) j hj)

  -- the number of neighbours directly above is the count of ones of that word
  pub direct_ones : get_or (direct_counts n S) i 0 ≡ ones (get_or (direct_words n S) i 0)
  unfolding direct_counts direct_words
  direct_ones =
      get_d_tabulate (λ k. count (length S) (directly_above n S k)) (length S) i 0 hi ∙ sym (ones_word (directly_above n S i) (length S))
      ∙ sym (ap ones (get_d_tabulate (λ k. word_of (directly_above n S k) (length S)) (length S) i 0 hi))
