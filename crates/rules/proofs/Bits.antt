-- More laws of words given by their bits, and of tests of all places.
-- Assumes nothing.
use mathlib.Core.Path.{◌≡◌, refl, sym, ap, ◌∙◌}
use mathlib.Core.Bool.{Bool, true, false, not, ◌&&◌}
use Prim.Native.Nat.{ℕ, zero, suc, ◌+◌, ◌-◌, ◌*◌, ◌^◌, ◌≤◌, ◌<◌}
use native.Mathlib.Nat.{not-suc-le-zero, le_of_suc-le-suc, div-eq_of_lt, pow-le-pow_right, lt_of_lt_of_le}
use native.Mathlib.Omega.{arith}
use lib.Dec.{ltb}
use lib.Bits.{bit_and}
use borrow.Author.Tests.{ltb-true, ltb-false}
use Rattle.rules.specs.Lists.{bit, word_of, bit_at}
use Rattle.rules.specs.Factor.{every}
use Rattle.rules.proofs.Numbering.{by_cases}
use Rattle.rules.proofs.Tests.{every_at, every_all, every_false, Fails}
use Rattle.rules.proofs.Members.{clash}
use Rattle.rules.proofs.Words.{word_lt, word_bits, and_not_word}

-- no bit is set
pub word_none : (t : ℕ → Bool) (n : ℕ) → ((j : ℕ) → j < n → t j ≡ false) → word_of t n ≡ 0
unfolding word_of
word_none t zero h = refl
word_none t (suc n) h = rw (h 0 (omega arith), word_none (λ j. t (suc j)) n (λ j l. h (suc j) (omega arith)))

-- none of the places from m on has a bit
pub word_more : (t : ℕ → Bool) (m n : ℕ) → m ≤ n → ((j : ℕ) → m ≤ j → j < n → t j ≡ false) → word_of t m ≡ word_of t n
unfolding word_of
word_more t zero n h f = sym (word_none t n (λ j l. f j (omega arith) l))
word_more t (suc m) zero h f = absurd (not-suc-le-zero h)
word_more t (suc m) (suc n) h f = ap (λ (w : ℕ). bit (t 0) + 2 * w) (word_more (λ j. t (suc j)) m n (le_of_suc-le-suc h) (λ j l k. f (suc j) (omega arith) (omega arith)))

-- a word has no bit past its places
pub bit_past : (t : ℕ → Bool) (n j : ℕ) → n ≤ j → bit_at (word_of t n) j ≡ false
unfolding bit_at
bit_past t n j h =
    let two : 0 < 2 = omega arith in
    let l : word_of t n < 2 ^ j = lt_of_lt_of_le (word_lt t n) (pow-le-pow_right two h) in
    rw (div-eq_of_lt l)

pub bit_none : (j : ℕ) → bit_at 0 j ≡ false
unfolding word_of
bit_none j = bit_past (λ k. false) 0 j (omega arith)

-- what every place passes, more places pass, where the others pass too
pub every_more : (p : ℕ → Bool) (m n : ℕ) → m ≤ n → ((j : ℕ) → m ≤ j → j < n → p j ≡ true) → every m p ≡ every n p
every_more p m n h f =
    by_cases (every m p)
    (λ e. e ∙ sym (every_all n p (λ j l. by_cases (ltb j m) (λ b. every_at m p e j (ltb-true j m b)) (λ b. f j (ltb-false j m b) l))))
    (λ e. e ∙ sym (fails (every_false m p e)))
  where
    fails : Fails m p → every n p ≡ false
    fails w = by_cases (every n p) (λ b. clash (every_at n p b w.plot (omega (arith, w.less))) w.fails) (λ b. b)

-- tests that agree
pub every_ext : (p q : ℕ → Bool) (n : ℕ) → ((j : ℕ) → j < n → p j ≡ q j) → every n p ≡ every n q
every_ext p q n h =
    by_cases (every n q)
    (λ e. every_all n p (λ j l. h j l ∙ every_at n q e j l) ∙ sym e)
    (λ e. by_cases (every n p) (λ b. clash (every_all n q (λ j l. sym (h j l) ∙ every_at n p b j l)) e) (λ b. b ∙ sym e))

-- one place more
pub every_suc : (n : ℕ) (p : ℕ → Bool) → every (suc n) p ≡ p n && every n p
unfolding every
every_suc n p = by_cases (p n) (λ e. rw (e, every)) (λ e. rw (e, every))

-- ---- words of 32 bits

-- masking out a word
pub mask_out : (s : ℕ → Bool) (w : ℕ) → w < 2 ^ 32 → bit_and (word_of s 32) (4294967295 - w) ≡ word_of (λ j. s j && not (bit_at w j)) 32
mask_out s w h = sym (ap (λ (x : ℕ). bit_and (word_of s 32) (4294967295 - x)) (word_bits 32 w h)) ∙ and_not_word s (bit_at w) 32
