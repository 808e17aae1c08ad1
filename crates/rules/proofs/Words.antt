-- Laws of words given by their bits.
-- Assumes nothing.
use Prim.Native.Nat.{ℕ, zero, suc, ◌+◌, ◌-◌, ◌*◌, ◌/◌, ◌%◌, ◌^◌, ◌<◌, ◌≤◌, min}
use mathlib.Core.Path.{◌≡◌, refl, sym, ap, ap₂, ◌∙◌}
use mathlib.Core.Bool.{Bool, true, false, not, ◌&&◌}
use native.Mathlib.Omega.{arith}
use native.Mathlib.Nat.{add-suc, pow-suc, not-suc-le-zero, le_of_suc-le-suc}
use native.Mathlib.Numerals.{add-one, one-add}
use lib.Bits.{bit_and, bit_or, and_step, or_shifted_r}
use lib.Pow.{shl_exact, shr-shr}
use lib.Count.{ones, ones_step}
use lib.Dec.{eqb}
use borrow.Author.Tests.{eq-eqb, ne_eqb}
use Rattle.rules.specs.Lists.{bit, word_of, bit_at}
use Rattle.rules.specs.Factor.{count}
use Rattle.rules.proofs.Numbering.{by_cases}
use Rattle.rules.proofs.Tests.{count_yes, count_no}

pub bit_le : (b : Bool) → bit b ≤ 1
bit_le true = omega arith
bit_le false = omega arith

pub word_lt : (t : ℕ → Bool) (n : ℕ) → word_of t n < 2 ^ n
unfolding word_of
word_lt t zero = omega arith
word_lt t (suc n) = rw pow-suc (omega (arith, bit_le (t 0), word_lt (λ j. t (suc j)) n))

-- one digit more at the top: a turn of a loop that builds a word from bit 0 on
pub word_snoc : (t : ℕ → Bool) (n : ℕ) → word_of t (suc n) ≡ word_of t n + bit (t n) * 2 ^ n
unfolding word_of
word_snoc t zero = omega arith
word_snoc t (suc n) = rw pow-suc (omega (arith, word_snoc (λ j. t (suc j)) n))

-- setting a bit above all others
pub or_bit : (w j : ℕ) → w < 2 ^ j → j < 32 → bit_or w (1 * 2 ^ j % 2 ^ 32) ≡ w + 2 ^ j
or_bit w j h l =
    ap (bit_or w) (shl_exact 1 j 32 (omega arith) (omega arith)) ∙ or_shifted_r 1 j w h ∙ omega arith

pub word_set : (t : ℕ → Bool) (j : ℕ) → j < 32 → t j ≡ true → bit_or (word_of t j) (1 * 2 ^ j % 2 ^ 32) ≡ word_of t (j + 1)
word_set t j l e = or_bit (word_of t j) j (word_lt t j) l ∙ sym (rw (add-one, word_snoc, e) (omega arith))

pub word_skip : (t : ℕ → Bool) (j : ℕ) → t j ≡ false → word_of t j ≡ word_of t (j + 1)
word_skip t j e = sym (rw (add-one, word_snoc, e) (omega arith))

-- a word read digit by digit
pub bit_zero : (b : Bool) (w : ℕ) → bit_at (bit b + 2 * w) 0 ≡ b
unfolding bit_at
bit_zero true w = eq-eqb ((1 + 2 * w) / 1 % 2) 1 (omega arith)
bit_zero false w = ne_eqb ((0 + 2 * w) / 1 % 2) 1 (λ z. omega arith)

bit_half : (w j : ℕ) → bit_at w (suc j) ≡ bit_at (w / 2) j
unfolding bit_at
bit_half w j = rw (← one-add j, ← shr-shr w 1 j)

pub bit_suc : (b : Bool) (w j : ℕ) → bit_at (bit b + 2 * w) (suc j) ≡ bit_at w j
bit_suc b w j =
    let e : (bit b + 2 * w) / 2 ≡ w = omega (arith, bit_le b) in
    bit_half (bit b + 2 * w) j ∙ rw e

pub bit_word : (t : ℕ → Bool) (n j : ℕ) → j < n → bit_at (word_of t n) j ≡ t j
unfolding word_of
bit_word t zero j h = absurd (not-suc-le-zero h)
bit_word t (suc n) zero h = bit_zero (t 0) (word_of (λ j. t (suc j)) n)
bit_word t (suc n) (suc j) h = bit_suc (t 0) (word_of (λ j. t (suc j)) n) j ∙ bit_word (λ j. t (suc j)) n j (le_of_suc-le-suc h)

-- words of tests that agree
pub word_ext : (s t : ℕ → Bool) (n : ℕ) → ((j : ℕ) → j < n → s j ≡ t j) → word_of s n ≡ word_of t n
unfolding word_of
word_ext s t zero h = refl
word_ext s t (suc n) h =
    ap₂ (λ (x : Bool) (y : ℕ). bit x + 2 * y) (h 0 (omega arith)) (word_ext (λ j. s (suc j)) (λ j. t (suc j)) n (λ j l. h (suc j) (omega arith)))

low_digit : (w : ℕ) → bit (bit_at w 0) ≡ w % 2
unfolding bit_at
low_digit w = go (w / 1 % 2) (omega arith) ∙ omega arith
  where
    go : (x : ℕ) → x < 2 → bit (eqb x 1) ≡ x
    go zero h = refl
    go (suc zero) h = refl
    go (suc (suc x)) h = absurd (not-suc-le-zero (le_of_suc-le-suc (le_of_suc-le-suc h)))

-- a number is the word of its digits
pub word_bits : (n w : ℕ) → w < 2 ^ n → word_of (bit_at w) n ≡ w
unfolding word_of
word_bits zero w h = omega arith
word_bits (suc n) w h =
    let k : w / 2 < 2 ^ n = omega (arith, rw pow-suc at h) in
    let e : word_of (λ j. bit_at w (suc j)) n ≡ w / 2 = word_ext (λ j. bit_at w (suc j)) (bit_at (w / 2)) n (λ j l. bit_half w j) ∙ word_bits n (w / 2) k in
    omega (arith, low_digit w)

-- one test more at the bottom of a count
count_suc : (t : ℕ → Bool) (n : ℕ) → count (suc n) t ≡ bit (t 0) + count n (λ j. t (suc j))
unfolding count
count_suc t zero = by_cases (t 0) (λ e. count_yes 0 t e ∙ rw e) (λ e. count_no 0 t e ∙ rw e)
count_suc t (suc n) =
    by_cases (t (suc n))
    (λ e. count_yes (suc n) t e ∙ ap suc (count_suc t n) ∙ sym (ap (λ (x : ℕ). bit (t 0) + x) (count_yes n (λ j. t (suc j)) e) ∙ add-suc (bit (t 0)) (count n (λ j. t (suc j)))))
    (λ e. count_no (suc n) t e ∙ count_suc t n ∙ sym (ap (λ (x : ℕ). bit (t 0) + x) (count_no n (λ j. t (suc j)) e)))

-- the ones of a word are as many as the tests that pass
pub ones_word : (t : ℕ → Bool) (n : ℕ) → ones (word_of t n) ≡ count n t
unfolding word_of count ones
ones_word t zero = refl
ones_word t (suc n) =
    let w = word_of (λ j. t (suc j)) n in
    let e : (bit (t 0) + 2 * w) % 2 ≡ bit (t 0) = omega (arith, bit_le (t 0)) in
    let f : (bit (t 0) + 2 * w) / 2 ≡ w = omega (arith, bit_le (t 0)) in
    ones_step (bit (t 0) + 2 * w) ∙ ap₂ (λ (x y : ℕ). x + ones y) e f ∙ ap (λ (y : ℕ). bit (t 0) + y) (ones_word (λ j. t (suc j)) n) ∙ sym (count_suc t n)

min_not : (x y : Bool) → min (bit x) (1 - bit y) ≡ bit (x && not y)
min_not true true = refl
min_not true false = refl
min_not false true = refl
min_not false false = refl

-- masking: the digits of one word that are not digits of another
pub and_not_word : (s t : ℕ → Bool) (n : ℕ) → bit_and (word_of s n) (2 ^ n - 1 - word_of t n) ≡ word_of (λ j. s j && not (t j)) n
unfolding word_of
and_not_word s t zero = refl
and_not_word s t (suc n) =
    let a = word_of (λ j. s (suc j)) n in
    let b = word_of (λ j. t (suc j)) n in
    let x = bit (s 0) + 2 * a in
    let y = 2 ^ suc n - 1 - (bit (t 0) + 2 * b) in
    let p : 2 ^ suc n ≡ 2 ^ n * 2 = pow-suc 2 n in
    let l : b < 2 ^ n = word_lt (λ j. t (suc j)) n in
    let xh : x / 2 ≡ a = omega (arith, bit_le (s 0)) in
    let xl : x % 2 ≡ bit (s 0) = omega (arith, bit_le (s 0)) in
    let yh : y / 2 ≡ 2 ^ n - 1 - b = omega (arith, bit_le (t 0)) in
    let yl : y % 2 ≡ 1 - bit (t 0) = omega (arith, bit_le (t 0)) in
    let r : bit_and a (2 ^ n - 1 - b) ≡ word_of (λ j. s (suc j) && not (t (suc j))) n = and_not_word (λ j. s (suc j)) (λ j. t (suc j)) n in
    and_step x y
    ∙ ap₂ (λ (u v : ℕ). u * 2 + v) (ap₂ bit_and xh yh ∙ r) (ap₂ min xl yl ∙ min_not (s 0) (t 0))
    ∙ omega arith
