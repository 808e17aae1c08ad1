-- Laws of what is implied by what is found: what is finer than a member is finer than those coarser than it.
-- Assumes nothing.
use mathlib.Core.Path.{◌≡◌, refl, sym, ap, ap₂, ◌∙◌, subst}
use mathlib.Core.Logic.{◌⊎◌, inl, inr, ⊎_elim}
use mathlib.Core.Bool.{Bool, true, false, not, ◌&&◌, ◌||◌, true≢false}
use mathlib.Core.List.{List}
use Prim.Native.Nat.{ℕ, zero, suc, ◌*◌, ◌+◌, ◌/◌, ◌%◌, ◌^◌, ◌≤◌, ◌<◌, min, max}
use native.Mathlib.Omega.{arith}
use native.Mathlib.Nat.{not-suc-le-zero, pow-le-pow_right, lt_of_lt_of_le}
use lib.Bits.{bit_and, bit_or, and_step, or_step, or_lt}
use lib.Dec.{eqb, ltb}
use lib.Pow.{pow_pos}
use borrow.Author.Tests.{eqb-true, eqb-false, ltb-true, ltb-false}
use Rattle.rules.specs.Factor.{every, finer}
use Rattle.rules.specs.Lists.{bit, word_of, bit_at}
use Rattle.rules.proofs.Numbering.{by_cases}
use Rattle.rules.proofs.Words.{bit_le, word_lt, word_bits, word_ext, word_set, bit_word}
use Rattle.rules.proofs.Bits.{word_none, bit_past, bit_none}
use Rattle.rules.proofs.Tests.{every_at, every_false, Fails}
use Rattle.rules.proofs.Classes.{finer_test}
use Rattle.rules.proofs.Bounds.{finer_refl, finer_trans}
use Rattle.rules.proofs.Members.{clash}
use Rattle.families.specs.Lent.{column_at}
use Rattle.strata.specs.Words.{finer_word, FinerFrom, candidate_word}

min_and : (x y : Bool) → min (bit x) (bit y) ≡ bit (x && y)
min_and true true = refl
min_and true false = refl
min_and false true = refl
min_and false false = refl

-- the bits of both words
and_word : (s t : ℕ → Bool) (n : ℕ) → bit_and (word_of s n) (word_of t n) ≡ word_of (λ j. s j && t j) n
unfolding word_of
and_word s t zero = refl
and_word s t (suc n) =
    let a = word_of (λ j. s (suc j)) n in
    let b = word_of (λ j. t (suc j)) n in
    let x = bit (s 0) + 2 * a in
    let y = bit (t 0) + 2 * b in
    let xh : x / 2 ≡ a = omega (arith, bit_le (s 0)) in
    let xl : x % 2 ≡ bit (s 0) = omega (arith, bit_le (s 0)) in
    let yh : y / 2 ≡ b = omega (arith, bit_le (t 0)) in
    let yl : y % 2 ≡ bit (t 0) = omega (arith, bit_le (t 0)) in
    and_step x y
    ∙ ap₂ (λ (u v : ℕ). u * 2 + v) (ap₂ bit_and xh yh ∙ and_word (λ j. s (suc j)) (λ j. t (suc j)) n) (ap₂ min xl yl ∙ min_and (s 0) (t 0))
    ∙ omega arith

-- a bit that two words share
record Shared (s t : ℕ → Bool) (n : ℕ) : Type 0 where
  place : ℕ
  less : place < n
  one : s place ≡ true
  other : t place ≡ true

shared : (s t : ℕ → Bool) (n : ℕ) → (bit_and (word_of s n) (word_of t n) ≡ 0 → ⊥) → Shared s t n
shared s t n ne =
    by_cases (every n (λ j. not (s j && t j)))
    (λ e. absurd (ne (and_word s t n ∙ word_none (λ j. s j && t j) n (λ j l. off (s j && t j) (every_at n (λ j. not (s j && t j)) e j l)))))
    (λ e. at (every_false n (λ j. not (s j && t j)) e))
  where
    off : (b : Bool) → not b ≡ true → b ≡ false
    off true e = sym e
    off false e = refl

    on : (a b : Bool) → not (a && b) ≡ false → (a ≡ true) × (b ≡ true)
    on true true e = (refl, refl)
    on true false e = (refl, sym e)
    on false b e = (sym e, absurd_bool e)
      where
        absurd_bool : true ≡ false → b ≡ true
        absurd_bool q = absurd (true≢false q)

    at : Fails n (λ j. not (s j && t j)) → Shared s t n
    at w = let both = on (s w.plot) (t w.plot) w.fails in record { place = w.plot; less = w.less; one = both.0; other = both.1 }

-- member p is finer than a member before it that is a candidate
pub candidate_implied : (n : ℕ) (b : List ℕ) (p : ℕ) (r : List ℕ) (t : ℕ) → (bit_and (finer_word n b p) (candidate_word n b p r t) ≡ 0 → ⊥) → finer n (column_at n b p) (column_at n r t) ≡ true
unfolding finer_word candidate_word
candidate_implied n b p r t ne =
    let F = column_at n b p in
    let T = column_at n r t in
    let w = shared (λ j. finer n F (column_at n b j)) (λ j. finer n (column_at n b j) T) p ne in
    let G = column_at n b w.place in
    (finer_test n F T).1 (finer_trans n F G T ((finer_test n F G).0 w.one) ((finer_test n G T).0 w.other))

-- ---- the word of a member, from the last member before it on

max_or : (x y : Bool) → max (bit x) (bit y) ≡ bit (x || y)
max_or true true = refl
max_or true false = refl
max_or false true = refl
max_or false false = refl

-- the bits of either word
or_word : (s t : ℕ → Bool) (n : ℕ) → bit_or (word_of s n) (word_of t n) ≡ word_of (λ j. s j || t j) n
unfolding word_of
or_word s t zero = refl
or_word s t (suc n) =
    let a = word_of (λ j. s (suc j)) n in
    let b = word_of (λ j. t (suc j)) n in
    let x = bit (s 0) + 2 * a in
    let y = bit (t 0) + 2 * b in
    let xh : x / 2 ≡ a = omega (arith, bit_le (s 0)) in
    let xl : x % 2 ≡ bit (s 0) = omega (arith, bit_le (s 0)) in
    let yh : y / 2 ≡ b = omega (arith, bit_le (t 0)) in
    let yl : y % 2 ≡ bit (t 0) = omega (arith, bit_le (t 0)) in
    or_step x y
    ∙ ap₂ (λ (u v : ℕ). u * 2 + v) (ap₂ bit_or xh yh ∙ or_word (λ j. s (suc j)) (λ j. t (suc j)) n) (ap₂ max xl yl ∙ max_or (s 0) (t 0))
    ∙ omega arith

-- a bit past a word's places is not set
bit_beyond : (i w k : ℕ) → w < 2 ^ i → i ≤ k → bit_at w k ≡ false
bit_beyond i w k h l = ap (λ (x : ℕ). bit_at x k) (sym (word_bits i w h)) ∙ bit_past (bit_at w) i k l

or_bits : (i a b k : ℕ) → a < 2 ^ i → b < 2 ^ i → k < i → bit_at (bit_or a b) k ≡ bit_at a k || bit_at b k
or_bits i a b k ha hb l =
    ap (λ (x : ℕ). bit_at x k) (ap₂ bit_or (sym (word_bits i a ha)) (sym (word_bits i b hb)) ∙ or_word (bit_at a) (bit_at b) i) ∙ bit_word (λ j. bit_at a j || bit_at b j) i k l

either : (a b : Bool) → a || b ≡ true → (a ≡ true) ⊎ (b ≡ true)
either true b e = inl refl
either false b e = inr e

or_yes : (a : Bool) → a || true ≡ true
or_yes true = refl
or_yes false = refl

or_no : (a : Bool) → a || false ≡ a
or_no true = refl
or_no false = refl

module _ (n : ℕ) (b : List ℕ) (i : ℕ) where
  abbrev F : ℕ → ℕ → Bool
  F j k = finer n (column_at n b j) (column_at n b k)

  -- no member yet
  pub from_start : FinerFrom n b i i 0
  from_start = record {
    below = pow_pos i;
    only = λ k e. clash e (bit_none k);
    all = λ k l h. absurd (not-suc-le-zero (le_trans_lt k i l h));
  }
    where
      le_trans_lt : (k i : ℕ) → i ≤ k → k < i → 1 ≤ 0
      le_trans_lt k i l h = omega arith

  -- all members before it
  pub from_end : (w : ℕ) → FinerFrom n b i 0 w → w ≡ finer_word n b i
  unfolding finer_word
  from_end w f = sym (word_bits i w f.below) ∙ word_ext (bit_at w) (F i) i (λ k l. f.all k (omega arith) l)

  module _ (j w : ℕ) (h : j < i) (f : FinerFrom n b i (j + 1) w) where
    -- member j's bit is as it should be
    pub from_same : bit_at w j ≡ F i j → FinerFrom n b i j w
    from_same e = record {
      below = f.below;
      only = f.only;
      all = λ k l m. by_cases (eqb k j) (λ q. let r : k ≡ j = eqb-true k j q in rw r e) (λ q. let r : k ≡ j → ⊥ = eqb-false k j q in f.all k (omega (arith, r)) m);
    }

    module _ (fine : F i j ≡ true) where
      abbrev v : ℕ
      v = word_of (F j) (j + 1)

      small : v < 2 ^ i
      small = lt_of_lt_of_le (word_lt (F j) (j + 1)) (pow-le-pow_right two (omega arith))
        where
          two : 0 < 2
          two = omega arith

      trans : (k : ℕ) → F j k ≡ true → F i k ≡ true
      trans k e =
          let A = column_at n b i in
          let B = column_at n b j in
          let C = column_at n b k in
          (finer_test n A C).1 (finer_trans n A B C ((finer_test n A B).0 fine) ((finer_test n B C).0 e))

      here : bit_at v j ≡ true
      here = bit_word (F j) (j + 1) j (omega arith) ∙ (finer_test n (column_at n b j) (column_at n b j)).1 (finer_refl n (column_at n b j))

      past : (k : ℕ) → j + 1 ≤ k → bit_at v k ≡ false
      past k l = bit_past (F j) (j + 1) k l

      told : (k : ℕ) → bit_at v k ≡ true → F i k ≡ true
      told k e = by_cases (ltb k (j + 1)) (λ q. trans k (sym (bit_word (F j) (j + 1) k (ltb-true k (j + 1) q)) ∙ e)) (λ q. clash e (past k (ltb-false k (j + 1) q)))

      -- member j and what is coarser than it are added
      added : FinerFrom n b i j (bit_or w v)
      added = record {
        below = or_lt i w v f.below small;
        only = λ k e. by_cases (ltb k i)
            (λ q. ⊎_elim (f.only k) (told k) (either (bit_at w k) (bit_at v k) (sym (or_bits i w v k f.below small (ltb-true k i q)) ∙ e)))
            (λ q. clash e (bit_beyond i (bit_or w v) k (or_lt i w v f.below small) (ltb-false k i q)));
        all = λ k l m.
            or_bits i w v k f.below small m
            ∙ by_cases (eqb k j)
            (λ q. let r : k ≡ j = eqb-true k j q in rw (r, here, fine) (or_yes (bit_at w j)))
            (λ q. let r : k ≡ j → ⊥ = eqb-false k j q in
            let o : j + 1 ≤ k = omega (arith, r) in
            rw (past k o) (or_no (bit_at w k) ∙ f.all k o m));
      }

      pub from_added : i < 32 → FinerFrom n b i j (bit_or w (bit_or (finer_word n b j) (1 * 2 ^ j % 2 ^ 32)))
      unfolding finer_word
      from_added l =
          subst (λ (x : ℕ). FinerFrom n b i j (bit_or w x)) (sym (word_set (F j) j (omega arith) ((finer_test n (column_at n b j) (column_at n b j)).1 (finer_refl n (column_at n b j))))) added
