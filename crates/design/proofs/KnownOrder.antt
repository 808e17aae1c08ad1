-- Laws of what is known of the order of members: words of bits that are true, from the first member on.
-- Assumes nothing.
use mathlib.Core.Path.{◌≡◌, refl, sym, ap, ap₂, ◌∙◌, subst}
use mathlib.Core.Logic.{◌⊎◌, inl, inr, ⊎_elim}
use mathlib.Core.Bool.{Bool, true, false, ◌||◌, true≢false}
use mathlib.Core.List.{List}
use Prim.Native.Nat.{ℕ, zero, suc, ◌+◌, ◌*◌, ◌/◌, ◌%◌, ◌^◌, ◌≤◌, ◌<◌, max}
use native.Mathlib.Nat.{pow-suc}
use native.Mathlib.Numerals.{one-add}
use native.Mathlib.Omega.{arith}
use lib.Bits.{bit_or, or_step}
use lib.Dec.{eqb}
use lib.ListN.{length, get_or, set, replicate, length-set, length-replicate}
use lib.Pow.{shl_exact, shr-shr}
use lib.Seq.{get_or-set_same, get_or-set_other}
use borrow.Author.Tests.{eqb-true, eqb-false, eq-eqb}
use Rattle.rules.specs.Factor.{Column, Finer, finer, infimum, supremum}
use Rattle.rules.specs.Family.{members_of}
use Rattle.rules.specs.Lists.{bit_at}
use Rattle.rules.proofs.Numbering.{by_cases}
use Rattle.rules.proofs.Bits.{bit_none}
use Rattle.rules.proofs.Classes.{finer_test}
use Rattle.rules.proofs.Bounds.{finer_trans, infimum_left, infimum_right, supremum_left, supremum_right}
use Rattle.design.specs.State.{column_at, told_finer, noted, Held, Known, NamesCoarser, names, Follows, follows}
use Rattle.design.proofs.Extremes.{one_class_coarsest, all_classes_finest}
use Rattle.design.proofs.Work.{member_column, held_length, size_members, Stood, column_kept, PairAt}

-- ---- bits

-- one of two tests passed
pub or_cases : (a b : Bool) → a || b ≡ true → (a ≡ true) ⊎ (b ≡ true)
or_cases true b e = inl refl
or_cases false b e = inr e

-- the next bit is a bit of the half
bit_half : (w k : ℕ) → bit_at w (suc k) ≡ bit_at (w / 2) k
unfolding bit_at
bit_half w k = rw (← one-add k, ← shr-shr w 1 k)

-- the lowest bit of either word
low_or : (x y : ℕ) → x < 2 → y < 2 → eqb (max x y) 1 ≡ true → (eqb x 1 ≡ true) ⊎ (eqb y 1 ≡ true)
low_or x y h k e = by_cases (eqb x 1) inl (λ q. inr (eq-eqb y 1 (omega (arith, eqb-false x 1 q, eqb-true (max x y) 1 e))))

-- a bit of either word
pub or_bit : (k x y : ℕ) → bit_at (bit_or x y) k ≡ true → (bit_at x k ≡ true) ⊎ (bit_at y k ≡ true)
unfolding bit_at
or_bit zero x y e =
    let f : bit_or x y / 1 % 2 ≡ max (x / 1 % 2) (y / 1 % 2) = omega (arith, or_step x y) in
    low_or (x / 1 % 2) (y / 1 % 2) (omega arith) (omega arith) (ap (λ (z : ℕ). eqb z 1) (sym f) ∙ e)
or_bit (suc k) x y e =
    let f : bit_or x y / 2 ≡ bit_or (x / 2) (y / 2) = omega (arith, or_step x y) in
    ⊎_elim (λ q. inl (bit_half x k ∙ q)) (λ q. inr (bit_half y k ∙ q)) (or_bit k (x / 2) (y / 2) (ap (λ (z : ℕ). bit_at z k) (sym f) ∙ sym (bit_half (bit_or x y) k) ∙ e))

-- the only bit of a power of two
power_bit : (b k : ℕ) → bit_at (2 ^ b) k ≡ true → k ≡ b
unfolding bit_at
power_bit zero zero e = refl
power_bit zero (suc k) e = absurd (true≢false (sym e ∙ bit_half 1 k ∙ bit_none k))
power_bit (suc b) zero e = absurd (omega (arith, eqb-true (2 ^ suc b / 1 % 2) 1 e, pow-suc 2 b))
power_bit (suc b) (suc k) e =
    let f : 2 ^ suc b / 2 ≡ 2 ^ b = omega (arith, pow-suc 2 b) in
    ap suc (power_bit b k (ap (λ (z : ℕ). bit_at z k) (sym f) ∙ sym (bit_half (2 ^ suc b) k) ∙ e))

-- the only bit of one that is shifted
pub shifted_bit : (b k : ℕ) → b < 32 → bit_at (1 * 2 ^ b % 2 ^ 32) k ≡ true → k ≡ b
shifted_bit b k h e = power_bit b k (ap (λ (z : ℕ). bit_at z k) (omega (arith, shl_exact {a = 1} 1 b 32 (omega arith) (omega arith))) ∙ e)

-- ---- what is known

-- nothing yet
pub known_none : (n : ℕ) (store : List ℕ) (size : ℕ) → Known n store (replicate 32 0) size
known_none n store size = record { words = length-replicate {A = ℕ} 32 0; sound = λ a b e. absurd (true≢false (sym e ∙ ap (λ (w : ℕ). bit_at w b) (get_d_same a 32) ∙ bit_none b)) }
  where
    get_d_same : (a k : ℕ) → ◌≡◌ {A = ℕ} (get_or (replicate k 0) a 0) 0
    get_d_same a zero = refl
    get_d_same zero (suc k) = refl
    get_d_same (suc a) (suc k) = get_d_same a k

-- the words are as many
pub noted_words : (above : List ℕ) (a b : ℕ) → length above ≡ 32 → length (noted above a b) ≡ 32
noted_words above a b l = length-set above a (bit_or (get_or above a 0) (bit_or (get_or above b 0) (1 * 2 ^ b % 2 ^ 32))) ∙ l

-- a member that is finer than another is finer than all that this one is known to be finer than
pub known_noted : {n : ℕ} {store above : List ℕ} {size a b : ℕ} → size ≤ 32 → a < size → b < size → Finer n (column_at n store a) (column_at n store b) → Known n store above size → Known n store (noted above a b) size
known_noted {n} {store} {above} {size} {a} {b} few ha hb f known = record {
  words = noted_words above a b known.words;
  sound = λ c d e. by_cases (eqb c a) (λ q. at c d (eqb-true c a q) e) (λ q. known.sound c d (ap (λ (w : ℕ). bit_at w d) (sym (get_or-set_other above a c word 0 (eqb-false c a q))) ∙ e));
}
  where
    word : ℕ
    word = bit_or (get_or above a 0) (bit_or (get_or above b 0) (1 * 2 ^ b % 2 ^ 32))

    Sound : ℕ → ℕ → Type 0
    Sound c d = (c < size) × (d < size) × Finer n (column_at n store c) (column_at n store d)

    over : (d : ℕ) → Sound b d → Sound a d
    over d s = (ha, s.1, finer_trans n (column_at n store a) (column_at n store b) (column_at n store d) f s.2)

    here : (d : ℕ) → d ≡ b → Sound a d
    here d q = subst (λ (k : ℕ). Sound a k) (sym q) (ha, hb, f)

    bits : (d : ℕ) → bit_at word d ≡ true → Sound a d
    bits d e = ⊎_elim
        (λ q. known.sound a d q)
        (λ q. ⊎_elim (λ r. over d (known.sound b d r)) (λ r. here d (shifted_bit b d (omega arith) r)) (or_bit d (get_or above b 0) (1 * 2 ^ b % 2 ^ 32) q))
        (or_bit d (get_or above a 0) (bit_or (get_or above b 0) (1 * 2 ^ b % 2 ^ 32)) e)

    at : (c d : ℕ) → c ≡ a → bit_at (get_or (set above a word) c 0) d ≡ true → Sound c d
    at c d q e =
        let same : get_or (set above a word) c 0 ≡ word = ap (λ (k : ℕ). get_or (set above a word) k 0) q ∙ get_or-set_same above a word 0 (omega (arith, known.words)) in
        subst (λ (k : ℕ). Sound k d) (sym q) (bits d (ap (λ (w : ℕ). bit_at w d) (sym same) ∙ e))

-- what is known stays true when a column is placed
pub known_grown : {n : ℕ} {F : Column} {r : ℕ} {store counts above store' counts' : List ℕ} {size size' : ℕ} → Held n store counts size → Stood n (members_of n store size) F r store' counts' size' → Known n store above size → Known n store' above size'
known_grown {n} {store = store} {store' = store'} {size = size} {size' = size'} held s known = record {
  words = known.words;
  sound = λ a b e. let k = known.sound a b e in (up a k.0, up b k.1, subst (λ (F : Column). Finer n F (column_at n store' b)) (sym (column_kept held s a k.0)) (subst (λ (G : Column). Finer n (column_at n store a) G) (sym (column_kept held s b k.1)) k.2));
}
  where
    up : (k : ℕ) → k < size → k < size'
    up k h = omega (arith, s.more, size_members held)

module _ {n : ℕ} {store counts : List ℕ} {size i j : ℕ} (held : Held n store counts size) (hi : i < size) (hj : j < size) where
  -- where it is known that a member is finer than another, it is
  pub told_order : {above : List ℕ} → Known n store above size → told_finer n (get_or counts i 0) (get_or counts j 0) (get_or above i 0) j ≡ true → finer n (column_at n store i) (column_at n store j) ≡ true
  told_order known e = ⊎_elim
      (λ q. one_class_coarsest n _ (column_at n store i) (held_length held j hj) held.some (sym (held.counted j hj) ∙ eqb-true _ _ q))
      (λ q. ⊎_elim
      (λ r. all_classes_finest n _ (column_at n store j) (held_length held i hi) (sym (held.counted i hi) ∙ eqb-true _ _ r))
      (λ r. (finer_test n (column_at n store i) (column_at n store j)).1 (known.sound i j r).2)
      (or_cases _ _ q))
      (or_cases _ _ e)

  -- what an operation makes of the two members stands at place p
  column_made : (op : Column → Column → Column) {p : ℕ} → PairAt op (members_of n store size) i j p → op (column_at n store i) (column_at n store j) ≡ column_at n store p
  column_made op {p} a = sym (ap₂ op (member_column held i hi) (member_column held j hj)) ∙ sym a.is ∙ member_column held p (omega (arith, a.less, size_members held))

  -- both members are finer than their supremum
  pub known_supremum : {above : List ℕ} {q : ℕ} → PairAt supremum (members_of n store size) i j q → Known n store above size → Known n store (noted (noted above i q) j q) size
  known_supremum {q = q} a known =
      let hq : q < size = omega (arith, a.less, size_members held) in
      known_noted held.few hj hq (subst (Finer n (column_at n store j)) (column_made supremum a) (supremum_right n (column_at n store i) (column_at n store j) (held_length held i hi) (held_length held j hj)))
      (known_noted held.few hi hq (subst (Finer n (column_at n store i)) (column_made supremum a) (supremum_left n (column_at n store i) (column_at n store j) (held_length held i hi) (held_length held j hj))) known)

  -- their infimum is finer than both
  pub known_infimum : {above : List ℕ} {p : ℕ} → PairAt infimum (members_of n store size) i j p → Known n store above size → Known n store (noted (noted above p i) p j) size
  known_infimum {p = p} a known =
      let hp : p < size = omega (arith, a.less, size_members held) in
      known_noted held.few hp hj (subst (λ (F : Column). Finer n F (column_at n store j)) (column_made infimum a) (infimum_right n (column_at n store i) (column_at n store j) (held_length held i hi) (held_length held j hj)))
      (known_noted held.few hp hi (subst (λ (F : Column). Finer n F (column_at n store i)) (column_made infimum a) (infimum_left n (column_at n store i) (column_at n store j) (held_length held i hi) (held_length held j hj))) known)

-- an entry that names a member known to be coarser than j, of a member known to be finer than j: the supremum follows
pub known_follows : {n : ℕ} {store counts marks above : List ℕ} {size i j e : ℕ} → Held n store counts size → Known n store above size → j < size
    → (y : ℕ) → y < j → bit_at (get_or above y 0) j ≡ true → NamesCoarser n counts above size j e → e ≡ get_or marks (32 * i + y) 0 → Follows n store marks size i j e
known_follows {n} {store} {j = j} held known hj y hy bit (names q f hq t) e =
    follows y q hy e f hq (known.sound y j bit).2 ((finer_test n (column_at n store j) (column_at n store q)).0 (told_order held hj hq known t))
