-- No label is cut: levels are equal exactly where their fields are.
-- Assumes nothing.
use mathlib.Core.Path.{◌≡◌, refl, sym, ap, ap₂, ◌∙◌}
use mathlib.Core.Logic.{◌↔◌}
use mathlib.Core.Bool.{true, not, ◌&&◌}
use mathlib.Core.List.{List, [], ◌∷◌}
use Prim.Native.Nat.{ℕ, ◌+◌, ◌-◌, ◌*◌, ◌≤◌, ◌<◌}
use native.Mathlib.Omega.{arith}
use lib.Arith.{lt_of_le-ne}
use lib.Dec.{eqb, leb}
use lib.ListN.{get_or}
use borrow.Author.Tests.{eqb-false, leb-true}
use Rattle.rules.specs.Limits.{most_level}
use Rattle.rules.specs.Lists.{decimal_of}
use Rattle.rules.specs.Sheet.{within, all, digit, decimal_from, decimal, no_leading_zero, is_level, Field, Used, cell_field, read, reading, levels_after}
use Rattle.rules.proofs.Sheet.{and_left, and_right, not_yes, decimal_grows, level_least, level_most, decimal_back, decimal_level, cell_read, cell_level}

-- Equal numbers that go on from v and from w have the same digits, where neither of v and w is longer than the other.
digits_told : (v w : ℕ) (xs ys : List ℕ) → all digit xs ≡ true → all digit ys ≡ true → v < 10 * w → w < 10 * v → decimal_from v xs ≡ decimal_from w ys → (v ≡ w) × (xs ≡ ys)
unfolding decimal_from all
digits_told v w [] [] a b l m e = (e, refl)
digits_told v w [] (y ∷ ys) a b l m e = let g = decimal_grows (10 * w + (y - 48)) ys in absurd (omega (arith, e))
digits_told v w (x ∷ xs) [] a b l m e = let g = decimal_grows (10 * v + (x - 48)) xs in absurd (omega (arith, e))
digits_told v w (x ∷ xs) (y ∷ ys) a b l m e =
    let p = and_left (digit x) (all digit xs) a in
    let q = and_left (digit y) (all digit ys) b in
    let x0 = leb-true 48 x (and_left (leb 48 x) (leb x 57) p) in
    let x9 = leb-true x 57 (and_right (leb 48 x) (leb x 57) p) in
    let y0 = leb-true 48 y (and_left (leb 48 y) (leb y 57) q) in
    let y9 = leb-true y 57 (and_right (leb 48 y) (leb y 57) q) in
    let r = digits_told (10 * v + (x - 48)) (10 * w + (y - 48)) xs ys (and_right (digit x) (all digit xs) a) (and_right (digit y) (all digit ys) b) (omega arith) (omega arith) e in
    (omega (arith, r.0), ap₂ (λ (c : ℕ) (r : List ℕ). c ∷ r) (omega (arith, r.0)) r.1)

-- a level starts with a digit from 1 on
pub record LevelDigits (x : ℕ) (xs : List ℕ) : Type 0 where
  pub first : 49 ≤ x
  pub most : x ≤ 57
  pub rest : all digit xs ≡ true

pub level_digits : (top x : ℕ) (xs : List ℕ) → is_level top (x ∷ xs) ≡ true → LevelDigits x xs
unfolding is_level no_leading_zero all
level_digits top x xs e =
    let d = and_left (not (eqb x 48) && all digit (x ∷ xs)) (within 1 top (decimal (x ∷ xs))) e in
    let a = and_right (not (eqb x 48)) (all digit (x ∷ xs)) d in
    let g = and_left (digit x) (all digit xs) a in
    let n = eqb-false x 48 (not_yes (eqb x 48) (and_left (not (eqb x 48)) (all digit (x ∷ xs)) d)) in
    record {
      first = lt_of_le-ne (leb-true 48 x (and_left (leb 48 x) (leb x 57) g)) (λ q. n (sym q));
      most = leb-true x 57 (and_right (leb 48 x) (leb x 57) g);
      rest = and_right (digit x) (all digit xs) a;
    }

-- a level's number tells its field
pub level_told : (top : ℕ) (f g : Field) → is_level top f ≡ true → is_level top g ≡ true → decimal f ≡ decimal g → f ≡ g
unfolding decimal_from
level_told top [] g e k q = let z = level_least top [] e in absurd (omega arith)
level_told top (x ∷ xs) [] e k q = let z = level_least top [] k in absurd (omega arith)
level_told top (x ∷ xs) (y ∷ ys) e k q =
    let d = level_digits top x xs e in
    let c = level_digits top y ys k in
    let r = digits_told (10 * 0 + (x - 48)) (10 * 0 + (y - 48)) xs ys d.rest c.rest (omega (arith, d.first, d.most, c.first)) (omega (arith, d.first, c.first, c.most)) q in
    ap₂ (λ (c : ℕ) (r : List ℕ). c ∷ r) (omega (arith, r.0, d.first, c.first)) r.1

-- so a level is printed as it was read
pub decimal_again : (top : ℕ) (f : Field) → is_level top f ≡ true → decimal_of (decimal f) ≡ f
decimal_again top f e = level_told top (decimal_of (decimal f)) f (decimal_level top (decimal f) (level_least top f e) (level_most top f e)) e (decimal_back (decimal f))

-- two used cells are equal exactly where their fields are
pub cells_equal : (text levels : List ℕ) (n p t : ℕ) → reading text levels ≡ read n p t → (c u d v : ℕ) → Used p t c → u < n → Used p t d → v < n
    → (get_or (levels_after (reading text levels) text levels) (240 * c + u) 0 ≡ get_or (levels_after (reading text levels) text levels) (240 * d + v) 0) ↔ (cell_field text c u ≡ cell_field text d v)
cells_equal text levels n p t e c u d v w l x m =
    let a = cell_read text levels n p t e c u w l in
    let b = cell_read text levels n p t e d v x m in (
      λ q. level_told most_level (cell_field text c u) (cell_field text d v) (cell_level text levels n p t e c u w l) (cell_level text levels n p t e d v x m) (sym a ∙ q ∙ b),
      λ q. a ∙ ap decimal q ∙ sym b,
    )
