-- Laws of the bytes that a part of a formula is written with: operators, and the letters and digits of names and counts.
-- Assumes nothing.
use mathlib.Core.Path.{◌≡◌, refl, ap, ◌∙◌, subst}
use mathlib.Core.Bool.{Bool, true, false, ◌&&◌, ◌||◌}
use mathlib.Core.List.{List, [], ◌∷◌}
use Prim.Native.Nat.{ℕ}
use lib.Dec.{eqb}
use lib.ListN.{length}
use borrow.Author.Tests.{eqb-true}
use Rattle.rules.specs.Limits.{most_name_tail, least_count, most_count}
use Rattle.rules.specs.Sheet.{within, all, has, letter, digit, letter_or_digit, is_name, decimal, no_leading_zero}
use Rattle.rules.specs.Parents.{slash}
use Rattle.rules.specs.Formula.{equals, star, operators, is_count, Part, an_item, items}
use Rattle.rules.proofs.Numbering.{by_cases}
use Rattle.rules.proofs.Members.{clash}
use Rattle.rules.proofs.Sheet.{and_left, and_right, all_weaker}

-- ---- the operators

-- the operators that may follow an item of a part
abbrev pub follows : Part → List ℕ
follows an_item = []
follows (items os) = os

-- what holds of every operator that may follow an item of a part
abbrev pub Each : (ℕ → Type 0) → Part → Type 0
Each P p = (x : ℕ) → has x (follows p) ≡ true → P x

-- it holds where there is none, of one operator where it holds of that, of both where it holds of each
module _ (P : ℕ → Type 0) where
  pub of_none : Each P an_item
  unfolding has
  of_none y e = clash e refl

  pub of_one : (x : ℕ) → P x → Each P (items (x ∷ []))
  unfolding has
  of_one x p y e = by_cases (eqb x y) (λ q. subst P (eqb-true x y q) p) (λ q. clash e (rw (q, has)))

  pub of_both : P slash → P star → Each P (items operators)
  unfolding has
  of_both p q y e =
      by_cases (eqb slash y) (λ n. subst P (eqb-true slash y n) p)
      (λ n. by_cases (eqb star y) (λ m. subst P (eqb-true star y m) q) (λ m. clash e (rw (n, m, has))))

-- the byte is an operator
abbrev pub Joins : ℕ → Type 0
Joins x = has x operators ≡ true

-- none is `=`
pub operator_equals : (x : ℕ) → Joins x → eqb x equals ≡ false
operator_equals = of_both (λ x. eqb x equals ≡ false) refl refl

-- ---- the bytes of names and counts

-- a letter or digit is no byte that is neither
pub apart : (x b : ℕ) → letter_or_digit x ≡ true → letter_or_digit b ≡ false → eqb x b ≡ false
apart x b e n = by_cases (eqb x b) (λ q. clash e (ap letter_or_digit (eqb-true x b q) ∙ n)) (λ q. q)

-- names and counts have no other bytes
pub name_plain : (name : List ℕ) → is_name name ≡ true → all letter_or_digit name ≡ true
unfolding is_name all
name_plain [] e = refl
name_plain (x ∷ xs) e =
    let n = and_left (letter x) (within 1 most_name_tail (length xs)) (and_left (letter x && within 1 most_name_tail (length xs)) (all letter_or_digit xs) e) in
    rw n (and_right (letter x && within 1 most_name_tail (length xs)) (all letter_or_digit xs) e)

pub count_plain : (ds : List ℕ) → is_count ds ≡ true → all letter_or_digit ds ≡ true
unfolding is_count
count_plain ds e =
    all_weaker digit letter_or_digit (λ x d. or_right (letter x) (digit x) d) ds
    (and_right (no_leading_zero ds) (all digit ds) (and_left (no_leading_zero ds && all digit ds) (within least_count most_count (decimal ds)) e))
  where
    or_right : (a b : Bool) → b ≡ true → a || b ≡ true
    or_right true b d = refl
    or_right false b d = d
