-- Laws of searches over places: a turn of a search, and the places that the rules name.
-- Assumes nothing.
use Rattle.std.specs.Prelude.{None, Some}
use mathlib.Core.Path.{◌≡◌, refl, sym, ap, ap₂, ◌∙◌}
use mathlib.Core.Bool.{Bool, true, false}
use mathlib.Core.List.{List, [], ◌∷◌}
use Prim.Native.Nat.{ℕ, zero, suc, ◌+◌, ◌-◌, ◌≤◌, ◌<◌, zero-le, suc-le-suc}
use native.Mathlib.Nat.{le_refl, add-zero, suc-ne-zero, zero-add, sub-zero}
use native.Mathlib.Numerals.{add-one}
use native.Mathlib.Omega.{arith}
use lib.Dec.{eqb}
use lib.ListN.{length, get_or}
use borrow.Author.Tests.{eq-eqb, ne_eqb, eqb-true, eqb-false, lt-ltb, le-ltb}
use Rattle.rules.specs.Factor.{Column}
use Rattle.rules.specs.Family.{Family}
use Rattle.rules.proofs.Numbering.{by_cases}
use Rattle.rules.specs.Design.{first_failing, pair_at, first_pair, first_cross}
use Rattle.design.specs.Search.{place_told, first_from, partner, first_place, second_place, first_pair_of, cross_partner, cross_first, cross_second}
use Rattle.design.specs.State.{marked_row, marked}

-- ---- a turn

module _ (t : ℕ → Bool) (j : ℕ) where
  pass : (left : ℕ) → t j ≡ true → first_from t j (suc left) ≡ first_from t (suc j) left
  unfolding first_from
  pass left e = rw (e, first_from)

  fail : (left : ℕ) → t j ≡ false → first_from t j (suc left) ≡ suc j
  unfolding first_from
  fail left e = rw (e, first_from)

module _ (t : ℕ → Bool) (j n : ℕ) where
  -- it passes at j
  pub from_on : j < n → t j ≡ true → first_from t j (n - j) ≡ first_from t (j + 1) (n - (j + 1))
  from_on h e =
      let q : n - j ≡ suc (n - suc j) = omega arith in
      ap (first_from t j) q ∙ pass t j (n - suc j) e ∙ ap (λ (x : ℕ). first_from t x (n - x)) (sym (add-one j))

  -- it fails at j
  pub from_here : j < n → t j ≡ false → first_from t j (n - j) ≡ j + 1
  from_here h e =
      let q : n - j ≡ suc (n - suc j) = omega arith in
      ap (first_from t j) q ∙ fail t j (n - suc j) e ∙ sym (add-one j)

  -- it has come to the end
  pub from_end : n ≤ j → first_from t j (n - j) ≡ 0
  unfolding first_from
  from_end h =
      let e : n - j ≡ 0 = omega arith in
      rw e

-- no place fails, where none is found
module _ (t : ℕ → Bool) where
  pub from_none : (j left : ℕ) → ((k : ℕ) → j ≤ k → k < j + left → t k ≡ true) → first_from t j left ≡ 0
  unfolding first_from
  from_none j zero h = refl
  from_none j (suc left) h = pass t j left (h j (le_refl j) (omega arith)) ∙ from_none (suc j) left (λ k a b. h k (omega arith) (omega arith))

  pub from_all : (j left : ℕ) → first_from t j left ≡ 0 → (k : ℕ) → j ≤ k → k < j + left → t k ≡ true
  from_all j zero e k a b = absurd (omega arith)
  from_all j (suc left) e k a b =
      by_cases (t j)
      (λ p. by_cases (eqb k j) (λ q. rw (eqb-true k j q) p) (λ q. from_all (suc j) left (sym (pass t j left p) ∙ e) k (omega (arith, eqb-false k j q)) (omega arith)))
      (λ p. absurd (suc-ne-zero j (sym (fail t j left p) ∙ e)))

-- ---- pairs of places

-- place i has no partner
abbrev pub alone : (ℕ → ℕ → Bool) → ℕ → ℕ → Bool
alone t n i = eqb (partner t n i) 0

module _ (t : ℕ → ℕ → Bool) (n i : ℕ) where
  pub alone_yes : partner t n i ≡ 0 → alone t n i ≡ true
  alone_yes e = eq-eqb (partner t n i) 0 e

  pub alone_no : (j : ℕ) → partner t n i ≡ j + 1 → alone t n i ≡ false
  alone_no j e = ne_eqb (partner t n i) 0 (λ z. omega arith)

  pub partner_start : partner t n i ≡ first_from (t i) (i + 1) (n - (i + 1))
  unfolding partner
  partner_start = rw add-one

  pub second_of : second_place t n (i + 1) ≡ partner t n i
  unfolding second_place
  second_of = rw add-one

pub first_start : (t : ℕ → ℕ → Bool) (n : ℕ) → first_place t n ≡ first_from (alone t n) 0 (n - 0)
unfolding first_place
first_start t n = rw sub-zero

-- ---- what the rules name

across : (a k : ℕ) → suc a + k ≡ a + suc k
across a k = omega arith

-- a test of the members of P from place a on
pub from_failing : (t : ℕ → Bool) (p : Column → Bool) (a : ℕ) (P : Family) → ((k : ℕ) → k < length P → t (a + k) ≡ p (get_or P k [])) → first_from t a (length P) ≡ first_failing p (suc a) P
unfolding first_from first_failing
from_failing t p a [] h = refl
from_failing t p a (F ∷ P) h =
    ap₂ (λ (b : Bool) (x : ℕ). elim b [ true ↦ x | false ↦ suc a ]) (ap t (sym (add-zero a)) ∙ h 0 (suc-le-suc zero-le))
    (from_failing t p (suc a) P (λ k l. ap t (across a k) ∙ h (suc k) (suc-le-suc l)))

-- the first place that fails
pub failing_found : (t : ℕ → Bool) (p : Column → Bool) (P : Family) → ((i : ℕ) → i < length P → t i ≡ p (get_or P i [])) → first_from t 0 (length P) ≡ first_failing p 1 P
failing_found t p P h = from_failing t p 0 P (λ k l. ap t (zero-add k) ∙ h k l)

module _ (p : Column → Column → Bool) where
  pairs_from : (t : ℕ → ℕ → Bool) (n a : ℕ) (P : Family) → a + length P ≡ n → ((i j : ℕ) → i < j → j < length P → t (a + i) (a + j) ≡ p (get_or P i []) (get_or P j []))
      → (first_from (alone t n) a (length P) ≡ (first_pair p (suc a) P).first) × (second_place t n (first_from (alone t n) a (length P)) ≡ (first_pair p (suc a) P).second)
  unfolding first_from partner first_pair pair_at second_place
  pairs_from t n a [] l h = (refl, refl)
  pairs_from t n a (F ∷ P) l h =
      go (first_failing (p F) (suc (suc a)) P) mate (pairs_from t n (suc a) P (across a (length P) ∙ l) (λ i j m k. ap₂ t (across a i) (across a j) ∙ h (suc i) (suc j) (suc-le-suc m) (suc-le-suc k)))
    where
      mate : partner t n a ≡ first_failing (p F) (suc (suc a)) P
      mate =
          let e : n - suc a ≡ length P = omega arith in
          rw e (from_failing (t a) (p F) (suc a) P (λ k m. ap₂ t (sym (add-zero a)) (across a k) ∙ h 0 (suc k) (suc-le-suc zero-le) (suc-le-suc m)))

      go : (x : ℕ) → partner t n a ≡ x
          → (first_from (alone t n) (suc a) (length P) ≡ (first_pair p (suc (suc a)) P).first) × (second_place t n (first_from (alone t n) (suc a) (length P)) ≡ (first_pair p (suc (suc a)) P).second)
          → (first_from (alone t n) a (suc (length P)) ≡ (pair_at (suc a) x (first_pair p (suc (suc a)) P)).first) × (second_place t n (first_from (alone t n) a (suc (length P))) ≡ (pair_at (suc a) x (first_pair p (suc (suc a)) P)).second)
      go zero e below =
          let s : first_from (alone t n) a (suc (length P)) ≡ first_from (alone t n) (suc a) (length P) = rw (eq-eqb (partner t n a) 0 e, first_from) in
          (s ∙ below.0, ap (second_place t n) s ∙ below.1)
      go (suc j) e below =
          let s : first_from (alone t n) a (suc (length P)) ≡ suc a = rw (ne_eqb (partner t n a) 0 (λ z. suc-ne-zero j (sym e ∙ z)), first_from) in
          (s, ap (second_place t n) s ∙ e)

  -- the first two members that fail
  pub pair_found : (t : ℕ → ℕ → Bool) (P : Family) → ((i j : ℕ) → i < j → j < length P → t i j ≡ p (get_or P i []) (get_or P j []))
      → ((first_pair_of t (length P)).first ≡ (first_pair p 1 P).first) × ((first_pair_of t (length P)).second ≡ (first_pair p 1 P).second)
  unfolding first_pair_of first_place
  pair_found t P h = pairs_from t (length P) 0 P (zero-add (length P)) (λ i j l m. ap₂ t (zero-add i) (zero-add j) ∙ h i j l m)

-- ---- pairs of a place in one family and a place in another

abbrev pub cross_alone : (ℕ → ℕ → Bool) → ℕ → ℕ → Bool
cross_alone t n i = eqb (cross_partner t n i) 0

module _ (t : ℕ → ℕ → Bool) (n i : ℕ) where
  pub cross_alone_yes : cross_partner t n i ≡ 0 → cross_alone t n i ≡ true
  cross_alone_yes e = eq-eqb (cross_partner t n i) 0 e

  pub cross_partner_start : cross_partner t n i ≡ first_from (t i) 0 (n - 0)
  unfolding cross_partner
  cross_partner_start = rw sub-zero

  pub cross_second_of : cross_second t n (i + 1) ≡ cross_partner t n i
  unfolding cross_second
  cross_second_of = rw add-one

pub cross_first_start : (t : ℕ → ℕ → Bool) (m n : ℕ) → cross_first t m n ≡ first_from (cross_alone t n) 0 (m - 0)
unfolding cross_first
cross_first_start t m n = rw sub-zero

-- no pair fails, where none is found
pub cross_none : (t : ℕ → ℕ → Bool) (m n : ℕ) → ((i j : ℕ) → i < m → j < n → t i j ≡ true) → cross_first t m n ≡ 0
unfolding cross_first cross_partner
cross_none t m n h = from_none (cross_alone t n) 0 m (λ i a b. cross_alone_yes t n i (from_none (t i) 0 n (λ j c d. h i j (omega arith) (omega arith))))

pub cross_all : (t : ℕ → ℕ → Bool) (m n : ℕ) → cross_first t m n ≡ 0 → (i j : ℕ) → i < m → j < n → t i j ≡ true
unfolding cross_first cross_partner
cross_all t m n e i j hi hj = from_all (t i) 0 n (eqb-true (cross_partner t n i) 0 (from_all (cross_alone t n) 0 m e i zero-le (omega arith))) j zero-le (omega arith)

module _ (p : Column → Column → Bool) (S : Family) where
  crosses_from : (t : ℕ → ℕ → Bool) (a : ℕ) (P : Family) → ((i j : ℕ) → i < length P → j < length S → t (a + i) j ≡ p (get_or P i []) (get_or S j []))
      → (first_from (cross_alone t (length S)) a (length P) ≡ (first_cross p (suc a) P S).first) × (cross_second t (length S) (first_from (cross_alone t (length S)) a (length P)) ≡ (first_cross p (suc a) P S).second)
  unfolding first_from cross_partner first_cross pair_at cross_second
  crosses_from t a [] h = (refl, refl)
  crosses_from t a (F ∷ P) h =
      go (first_failing (p F) 1 S) mate (crosses_from t (suc a) P (λ i j m k. ap (λ (x : ℕ). t x j) (across a i) ∙ h (suc i) j (suc-le-suc m) k))
    where
      mate : cross_partner t (length S) a ≡ first_failing (p F) 1 S
      mate = failing_found (t a) (p F) S (λ k m. ap (λ (x : ℕ). t x k) (sym (add-zero a)) ∙ h 0 k (suc-le-suc zero-le) m)

      go : (x : ℕ) → cross_partner t (length S) a ≡ x
          → (first_from (cross_alone t (length S)) (suc a) (length P) ≡ (first_cross p (suc (suc a)) P S).first) × (cross_second t (length S) (first_from (cross_alone t (length S)) (suc a) (length P)) ≡ (first_cross p (suc (suc a)) P S).second)
          → (first_from (cross_alone t (length S)) a (suc (length P)) ≡ (pair_at (suc a) x (first_cross p (suc (suc a)) P S)).first) × (cross_second t (length S) (first_from (cross_alone t (length S)) a (suc (length P))) ≡ (pair_at (suc a) x (first_cross p (suc (suc a)) P S)).second)
      go zero e below =
          let s : first_from (cross_alone t (length S)) a (suc (length P)) ≡ first_from (cross_alone t (length S)) (suc a) (length P) = rw (eq-eqb (cross_partner t (length S) a) 0 e, first_from) in
          (s ∙ below.0, ap (cross_second t (length S)) s ∙ below.1)
      go (suc j) e below =
          let s : first_from (cross_alone t (length S)) a (suc (length P)) ≡ suc a = rw (ne_eqb (cross_partner t (length S) a) 0 (λ z. suc-ne-zero j (sym e ∙ z)), first_from) in
          (s, ap (cross_second t (length S)) s ∙ e)

  -- the first member of P and member of S that fail
  pub cross_found : (t : ℕ → ℕ → Bool) (P : Family) → ((i j : ℕ) → i < length P → j < length S → t i j ≡ p (get_or P i []) (get_or S j []))
      → (cross_first t (length P) (length S) ≡ (first_cross p 1 P S).first) × (cross_second t (length S) (cross_first t (length P) (length S)) ≡ (first_cross p 1 P S).second)
  unfolding cross_first
  cross_found t P h = crosses_from t 0 P (λ i j l m. ap (λ (x : ℕ). t x j) (zero-add i) ∙ h i j l m)

-- ---- the mark of two members

module _ (marks : List ℕ) (i j : ℕ) where
  pub marked_below : i < j → marked marks i j ≡ marked_row marks j i
  marked_below h = ap (λ (b : Bool). elim b [ true ↦ marked_row marks j i | false ↦ marked_row marks i j ]) (lt-ltb i j h)

  pub marked_above : j ≤ i → marked marks i j ≡ marked_row marks i j
  marked_above h = ap (λ (b : Bool). elim b [ true ↦ marked_row marks j i | false ↦ marked_row marks i j ]) (le-ltb i j h)

-- ---- a place that is told, or none

pub told_place : (k u : ℕ) → Some u ≡ place_told k → (k ≡ u) × (k ≡ 0 → ⊥)
told_place zero u e = cc
told_place (suc k) u e = (cc, λ z. omega arith)

pub told_none : (k : ℕ) → None ≡ place_told k → k ≡ 0
told_none zero e = refl
told_none (suc k) e = cc
