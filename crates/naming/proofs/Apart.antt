-- Laws of walks that tell one class, and a class for each plot.
-- Assumes nothing.
use mathlib.Core.Path.{◌≡◌, refl, sym, ap, ◌∙◌}
use mathlib.Core.Bool.{true, false}
use mathlib.Core.List.{List, [], ◌∷◌}
use native.Mathlib.Nat.{not-suc-le-zero, le_of_suc-le-suc}
use Rattle.std.specs.List.{list_all}
use Rattle.rules.proofs.Members.{clash}
use Prim.Native.Nat.{ℕ, zero, suc, ◌+◌, ◌-◌, ◌≤◌, ◌<◌}
use native.Mathlib.Omega.{arith}
use lib.Dec.{eqb}
use lib.ListN.{length, get_or, set, replicate, length-set, length-replicate}
use lib.Seq.{get_or-set_same, get_or-set_other}
use borrow.Author.Tests.{eqb-true, eqb-false, eq-eqb, ne_eqb}
use Rattle.rules.specs.Factor.{Column, at, classes, equality}
use Rattle.rules.proofs.ClassCount.{finer_universal, equality_finer, classes_most, one_class, each_class}
use Rattle.rules.proofs.Numbering.{by_cases}
use Rattle.factor.proofs.Table.{get_d_zeros}

-- ---- one class

module _ (F : Column) where
  pub one_empty : length F < 1 → classes F ≡ 1 → ⊥
  one_empty h e = omega (arith, classes_most F)

  -- all plots have the label of the first
  pub one_yes : 0 < length F → ((u : ℕ) → u < length F → at F u ≡ at F 0) → classes F ≡ 1
  one_yes h all = (one_class (length F) F refl h).1 record { to = finer_universal (length F) F; from = λ u v hu hv e. all u hu ∙ sym (all v hv) }

  -- one has another label
  pub one_no : (u : ℕ) → u < length F → (at F u ≡ at F 0 → ⊥) → classes F ≡ 1 → ⊥
  one_no u h d e =
      let k : 0 < length F = omega arith in
      d (((one_class (length F) F refl k).0 e).from u 0 h k (finer_universal (length F) [] u 0 h k refl))

-- what a walk over all labels tells: whether each is x
agreeing : (x : ℕ) (F : Column) → list_all (λ y. eqb y x) F ≡ true → (u : ℕ) → u < length F → at F u ≡ x
agreeing x [] e u h = absurd (not-suc-le-zero h)
agreeing x (y ∷ F) e zero h = by_cases (eqb y x) (λ p. eqb-true y x p) (λ p. clash e (rw p))
agreeing x (y ∷ F) e (suc u) h = by_cases (eqb y x) (λ p. agreeing x F (sym (rw p) ∙ e) u (le_of_suc-le-suc h)) (λ p. clash e (rw p))

differing : (x : ℕ) (F : Column) → list_all (λ y. eqb y x) F ≡ false → (u : ℕ) × (u < length F) × (at F u ≡ x → ⊥)
differing x [] e = clash refl e
differing x (y ∷ F) e =
    by_cases (eqb y x)
    (λ p. let r = differing x F (sym (rw p) ∙ e) in (suc r.0, omega (arith, r.1), r.2))
    (λ p. (0, omega arith, eqb-false y x p))

pub one_told : (x : ℕ) (F : Column) → 0 < length F → x ≡ at F 0 → list_all (λ y. eqb y x) F ≡ eqb (classes F) 1
one_told x F h z =
    by_cases (list_all (λ y. eqb y x) F)
    (λ e. e ∙ sym (eq-eqb (classes F) 1 (one_yes F h (λ u k. agreeing x F e u k ∙ z))))
    (λ e. let d = differing x F e in e ∙ sym (ne_eqb (classes F) 1 (one_no F d.0 d.1 (λ q. d.2 (q ∙ sym z)))))

-- ---- a class for each plot

module _ (F : Column) where
  pub apart_yes : ((u v : ℕ) → u < length F → v < length F → at F u ≡ at F v → u ≡ v) → classes F ≡ length F
  apart_yes apart = (each_class (length F) F refl).1 record { to = λ u v hu hv e. ap (at (equality (length F))) (apart u v hu hv e); from = equality_finer (length F) F }

  -- two plots have one label
  pub apart_no : (u v : ℕ) → u < length F → v < u → at F u ≡ at F v → classes F ≡ length F → ⊥
  apart_no u v h l e q =
      let n = length F in
      let G : List ℕ = set (replicate n 0) u 1 in
      let k : u < length (replicate {A = ℕ} n 0) = rw length-replicate h in
      let here : at G u ≡ 1 = get_or-set_same (replicate n 0) u 1 0 k in
      let there : at G v ≡ 0 = get_or-set_other (replicate n 0) u v 1 0 (λ z. omega arith) ∙ get_d_zeros n v in
      let same : at G u ≡ at G v = equality_finer n G u v h (omega arith) (((each_class n F refl).0 q).to u v h (omega arith) e) in
      no (sym here ∙ same ∙ there)
    where
      no : ◌≡◌ {A = ℕ} 1 0 → ⊥
      no z = omega arith

-- t keeps the place of each label of the first u plots, from 1: no two of them have one label
pub record Placed (F : Column) (u : ℕ) (t : List ℕ) : Type 0 where
  pub size : length t ≡ 256
  pub most : (x : ℕ) → get_or t x 0 ≤ u
  pub label : (x : ℕ) → (get_or t x 0 ≡ 0 → ⊥) → at F (get_or t x 0 - 1) ≡ x
  pub place : (v : ℕ) → v < u → get_or t (at F v) 0 ≡ v + 1

pub placed_none : (F : Column) → Placed F 0 (replicate 256 0)
placed_none F = record {
  size = refl;
  most = λ x. omega (arith, get_d_zeros 256 x);
  label = λ x d. absurd (d (get_d_zeros 256 x));
  place = λ v h. absurd (none h);
}
  where
    none : {v : ℕ} → v < 0 → ⊥
    none h = omega arith

module _ (F : Column) (u : ℕ) (t : List ℕ) (p : Placed F u t) where
  -- all plots are passed
  pub placed_all : length F ≤ u → classes F ≡ length F
  placed_all h = apart_yes F (λ v w hv hw e. omega (arith, p.place v (omega arith), p.place w (omega arith), ap (λ (x : ℕ). get_or t x 0) e))

  -- the label of plot u has a place
  pub placed_again : u < length F → (get_or t (at F u) 0 ≡ 0 → ⊥) → classes F ≡ length F → ⊥
  placed_again h d = apart_no F u (get_or t (at F u) 0 - 1) h (omega (arith, p.most (at F u), d)) (sym (p.label (at F u) d))

  -- it has none yet
  module _ (z : get_or t (at F u) 0 ≡ 0) (l : at F u < 256) where
    abbrev next : List ℕ
    next = set t (at F u) (u + 1)

    inside : at F u < length t
    inside = rw p.size l

    new : get_or next (at F u) 0 ≡ u + 1
    new = get_or-set_same t (at F u) (u + 1) 0 inside

    old : (x : ℕ) → (x ≡ at F u → ⊥) → get_or next x 0 ≡ get_or t x 0
    old x d = get_or-set_other t (at F u) x (u + 1) 0 d

    pub placed_next : Placed F (u + 1) next
    placed_next = record {
      size = length-set t (at F u) (u + 1) ∙ p.size;
      most = λ x. by_cases (eqb x (at F u)) (λ e. omega (arith, ap (λ (y : ℕ). get_or next y 0) (eqb-true x (at F u) e), new)) (λ e. omega (arith, old x (eqb-false x (at F u) e), p.most x));
      label = λ x d. by_cases (eqb x (at F u))
          (λ e. let q : get_or next x 0 - 1 ≡ u = omega (arith, ap (λ (y : ℕ). get_or next y 0) (eqb-true x (at F u) e), new) in ap (at F) q ∙ sym (eqb-true x (at F u) e))
          (λ e. let q = old x (eqb-false x (at F u) e) in ap (λ (y : ℕ). at F (y - 1)) q ∙ p.label x (λ y. d (q ∙ y)));
      place = λ v h. by_cases (eqb v u)
          (λ e. ap (λ (w : ℕ). get_or next (at F w) 0) (eqb-true v u e) ∙ new ∙ ap (λ (w : ℕ). w + 1) (sym (eqb-true v u e)))
          (λ e. let k : v < u = omega (arith, eqb-false v u e) in
          old (at F v) (λ y. omega (arith, p.place v k, z, ap (λ (x : ℕ). get_or t x 0) y)) ∙ p.place v k);
    }
