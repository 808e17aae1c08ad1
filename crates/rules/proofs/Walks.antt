-- Laws for walks over the plots with a table over labels.
-- Assumes nothing.
use mathlib.Core.Path.{◌≡◌, refl, sym, ap, ◌∙◌}
use mathlib.Core.Bool.{Bool, true, false, true≢false}
use mathlib.Core.List.{List}
use Prim.Native.Nat.{ℕ, zero, suc, ◌+◌, ◌≤◌, ◌<◌}
use native.Mathlib.Nat.{not-suc-le-zero}
use native.Mathlib.Omega.{arith}
use lib.Dec.{eqb, ltb}
use lib.ListN.{length, get_or, set, replicate}
use lib.Seq.{get_or-set_same, get_or-set_other}
use borrow.Author.Tests.{eqb-true, eqb-false, ltb-true, ltb-false}
use Rattle.rules.specs.Factor.{Column, at, Same, every, count, finer}
use Rattle.rules.proofs.Numbering.{by_cases}
use Rattle.rules.proofs.Tests.{every_at, every_all, count_yes, count_no}
use Rattle.rules.proofs.Classes.{finer_test}

-- ---- tests and counts, plot by plot

-- a test that does not pass
pub bool_false : (b : Bool) → (b ≡ true → ⊥) → b ≡ false
bool_false true h = absurd (h refl)
bool_false false h = refl

-- one plot more passes
pub every_more : (u : ℕ) (p : ℕ → Bool) → every u p ≡ true → p u ≡ true → every (u + 1) p ≡ true
every_more u p e h = every_all (u + 1) p (λ v hv. by_cases (ltb v u) (λ l. every_at u p e v (ltb-true v u l)) (λ l. let r : v ≡ u = omega (arith, ltb-false v u l) in rw r h))

-- one fails
pub every_fails : (n : ℕ) (p : ℕ → Bool) (u : ℕ) → u < n → p u ≡ false → every n p ≡ false
every_fails n p u l h = bool_false (every n p) (λ e. true≢false (sym (every_at n p e u l) ∙ h))

-- a count is at most the number of plots
pub count_le : (n : ℕ) (p : ℕ → Bool) → count n p ≤ n
unfolding count
count_le zero p = omega arith
count_le (suc n) p = by_cases (p n) (λ e. rw (count_yes n p e) (omega (arith, count_le n p))) (λ e. rw (count_no n p e) (omega (arith, count_le n p)))

-- ---- finer: one plot of each class stands for it

-- the table t names for each of the first u plots a plot of its F-class, with which it shares a G-class
pub record Agree (F G : Column) (u : ℕ) (t : List ℕ) : Type 0 where
  pub below : (x : ℕ) → get_or t x 0 ≤ u
  pub along_f : (v : ℕ) → v < u → Same F (get_or t (at F v) 0) v
  pub along_g : (v : ℕ) → v < u → Same G (get_or t (at F v) 0) v

-- no plot yet
pub agree_start : (F G : Column) (k : ℕ) → Agree F G 0 (replicate k 0)
agree_start F G k = record {
  below = λ x. rw (zeros k x) (omega arith);
  along_f = λ v h. absurd (not-suc-le-zero h);
  along_g = λ v h. absurd (not-suc-le-zero h);
}
  where
    zeros : (k x : ℕ) → at (replicate k 0) x ≡ 0
    zeros zero x = refl
    zeros (suc k) zero = refl
    zeros (suc k) (suc x) = zeros k x

module _ {F G : Column} {u : ℕ} {t : List ℕ} (a : Agree F G u t) where
  -- the first plot of a class
  pub agree_new : at F u < length t → (Same F (get_or t (at F u) 0) u → ⊥) → Agree F G (u + 1) (set t (at F u) u)
  agree_new h ne = record {
    below = λ x.
        by_cases (eqb x (at F u))
        (λ e. let q : x ≡ at F u = eqb-true _ _ e in rw (q, get_or-set_same t (at F u) u 0 h) (omega arith))
        (λ e. rw (get_or-set_other t (at F u) x u 0 (eqb-false _ _ e)) (omega (arith, a.below x)));
    along_f = kept F a.along_f;
    along_g = kept G a.along_g;
  }
    where
      kept : (H : Column) → ((v : ℕ) → v < u → Same H (get_or t (at F v) 0) v) → (v : ℕ) → v < u + 1 → Same H (get_or (set t (at F u) u) (at F v) 0) v
      kept H old v hv =
          by_cases (eqb (at F v) (at F u))
          (λ e. let q : at F v ≡ at F u = eqb-true _ _ e in
          by_cases (ltb v u)
          (λ l. absurd (ne (ap (λ (x : ℕ). at F (get_or t x 0)) (sym q) ∙ a.along_f v (ltb-true v u l) ∙ q)))
          (λ l. let r : v ≡ u = omega (arith, ltb-false v u l) in rw (r, get_or-set_same t (at F u) u 0 h)))
          (λ e. let ne' : at F v ≡ at F u → ⊥ = eqb-false _ _ e in
          rw (get_or-set_other t (at F u) (at F v) u 0 ne')
          (by_cases (ltb v u)
          (λ l. old v (ltb-true v u l))
          (λ l. let r : v ≡ u = omega (arith, ltb-false v u l) in absurd (ne' (ap (at F) r)))))

  -- a later plot that agrees
  pub agree_old : Same F (get_or t (at F u) 0) u → Same G (get_or t (at F u) 0) u → Agree F G (u + 1) t
  agree_old f g = record { below = λ x. omega (arith, a.below x); along_f = more F a.along_f f; along_g = more G a.along_g g }
    where
      more : (H : Column) → ((v : ℕ) → v < u → Same H (get_or t (at F v) 0) v) → Same H (get_or t (at F u) 0) u → (v : ℕ) → v < u + 1 → Same H (get_or t (at F v) 0) v
      more H old here v hv =
          by_cases (ltb v u) (λ l. old v (ltb-true v u l)) (λ l. let r : v ≡ u = omega (arith, ltb-false v u l) in rw r here)

  -- the walk has come to the end
  pub agree_finer : finer u F G ≡ true
  agree_finer = (finer_test u F G).1 (λ v w hv hw s. sym (a.along_g v hv) ∙ ap (λ (x : ℕ). at G (get_or t x 0)) s ∙ a.along_g w hw)

  -- a later plot that does not agree
  pub agree_not : (n : ℕ) → u < n → Same F (get_or t (at F u) 0) u → (Same G (get_or t (at F u) 0) u → ⊥) → finer n F G ≡ false
  agree_not n h f ne = bool_false (finer n F G) (λ e. ne ((finer_test n F G).0 e (get_or t (at F u) 0) u (omega (arith, a.below (at F u))) h f))
