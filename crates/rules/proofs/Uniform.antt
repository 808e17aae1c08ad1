-- Laws of classes of one size: those of U and of E have.
-- Assumes nothing.
use mathlib.Core.Path.{◌≡◌, refl, sym, ap, ◌∙◌}
use mathlib.Core.Bool.{Bool, true, false}
use mathlib.Core.List.{[]}
use Prim.Native.Nat.{ℕ, zero, suc, ◌<◌}
use native.Mathlib.Nat.{not-suc-le-zero}
use native.Mathlib.Omega.{arith}
use lib.Dec.{eqb}
use lib.ListN.{length}
use borrow.Author.Tests.{eq-eqb, ne_eqb, eqb-true, eqb-false}
use Rattle.rules.specs.Factor.{Column, at, count, same, classes, class_size, uniform, universal, equality, up_from}
use Rattle.rules.proofs.Numbering.{by_cases}
use Rattle.rules.proofs.Supremum.{equivalent_sym}
use Rattle.rules.proofs.ClassCount.{at_up, finer_universal, one_class, each_class}
use Rattle.rules.proofs.Tests.{count_yes, count_no, count_none, size_same, uniform_equivalent, uniform_test}

-- just one plot passes
pub count_one : (n : ℕ) (p : ℕ → Bool) (u : ℕ) → u < n → p u ≡ true → ((v : ℕ) → v < n → (u ≡ v → ⊥) → p v ≡ false) → count n p ≡ 1
count_one zero p u l e h = absurd (not-suc-le-zero l)
count_one (suc k) p u l e h =
    by_cases (eqb u k)
    (λ q.
    let s : u ≡ k = eqb-true u k q in
    count_yes k p (rw s at e) ∙ ap suc (count_none k p (λ v w. h v (omega arith) (λ z. omega arith))))
    (λ q.
    let d = eqb-false u k q in
    let m : u < k = omega (arith, d) in
    count_no k p (h k (omega arith) d) ∙ count_one k p u m e (λ v w. h v (omega arith)))

-- E: each class is one plot
equality_size : (n u : ℕ) → u < n → class_size n (equality n) u ≡ 1
unfolding class_size equality
equality_size n u l =
    count_one n (λ v. same (up_from 1 n) u v) u l (eq-eqb (at (up_from 1 n) u) (at (up_from 1 n) u) refl)
    (λ v w d. ne_eqb (at (up_from 1 n) u) (at (up_from 1 n) v) (λ z. d (omega (arith, z, at_up n 1 u l, at_up n 1 v w))))

module _ (n : ℕ) (F : Column) (l_f : length F ≡ n) where
  -- one class
  pub uniform_one : 0 < n → classes F ≡ 1 → uniform n F ≡ true
  uniform_one some e =
      (uniform_test n F).1
      (uniform_equivalent (equivalent_sym ((one_class n F l_f some).0 e))
      (λ u v hu hv. size_same n (universal n) u v (finer_universal n [] u v hu hv refl)))

  -- a class for each plot
  pub uniform_each : classes F ≡ n → uniform n F ≡ true
  uniform_each e =
      (uniform_test n F).1
      (uniform_equivalent (equivalent_sym ((each_class n F l_f).0 e)) (λ u v hu hv. equality_size n u hu ∙ sym (equality_size n v hv)))
