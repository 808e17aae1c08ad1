-- Laws of the largest label: no label is larger, and that of a numbered column is its number of classes.
-- Assumes nothing.
use mathlib.Core.Path.{◌≡◌, refl, sym, ap, ap₂, ◌∙◌}
use mathlib.Core.List.{[], ◌∷◌, ◌++◌}
use Prim.Native.Nat.{ℕ, zero, suc, ◌+◌, ◌≤◌, ◌<◌, max}
use native.Mathlib.Nat.{not-suc-le-zero, le_of_suc-le-suc}
use native.Mathlib.Numerals.{add-one}
use native.Mathlib.Omega.{arith}
use lib.ListN.{length, take}
use lib.Seq.{take_all, take-suc}
use Rattle.rules.specs.Factor.{Column, at, number, labels, classes}
use Rattle.rules.proofs.Walk.{classes_more}
use Rattle.factor.specs.Labels.{largest}
use Rattle.std.specs.List.{fold}

-- the largest of a number and the labels
folded_from : (F : Column) (x : ℕ) → fold max x F ≡ max x (largest F)
unfolding largest
folded_from [] x = omega arith
folded_from (y ∷ F) x = let e = folded_from F (max x y) in omega (arith, e)

-- the largest of the labels, folded from 0 on
pub largest_folded : (F : Column) → fold max 0 F ≡ largest F
largest_folded F = folded_from F 0 ∙ omega arith

pub largest_none : (F : Column) → largest (take 0 F) ≡ 0
unfolding largest
largest_none [] = refl
largest_none (x ∷ F) = refl

largest_snoc : (F : Column) (x : ℕ) → largest (F ++ x ∷ []) ≡ max (largest F) x
unfolding largest
largest_snoc [] x = omega arith
largest_snoc (y ∷ F) x = let e = largest_snoc F x in omega (arith, e)

-- one plot more
pub largest_more : (F : Column) (u : ℕ) → u < length F → largest (take (u + 1) F) ≡ max (largest (take u F)) (at F u)
largest_more F u h = rw (add-one, take-suc F u 0) (largest_snoc (take u F) (at F u))

-- no label is larger
pub largest_bounds : (F : Column) (u : ℕ) → u < length F → at F u ≤ largest F
unfolding largest
largest_bounds [] u h = absurd (not-suc-le-zero h)
largest_bounds (x ∷ F) zero h = omega arith
largest_bounds (x ∷ F) (suc u) h = let l = largest_bounds F u (le_of_suc-le-suc h) in omega (arith, l)

module _ (F : Column) (numbered : number F ≡ F) where
  -- as many classes as the largest label so far
  counted_to : (u : ℕ) → u ≤ length F → largest (take u F) ≡ classes (take u F)
  unfolding classes labels
  counted_to zero h = largest_none F
  counted_to (suc u) h =
      sym (ap (λ (i : ℕ). largest (take i F)) (add-one u)) ∙ largest_more F u h
      ∙ ap₂ max (counted_to u (omega arith)) (ap (λ (G : Column). at G u) (sym numbered))
      ∙ sym (classes_more F u h)

  -- the largest number is that of the classes
  pub largest_classes : largest F ≡ classes F
  largest_classes = ap largest (sym (take_all (length F) F (omega arith))) ∙ counted_to (length F) (omega arith) ∙ ap classes (take_all (length F) F (omega arith))
