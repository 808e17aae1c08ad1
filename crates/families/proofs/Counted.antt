-- Laws of the number of classes that a walk finds in a column numbered by first appearance.
-- Assumes nothing.
use mathlib.Core.Path.{◌≡◌}
use mathlib.Core.Bool.{true, false}
use Prim.Native.Nat.{ℕ}
use Rattle.std.specs.Prelude.{Some, None}
use Rattle.rules.specs.Factor.{Column, number, classes}
use Rattle.rules.specs.Family.{alike}
use Rattle.rules.proofs.Numbering.{by_cases}
use Rattle.families.specs.Lent.{numbered_classes}

module _ (F : Column) where
  -- a numbered column has its classes
  pub counted_yes : alike (number F) F ≡ true → numbered_classes F ≡ Some (classes F)
  unfolding numbered_classes
  counted_yes e = rw (e, numbered_classes)

  -- any other has none
  pub counted_no : alike (number F) F ≡ false → numbered_classes F ≡ None
  unfolding numbered_classes
  counted_no e = rw (e, numbered_classes)

  -- none: the column is not numbered
  pub counted_not : numbered_classes F ≡ None → alike (number F) F ≡ false
  counted_not h = by_cases (alike (number F) F) (λ e. let y = counted_yes e in cc) (λ e. e)

  -- otherwise it is, and these are its classes
  pub counted_is : (k : ℕ) → numbered_classes F ≡ Some k → (alike (number F) F ≡ true) × (k ≡ classes F)
  counted_is k h = by_cases (alike (number F) F) (λ e. let y = counted_yes e in (e, cc)) (λ e. let y = counted_no e in cc)
