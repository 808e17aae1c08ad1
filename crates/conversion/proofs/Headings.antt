-- Laws of the field of a plot column with a name, and of its place among others.
-- Assumes nothing.
use mathlib.Core.Path.{◌≡◌, refl, sym, ap, ◌∙◌}
use mathlib.Core.Bool.{true, false}
use mathlib.Core.List.{List, [], ◌∷◌}
use Prim.Native.Nat.{ℕ, ◌≤◌, ◌<◌}
use native.Mathlib.Omega.{arith}
use lib.Dec.{eqb, ltb}
use lib.Pointwise.{pointwise}
use lib.ListN.{length, drop}
use borrow.Author.Tests.{eq-eqb, ne_eqb, eqb-true, eqb-false, lt-ltb, le-ltb, ltb-false}
use Rattle.std.proofs.Common.{Some, None}
use Rattle.std.specs.List.{starts_with}
use Rattle.rules.specs.Factor.{index_of}
use Rattle.rules.specs.Sheet.{Field, same_bytes}
use Rattle.rules.specs.SheetText.{plot_heading}
use Rattle.rules.proofs.Numbering.{by_cases}
use Rattle.rules.proofs.Members.{clash}
use Rattle.conversion.specs.Plain.{heading_in}

-- slices that are equal have the same bytes
pub equal_bytes : (xs ys : List ℕ) → pointwise eqb xs ys ≡ same_bytes xs ys
unfolding same_bytes
equal_bytes [] [] = refl
equal_bytes [] (y ∷ ys) = refl
equal_bytes (x ∷ xs) [] = refl
equal_bytes (x ∷ xs) (y ∷ ys) = by_cases (eqb x y) (λ e. rw e (equal_bytes xs ys)) (λ e. rw e)

turned : (x y : ℕ) → eqb x y ≡ eqb y x
turned x y = by_cases (eqb x y) (λ e. e ∙ sym (eq-eqb y x (sym (eqb-true x y e)))) (λ e. e ∙ sym (ne_eqb y x (λ z. eqb-false x y e (sym z))))

-- a field that begins with the mark of a plot column and a colon
pub heading_yes : (f : Field) (name : List ℕ) → starts_with eqb f (112 ∷ 58 ∷ []) ≡ true → same_bytes f (plot_heading name) ≡ same_bytes (drop 2 f) name
unfolding same_bytes
heading_yes [] name e = clash e refl
heading_yes (x ∷ []) name e = by_cases (eqb 112 x) (λ a. clash (rw a at e) refl) (λ a. clash (rw a at e) refl)
heading_yes (x ∷ y ∷ f) name e =
    by_cases (eqb 112 x)
    (λ a. by_cases (eqb 58 y) (λ b. rw (sym (turned 112 x) ∙ a, sym (turned 58 y) ∙ b)) (λ b. clash (rw (a, b) at e) refl))
    (λ a. clash (rw a at e) refl)

-- one that does not
pub heading_no : (f : Field) (name : List ℕ) → starts_with eqb f (112 ∷ 58 ∷ []) ≡ false → same_bytes f (plot_heading name) ≡ false
unfolding same_bytes
heading_no [] name e = refl
heading_no (x ∷ []) name e = by_cases (eqb x 112) (λ a. rw a) (λ a. rw a)
heading_no (x ∷ y ∷ f) name e =
    by_cases (eqb x 112)
    (λ a. by_cases (eqb y 58) (λ b. clash (sym e ∙ rw (sym (turned x 112) ∙ a, sym (turned y 58) ∙ b)) refl) (λ b. rw (a, b)))
    (λ a. rw a)

-- ---- the place of such a field

module _ (fs : List Field) (name : List ℕ) where
  pub heading_found : (i : ℕ) → i ≡ index_of same_bytes fs (plot_heading name) → i < length fs → Some i ≡ heading_in fs name
  heading_found i e h = sym (rw (lt-ltb (index_of same_bytes fs (plot_heading name)) (length fs) (omega arith), heading_in) (ap Some (sym e)))

  pub heading_missing : length fs ≤ index_of same_bytes fs (plot_heading name) → None ≡ heading_in fs name
  heading_missing h = sym (rw (le-ltb (index_of same_bytes fs (plot_heading name)) (length fs) h, heading_in))

  pub told_found : (i : ℕ) → Some i ≡ heading_in fs name → i ≡ index_of same_bytes fs (plot_heading name)
  told_found i e =
      by_cases (ltb (index_of same_bytes fs (plot_heading name)) (length fs))
      (λ l. let k = rw (l, heading_in) at e in cc)
      (λ l. let k = rw (l, heading_in) at e in cc)

  pub told_missing : None ≡ heading_in fs name → length fs ≤ index_of same_bytes fs (plot_heading name)
  told_missing e =
      by_cases (ltb (index_of same_bytes fs (plot_heading name)) (length fs))
      (λ l. let k = rw (l, heading_in) at e in cc)
      (λ l. ltb-false (index_of same_bytes fs (plot_heading name)) (length fs) l)
