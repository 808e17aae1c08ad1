-- Laws of nested factors, of two factors exchanged, and of how two lent columns stand.
-- Assumes nothing.
use mathlib.Core.Path.{◌≡◌, refl, sym, ap, ap₂, ◌∙◌}
use mathlib.Core.Bool.{Bool, true, false}
use mathlib.Core.List.{List}
use Prim.Native.Nat.{ℕ, ◌+◌, ◌*◌, ◌≤◌}
use native.Mathlib.Omega.{arith}
use lib.ListN.{length, take}
use Rattle.std.proofs.Common.{inl, inr}
use Rattle.rules.specs.Factor.{Column, Finer, number, classes, infimum, supremum, finer, orthogonal}
use Rattle.rules.specs.Comparison.{first_fitting, comparison, passes, pair_passes}
use Rattle.rules.proofs.Columns.{classes_number}
use Rattle.rules.proofs.Classes.{finer_test}
use Rattle.rules.proofs.Tests.{orthogonal_test, orthogonal_sym}
use Rattle.rules.proofs.Orthogonality.{same_test}
use Rattle.rules.proofs.Bounds.{nested_orthogonal, infimum_comm, supremum_comm, supremum_coarser_is}
use Rattle.rules.proofs.Comparison.{comparison_passes}
use Rattle.factor.specs.Lent.{column_at, common, test_common}
use Rattle.factor.proofs.Lent.{length_part, test_parts}
use Rattle.standing.specs.Cells.{Paired}

-- where G is finer than F: the supremum is F itself, numbered, and they are orthogonal
module _ (F G : Column) (l : length G ≡ length F) (e : finer (length F) G F ≡ true) where
  fine : Finer (length F) G F
  fine = (finer_test (length F) G F).0 e

  pub nested_supremum : supremum F G ≡ number F
  nested_supremum = supremum_comm (length F) F G refl l ∙ supremum_coarser_is (length F) G F l refl fine

  pub supremum_classes : classes F ≡ classes (supremum F G)
  supremum_classes = sym (ap classes nested_supremum ∙ classes_number F)

  pub nested_true : true ≡ orthogonal (length F) F G
  nested_true = sym ((orthogonal_test (length F) F G).1 (orthogonal_sym (length F) G F l refl (nested_orthogonal (length F) G F l refl fine)))

-- orthogonality is the same for the columns exchanged
pub orthogonal_flip : (n : ℕ) (F G : Column) → length F ≡ n → length G ≡ n → orthogonal n F G ≡ orthogonal n G F
orthogonal_flip n F G l_f l_g =
    same_test (orthogonal n F G) (orthogonal n G F)
    (λ e. (orthogonal_test n G F).1 (orthogonal_sym n F G l_f l_g ((orthogonal_test n F G).0 e)))
    (λ e. (orthogonal_test n F G).1 (orthogonal_sym n G F l_g l_f ((orthogonal_test n G F).0 e)))

-- what two columns make is the same in both orders
module _ (n : ℕ) (X Y A B : Column) (lx : length X ≡ n) (ly : length Y ≡ n) (paired : Paired A B X Y) where
  pub paired_infimum : infimum A B ≡ infimum X Y
  paired_infimum = elim paired [ inl p ↦ ap₂ infimum p.0 p.1 | inr p ↦ ap₂ infimum p.0 p.1 ∙ infimum_comm n Y X ly lx ]

  pub paired_supremum : supremum A B ≡ supremum X Y
  paired_supremum = elim paired [ inl p ↦ ap₂ supremum p.0 p.1 | inr p ↦ ap₂ supremum p.0 p.1 ∙ supremum_comm n Y X ly lx ]

  pub paired_orthogonal : orthogonal (length A) A B ≡ orthogonal n X Y
  paired_orthogonal = elim paired [
    | inl p ↦ ap₂ (λ (F G : Column). orthogonal (length F) F G) p.0 p.1 ∙ ap (λ (m : ℕ). orthogonal m X Y) lx
    | inr p ↦ ap₂ (λ (F G : Column). orthogonal (length F) F G) p.0 p.1 ∙ ap (λ (m : ℕ). orthogonal m Y X) ly ∙ orthogonal_flip n Y X ly lx
  ]

-- ---- how two lent columns stand, by the tests over their common plots

-- where neither is finer, the case passes exactly where they are orthogonal
passes_neither : (o : Bool) → passes (first_fitting false false o) ≡ o
passes_neither true = refl
passes_neither false = refl

module _ (F G : Column) where
  abbrev level : Bool
  level = test_common orthogonal F G

  -- the columns exchanged have the same plots in common
  finer_back : test_common finer G F ≡ finer (common F G) (take (common F G) G) (take (common F G) F)
  finer_back =
      let e : common G F ≡ common F G = omega arith in
      ap (λ (m : ℕ). finer m (take m G) (take m F)) e

  pub case_fitting : (a b : Bool) → test_common finer F G ≡ a → test_common finer G F ≡ b → first_fitting a b level ≡ test_common comparison F G
  unfolding comparison
  case_fitting a b e f = ap₂ (λ (x y : Bool). first_fitting x y level) (sym e) (sym f ∙ finer_back)

  pub case_neither : (o : Bool) → test_common finer F G ≡ false → test_common finer G F ≡ false → o ≡ test_common pair_passes F G → first_fitting false false o ≡ test_common comparison F G
  case_neither o e f h =
      let c = case_fitting false false e f in
      ap (first_fitting false false) (h ∙ ap passes (sym c) ∙ passes_neither level) ∙ c

-- of columns that are parts of buffers: the pair passes exactly where they are orthogonal
pub orthogonal_parts : (n : ℕ) (b d : List ℕ) (i j : ℕ) → n ≤ 240 → 240 * i + n ≤ length b → 240 * j + n ≤ length d
    → (X Y : Column) → X ≡ column_at n b i → Y ≡ column_at n d j → test_common pair_passes X Y ≡ orthogonal n (column_at n b i) (column_at n d j)
orthogonal_parts n b d i j h hb hd X Y eX eY =
    test_parts pair_passes n b d i j h hb hd X Y eX eY
    ∙ sym (comparison_passes n (column_at n b i) (column_at n d j) (length_part n i b hb) (length_part n j d hd))
