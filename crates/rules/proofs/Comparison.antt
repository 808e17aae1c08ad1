-- Laws of comparison: what each case says of two factors, and that it passes exactly where the two are orthogonal.
-- Assumes nothing.
use mathlib.Core.Path.{◌≡◌, refl, subst}
use mathlib.Core.Logic.{◌↔◌}
use mathlib.Core.Bool.{Bool, true, false}
use Prim.Native.Nat.{ℕ}
use lib.ListN.{length}
use Rattle.rules.specs.Factor.{Column, Finer, finer, Equivalent, Orthogonal, orthogonal}
use Rattle.rules.specs.Comparison.{Comparison, is_equivalent, is_finer, is_coarser, is_orthogonal, not_orthogonal, first_fitting, comparison, passes}
use Rattle.rules.proofs.Members.{clash}
use Rattle.rules.proofs.Walks.{bool_false}
use Rattle.rules.proofs.Classes.{finer_test}
use Rattle.rules.proofs.Tests.{orthogonal_test, orthogonal_sym}
use Rattle.rules.proofs.Bounds.{nested_orthogonal}

-- a test that is not passed, where it is passed exactly if A holds
not_held : {b : Bool} {A : Type 0} → b ≡ true ↔ A → b ≡ false → A → ⊥
not_held t e h = clash (t.1 h) e

not_passed : {b : Bool} {A : Type 0} → b ≡ true ↔ A → (A → ⊥) → b ≡ false
not_passed {b} t h = bool_false b (λ e. h (t.0 e))

module _ (n : ℕ) (F G : Column) where
  -- what each case says of the factors: finer and coarser are strict
  abbrev Says : Comparison → Type 0
  Says is_equivalent = Equivalent n F G
  Says is_finer = Finer n F G × (Finer n G F → ⊥)
  Says is_coarser = Finer n G F × (Finer n F G → ⊥)
  Says is_orthogonal = Orthogonal n F G × (Finer n F G → ⊥) × (Finer n G F → ⊥)
  Says not_orthogonal = (Orthogonal n F G → ⊥) × (Finer n F G → ⊥) × (Finer n G F → ⊥)

  below : finer n F G ≡ true ↔ Finer n F G
  below = finer_test n F G

  above : finer n G F ≡ true ↔ Finer n G F
  above = finer_test n G F

  beside : orthogonal n F G ≡ true ↔ Orthogonal n F G
  beside = orthogonal_test n F G

  -- a case that says what is so is the one found
  found : (c : Comparison) → Says c → comparison n F G ≡ c
  unfolding comparison
  found is_equivalent h = rw (below.1 h.to, above.1 h.from)
  found is_finer h = rw (below.1 h.0, not_passed above h.1)
  found is_coarser h = rw (not_passed below h.1, above.1 h.0)
  found is_orthogonal h = rw (not_passed below h.1, not_passed above h.2, beside.1 h.0)
  found not_orthogonal h = rw (not_passed below h.1, not_passed above h.2, not_passed beside h.0)

  -- and the one found says what is so
  says : Says (comparison n F G)
  unfolding comparison
  says = go (finer n F G) (finer n G F) (orthogonal n F G) refl refl refl
    where
      go : (a b o : Bool) → finer n F G ≡ a → finer n G F ≡ b → orthogonal n F G ≡ o → Says (first_fitting a b o)
      go true true o e f g = record { to = below.0 e; from = above.0 f }
      go true false o e f g = (below.0 e, not_held above f)
      go false true o e f g = (above.0 f, not_held below e)
      go false false true e f g = (beside.0 g, not_held below e, not_held above f)
      go false false false e f g = (not_held beside g, not_held below e, not_held above f)

  comparison_says : (c : Comparison) → comparison n F G ≡ c ↔ Says c
  comparison_says c = (λ e. subst Says e says, found c)

  -- ---- each case, said of the factors

  pub comparison_equivalent : comparison n F G ≡ is_equivalent ↔ Equivalent n F G
  comparison_equivalent = comparison_says is_equivalent

  pub comparison_finer : comparison n F G ≡ is_finer ↔ (Finer n F G × (Finer n G F → ⊥))
  comparison_finer = comparison_says is_finer

  pub comparison_coarser : comparison n F G ≡ is_coarser ↔ (Finer n G F × (Finer n F G → ⊥))
  comparison_coarser = comparison_says is_coarser

  -- "orthogonal without either being finer"
  pub comparison_orthogonal : comparison n F G ≡ is_orthogonal ↔ (Orthogonal n F G × (Finer n F G → ⊥) × (Finer n G F → ⊥))
  comparison_orthogonal = comparison_says is_orthogonal

  module _ (l_f : length F ≡ n) (l_g : length G ≡ n) where
    nested : Finer n F G → Orthogonal n F G
    nested = nested_orthogonal n F G l_f l_g

    nested_back : Finer n G F → Orthogonal n F G
    nested_back h = orthogonal_sym n G F l_g l_f (nested_orthogonal n G F l_g l_f h)

    pub comparison_not_orthogonal : comparison n F G ≡ not_orthogonal ↔ (Orthogonal n F G → ⊥)
    comparison_not_orthogonal = (
      λ e. ((comparison_says not_orthogonal).0 e).0,
      λ h. found not_orthogonal (h, λ f. h (nested f), λ f. h (nested_back f)),
    )

    -- the comparison passes exactly where the test of orthogonality does
    pub comparison_passes : orthogonal n F G ≡ passes (comparison n F G)
    comparison_passes = go (comparison n F G) says
      where
        go : (c : Comparison) → Says c → orthogonal n F G ≡ passes c
        go is_equivalent h = beside.1 (nested h.to)
        go is_finer h = beside.1 (nested h.0)
        go is_coarser h = beside.1 (nested_back h.0)
        go is_orthogonal h = beside.1 h.0
        go not_orthogonal h = not_passed beside h.0
