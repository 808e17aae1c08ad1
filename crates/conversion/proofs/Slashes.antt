-- Laws of the slash of a field.
-- Assumes nothing.
use mathlib.Core.Path.{◌≡◌, refl, sym, ap, ◌∙◌}
use mathlib.Core.Bool.{true, false}
use mathlib.Core.List.{List, [], ◌∷◌}
use Prim.Native.Nat.{ℕ, ◌+◌, ◌≤◌, ◌<◌}
use native.Mathlib.Numerals.{add-one}
use native.Mathlib.Omega.{arith}
use lib.Dec.{eqb}
use lib.ListN.{length, take, drop}
use Rattle.std.proofs.Common.{Option, Some, None}
use Rattle.std.specs.List.{position, position_or_len, starts_with}
use Rattle.std.specs.Option.{unwrap_or}
use Rattle.std.proofs.lemmas.Grind.{common_steps}
use borrow.Author.Tests.{eq-eqb, ne_eqb, eqb-true, eqb-false}
use Rattle.rules.specs.Sheet.{Field, up_to, past, has, is_name, plot_mark, is_kind}
use Rattle.rules.specs.Parents.{slash, without_parent, slash_form}
use Rattle.rules.proofs.Numbering.{by_cases}
use Rattle.std.proofs.lemmas.Option.{none-some}
use Rattle.conversion.specs.Plain.{named_parent}
use Rattle.sheet.proofs.Stops.{past_drop}
use Rattle.sheet.proofs.FirstByte.{up_to_take, up_to_short, has_yes, has_no}

before_slash : (xs : List ℕ) → position_or_len (λ x. eqb x slash) xs ≡ length (up_to slash xs)
unfolding up_to
before_slash [] = refl
before_slash (x ∷ xs) = by_cases (eqb x slash) (λ e. rw (e, up_to)) (λ e. rw (e, up_to) (omega (arith, before_slash xs)))

kind_first : (f : Field) → is_kind plot_mark f ≡ starts_with eqb f (plot_mark ∷ [])
unfolding is_kind
kind_first [] = refl
kind_first (x ∷ f) = by_cases (eqb x plot_mark) (λ e. rw (e, eq-eqb plot_mark x (sym (eqb-true x plot_mark e)))) (λ e. rw (e, ne_eqb plot_mark x (λ z. eqb-false x plot_mark e (sym z))))

module _ (f : Field) where
  -- where there is none
  module _ (e : position (λ x. eqb x slash) f ≡ None) where
    past_end : length f ≤ length (up_to slash f)
    past_end = grind (arith, common_steps, before_slash f)

    pub slash_none : has slash f ≡ false
    slash_none = has_no slash f past_end

  -- where it stands at p
  module _ (p : ℕ) (e : position (λ x. eqb x slash) f ≡ Some p) where
    place_is : p ≡ length (up_to slash f)
    place_is = grind (arith, common_steps, before_slash f)

    pub place_inside : p < length f
    place_inside = grind (arith, common_steps)

    pub slash_some : has slash f ≡ true
    slash_some = has_yes slash f (omega (arith, place_is, place_inside))

    pub past_slash : drop (p + 1) f ≡ past slash f
    past_slash = ap (λ (m : ℕ). drop m f) (ap (λ (m : ℕ). m + 1) place_is ∙ add-one (length (up_to slash f))) ∙ sym (past_drop slash f)

  -- what stands before it
  pub before_place : (o : Option ℕ) → o ≡ position (λ x. eqb x slash) f → take (unwrap_or o (length f)) f ≡ without_parent f
  before_place o e =
      let k : unwrap_or o (length f) ≡ length (up_to slash f) = grind (arith, common_steps, before_slash f, up_to_short slash f) in
      ap (λ (m : ℕ). take m f) k ∙ up_to_take slash f

  -- its form, where there is one and where there is none
  pub form_none : has slash f ≡ false → slash_form f ≡ true
  unfolding slash_form
  form_none h = rw h

  module _ (h : has slash f ≡ true) where
    pub form_kind : starts_with eqb f (plot_mark ∷ []) ≡ false → slash_form f ≡ false
    unfolding slash_form
    form_kind e = rw (h, kind_first f ∙ e)

    pub form_name : starts_with eqb f (plot_mark ∷ []) ≡ true → slash_form f ≡ is_name (past slash f)
    unfolding slash_form
    form_name e = rw (h, kind_first f ∙ e)

-- the name after the slash
pub parent_named : (f : Field) (p : ℕ) → position (λ x. eqb x slash) f ≡ Some p → Some (drop (p + 1) f) ≡ named_parent f
parent_named f p e = ap Some (past_slash f p e) ∙ sym (rw (slash_some f p e, named_parent))

pub no_parent_named : (f : Field) → position (λ x. eqb x slash) f ≡ None → None ≡ named_parent f
no_parent_named f e = sym (rw (slash_none f e, named_parent))

-- whether there is one
pub told_slash : (f : Field) (name : List ℕ) → Some name ≡ named_parent f → (has slash f ≡ true) × (name ≡ past slash f)
told_slash f name e =
    by_cases (has slash f)
    (λ s. (s, told (rw (s, named_parent) at e)))
    (λ s. absurd (none-some name (sym (rw (s, named_parent) at e))))
  where
    told : Some name ≡ Some (past slash f) → name ≡ past slash f
    told k = cc

pub told_no_slash : (f : Field) → None ≡ named_parent f → has slash f ≡ false
told_no_slash f e = by_cases (has slash f) (λ s. absurd (none-some (past slash f) (rw (s, named_parent) at e))) (λ s. s)
