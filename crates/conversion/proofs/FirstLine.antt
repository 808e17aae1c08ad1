-- Laws of a walk over the first line of an old sheet, field by field.
-- Assumes nothing.
use mathlib.Core.Path.{◌≡◌, refl, sym, ap, ap₂, ◌∙◌, subst}
use mathlib.Core.Bool.{Bool, true, false, ◌&&◌}
use mathlib.Core.List.{List, [], ◌∷◌, ◌++◌, map, append_assoc}
use Prim.Native.Nat.{ℕ, suc, ◌+◌, ◌≤◌, ◌<◌}
use native.Mathlib.Nat.{not-suc-le-zero}
use native.Mathlib.Numerals.{add-one}
use native.Mathlib.Omega.{arith}
use lib.Dec.{eqb, ltb}
use lib.ListN.{length, get_or, drop}
use lib.Seq.{drop-cons, drop-drop}
use Rattle.rules.specs.Factor.{index_of}
use Rattle.rules.specs.Sheet.{Field, newline, tab, up_to, past, has, all, same_bytes, joined, header}
use Rattle.rules.specs.Parents.{slash, without_parent, slash_form, plain_header, parent_place, parents_left}
use borrow.Author.Tests.{eqb-true, eqb-false, ltb-true, ltb-false, lt-ltb, le-ltb}
use Rattle.rules.proofs.Numbering.{by_cases, place_yes, place_no}
use Rattle.rules.proofs.Sheet.{and_false, same_equal, same_self, fields_some}
use Rattle.sheet.specs.Walk.{field_of}
use Rattle.sheet.proofs.Stops.{field_next, past_drop}
use Rattle.sheet.proofs.HeaderLaws.{end_here, newline_here, tab_here, line_last, line_on}
use Rattle.conversion.specs.Plain.{plain_text, parent_of}
use Rattle.std.proofs.Common.{Option, Some, None}
use Rattle.std.specs.Option.{IfSome}

-- the place e where the field that starts at `at` ends
module _ (text : List ℕ) (at e : ℕ) (d : e ≡ at + length (field_of (drop at text))) where
  abbrev field : Field
  field = field_of (drop at text)

  -- the fields from here on: the last, or one and the others
  pub by_field : (P : List Field → Type 0) → P (field ∷ []) → P (field ∷ header (drop (e + 1) text)) → P (header (drop at text))
  unfolding header
  by_field P one more =
      by_cases (ltb e (length text))
      (λ l. let h = ltb-true e (length text) l in
      by_cases (eqb (get_or text e 0) 10)
      (λ q. subst P (sym (line_last text at e d h (eqb-true _ _ q))) one)
      (λ q. subst P (sym (line_on text at e d h (eqb-false _ _ q))) more))
      (λ l. subst P (sym (end_here text at e d (ltb-false e (length text) l)).parts) one)

  -- ---- the form of the slash parts

  abbrev pub formed : List ℕ → Bool
  formed xs = has newline xs && all slash_form (header xs)

  pub formed_end : length text ≤ e → formed (drop at text) ≡ false
  formed_end h = rw (end_here text at e d h).ends

  module _ (h : e < length text) where
    pub formed_no : slash_form field ≡ false → formed (drop at text) ≡ false
    unfolding all
    formed_no q = by_field (λ fs. has newline (drop at text) && all slash_form fs ≡ false) (rw (q, and_false (has newline (drop at text)))) (rw (q, and_false (has newline (drop at text))))

    pub formed_last : get_or text e 0 ≡ 10 → slash_form field ≡ true → formed (drop at text) ≡ true
    unfolding all
    formed_last b q = rw ((newline_here text at e d h b).ends, line_last text at e d h b, q)

    pub formed_on : (get_or text e 0 ≡ 10 → ⊥) → slash_form field ≡ true → formed (drop at text) ≡ formed (drop (e + 1) text)
    unfolding all
    formed_on b q = rw ((tab_here text at e d h b).ends, field_next text at e d, line_on text at e d h b, q)

    -- ---- the text without them

    rest_past : past newline (drop at text) ≡ drop (at + suc (length (up_to newline (drop at text)))) text
    rest_past = past_drop newline (drop at text) ∙ drop-drop (suc (length (up_to newline (drop at text)))) at text

    pub plain_last : get_or text e 0 ≡ 10 → plain_text (drop at text) ≡ without_parent field ++ drop e text
    unfolding plain_text plain_header joined
    plain_last b =
        let k : at + suc (length (up_to newline (drop at text))) ≡ suc e = omega (arith, (newline_here text at e d h b).size) in
        ap₂ (λ (fs : List Field) (r : List ℕ). joined (map without_parent fs) ++ newline ∷ r) (line_last text at e d h b) (rest_past ∙ ap (λ (i : ℕ). drop i text) k)
        ∙ ap (λ (x : ℕ). without_parent field ++ x ∷ drop (suc e) text) (sym b) ∙ ap (λ (r : List ℕ). without_parent field ++ r) (sym (drop-cons text e 0 h))

    pub plain_on : (get_or text e 0 ≡ 10 → ⊥) → plain_text (drop at text) ≡ without_parent field ++ (tab ∷ [] ++ plain_text (drop (e + 1) text))
    unfolding plain_text plain_header header
    plain_on b =
        let z = (tab_here text at e d h b).size in
        let n = ap (λ (r : List ℕ). length (up_to newline r)) (field_next text at e d) in
        let k : at + suc (length (up_to newline (drop at text))) ≡ e + 1 + suc (length (up_to newline (drop (e + 1) text))) = omega arith in
        ap₂ (λ (fs : List Field) (r : List ℕ). joined (map without_parent fs) ++ newline ∷ r) (line_on text at e d h b)
        (rest_past ∙ ap (λ (i : ℕ). drop i text) k ∙ sym (drop-drop (suc (length (up_to newline (drop (e + 1) text)))) (e + 1) text) ∙ sym (past_drop newline (drop (e + 1) text)))
        ∙ more (without_parent field) (header (drop (e + 1) text)) (newline ∷ past newline (drop (e + 1) text)) (fields_some (up_to newline (drop (e + 1) text)))
      where
        more : (f : Field) (fs : List Field) (r : List ℕ) → 1 ≤ length fs → joined (f ∷ map without_parent fs) ++ r ≡ f ++ (tab ∷ joined (map without_parent fs) ++ r)
        more f [] r s = absurd (not-suc-le-zero s)
        more f (g ∷ fs) r s = append_assoc f (tab ∷ joined (map without_parent (g ∷ fs))) r

  -- ---- the place of a field, and parents

  module _ (x : Field) where
    abbrev pub place_in : List ℕ → ℕ
    place_in xs = index_of same_bytes (header xs) x

    pub place_here : same_bytes field x ≡ true → place_in (drop at text) ≡ 0
    place_here q = by_field (λ fs. index_of same_bytes fs x ≡ 0) (place_yes same_bytes same_equal same_self field [] x q) (place_yes same_bytes same_equal same_self field (header (drop (e + 1) text)) x q)

    only : same_bytes field x ≡ false → header (drop at text) ≡ field ∷ [] → place_in (drop at text) ≡ 1
    unfolding index_of
    only q p = rw p (place_no same_bytes same_equal same_self field [] x q)

    pub place_end : length text ≤ e → same_bytes field x ≡ false → place_in (drop at text) ≡ 1
    unfolding header
    place_end h q = only q (end_here text at e d h).parts

    module _ (h : e < length text) (q : same_bytes field x ≡ false) where
      pub place_last : get_or text e 0 ≡ 10 → place_in (drop at text) ≡ 1
      place_last b = only q (line_last text at e d h b)

      pub place_on : (get_or text e 0 ≡ 10 → ⊥) → place_in (drop at text) ≡ suc (place_in (drop (e + 1) text))
      place_on b = rw (line_on text at e d h b) (place_no same_bytes same_equal same_self field (header (drop (e + 1) text)) x q)

-- ---- the places of parents

module _ (ps : List Field) where
  module _ (i : ℕ) (f : Field) (fs : List Field) where
    -- a parent further left, or none
    pub left_found : (parent : Option ℕ) → parent ≡ parent_of ps f → IfSome parent (λ p. p < i) → parents_left ps i (f ∷ fs) ≡ parents_left ps (i + 1) fs
    unfolding parents_left parent_of
    left_found parent e h =
        by_cases (has slash f)
        (λ s. let q : parent_of ps f ≡ Some (parent_place ps f) = rw (s, parent_of) in
        let l : parent_place ps f < i = subst (λ (o : Option ℕ). IfSome o (λ p. p < i)) (e ∙ q) h in rw (s, lt-ltb (parent_place ps f) i l, add-one))
        (λ s. rw (s, add-one))

    -- one that is not
    pub left_over : has slash f ≡ true → i ≤ parent_place ps f → parents_left ps i (f ∷ fs) ≡ false
    unfolding parents_left
    left_over s h = rw (s, le-ltb (parent_place ps f) i h)

  pub parent_none : (f : Field) → has slash f ≡ false → parent_of ps f ≡ None
  unfolding parent_of
  parent_none f s = rw (s, parent_of)

  pub parent_some : (f : Field) → has slash f ≡ true → parent_of ps f ≡ Some (parent_place ps f)
  unfolding parent_of
  parent_some f s = rw (s, parent_of)

  -- none is left
  pub left_all : (i : ℕ) → parents_left ps i [] ≡ true
  unfolding parents_left
  left_all i = refl
