-- Laws of the place of a column's name, field by field, and of the bytes there.
-- Assumes nothing.
use mathlib.Core.Path.{◌≡◌, refl, sym, ap, ◌∙◌, subst}
use mathlib.Core.Bool.{true, false, ◌||◌}
use mathlib.Core.List.{List, [], ◌∷◌}
use Prim.Native.Nat.{ℕ, zero, suc, ◌+◌, ◌≤◌, ◌<◌, min}
use native.Mathlib.Omega.{arith}
use lib.Dec.{eqb, ltb}
use lib.ListN.{length, get_or, drop, length-drop}
use lib.Seq.{slice, drop-drop}
use borrow.Author.Tests.{ltb-true, ltb-false}
use Rattle.rules.specs.Sheet.{Field, up_to, fields, is_kind, column_names, header}
use Rattle.rules.proofs.Numbering.{by_cases}
use Rattle.sheet.specs.Walk.{field_of}
use Rattle.sheet.specs.Answers.{past_mark, span_from, column_span}
use Rattle.std.specs.Prelude.{Option, Some, None}
use Rattle.sheet.specs.declared.header.Span.{Span}
use Rattle.sheet.proofs.Stops.{Stop, at_tab, at_newline, at_end, stop, field_part, field_next}
use Rattle.sheet.proofs.Walk.{slice_none}
use Rattle.sheet.proofs.HeaderLaws.{name_part, newline_here, tab_here, end_here}

-- ---- a field more

module _ (mark at : ℕ) (f : Field) (R : List Field) where
  span_here : is_kind mark f ≡ true → span_from mark 0 at (f ∷ R) ≡ Some (past_mark at (at + length f))
  unfolding span_from
  span_here e = rw (e, span_from)

  span_past : (k : ℕ) → is_kind mark f ≡ true → span_from mark (suc k) at (f ∷ R) ≡ span_from mark k (suc (at + length f)) R
  unfolding span_from
  span_past k e = rw (e, span_from)

  span_other : (k : ℕ) → is_kind mark f ≡ false → span_from mark k at (f ∷ R) ≡ span_from mark k (suc (at + length f)) R
  unfolding span_from
  span_other zero e = rw (e, span_from)
  span_other (suc k) e = rw (e, span_from)

no_span_lem : (mark k at : ℕ) → span_from mark k at [] ≡ None
unfolding span_from
no_span_lem mark k at = refl

field_short : (xs : List ℕ) → length (field_of xs) ≤ length xs
unfolding field_of
field_short [] = omega arith
field_short (x ∷ xs) = by_cases (eqb x 9 || eqb x 10) (λ e. rw (e, field_of) (omega arith)) (λ e. rw (e, field_of) (omega (arith, field_short xs)))

-- the whole line
pub span_start : (mark c : ℕ) (text : List ℕ) → span_from mark c 0 (header text) ≡ column_span mark c text
unfolding column_span
span_start mark c text = refl

-- ---- the walk: the place e where the field that starts at `at` ends

module _ (text : List ℕ) (at e : ℕ) (d : e ≡ at + length (field_of (drop at text))) where
  pub end_inside : at ≤ length text → e ≤ length text
  end_inside h = omega (arith, field_short (drop at text), length-drop at text)

  whole : at + length (slice at e text) ≡ e
  whole = rw (field_part text at e d) (sym d)

  pub span_first : (mark : ℕ) → is_kind mark (slice at e text) ≡ true → span_from mark 0 at (header (drop at text)) ≡ Some (past_mark at e)
  unfolding header
  span_first mark k = go (stop (drop at text))
    where
      one : (R : List Field) → fields (up_to 10 (drop at text)) ≡ field_of (drop at text) ∷ R → span_from mark 0 at (fields (up_to 10 (drop at text))) ≡ Some (past_mark at e)
      one R p = rw (p, ← (field_part text at e d)) (span_here mark at (slice at e text) R k ∙ ap (λ (x : ℕ). Some (past_mark at x)) whole)

      go : Stop (drop at text) → span_from mark 0 at (fields (up_to 10 (drop at text))) ≡ Some (past_mark at e)
      go (at_tab r) = one _ r.parts
      go (at_newline r) = one [] r.parts
      go (at_end r) = one [] r.parts

  -- the fields after the first are R: column k is column j of these
  abbrev pub Passed : ℕ → ℕ → ℕ → Type 0
  Passed mark k j = (R : List Field) → span_from mark k at (slice at e text ∷ R) ≡ span_from mark j (suc e) R

  pub passed_kind : (mark j : ℕ) → is_kind mark (slice at e text) ≡ true → Passed mark (suc j) j
  passed_kind mark j k R = span_past mark at (slice at e text) R j k ∙ ap (λ (x : ℕ). span_from mark j (suc x) R) whole

  pub passed_other : (mark j : ℕ) → is_kind mark (slice at e text) ≡ false → Passed mark j j
  passed_other mark j k R = span_other mark at (slice at e text) R j k ∙ ap (λ (x : ℕ). span_from mark j (suc x) R) whole

  module _ (mark k j : ℕ) (t : Passed mark k j) where
    last : fields (up_to 10 (drop at text)) ≡ field_of (drop at text) ∷ [] → span_from mark k at (header (drop at text)) ≡ None
    unfolding header
    last p = rw (p, ← (field_part text at e d)) (t [] ∙ no_span_lem mark j (suc e))

    pub span_unended : length text ≤ e → span_from mark k at (header (drop at text)) ≡ None
    span_unended h = last (end_here text at e d h).parts

    pub span_last : e < length text → get_or text e 0 ≡ 10 → span_from mark k at (header (drop at text)) ≡ None
    span_last h b = last (newline_here text at e d h b).parts

    pub span_on : e < length text → (get_or text e 0 ≡ 10 → ⊥) → span_from mark k at (header (drop at text)) ≡ span_from mark j (e + 1) (header (drop (e + 1) text))
    unfolding header
    span_on h b =
        let next : suc e ≡ e + 1 = omega arith in
        rw ((tab_here text at e d h b).parts, field_next text at e d, ← (field_part text at e d)) (t (fields (up_to 10 (drop (e + 1) text))) ∙ ap (λ (x : ℕ). span_from mark j x (fields (up_to 10 (drop (e + 1) text)))) next)

-- ---- the bytes there are the column's name

module _ (mark : ℕ) (f : Field) (R : List Field) where
  names_here : is_kind mark f ≡ true → get_or (column_names mark (f ∷ R)) 0 [] ≡ drop 2 f
  unfolding column_names
  names_here e = rw (e, column_names)

  names_past : (k : ℕ) → is_kind mark f ≡ true → get_or (column_names mark (f ∷ R)) (suc k) [] ≡ get_or (column_names mark R) k []
  unfolding column_names
  names_past k e = rw (e, column_names)

  names_other : (k : ℕ) → is_kind mark f ≡ false → get_or (column_names mark (f ∷ R)) k [] ≡ get_or (column_names mark R) k []
  unfolding column_names
  names_other k e = rw (e, column_names)

no_names : (mark k : ℕ) → get_or (column_names mark []) k [] ≡ []
unfolding column_names
no_names mark k = refl

-- the name of a field: past the two bytes of its kind, or none
name_span : (text : List ℕ) (at e : ℕ) → slice (min (at + 2) e) e text ≡ drop 2 (slice at e text)
name_span text at e =
    by_cases (ltb e (at + 2))
    (λ h.
    let l = ltb-true e (at + 2) h in
    let m : min (at + 2) e ≡ e = omega arith in
    rw m (slice_none text e e (omega arith) ∙ sym (name_part text at e ∙ slice_none text (at + 2) e (omega arith))))
    (λ h.
    let l = ltb-false e (at + 2) h in
    let m : min (at + 2) e ≡ at + 2 = omega arith in
    rw m (sym (name_part text at e)))

module _ (text : List ℕ) where
  -- these fields stand in the text from `at` on
  abbrev Stand : ℕ → List Field → Type 0
  Stand at [] = Unit {0}
  Stand at (f ∷ fs) = (at ≤ length text) × (header (drop at text) ≡ f ∷ fs)

  next_field : (at : ℕ) (f : Field) (fs : List Field) → Stand at (f ∷ fs) → (f ≡ field_of (drop at text)) × Stand (suc (at + length f)) fs
  unfolding header
  next_field at f fs s = go (stop (drop at text))
    where
      first : (R : List Field) → fields (up_to 10 (drop at text)) ≡ field_of (drop at text) ∷ R → (f ≡ field_of (drop at text)) × (fs ≡ R)
      first R p = let e = sym s.1 ∙ p in (ap (λ (l : List Field). get_or l 0 []) e, ap (drop 1) e)

      none : fs ≡ [] → Stand (suc (at + length f)) fs
      none e = rw e tt

      some : f ≡ field_of (drop at text) → length (field_of (drop at text)) < length (drop at text) → (gs : List Field) → gs ≡ fields (up_to 10 (drop (suc (length (field_of (drop at text)))) (drop at text))) → Stand (suc (at + length f)) gs
      some e l [] q = tt
      some e l (g ∷ gs) q =
          let k : suc (at + length f) ≡ at + suc (length (field_of (drop at text))) = omega (arith, ap length e) in
          (omega (arith, ap length e, length-drop at text), rw k (rw (drop-drop (suc (length (field_of (drop at text)))) at text) at (sym q)))

      go : Stop (drop at text) → (f ≡ field_of (drop at text)) × Stand (suc (at + length f)) fs
      go (at_tab r) = let e = first _ r.parts in (e.0, some e.0 r.less fs e.1)
      go (at_newline r) = let e = first [] r.parts in (e.0, none e.1)
      go (at_end r) = let e = first [] r.parts in (e.0, none e.1)

  -- a part of the text that is so many bytes
  pub record Part (s : Span) (bytes : List ℕ) : Type 0 where
    pub ordered : s.start ≤ s.end
    pub inside : s.end ≤ length text
    pub is : slice s.start s.end text ≡ bytes

  -- no bytes where there is no column
  abbrev Told : Option Span → List ℕ → Type 0
  Told (Some s) bytes = Part s bytes
  Told None bytes = bytes ≡ []

  named : (mark c at : ℕ) (fs : List Field) → Stand at fs → Told (span_from mark c at fs) (get_or (column_names mark fs) c [])
  named mark c at [] s = rw (no_span_lem mark c at) (no_names mark c)
  named mark c at (f ∷ fs) s =
      by_cases (is_kind mark f)
      (kind c (λ k. named mark k (suc (at + length f)) fs w.1))
      (λ e. rw (span_other mark at f fs c e, names_other mark f fs c e) (named mark c (suc (at + length f)) fs w.1))
    where
      w : (f ≡ field_of (drop at text)) × Stand (suc (at + length f)) fs
      w = next_field at f fs s

      kind : (c : ℕ) → ((k : ℕ) → Told (span_from mark k (suc (at + length f)) fs) (get_or (column_names mark fs) k [])) → is_kind mark f ≡ true → Told (span_from mark c at (f ∷ fs)) (get_or (column_names mark (f ∷ fs)) c [])
      kind zero later e =
          let l = ap length w.0 in
          rw (span_here mark at f fs e, names_here mark f fs e) (record {
            ordered = omega arith;
            inside = omega (arith, field_short (drop at text), length-drop at text);
            is = name_span text at (at + length f) ∙ ap (drop 2) (field_part text at (at + length f) (omega arith) ∙ sym w.0);
          })
      kind (suc c) later e = rw (span_past mark at f fs c e, names_past mark f fs c e) (later c)

  told : (mark c : ℕ) → Told (column_span mark c text) (get_or (column_names mark (header text)) c [])
  told mark c = rw (← (span_start mark c text)) (named mark c 0 (header text) (start (header text) refl))
    where
      start : (fs : List Field) → header text ≡ fs → Stand 0 fs
      start [] e = tt
      start (f ∷ fs) e = (omega arith, e)

  -- where the promise of `column_name` leads
  module _ (mark c : ℕ) where
    pub span_some : (s : Span) → column_span mark c text ≡ Some s → Part s (get_or (column_names mark (header text)) c [])
    span_some s e = subst (λ (o : Option Span). Told o (get_or (column_names mark (header text)) c [])) e (told mark c)

    pub span_none : column_span mark c text ≡ None → get_or (column_names mark (header text)) c [] ≡ []
    span_none e = subst (λ (o : Option Span). Told o (get_or (column_names mark (header text)) c [])) e (told mark c)
