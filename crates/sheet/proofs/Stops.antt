-- Where a field ends, and what that says of its line: at a tab the line goes on, at a newline it ends, at the text's end it is unended.
-- Assumes nothing.
use mathlib.Core.Path.{◌≡◌, refl, sym, ap, ◌∙◌, subst}
use mathlib.Core.Bool.{Bool, true, false, ◌||◌}
use mathlib.Core.List.{List, [], ◌∷◌}
use Prim.Native.Nat.{ℕ, zero, suc, ◌+◌, ◌-◌, ◌≤◌, ◌<◌}
use native.Mathlib.Omega.{arith}
use native.Mathlib.Nat.{zero-add, suc-add}
use lib.Dec.{eqb}
use lib.ListN.{length, get_or, take, drop}
use lib.Seq.{slice, take-nil, drop-drop, get_or-take, get_or-drop}
use borrow.Author.Tests.{eqb-true}
use Rattle.rules.specs.Sheet.{up_to, past, has, fields, widen, lines, extend}
use Rattle.rules.proofs.Numbering.{by_cases}
use Rattle.sheet.specs.Walk.{field_of}

-- ---- one byte that is neither a tab nor a newline

module _ (x : ℕ) (xs : List ℕ) (p : eqb x 9 ≡ false) (q : eqb x 10 ≡ false) where
  on_field : field_of (x ∷ xs) ≡ x ∷ field_of xs
  unfolding field_of
  on_field = rw (p, q, field_of)

  on_fields : fields (x ∷ xs) ≡ widen x (fields xs)
  unfolding fields
  on_fields = rw (p, fields)

  on_line : up_to 10 (x ∷ xs) ≡ x ∷ up_to 10 xs
  unfolding up_to
  on_line = rw (q, up_to)

  on_has : has 10 (x ∷ xs) ≡ has 10 xs
  unfolding has
  on_has = rw (q, has)

-- ---- where the field that xs starts with ends

abbrev rest : List ℕ → List ℕ
rest xs = drop (suc (length (field_of xs))) xs

pub record AtTab (xs : List ℕ) : Type 0 where
  pub less : length (field_of xs) < length xs
  pub byte : get_or xs (length (field_of xs)) 0 ≡ 9
  pub parts : fields (up_to 10 xs) ≡ field_of xs ∷ fields (up_to 10 (drop (suc (length (field_of xs))) xs))
  pub ends : has 10 xs ≡ has 10 (drop (suc (length (field_of xs))) xs)
  pub size : length (up_to 10 xs) ≡ suc (length (field_of xs)) + length (up_to 10 (drop (suc (length (field_of xs))) xs))

pub record AtNewline (xs : List ℕ) : Type 0 where
  pub less : length (field_of xs) < length xs
  pub byte : get_or xs (length (field_of xs)) 0 ≡ 10
  pub parts : fields (up_to 10 xs) ≡ field_of xs ∷ []
  pub ends : has 10 xs ≡ true
  pub size : length (up_to 10 xs) ≡ length (field_of xs)

pub record AtEnd (xs : List ℕ) : Type 0 where
  pub all_of_it : length xs ≤ length (field_of xs)
  pub parts : fields (up_to 10 xs) ≡ field_of xs ∷ []
  pub ends : has 10 xs ≡ false

pub data Stop (xs : List ℕ) : Type 0 where
  at_tab : AtTab xs → Stop xs
  at_newline : AtNewline xs → Stop xs
  at_end : AtEnd xs → Stop xs

here_tab : (xs : List ℕ) → AtTab (9 ∷ xs)
unfolding field_of fields up_to has
here_tab xs = record { less = omega arith; byte = refl; parts = refl; ends = refl; size = omega arith }

here_newline : (xs : List ℕ) → AtNewline (10 ∷ xs)
unfolding field_of fields up_to has
here_newline xs = record { less = omega arith; byte = refl; parts = refl; ends = refl; size = refl }

module _ (x : ℕ) (xs : List ℕ) (p : eqb x 9 ≡ false) (q : eqb x 10 ≡ false) where
  on : Stop xs → Stop (x ∷ xs)
  unfolding widen
  on (at_tab r) = at_tab record {
    less = rw (on_field x xs p q) (omega (arith, r.less));
    byte = rw (on_field x xs p q) r.byte;
    parts = rw (on_field x xs p q, on_line x xs p q, on_fields x (up_to 10 xs) p q, r.parts);
    ends = rw (on_field x xs p q, on_has x xs p q) r.ends;
    size = rw (on_field x xs p q, on_line x xs p q) (omega (arith, r.size));
  }
  on (at_newline r) = at_newline record {
    less = rw (on_field x xs p q) (omega (arith, r.less));
    byte = rw (on_field x xs p q) r.byte;
    parts = rw (on_field x xs p q, on_line x xs p q, on_fields x (up_to 10 xs) p q, r.parts);
    ends = on_has x xs p q ∙ r.ends;
    size = rw (on_field x xs p q, on_line x xs p q) (omega (arith, r.size));
  }
  on (at_end r) = at_end record {
    all_of_it = rw (on_field x xs p q) (omega (arith, r.all_of_it));
    parts = rw (on_field x xs p q, on_line x xs p q, on_fields x (up_to 10 xs) p q, r.parts);
    ends = on_has x xs p q ∙ r.ends;
  }

pub stop : (xs : List ℕ) → Stop xs
unfolding field_of fields up_to has
stop [] = at_end record { all_of_it = omega arith; parts = refl; ends = refl }
stop (x ∷ xs) = go (eqb x 9) refl (eqb x 10) refl (stop xs)
  where
    go : (b : Bool) → eqb x 9 ≡ b → (d : Bool) → eqb x 10 ≡ d → Stop xs → Stop (x ∷ xs)
    go true p d q s = at_tab (subst (λ (y : ℕ). AtTab (y ∷ xs)) (sym (eqb-true x 9 p)) (here_tab xs))
    go false p true q s = at_newline (subst (λ (y : ℕ). AtNewline (y ∷ xs)) (sym (eqb-true x 10 q)) (here_newline xs))
    go false p false q s = on x xs p q s

-- ---- the field as a part of the text

drop_take : (m k : ℕ) (l : List ℕ) → drop m (take (m + k) l) ≡ take k (drop m l)
drop_take zero k l = rw zero-add
drop_take (suc m) k [] = rw suc-add (sym (take-nil k))
drop_take (suc m) k (x ∷ l) = rw suc-add (drop_take m k l)

-- a part handed on
pub part_slice : (a e : ℕ) (l : List ℕ) → a ≤ e → take (e - a) (drop a l) ≡ slice a e l
part_slice a e l h =
    let z : a + (e - a) ≡ e = omega arith in
    sym (drop_take a (e - a) l) ∙ ap (λ (k : ℕ). drop a (take k l)) z

take_field : (xs : List ℕ) → take (length (field_of xs)) xs ≡ field_of xs
unfolding field_of
take_field [] = refl
take_field (x ∷ xs) = go (eqb x 9 || eqb x 10) refl (take_field xs)
  where
    go : (b : Bool) → eqb x 9 || eqb x 10 ≡ b → take (length (field_of xs)) xs ≡ field_of xs → take (length (field_of (x ∷ xs))) (x ∷ xs) ≡ field_of (x ∷ xs)
    go true p e = rw (p, field_of)
    go false p e = rw (p, field_of) (ap (λ (r : List ℕ). x ∷ r) e)

slice_field : (xs : List ℕ) (at : ℕ) → drop at (take (at + length (field_of (drop at xs))) xs) ≡ field_of (drop at xs)
slice_field xs at = drop_take at (length (field_of (drop at xs))) xs ∙ take_field (drop at xs)

-- a byte of the field
pub field_get : (text : List ℕ) (at k : ℕ) → k < length (field_of (drop at text)) → get_or (field_of (drop at text)) k 0 ≡ get_or text (at + k) 0
field_get text at k h =
    ap (λ (f : List ℕ). get_or f k 0) (sym (take_field (drop at text)))
    ∙ get_or-take (length (field_of (drop at text))) (drop at text) k 0 h ∙ get_or-drop at text k 0

-- by the place e where the field that starts at `at` ends
module _ (text : List ℕ) (at e : ℕ) (d : e ≡ at + length (field_of (drop at text))) where
  pub field_byte : get_or text e 0 ≡ get_or (drop at text) (length (field_of (drop at text))) 0
  field_byte = rw d (sym (get_or-drop at text (length (field_of (drop at text))) 0))

  pub field_part : slice at e text ≡ field_of (drop at text)
  field_part = rw d (slice_field text at)

  -- as it is handed on
  pub field_cut : take (e - at) (drop at text) ≡ field_of (drop at text)
  field_cut =
      let k : e - at ≡ length (field_of (drop at text)) = omega arith in
      ap (λ (k : ℕ). take k (drop at text)) k ∙ take_field (drop at text)

  pub field_next : drop (suc (length (field_of (drop at text)))) (drop at text) ≡ drop (e + 1) text
  field_next =
      let k : at + suc (length (field_of (drop at text))) ≡ e + 1 = omega arith in
      drop-drop (suc (length (field_of (drop at text)))) at text ∙ ap (λ (k : ℕ). drop k text) k

-- ---- lines

-- what stands after the first b
pub past_drop : (b : ℕ) (xs : List ℕ) → past b xs ≡ drop (suc (length (up_to b xs))) xs
unfolding past up_to
past_drop b [] = refl
past_drop b (x ∷ xs) = by_cases (eqb x b) (λ e. rw (e, past, up_to)) (λ e. rw (e, past, up_to) (past_drop b xs))

pub lines_cons : (x : ℕ) (xs : List ℕ) → lines (x ∷ xs) ≡ record { bytes = up_to 10 (x ∷ xs); ended = has 10 (x ∷ xs) } ∷ lines (past 10 (x ∷ xs))
unfolding lines extend up_to has past
lines_cons x [] = go (eqb x 10) refl
  where
    go : (b : Bool) → eqb x 10 ≡ b → lines (x ∷ []) ≡ record { bytes = up_to 10 (x ∷ []); ended = has 10 (x ∷ []) } ∷ lines (past 10 (x ∷ []))
    go true p = rw (p, lines, up_to, has, past)
    go false p = rw (p, lines, up_to, has, past)
lines_cons x (y ∷ ys) = go (eqb x 10) refl (lines_cons y ys)
  where
    go : (b : Bool) → eqb x 10 ≡ b → lines (y ∷ ys) ≡ record { bytes = up_to 10 (y ∷ ys); ended = has 10 (y ∷ ys) } ∷ lines (past 10 (y ∷ ys))
        → lines (x ∷ y ∷ ys) ≡ record { bytes = up_to 10 (x ∷ y ∷ ys); ended = has 10 (x ∷ y ∷ ys) } ∷ lines (past 10 (x ∷ y ∷ ys))
    go true p e = rw (p, lines, up_to, has, past)
    go false p e = rw (p, lines, up_to, has, past) (rw e)
