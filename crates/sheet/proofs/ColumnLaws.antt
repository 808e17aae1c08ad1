-- Laws of one column of the first line.
-- Assumes nothing.
use mathlib.Core.Path.{◌≡◌, refl, sym, ap, ap₂, ◌∙◌}
use mathlib.Core.Bool.{Bool, true, false, ◌&&◌}
use mathlib.Core.List.{List, [], ◌∷◌}
use Prim.Native.Nat.{ℕ, ◌+◌, ◌-◌, ◌≤◌, ◌<◌, min}
use native.Mathlib.Omega.{arith}
use native.Mathlib.Nat.{add-zero}
use lib.Dec.{eqb, ltb, leb}
use lib.ListN.{length, get_or, take, drop, length-drop, length-take}
use lib.Seq.{take_all}
use borrow.Author.Tests.{ltb-true, ltb-false, lt-ltb, le-ltb, leb-true}
use Rattle.std.specs.Prelude.{Some, None}
use Rattle.std.specs.Bool.{then_some}
use Rattle.rules.specs.Sheet.{Field, all, letter as isLetter, letter_or_digit, within, is_name, is_column}
use Rattle.rules.proofs.Sheet.{and_left, and_right}
use Rattle.rules.proofs.Members.{clash}
use Rattle.rules.proofs.Numbering.{by_cases}
use Rattle.sheet.specs.Walk.{field_of, is_mark, column_there, column_end}
use Rattle.sheet.proofs.Stops.{field_get, field_cut, part_slice}
use Rattle.sheet.proofs.Walk.{field_take}

-- a mark, a colon and a name
pub column_long : (f : Field) → is_column f ≡ true → 4 ≤ length f
unfolding is_column is_name all
column_long [] e = clash e refl
column_long (x ∷ []) e = clash e refl
column_long (x ∷ y ∷ []) e = clash (and_right (is_mark x && eqb y 58) false e) refl
column_long (x ∷ y ∷ z ∷ []) e =
    let n = and_right (is_mark x && eqb y 58) (is_name (z ∷ [])) e in
    clash (and_right (isLetter z) (within 1 11 0) (and_left (isLetter z && within 1 11 0) true n)) refl
column_long (x ∷ y ∷ z ∷ w ∷ f) e = omega arith

-- it has at most 14 bytes
pub column_few : (f : Field) → is_column f ≡ true → length f ≤ 14
unfolding is_column is_name
column_few [] e = omega arith
column_few (x ∷ []) e = omega arith
column_few (x ∷ y ∷ []) e = omega arith
column_few (x ∷ y ∷ z ∷ f) e =
    let n = and_right (is_mark x && eqb y 58) (is_name (z ∷ f)) e in
    let w = and_right (isLetter z) (within 1 11 (length f)) (and_left (isLetter z && within 1 11 (length f)) (all letter_or_digit f) n) in
    let l = leb-true (length f) 11 (and_right (leb 1 (length f)) (leb (length f) 11) w) in
    omega arith

-- a column in the text
pub record Column (text : List ℕ) (start : ℕ) : Type 0 where
  pub ended : start + length (field_of (drop start text)) < length text
  pub is : is_column (field_of (drop start text)) ≡ true
  pub long : 4 ≤ length (field_of (drop start text))
  pub first : get_or (field_of (drop start text)) 0 0 ≡ get_or text start 0

module _ (text : List ℕ) (start : ℕ) where
  pub column_there_lem : column_there (drop start text) ≡ true → Column text start
  unfolding column_there
  column_there_lem e =
      let f = field_of (drop start text) in
      let l = ltb-true (length f) (length (drop start text)) (and_left (ltb (length f) (length (drop start text))) (is_column f) e) in
      let is = and_right (ltb (length f) (length (drop start text))) (is_column f) e in
      let k = column_long f is in
      record {
        ended = omega (arith, length-drop start text);
        is = is;
        long = k;
        first = field_get text start 0 (omega arith) ∙ rw (add-zero start);
      }

  -- by the place e where the field ends
  module _ (e : ℕ) (d : e ≡ start + length (field_of (drop start text))) where
    pub there_ended : e < length text → column_there (drop start text) ≡ is_column (take (e - start) (drop start text))
    unfolding column_there
    there_ended h = rw (lt-ltb (length (field_of (drop start text))) (length (drop start text)) (omega (arith, length-drop start text)), field_cut text start e d)

    pub there_unended : length text ≤ e → column_there (drop start text) ≡ false
    unfolding column_there
    there_unended h = rw (le-ltb (length (field_of (drop start text))) (length (drop start text)) (omega (arith, length-drop start text)))

    pub column_end_is : then_some (column_there (drop start text)) e ≡ column_end start (drop start text)
    unfolding column_end
    column_end_is = by_cases (column_there (drop start text)) (λ c. rw (c, column_end, d)) (λ c. rw (c, column_end))

  -- what the answer tells
  column_end_at : column_there (drop start text) ≡ true → column_end start (drop start text) ≡ Some (start + length (field_of (drop start text)))
  unfolding column_end
  column_end_at c = rw (c, column_end)

  column_end_off : column_there (drop start text) ≡ false → column_end start (drop start text) ≡ None
  unfolding column_end
  column_end_off c = rw (c, column_end)

  pub column_end_none : None ≡ column_end start (drop start text) → column_there (drop start text) ≡ false
  column_end_none n = by_cases (column_there (drop start text)) (λ c. let y = column_end_at c in cc) (λ c. c)

  pub column_end_some : (e : ℕ) → Some e ≡ column_end start (drop start text) → (column_there (drop start text) ≡ true) × (e ≡ start + length (field_of (drop start text)))
  column_end_some e s = by_cases (column_there (drop start text)) (λ c. (c, (let y = column_end_at c in cc))) (λ c. let n = column_end_off c in cc)

-- ---- a column and the byte after it stand in the first 15 bytes

end_is : (at : ℕ) (xs : List ℕ) → column_end at xs ≡ then_some (column_there xs) (at + length (field_of xs))
unfolding column_end
end_is at xs = by_cases (column_there xs) (λ c. rw (c, column_end)) (λ c. rw (c, column_end))

module _ (n : ℕ) (xs : List ℕ) (h : n ≡ min 15 (length xs)) where
  -- the field ends there
  module _ (l : length (field_of xs) < n) where
    near_field : field_of (take n xs) ≡ field_of xs
    near_field = field_take n xs ∙ take_all n (field_of xs) (omega arith)

    near_there : column_there (take n xs) ≡ column_there xs
    unfolding column_there
    near_there = rw (near_field, lt-ltb (length (field_of xs)) (length (take n xs)) (omega (arith, length-take n xs)), lt-ltb (length (field_of xs)) (length xs) (omega arith))

    near_on : (at : ℕ) → column_end at (take n xs) ≡ column_end at xs
    near_on at = end_is at (take n xs) ∙ ap₂ (λ (b : Bool) (f : Field). then_some b (at + length f)) near_there near_field ∙ sym (end_is at xs)

  -- it does not
  module _ (l : n ≤ length (field_of xs)) where
    near_none : column_there (take n xs) ≡ false
    unfolding column_there
    near_none = rw (le-ltb (length (field_of (take n xs))) (length (take n xs)) (rw field_take (omega (arith, length-take n xs, length-take n (field_of xs)))))

    far_none : column_there xs ≡ false
    unfolding column_there
    far_none = by_cases (column_there xs) (λ e. absurd (no e)) (λ e. e)
      where
        no : (ltb (length (field_of xs)) (length xs) && is_column (field_of xs)) ≡ true → ⊥
        no e =
            let s = ltb-true (length (field_of xs)) (length xs) (and_left (ltb (length (field_of xs)) (length xs)) (is_column (field_of xs)) e) in
            let k = column_few (field_of xs) (and_right (ltb (length (field_of xs)) (length xs)) (is_column (field_of xs)) e) in
            omega arith

    near_off : (at : ℕ) → column_end at (take n xs) ≡ column_end at xs
    near_off at =
        end_is at (take n xs)
        ∙ ap (λ (b : Bool). then_some b (at + length (field_of (take n xs)))) near_none
        ∙ sym (end_is at xs ∙ ap (λ (b : Bool). then_some b (at + length (field_of xs))) far_none)

  near_end : (at : ℕ) → column_end at (take n xs) ≡ column_end at xs
  near_end at = by_cases (ltb (length (field_of xs)) n) (λ e. near_on (ltb-true (length (field_of xs)) n e) at) (λ e. near_off (ltb-false (length (field_of xs)) n e) at)

-- the same in a text that is cut short there
pub near_start : (k start : ℕ) (text : List ℕ) → k ≡ min (length text) (start + 15) → start ≤ length text → column_end start (drop start (take k text)) ≡ column_end start (drop start text)
near_start k start text h l =
    let n : k - start ≡ min 15 (length (drop start text)) = omega (arith, length-drop start text) in
    ap (column_end start) (sym (part_slice start k text (omega arith))) ∙ near_end (k - start) (drop start text) n start
