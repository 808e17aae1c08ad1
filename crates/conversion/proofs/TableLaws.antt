-- Laws of the columns of a level table, of which one is written anew.
-- Assumes nothing.
use mathlib.Core.Path.{◌≡◌, sym, ap, ap₂, ◌∙◌, subst}
use mathlib.Core.List.{List, [], ◌∷◌, ◌++◌, append_assoc}
use Prim.Native.Nat.{ℕ, suc, ◌+◌, ◌-◌, ◌*◌, ◌≤◌, ◌<◌}
use native.Mathlib.Numerals.{add-one}
use native.Mathlib.Omega.{arith}
use lib.Arith.{lt_of_le-ne}
use lib.Dec.{eqb, ltb}
use lib.ListN.{length, get_or, take, drop, set, length-map, length-set, length-drop, take-append-drop, get_or-append}
use lib.Seq.{paste, length-paste, drop-paste, drop-drop, ext_get_or, length-take-le, get_or-take, get_or_at, get_or-set_same, get_or-set_other, take_all, take_at, drop_at, take-append-le, drop-append-le, drop-cons, set-append_seam, set-get_or, take-suc}
use borrow.Author.Tests.{eqb-true, eqb-false, ltb-true, ltb-false}
use Rattle.std.proofs.Common.{Option, Some, None}
use Rattle.rules.specs.Factor.{Column, infimum}
use Rattle.rules.proofs.Lists.{get_d_map}
use Rattle.rules.proofs.Numbering.{by_cases}
use Rattle.rules.proofs.Bounds.{length_infimum'}
use Rattle.factor.specs.Lent.{column_at}
use Rattle.factor.proofs.Lent.{length_part}
use Rattle.writer.specs.Rows.{columns_at}
use Rattle.conversion.specs.Table.{Within, Convertible}

-- ---- one column written

-- a part of the front
front : (k n : ℕ) (xs ys : List ℕ) → k + n ≤ length xs → take n (drop k (xs ++ ys)) ≡ take n (drop k xs)
front k n xs ys h = ap (take n) (drop-append-le k xs ys (omega arith)) ∙ take-append-le n (drop k xs) ys (rw length-drop (omega arith))

module _ (n c : ℕ) (X : Column) (T : List ℕ) (on : length X ≡ n) (few : n ≤ 240) (fits : 240 * c + n ≤ length T) where
  abbrev afterwards : List ℕ
  afterwards = paste T (240 * c) X n

  before : length (take (240 * c) T) ≡ 240 * c
  before = length-take-le (240 * c) T (omega arith)

  -- it is this one
  pub written_same : column_at n afterwards c ≡ X
  written_same =
      ap (λ (r : List ℕ). take n (drop (240 * c) r)) (append_assoc (take (240 * c) T) (take n X) (drop (240 * c + n) T))
      ∙ ap (take n) (drop_at (take (240 * c) T) (take n X ++ drop (240 * c + n) T) (240 * c) before)
      ∙ take_at (take n X) (drop (240 * c + n) T) n (length-take-le n X (omega arith)) ∙ take_all n X (omega arith)

  -- others stay
  pub written_other : (d : ℕ) → (c ≡ d → ⊥) → column_at n afterwards d ≡ column_at n T d
  written_other d ne =
      by_cases (ltb c d)
      (λ l. let h = ltb-true c d l in
      let k : 240 * c + n + (240 * d - (240 * c + n)) ≡ 240 * d = omega arith in
      ap (take n) (from afterwards k ∙ ap (drop (240 * d - (240 * c + n))) (drop-paste T (240 * c) X n (omega arith) (omega arith)) ∙ sym (from T k)))
      (λ l. let h : d < c = lt_of_le-ne (ltb-false c d l) (λ e. ne (sym e)) in
      let k : 240 * d + n ≤ length (take (240 * c) T) = omega (arith, before) in
      ap (λ (r : List ℕ). take n (drop (240 * d) r)) (append_assoc (take (240 * c) T) (take n X) (drop (240 * c + n) T))
      ∙ front (240 * d) n (take (240 * c) T) (take n X ++ drop (240 * c + n) T) k
      ∙ sym (front (240 * d) n (take (240 * c) T) (drop (240 * c) T) k) ∙ ap (λ (r : List ℕ). take n (drop (240 * d) r)) (take-append-drop (240 * c) T))
    where
      from : (r : List ℕ) → 240 * c + n + (240 * d - (240 * c + n)) ≡ 240 * d → drop (240 * d) r ≡ drop (240 * d - (240 * c + n)) (drop (240 * c + n) r)
      from r k = ap (λ (i : ℕ). drop i r) (sym k) ∙ sym (drop-drop (240 * d - (240 * c + n)) (240 * c + n) r)

-- ---- the columns of the fields

module _ (columns : List ℕ) (parents : List (Option ℕ)) (n plots : ℕ) (T : List ℕ) (good : Convertible columns parents n plots (length T)) where
  abbrev Cs : List Column
  Cs = columns_at plots T (take n columns)

  length_taken : length (take n columns) ≡ n
  length_taken = length-take-le n columns good.columns_long

  pub length_Cs : length Cs ≡ n
  length_Cs = length-map (take n columns) (column_at plots T) ∙ length_taken

  pub column_at_lem : (U : List ℕ) (i : ℕ) → i < n → get_or (columns_at plots U (take n columns)) i [] ≡ column_at plots U (get_or columns i 0)
  column_at_lem U i h = get_d_map (column_at plots U) (take n columns) i 0 [] (rw length_taken h) ∙ ap (column_at plots U) (get_or-take n columns i 0 h)

  -- the column of field i is written anew
  pub columns_set : (i : ℕ) (X : Column) → i < n → length X ≡ plots → columns_at plots (paste T (240 * get_or columns i 0) X plots) (take n columns) ≡ set Cs i X
  columns_set i X h on =
      ext_get_or [] (columns_at plots after (take n columns)) (set Cs i X) (length-map (take n columns) (column_at plots after) ∙ sym (length-set Cs i X ∙ length-map (take n columns) (column_at plots T)))
      (λ j l. let k : j < n = rw (length-map (take n columns) (column_at plots after) ∙ length_taken) at l in
      column_at_lem after j k
      ∙ by_cases (eqb i j)
      (λ e. let z = eqb-true i j e in
      ap (λ (m : ℕ). column_at plots after (get_or columns m 0)) (sym z) ∙ written_same plots (get_or columns i 0) X T on good.few (good.inside i h)
      ∙ sym (ap (λ (m : ℕ). get_or (set Cs i X) m []) (sym z) ∙ get_or-set_same Cs i X [] (rw length_Cs h)))
      (λ e. let ne = eqb-false i j e in
      written_other plots (get_or columns i 0) X T on good.few (good.inside i h) (get_or columns j 0) (λ q. ne (good.differ i j h k q))
      ∙ sym (get_or-set_other Cs i j X [] (λ q. ne (sym q)) ∙ column_at_lem T j k)))
    where
      after : List ℕ
      after = paste T (240 * get_or columns i 0) X plots

-- ---- converted columns, then the others

module _ (parents : List (Option ℕ)) (Cs Ds : List Column) (w : Within parents Cs Ds) (i : ℕ) (h : i < length Cs) where
  abbrev now_there : List Column
  now_there = take i Ds ++ drop i Cs

  front_long : length (take i Ds) ≡ i
  front_long = length-take-le i Ds (omega (arith, w.size))

  parts : now_there ≡ take i Ds ++ get_or Cs i [] ∷ drop (suc i) Cs
  parts = ap (λ (r : List Column). take i Ds ++ r) (drop-cons Cs i [] h)

  -- the column at hand, and one further left
  pub at_hand : get_or now_there i [] ≡ get_or Cs i []
  at_hand = ap (λ (r : List Column). get_or r i []) parts ∙ get_or_at (take i Ds) (get_or Cs i []) (drop (suc i) Cs) [] i front_long

  pub further_left : (j : ℕ) → j < i → get_or now_there j [] ≡ get_or Ds j []
  further_left j l = get_or-append (take i Ds) (drop i Cs) [] j (rw front_long l) ∙ get_or-take i Ds j [] l

  -- one more is converted
  pub one_more : set now_there i (get_or Ds i []) ≡ take (i + 1) Ds ++ drop (i + 1) Cs
  one_more =
      ap₂ (λ (r : List Column) (k : ℕ). set r k (get_or Ds i [])) parts (sym front_long) ∙ set-append_seam (take i Ds) (get_or Cs i []) (drop (suc i) Cs) (get_or Ds i [])
      ∙ sym (ap (λ (k : ℕ). take k Ds ++ drop k Cs) (add-one i) ∙ ap (λ (r : List Column). r ++ drop (suc i) Cs) (take-suc Ds i [] (omega (arith, w.size))) ∙ append_assoc (take i Ds) (get_or Ds i [] ∷ []) (drop (suc i) Cs))

-- ---- one turn: U is the table by now

module _ (columns : List ℕ) (parents : List (Option ℕ)) (n plots : ℕ) (T : List ℕ) (good : Convertible columns parents n plots (length T)) (U : List ℕ) (same : length U ≡ length T) (i : ℕ) (h : i < n) where
  abbrev fields : List ℕ
  fields = take n columns

  still : Convertible columns parents n plots (length U)
  still = subst (Convertible columns parents n plots) (sym same) good

  -- the infimum of columns of two fields
  abbrev met : ℕ → Column
  met j = infimum (column_at plots U (get_or columns i 0)) (column_at plots U (get_or columns j 0))

  inside : i < length (columns_at plots T fields)
  inside = rw (length_Cs columns parents n plots T good) h

  length_met : (j : ℕ) → j < n → length (met j) ≡ plots
  length_met j l = length_infimum' plots (column_at plots U (get_or columns i 0)) (column_at plots U (get_or columns j 0)) (length_part plots (get_or columns i 0) U (still.inside i h)) (length_part plots (get_or columns j 0) U (still.inside j l))

  -- the table keeps its length
  pub turn_length : (j : ℕ) → j < n → length (paste U (240 * get_or columns i 0) (met j) plots) ≡ length T
  turn_length j l = length-paste U (240 * get_or columns i 0) (met j) plots (still.inside i h) (omega (arith, length_met j l)) ∙ same

  module _ (Ds : List Column) (w : Within parents (columns_at plots T fields) Ds) (so_far : columns_at plots U fields ≡ take i Ds ++ drop i (columns_at plots T fields)) where
    here : column_at plots U (get_or columns i 0) ≡ get_or (columns_at plots T fields) i []
    here = sym (column_at_lem columns parents n plots U still U i h) ∙ ap (λ (r : List Column). get_or r i []) so_far ∙ at_hand parents (columns_at plots T fields) Ds w i inside

    -- a column without a parent
    pub turn_copied : get_or parents i None ≡ None → columns_at plots U fields ≡ take (i + 1) Ds ++ drop (i + 1) (columns_at plots T fields)
    turn_copied e =
        so_far ∙ sym (set-get_or (take i Ds ++ drop i (columns_at plots T fields)) i [])
        ∙ ap (set (take i Ds ++ drop i (columns_at plots T fields)) i) (at_hand parents (columns_at plots T fields) Ds w i inside ∙ sym (w.copied i inside e))
        ∙ one_more parents (columns_at plots T fields) Ds w i inside

    -- a column with one
    pub turn_within : (j : ℕ) → get_or parents i None ≡ Some j → columns_at plots (paste U (240 * get_or columns i 0) (met j) plots) fields ≡ take (i + 1) Ds ++ drop (i + 1) (columns_at plots T fields)
    turn_within j e =
        columns_set columns parents n plots U still i (met j) h (length_met j below)
        ∙ ap₂ (λ (r : List Column) (X : Column). set r i X) so_far (ap₂ infimum here there ∙ sym made.1) ∙ one_more parents (columns_at plots T fields) Ds w i inside
      where
        made : (j < i) × (get_or Ds i [] ≡ infimum (get_or (columns_at plots T fields) i []) (get_or Ds j []))
        made = w.within i j inside e

        below : j < n
        below = omega (arith, made.0)

        there : column_at plots U (get_or columns j 0) ≡ get_or Ds j []
        there = sym (column_at_lem columns parents n plots U still U j below) ∙ ap (λ (r : List Column). get_or r j []) so_far ∙ further_left parents (columns_at plots T fields) Ds w i inside j made.0
