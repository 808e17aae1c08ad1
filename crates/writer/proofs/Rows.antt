-- Laws of what is still to be written of a line and of a sheet.
-- Assumes nothing.
use mathlib.Core.Path.{◌≡◌, refl, sym, ap, ◌∙◌}
use mathlib.Core.List.{List, [], ◌∷◌, ◌++◌, append-nil, append_assoc}
use Prim.Native.Nat.{ℕ, zero, suc, ◌+◌, ◌≤◌, ◌<◌}
use native.Mathlib.Nat.{suc-ne-zero}
use native.Mathlib.Numerals.{add-one}
use lib.ListN.{length, get_or, drop, length-map, drop_of_length-le}
use lib.Seq.{drop-cons}
use Rattle.rules.specs.Lists.{tabulate, decimal_of}
use Rattle.rules.specs.Factor.{Column, at}
use Rattle.rules.specs.Sheet.{Field, newline, tab, joined, printed}
use Rattle.rules.specs.SheetText.{row_of, sheet_text}
use Rattle.rules.proofs.Lists.{length_tabulate, get_d_tabulate, get_d_map}
use Rattle.factor.specs.Lent.{column_at}
use Rattle.writer.specs.Rows.{columns_at, line_bytes, field_bytes, sheet_bytes}

-- ---- a line

-- the fields from field i on, as they stand in their line
abbrev pub line_from : ℕ → List Field → List ℕ
line_from zero fs = joined fs
line_from (suc i) [] = []
line_from (suc i) (f ∷ fs) = tab ∷ joined (f ∷ fs)

pub first_field : (i : ℕ) (f : Field) → i ≡ 0 → f ≡ field_bytes i f
first_field zero f e = refl
first_field (suc i) f e = absurd (suc-ne-zero i e)

pub later_field : (i : ℕ) (f : Field) → (i ≡ 0 → ⊥) → tab ∷ f ≡ field_bytes i f
later_field zero f e = absurd (e refl)
later_field (suc i) f e = refl

joined_cons : (f : Field) (fs : List Field) → joined (f ∷ fs) ≡ f ++ line_from 1 fs
unfolding joined
joined_cons f [] = sym (append-nil f)
joined_cons f (g ∷ fs) = refl

line_cons : (i : ℕ) (f : Field) (fs : List Field) → line_from i (f ∷ fs) ≡ field_bytes i f ++ line_from (suc i) fs
line_cons zero f fs = joined_cons f fs ∙ ap (λ (r : List ℕ). f ++ r) (later 0 fs)
  where
    later : (i : ℕ) (fs : List Field) → line_from 1 fs ≡ line_from (suc i) fs
    later i [] = refl
    later i (g ∷ fs) = refl
line_cons (suc i) f fs = ap (λ (r : List ℕ). tab ∷ r) (joined_cons f fs ∙ ap (λ (r : List ℕ). f ++ r) (later fs))
  where
    later : (fs : List Field) → line_from 1 fs ≡ line_from (suc (suc i)) fs
    later [] = refl
    later (g ∷ fs) = refl

line_none : (i : ℕ) → line_from i [] ≡ []
unfolding joined
line_none zero = refl
line_none (suc i) = refl

module _ (n : ℕ) (levels columns : List ℕ) (u : ℕ) where
  abbrev row : List Field
  row = row_of (columns_at n levels columns) u

  -- what is left of the line from field i on
  abbrev pub left : ℕ → List ℕ
  left i = line_from i (drop i row) ++ newline ∷ []

  length_row : length row ≡ length columns
  unfolding row_of
  length_row = length-map (columns_at n levels columns) (λ (C : Column). decimal_of (at C u)) ∙ length-map columns (column_at n levels)

  field_at : (i : ℕ) → i < length columns → get_or row i [] ≡ decimal_of (at (column_at n levels (get_or columns i 0)) u)
  unfolding row_of
  field_at i h =
      get_d_map (λ (C : Column). decimal_of (at C u)) (columns_at n levels columns) i [] [] (rw (length-map columns (column_at n levels)) h)
      ∙ ap (λ (C : Column). decimal_of (at C u)) (get_d_map (column_at n levels) columns i 0 [] h)

  pub left_step : (i : ℕ) → i < length columns → left i ≡ field_bytes i (decimal_of (at (column_at n levels (get_or columns i 0)) u)) ++ left (i + 1)
  left_step i h =
      ap (λ (r : List Field). line_from i r ++ newline ∷ []) (drop-cons row i [] (rw length_row h) ∙ ap (λ (f : Field). f ∷ drop (suc i) row) (field_at i h))
      ∙ ap (λ (r : List ℕ). r ++ newline ∷ []) (line_cons i (decimal_of (at (column_at n levels (get_or columns i 0)) u)) (drop (suc i) row))
      ∙ append_assoc (field_bytes i (decimal_of (at (column_at n levels (get_or columns i 0)) u))) (line_from (suc i) (drop (suc i) row)) (newline ∷ [])
      ∙ ap (λ (k : ℕ). field_bytes i (decimal_of (at (column_at n levels (get_or columns i 0)) u)) ++ (line_from k (drop k row) ++ newline ∷ [])) (sym (add-one i))

  pub left_whole : left 0 ≡ line_bytes (columns_at n levels columns) u
  unfolding line_bytes
  left_whole = refl

  pub left_end : (i : ℕ) → length columns ≤ i → left i ≡ newline ∷ []
  left_end i h = ap (λ (r : List Field). line_from i r ++ newline ∷ []) (drop_of_length-le row {i = i} (rw length_row h)) ∙ ap (λ (r : List ℕ). r ++ newline ∷ []) (line_none i)

-- ---- a sheet

module _ (n : ℕ) (Cs : List Column) where
  -- the lines from plot u on
  abbrev pub lines_from : ℕ → List ℕ
  lines_from u = printed (drop u (tabulate (row_of Cs) n))

  pub lines_step : (u : ℕ) → u < n → lines_from u ≡ line_bytes Cs u ++ lines_from (u + 1)
  unfolding printed line_bytes
  lines_step u h =
      ap printed (drop-cons (tabulate (row_of Cs) n) u [] (rw length_tabulate h) ∙ ap (λ (r : List Field). r ∷ drop (suc u) (tabulate (row_of Cs) n)) (get_d_tabulate (row_of Cs) n u [] h))
      ∙ sym (append_assoc (joined (row_of Cs u)) (newline ∷ []) (printed (drop (suc u) (tabulate (row_of Cs) n))))
      ∙ ap (λ (k : ℕ). (joined (row_of Cs u) ++ newline ∷ []) ++ printed (drop k (tabulate (row_of Cs) n))) (sym (add-one u))

  pub lines_end : (u : ℕ) → n ≤ u → lines_from u ≡ []
  unfolding printed
  lines_end u h = ap printed (drop_of_length-le (tabulate (row_of Cs) n) {i = u} (rw length_tabulate h))

-- the sheet with these columns, where the first line has these fields
pub sheet_bytes_lem : (n : ℕ) (fs : List Field) (Cs : List Column) → sheet_bytes (joined fs) n Cs ≡ sheet_text n fs Cs
unfolding sheet_bytes sheet_text printed
sheet_bytes_lem n fs Cs = refl
