-- A sheet is the text of its own first line and columns, byte for byte.
-- Assumes nothing.
use mathlib.Core.Path.{◌≡◌, refl, sym, ap, ap₂, ◌∙◌}
use mathlib.Core.Bool.{Bool, true}
use mathlib.Core.List.{List, [], ◌∷◌, ◌++◌, map}
use Prim.Native.Nat.{ℕ, ◌<◌}
use native.Mathlib.Omega.{arith}
use lib.Dec.{eqb}
use lib.ListN.{length, get_or}
use borrow.Author.Tests.{eqb-true}
use Rattle.rules.specs.Limits.{most_level}
use Rattle.rules.specs.Lists.{tabulate, decimal_of}
use Rattle.rules.specs.Factor.{Column, at}
use Rattle.rules.specs.Sheet.{all, newline, tab, up_to, past, has, Line, extend, lines, fields, widen, Field, header, decimal, is_level, is_row, is_plot_line, later_lines, no_line, joined, printed, question4}
use Rattle.rules.specs.SheetText.{row_of, sheet_text, field_column, sheet_columns}
use Rattle.rules.proofs.Lists.{tabulate_get_d, map_tabulate, get_d_map}
use Rattle.rules.proofs.Places.{tabulate_ext}
use Rattle.rules.proofs.Numbering.{by_cases}
use Rattle.rules.proofs.Members.{clash}
use Rattle.rules.proofs.Sheet.{and_left, all_get_d, all_weaker, row_levels, fields_some}
use Rattle.rules.proofs.Labels.{decimal_again}

-- ---- fields and lines

-- the fields of a line, parted by tabs, are the line
pub joined_fields : (xs : List ℕ) → joined (fields xs) ≡ xs
unfolding fields widen joined
joined_fields [] = refl
joined_fields (x ∷ xs) =
    by_cases (eqb x tab)
    (λ e. rw (e, fields) (parted (fields xs) refl (joined_fields xs) ∙ ap (λ (b : ℕ). b ∷ xs) (sym (eqb-true x tab e))))
    (λ e. rw (e, fields) (wider (fields xs) (joined_fields xs)))
  where
    parted : (fs : List Field) → fs ≡ fields xs → joined fs ≡ xs → joined ([] ∷ fs) ≡ tab ∷ xs
    parted [] q j = absurd (none xs q)
      where
        none : (ys : List ℕ) → ◌≡◌ {A = List Field} [] (fields ys) → ⊥
        none ys q = let z : 0 ≡ length (fields ys) = ap length q in omega (arith, fields_some ys)
    parted (f ∷ fs) q j = ap (λ (r : List ℕ). tab ∷ r) j

    wider : (fs : List Field) → joined fs ≡ xs → joined (widen x fs) ≡ x ∷ xs
    wider [] j = ap (λ (r : List ℕ). x ∷ r) j
    wider (f ∷ []) j = ap (λ (r : List ℕ). x ∷ r) j
    wider (f ∷ g ∷ fs) j = ap (λ (r : List ℕ). x ∷ r) j

abbrev pub fields_of : Line → List Field
fields_of l = fields l.bytes

abbrev pub is_ended : Line → Bool
is_ended l = l.ended

-- the lines of a text, each ended by byte 10, are the text
pub printed_lines : (xs : List ℕ) → all is_ended (lines xs) ≡ true → printed (map fields_of (lines xs)) ≡ xs
unfolding lines extend printed all fields joined
printed_lines [] a = refl
printed_lines (x ∷ xs) a =
    by_cases (eqb x newline)
    (λ e. rw (e, lines) (ap₂ (λ (b : ℕ) (r : List ℕ). b ∷ r) (sym (eqb-true x newline e)) (printed_lines xs (rw (e, lines) at a))))
    (λ e. rw (e, lines) (longer (lines xs) (printed_lines xs) (rw (e, lines) at a)))
  where
    longer : (ls : List Line) → (all is_ended ls ≡ true → printed (map fields_of ls) ≡ xs) → all is_ended (extend x ls) ≡ true → printed (map fields_of (extend x ls)) ≡ x ∷ xs
    longer [] below a = clash a refl
    longer (l ∷ ls) below a =
        ap (λ (r : List ℕ). r ++ newline ∷ printed (map fields_of ls)) (joined_fields (x ∷ l.bytes))
        ∙ ap (λ (r : List ℕ). x ∷ r) (ap (λ (r : List ℕ). r ++ newline ∷ printed (map fields_of ls)) (sym (joined_fields l.bytes)) ∙ below a)

-- what stands before a byte and after it
pub part_back : (b : ℕ) (xs : List ℕ) → has b xs ≡ true → up_to b xs ++ b ∷ past b xs ≡ xs
unfolding has up_to past
part_back b [] h = clash h refl
part_back b (x ∷ xs) h =
    by_cases (eqb x b)
    (λ e. rw (e, up_to, past) (ap (λ (y : ℕ). y ∷ xs) (sym (eqb-true x b e))))
    (λ e. rw (e, up_to, past) (ap (λ (r : List ℕ). x ∷ r) (part_back b xs (rw (e, has) at h))))

-- ---- the sheet

-- the levels of a plot, as its line has them
module _ (m : ℕ) (ls : List Line) (good : all (is_plot_line most_level m) ls ≡ true) where
  row_again : (u : ℕ) → u < length ls → row_of (tabulate (field_column ls) m) u ≡ fields_of (get_or ls u no_line)
  unfolding row_of field_column
  row_again u h =
      let r = row_levels most_level m (get_or ls u no_line) (all_get_d (is_plot_line most_level m) ls u no_line good h) in
      let fs = fields_of (get_or ls u no_line) in
      map_tabulate (λ (C : Column). decimal_of (at C u)) (field_column ls) m
      ∙ tabulate_ext (λ j. decimal_of (at (field_column ls j) u)) (λ j. get_or fs j []) m
      (λ j l. ap decimal_of (get_d_map (λ (l : Line). decimal (get_or (fields_of l) j [])) ls u no_line 0 h) ∙ decimal_again most_level (get_or fs j []) (all_get_d (is_level most_level) fs j [] r.1 (rw r.0 l)))
      ∙ ap (tabulate (λ j. get_or fs j [])) (sym r.0) ∙ tabulate_get_d [] fs

  rows_again : tabulate (row_of (tabulate (field_column ls) m)) (length ls) ≡ map fields_of ls
  rows_again =
      tabulate_ext (row_of (tabulate (field_column ls) m)) (λ u. fields_of (get_or ls u no_line)) (length ls) row_again
      ∙ sym (map_tabulate fields_of (λ u. get_or ls u no_line) (length ls)) ∙ ap (map fields_of) (tabulate_get_d no_line ls)

  all_ended : all is_ended ls ≡ true
  unfolding is_plot_line
  all_ended = all_weaker (is_plot_line most_level m) is_ended (λ l e. and_left l.ended (is_row most_level m (fields l.bytes)) e) ls good

-- a text with a first line and plot lines is the sheet of its own first line and columns
pub sheet_again : (text : List ℕ) → has newline text ≡ true → question4 most_level text ≡ true → sheet_text (length (later_lines text)) (header text) (sheet_columns text) ≡ text
unfolding sheet_text sheet_columns header later_lines printed question4
sheet_again text h q =
    ap₂ (λ (a b : List ℕ). a ++ newline ∷ b) (joined_fields (up_to newline text))
    (ap printed (rows_again (length (header text)) (later_lines text) q) ∙ printed_lines (past newline text) (all_ended (length (header text)) (later_lines text) q))
    ∙ part_back newline text h
