-- A sheet written from a first line and columns is read, its level table holds these columns, and it is short.
-- Assumes nothing.
use mathlib.Core.Path.{◌≡◌, refl, sym, ap, ◌∙◌}
use mathlib.Core.Bool.{Bool, true, false, not, ◌&&◌, ◌||◌}
use mathlib.Core.List.{List, [], ◌∷◌, ◌++◌, map}
use Prim.Native.Nat.{ℕ, ◌+◌, ◌*◌, ◌≤◌, ◌<◌}
use native.Mathlib.Nat.{not-suc-le-zero}
use native.Mathlib.Omega.{arith}
use lib.Dec.{eqb}
use lib.ListN.{length, get_or, take, drop, length-append, length-map, length-drop}
use lib.Seq.{ext_get_or, length-take-le, get_or-take, get_or-drop, take_at}
use borrow.Author.Tests.{eqb-true, eq-eqb, le-leb}
use Rattle.rules.specs.Limits.{most_text, most_plots, most_level, most_name_tail, table_cells}
use Rattle.rules.specs.Lists.{tabulate, decimal_of}
use Rattle.rules.specs.Factor.{Column, at, number, classes}
use Rattle.rules.specs.Sheet.{within, all, newline, tab, up_to, past, has, Line, lines, fields, Field, letter, digit, letter_or_digit, is_name, plot_mark, treatment_mark, is_column, count_kind, is_header, header, decimal, no_leading_zero, is_level, is_row, is_plot_line, later_lines, columns_after, no_line, free, joined, printed, question2, question3, question4, question5, read, counts, reading_from3, reading, levels_after}
use Rattle.rules.specs.SheetText.{row_of, sheet_text, field_column, sheet_columns, table_columns, SheetAnswer, sheet_buffer}
use Rattle.rules.proofs.Lists.{length_tabulate, get_d_tabulate, tabulate_get_d, map_tabulate, get_d_map}
use Rattle.rules.proofs.Places.{tabulate_ext}
use Rattle.rules.proofs.Numbering.{by_cases, eqb_self, numbering_at, has_all}
use Rattle.rules.proofs.Columns.{number_positive}
use Rattle.rules.proofs.ClassCount.{classes_most}
use Rattle.rules.proofs.Members.{clash}
use Rattle.rules.proofs.Sheet.{and_left, and_right, not_yes, all_index, all_weaker, length_columns, FirstLine, first_line_holds, read_accepts, text_fits, length_after, column_inside, column_read, fields_joined, printed_line, lines_printed, decimal_back, decimal_level}
use Rattle.rules.proofs.SheetSize.{form_length}

-- ---- bytes that part lines and fields

free_append : (b : ℕ) (xs ys : List ℕ) → has b xs ≡ false → has b ys ≡ false → has b (xs ++ ys) ≡ false
unfolding has
free_append b [] ys h k = k
free_append b (x ∷ xs) ys h k = by_cases (eqb x b) (λ e. clash (rw (e, has)) h) (λ e. rw (e, has) (free_append b xs ys (rw (e, has) at h) k))

free_all : (b : ℕ) (p : ℕ → Bool) → p b ≡ false → (xs : List ℕ) → all p xs ≡ true → has b xs ≡ false
unfolding has all
free_all b p n [] a = refl
free_all b p n (x ∷ xs) a =
    by_cases (eqb x b)
    (λ e. clash (and_left (p x) (all p xs) a) (ap p (eqb-true x b e) ∙ n))
    (λ e. rw (e, has) (free_all b p n xs (and_right (p x) (all p xs) a)))

free_one : (b x : ℕ) (xs : List ℕ) → eqb x b ≡ false → has b xs ≡ false → has b (x ∷ xs) ≡ false
unfolding has
free_one b x xs e h = rw (e, has) h

-- a byte that stands in no column's field and in no level, as the two that part fields and lines, and the slash
module _ (b : ℕ) (no_digit : digit b ≡ false) where
  -- a level has no such byte
  pub level_free : (f : Field) → is_level most_level f ≡ true → free b f ≡ true
  unfolding is_level
  level_free f e =
      ap not (free_all b digit no_digit f (and_right (no_leading_zero f) (all digit f) (and_left (no_leading_zero f && all digit f) (within 1 most_level (decimal f)) e)))

module _ (b : ℕ) (no_digit : digit b ≡ false) (no_letter : letter b ≡ false) (no-colon : eqb 58 b ≡ false) where
  -- a name has none
  pub name_free : (name : List ℕ) → is_name name ≡ true → has b name ≡ false
  unfolding is_name has
  name_free [] e = refl
  name_free (x ∷ xs) e =
      let k = and_left (letter x && within 1 most_name_tail (length xs)) (all letter_or_digit xs) e in
      by_cases (eqb x b)
      (λ q. clash (and_left (letter x) (within 1 most_name_tail (length xs)) k) (ap letter (eqb-true x b q) ∙ no_letter))
      (λ q. rw (q, has) (free_all b letter_or_digit (rw (no_letter, no_digit)) xs (and_right (letter x && within 1 most_name_tail (length xs)) (all letter_or_digit xs) e)))

  -- a column's field has none
  pub column_free : (f : Field) → is_column f ≡ true → free b f ≡ true
  unfolding is_column
  column_free [] e = clash e refl
  column_free (x ∷ []) e = clash e refl
  column_free (x ∷ y ∷ name) e =
      let k = and_left ((eqb x plot_mark || eqb x treatment_mark) && eqb y 58) (is_name name) e in
      let m = and_left (eqb x plot_mark || eqb x treatment_mark) (eqb y 58) k in
      let c = eqb-true y 58 (and_right (eqb x plot_mark || eqb x treatment_mark) (eqb y 58) k) in
      ap not (free_one b x (y ∷ name) (mark m) (free_one b y name (rw c no-colon) (name_free name (and_right ((eqb x plot_mark || eqb x treatment_mark) && eqb y 58) (is_name name) e))))
    where
      mark : (eqb x plot_mark || eqb x treatment_mark) ≡ true → eqb x b ≡ false
      mark m =
          by_cases (eqb x b)
          (λ q. let z = eqb-true x b q in
          by_cases (eqb x plot_mark)
          (λ p. clash {b = letter b} (ap letter (sym z ∙ eqb-true x plot_mark p)) no_letter)
          (λ p. clash {b = letter b} (ap letter (sym z ∙ eqb-true x treatment_mark (rw p at m))) no_letter))
          (λ q. q)

-- a line has none where no field has one and the tab is none
pub joined_free : (b : ℕ) → eqb tab b ≡ false → (fs : List Field) → all (free b) fs ≡ true → has b (joined fs) ≡ false
unfolding joined all has
joined_free b t [] a = refl
joined_free b t (f ∷ []) a = not_yes (has b f) (and_left (free b f) true a)
joined_free b t (f ∷ g ∷ fs) a =
    free_append b f (tab ∷ joined (g ∷ fs)) (not_yes (has b f) (and_left (free b f) (all (free b) (g ∷ fs)) a))
    (free_one b tab (joined (g ∷ fs)) t (joined_free b t (g ∷ fs) (and_right (free b f) (all (free b) (g ∷ fs)) a)))

-- the byte that parts a text is in it
pub has_part : (b : ℕ) (l xs : List ℕ) → has b (l ++ b ∷ xs) ≡ true
unfolding has
has_part b [] xs = rw (eqb_self b, has)
has_part b (x ∷ l) xs = by_cases (eqb x b) (λ e. rw (e, has)) (λ e. rw (e, has) (has_part b l xs))

-- what stands before it
pub up_to_part : (b : ℕ) (l xs : List ℕ) → has b l ≡ false → up_to b (l ++ b ∷ xs) ≡ l
unfolding has up_to
up_to_part b [] xs h = rw (eqb_self b, up_to)
up_to_part b (x ∷ l) xs h = by_cases (eqb x b) (λ e. clash (rw (e, has)) h) (λ e. rw (e, up_to) (ap (λ (r : List ℕ). x ∷ r) (up_to_part b l xs (rw (e, has) at h))))

-- what stands after it
pub past_part : (b : ℕ) (l xs : List ℕ) → has b l ≡ false → past b (l ++ b ∷ xs) ≡ xs
unfolding has past
past_part b [] xs h = rw (eqb_self b, past)
past_part b (x ∷ l) xs h = by_cases (eqb x b) (λ e. clash (rw (e, has)) h) (λ e. rw (e, past) (past_part b l xs (rw (e, has) at h)))

pub fields_back : (fs : List Field) → 1 ≤ length fs → all (free tab) fs ≡ true → fields (joined fs) ≡ fs
fields_back [] h a = absurd (not-suc-le-zero h)
fields_back (f ∷ fs) h a = fields_joined f fs a

-- ---- the level table

-- a column of the table, plot by plot
column_of_lem : (n c : ℕ) (T : List ℕ) (g : ℕ → ℕ) → 240 * c + n ≤ length T → ((u : ℕ) → u < n → get_or T (240 * c + u) 0 ≡ g u) → take n (drop (240 * c) T) ≡ tabulate g n
column_of_lem n c T g h cell =
    ext_get_or 0 (take n (drop (240 * c) T)) (tabulate g n) (long ∙ sym (length_tabulate g n))
    (λ u l. let k : u < n = rw long at l in get_or-take n (drop (240 * c) T) u 0 k ∙ get_or-drop (240 * c) T u 0 ∙ cell u k ∙ sym (get_d_tabulate g n u 0 k))
  where
    long : length (take n (drop (240 * c) T)) ≡ n
    long = length-take-le n (drop (240 * c) T) (rw length-drop (omega arith))

-- a sheet that is read leaves its own columns in the level table
pub read_columns : (text levels : List ℕ) (n p t : ℕ) → reading text levels ≡ read n p t → table_columns n (header text) (levels_after (reading text levels) text levels) ≡ sheet_columns text
unfolding table_columns sheet_columns field_column
read_columns text levels n p t e =
    ap (map column) (sym (tabulate_get_d 0 (columns_after 0 0 (header text))))
    ∙ map_tabulate column (λ i. get_or (columns_after 0 0 (header text)) i 0) (length (columns_after 0 0 (header text)))
    ∙ ap (tabulate (λ i. column (get_or (columns_after 0 0 (header text)) i 0))) (length_columns 0 0 (header text))
    ∙ tabulate_ext (λ i. column (get_or (columns_after 0 0 (header text)) i 0)) (field_column (later_lines text)) (length (header text)) same
  where
    column : ℕ → Column
    column c = take n (drop (240 * c) (levels_after (reading text levels) text levels))

    same : (i : ℕ) → i < length (header text) → column (get_or (columns_after 0 0 (header text)) i 0) ≡ field_column (later_lines text) i
    same i h =
        let a = read_accepts text levels n p t e in
        let level : Line → ℕ = λ (l : Line). decimal (get_or (fields l.bytes) i []) in
        column_of_lem n (get_or (columns_after 0 0 (header text)) i 0) (levels_after (reading text levels) text levels) (λ u. level (get_or (later_lines text) u no_line))
        (rw (length_after (reading text levels) text levels) (omega (arith, a.table_fits, a.plots_few, column_inside text levels n p t e i h))) (column_read text levels n p t e i h)
        ∙ sym (map_tabulate level (λ u. get_or (later_lines text) u no_line) n) ∙ ap (λ (m : ℕ). map level (tabulate (λ u. get_or (later_lines text) u no_line) m)) a.plots
        ∙ ap (map level) (tabulate_get_d no_line (later_lines text))

-- ---- the sheet

-- a column of n levels
pub record Levels (n : ℕ) (C : Column) : Type 0 where
  pub on : length C ≡ n
  pub least : (u : ℕ) → u < n → 1 ≤ at C u
  pub most : (u : ℕ) → u < n → at C u ≤ most_level

-- a number by first appearance is at most the number of classes
pub numbers_few : (F : Column) (u : ℕ) → u < length F → at (number F) u ≤ classes F
unfolding number classes
numbers_few F u h = rw (numbering_at eqb eqb-true eqb_self F [] u 0 h) (has_all eqb eqb-true eqb_self F [] u 0 h)

-- a column numbered by first appearance has levels
pub numbered_levels : (n : ℕ) (F : Column) → length F ≡ n → number F ≡ F → n ≤ most_plots → Levels n F
numbered_levels n F l e few = record {
  on = l;
  least = λ u h. rw e at (number_positive F u (rw l h));
  most = λ u h. let a : at F u ≤ classes F = rw e at (numbers_few F u (rw l h)) in omega (arith, classes_most F);
}

-- a first line and columns of which a sheet can be written
pub record Writable (n : ℕ) (fs : List Field) (Cs : List Column) : Type 0 where
  pub first : is_header fs ≡ true
  pub columns : length Cs ≡ length fs
  pub plots_some : 1 ≤ n
  pub plots_few : n ≤ most_plots
  pub levels : (i : ℕ) → i < length Cs → Levels n (get_or Cs i [])

module _ (n : ℕ) (fs : List Field) (Cs : List Column) (good : Writable n fs Cs) where
  abbrev rows : List ℕ
  rows = printed (tabulate (row_of Cs) n)

  abbrev text : List ℕ
  text = sheet_text n fs Cs

  form : FirstLine fs
  form = first_line_holds fs good.first

  first_free : (b : ℕ) → digit b ≡ false → letter b ≡ false → eqb 58 b ≡ false → all (free b) fs ≡ true
  first_free b d l c = all_weaker is_column (free b) (column_free b d l c) fs form.columns

  line_free : has newline (joined fs) ≡ false
  line_free = joined_free newline refl fs (first_free newline refl refl refl)

  pub header_back : header text ≡ fs
  unfolding header printed sheet_text
  header_back = ap fields (up_to_part newline (joined fs) rows line_free) ∙ fields_back fs form.some (first_free tab refl refl refl)

  -- a plot's levels
  row_at : (u j : ℕ) → j < length Cs → get_or (row_of Cs u) j [] ≡ decimal_of (at (get_or Cs j []) u)
  unfolding row_of
  row_at u j h = get_d_map (λ (C : Column). decimal_of (at C u)) Cs j [] [] h

  length_row : (u : ℕ) → length (row_of Cs u) ≡ length Cs
  unfolding row_of
  length_row u = length-map Cs (λ (C : Column). decimal_of (at C u))

  row_good : (u : ℕ) → u < n → all (is_level most_level) (row_of Cs u) ≡ true
  row_good u h =
      all_index (is_level most_level) (row_of Cs u) []
      (λ j l. let k : j < length Cs = rw (length_row u) at l in
      rw (row_at u j k) (decimal_level most_level (at (get_or Cs j []) u) ((good.levels j k).least u h) ((good.levels j k).most u h)))

  row_free : (b : ℕ) → digit b ≡ false → (u : ℕ) → u < n → all (free b) (row_of Cs u) ≡ true
  row_free b d u h = all_weaker (is_level most_level) (free b) (level_free b d) (row_of Cs u) (row_good u h)

  row_back : (u : ℕ) → u < n → fields (joined (row_of Cs u)) ≡ row_of Cs u
  row_back u h = fields_back (row_of Cs u) (rw (length_row u, good.columns) form.some) (row_free tab refl u h)

  pub later_back : later_lines text ≡ tabulate (λ u. printed_line (row_of Cs u)) n
  unfolding later_lines printed sheet_text
  later_back =
      ap lines (past_part newline (joined fs) rows line_free)
      ∙ lines_printed (tabulate (row_of Cs) n)
      (all_index (λ fs. free newline (joined fs)) (tabulate (row_of Cs) n) []
      (λ u l. let h : u < n = rw (length_tabulate (row_of Cs) n) at l in rw (get_d_tabulate (row_of Cs) n u [] h) (ap not (joined_free newline refl (row_of Cs u) (row_free newline refl u h)))))
      ∙ map_tabulate printed_line (row_of Cs) n

  pub length_later : length (later_lines text) ≡ n
  length_later = ap length later_back ∙ length_tabulate (λ u. printed_line (row_of Cs u)) n

  -- questions 3 to 5
  pub three : question3 text ≡ true
  unfolding question3 sheet_text printed
  three = rw (header_back, good.first, has_part newline (joined fs) rows)

  pub four : question4 most_level text ≡ true
  unfolding question4 is_plot_line is_row
  four =
      rw (header_back, later_back)
      (all_index (is_plot_line most_level (length fs)) (tabulate (λ u. printed_line (row_of Cs u)) n) no_line
      (λ u l. let h : u < n = rw (length_tabulate (λ u. printed_line (row_of Cs u)) n) at l in
      rw (get_d_tabulate (λ u. printed_line (row_of Cs u)) n u no_line h, row_back u h, length_row u, good.columns, eq-eqb (length fs) (length fs) refl, row_good u h)))

  pub five : question5 text ≡ true
  unfolding question5
  five = rw (length_later, le-leb 1 n good.plots_some, le-leb n most_plots good.plots_few)

  -- no sheet written is longer than one that is read
  pub text_short : length text ≤ 31860
  unfolding question4
  text_short = form_length text (rw header_back form) four (rw length_later good.plots_few)

  text_some : 1 ≤ length text
  unfolding printed sheet_text
  text_some = rw (length-append (joined fs) (newline ∷ rows)) (omega arith)

  pub two : question2 text ≡ true
  two = rw (le-leb 1 (length text) text_some, le-leb (length text) most_text (omega (arith, text_short)))

  -- the sheet is read
  pub sheet_read : (levels : List ℕ) → table_cells ≤ length levels → reading text levels ≡ read n (count_kind plot_mark fs) (count_kind treatment_mark fs)
  unfolding reading_from3 counts
  sheet_read levels h =
      text_fits text levels h text_some (omega (arith, text_short))
      ∙ rw (three, four, five, reading_from3, length_later, header_back)

  -- its columns are these
  column_back : (j : ℕ) → j < length fs → field_column (later_lines text) j ≡ get_or Cs j []
  unfolding field_column
  column_back j h =
      let k : j < length Cs = rw good.columns h in
      ap (map (λ (l : Line). decimal (get_or (fields l.bytes) j []))) later_back
      ∙ map_tabulate (λ (l : Line). decimal (get_or (fields l.bytes) j [])) (λ u. printed_line (row_of Cs u)) n
      ∙ tabulate_ext (λ u. decimal (get_or (fields (joined (row_of Cs u))) j [])) (at (get_or Cs j [])) n
      (λ u l. rw (row_back u l, row_at u j k) (decimal_back (at (get_or Cs j []) u)))
      ∙ ap (tabulate (at (get_or Cs j []))) (sym (good.levels j k).on) ∙ tabulate_get_d 0 (get_or Cs j [])

  pub columns_back : sheet_columns text ≡ Cs
  unfolding sheet_columns
  columns_back =
      ap (λ (F : List Field). tabulate (field_column (later_lines text)) (length F)) header_back
      ∙ tabulate_ext (field_column (later_lines text)) (λ j. get_or Cs j []) (length fs) column_back
      ∙ ap (tabulate (λ j. get_or Cs j [])) (sym good.columns) ∙ tabulate_get_d [] Cs

  -- and so are those of its level table
  pub table_back : (levels : List ℕ) → table_cells ≤ length levels → table_columns n fs (levels_after (reading text levels) text levels) ≡ Cs
  table_back levels h =
      ap (λ (F : List Field). table_columns n F (levels_after (reading text levels) text levels)) (sym header_back)
      ∙ read_columns text levels n (count_kind plot_mark fs) (count_kind treatment_mark fs) (sheet_read levels h) ∙ columns_back

-- ---- the lent output

-- it begins with the sheet
pub buffer_sheet : (out : List ℕ) (a : SheetAnswer) → take (length a.sheet) (sheet_buffer out a) ≡ a.sheet
buffer_sheet out a = take_at a.sheet (drop (length a.sheet) out) (length a.sheet) refl
