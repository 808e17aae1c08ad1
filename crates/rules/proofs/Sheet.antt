-- Laws of the sheet's definitions.
-- Assumes nothing.
use Rattle.rules.specs.Sample.{sample_sheet}
use mathlib.Core.Path.{◌≡◌, refl, sym, ap, ap₂, ◌∙◌}
use mathlib.Core.Logic.{◌⊎◌, inl, inr, ⊎_elim}
use mathlib.Core.Bool.{Bool, true, false, not, ◌&&◌, ◌||◌, true≢false}
use mathlib.Core.List.{List, [], ◌∷◌, ◌++◌, map}
use Prim.Native.Nat.{ℕ, zero, suc, ◌+◌, ◌-◌, ◌*◌, ◌/◌, ◌%◌, ◌≤◌, ◌<◌}
use native.Mathlib.Omega.{arith}
use native.Mathlib.Nat.{not-suc-le-zero, le_of_suc-le-suc, add-zero, zero-add, suc_inj, suc-ne-zero}
use lib.Arith.{lt_of_le-ne}
use lib.Dec.{eqb, leb, ltb}
use lib.ListN.{length, get_or, take, drop, set, replicate, length-set, length-take}
use lib.Seq.{get_or-set_same, get_or-set_other, get_or-take, get_or-drop}
use borrow.Author.Tests.{eq-eqb, ne_eqb, eqb-true, eqb-false, le-leb, lt-leb, leb-true, lt-ltb, ltb-true, ltb-false}
use Rattle.rules.specs.Family.{columns_from}
use Rattle.rules.specs.Design.{nonzero, all_nonzero, within_limits}
use Rattle.rules.specs.Limits.{table_cells, most_text, most_plots, most_columns, most_fields, most_level}
use Rattle.rules.specs.Sheet.{within, all, newline, tab, up_to, past, has, Line, extend, lines, fields, Field, widen, digit, is_name, same_bytes, plot_mark, treatment_mark, is_column, is_kind, count_kind, column_names, new_name, names_differ, is_header, header, decimal_from, decimal, no_leading_zero, is_level, is_row, is_plot_line, later_lines, columns_after, with_plot, with_plots, field_in, Used, no_line, cell_field, free, joined, printed, question1, question2, question3, question4, question5, Outcome, read, refused, counts, reading_from3, reading_to, reading, levels_after}
use Rattle.rules.specs.Lists.{digits_before, decimal_of}
use Rattle.rules.proofs.Numbering.{by_cases}
use Rattle.rules.proofs.Members.{clash}

-- ---- tests

pub and_false : (a : Bool) → a && false ≡ false
and_false true = refl
and_false false = refl

pub and_left : (a b : Bool) → a && b ≡ true → a ≡ true
and_left true b e = refl
and_left false b e = e

pub and_right : (a b : Bool) → a && b ≡ true → b ≡ true
and_right true b e = e
and_right false true e = refl
and_right false false e = e

pub not_yes : (a : Bool) → not a ≡ true → a ≡ false
not_yes true e = sym e
not_yes false e = refl

module _ {A : Type 0} where
  pub all_get_d : (p : A → Bool) (xs : List A) (i : ℕ) (d : A) → all p xs ≡ true → i < length xs → p (get_or xs i d) ≡ true
  unfolding all
  all_get_d p [] i d a h = absurd (not-suc-le-zero h)
  all_get_d p (x ∷ xs) zero d a h = and_left (p x) (all p xs) a
  all_get_d p (x ∷ xs) (suc i) d a h = all_get_d p xs i d (and_right (p x) (all p xs) a) (le_of_suc-le-suc h)

  pub all_index : (p : A → Bool) (xs : List A) (d : A) → ((i : ℕ) → i < length xs → p (get_or xs i d) ≡ true) → all p xs ≡ true
  unfolding all
  all_index p [] d h = refl
  all_index p (x ∷ xs) d h = rw (h 0 (omega arith)) (all_index p xs d (λ i l. h (suc i) (omega arith)))

  pub all_weaker : (p q : A → Bool) → ((x : A) → p x ≡ true → q x ≡ true) → (xs : List A) → all p xs ≡ true → all q xs ≡ true
  unfolding all
  all_weaker p q h [] a = refl
  all_weaker p q h (x ∷ xs) a = rw (h x (and_left (p x) (all p xs) a)) (all_weaker p q h xs (and_right (p x) (all p xs) a))

-- ---- levels

pub decimal_grows : (v : ℕ) (xs : List ℕ) → v ≤ decimal_from v xs
unfolding decimal_from
decimal_grows v [] = omega arith
decimal_grows v (x ∷ xs) = omega (arith, decimal_grows (10 * v + (x - 48)) xs)

module _ (top : ℕ) (f : List ℕ) where
  pub level_leading : no_leading_zero f ≡ false → is_level top f ≡ false
  unfolding is_level
  level_leading e = rw e

  pub level_digit : all digit f ≡ false → is_level top f ≡ false
  unfolding is_level
  level_digit e = rw (e, and_false (no_leading_zero f))

  pub level_large : top < decimal f → is_level top f ≡ false
  unfolding is_level
  level_large h = rw (lt-leb (decimal f) top h, and_false (leb 1 (decimal f)), and_false (no_leading_zero f && all digit f))

  pub level_none : decimal f ≡ 0 → is_level top f ≡ false
  unfolding is_level
  level_none e = rw (e, and_false (no_leading_zero f && all digit f))

  pub level_is : no_leading_zero f ≡ true → all digit f ≡ true → 1 ≤ decimal f → decimal f ≤ top → is_level top f ≡ true
  unfolding is_level
  level_is e d h k = rw (e, d, le-leb 1 (decimal f) h, le-leb (decimal f) top k)

  pub level_least : is_level top f ≡ true → 1 ≤ decimal f
  unfolding is_level
  level_least e = leb-true 1 (decimal f) (and_left (leb 1 (decimal f)) (leb (decimal f) top) (and_right (no_leading_zero f && all digit f) (within 1 top (decimal f)) e))

  pub level_most : is_level top f ≡ true → decimal f ≤ top
  unfolding is_level
  level_most e = leb-true (decimal f) top (and_right (leb 1 (decimal f)) (leb (decimal f) top) (and_right (no_leading_zero f && all digit f) (within 1 top (decimal f)) e))

  -- a higher top takes it too
  pub level_wider : (higher : ℕ) → top ≤ higher → is_level top f ≡ true → is_level higher f ≡ true
  unfolding is_level
  level_wider higher h e =
      let form = and_left (no_leading_zero f && all digit f) (within 1 top (decimal f)) e in
      rw (form, le-leb 1 (decimal f) (level_least e), le-leb (decimal f) higher (omega (arith, level_most e)))

-- ---- names

pub lengths_differ : (xs ys : List ℕ) → (length xs ≡ length ys → ⊥) → same_bytes xs ys ≡ false
unfolding same_bytes
lengths_differ [] [] n = absurd (n refl)
lengths_differ [] (y ∷ ys) n = refl
lengths_differ (x ∷ xs) [] n = refl
lengths_differ (x ∷ xs) (y ∷ ys) n = rw (lengths_differ xs ys (λ e. n (ap suc e))) (and_false (eqb x y))

pub same_equal : (xs ys : List ℕ) → same_bytes xs ys ≡ true → xs ≡ ys
unfolding same_bytes
same_equal [] [] e = refl
same_equal [] (y ∷ ys) e = clash e refl
same_equal (x ∷ xs) [] e = clash e refl
same_equal (x ∷ xs) (y ∷ ys) e =
    ap₂ (λ (a : ℕ) (r : List ℕ). a ∷ r) (eqb-true x y (and_left (eqb x y) (same_bytes xs ys) e)) (same_equal xs ys (and_right (eqb x y) (same_bytes xs ys) e))

pub same_self : (xs : List ℕ) → same_bytes xs xs ≡ true
unfolding same_bytes
same_self [] = refl
same_self (x ∷ xs) = rw (eq-eqb x x refl) (same_self xs)

-- ---- the first line

-- a line has a field
pub fields_some : (xs : List ℕ) → 1 ≤ length (fields xs)
unfolding fields widen
fields_some [] = omega arith
fields_some (x ∷ xs) = by_cases (eqb x 9) (λ e. rw (e, fields) (omega arith)) (λ e. rw (e, fields) (wide (fields xs)))
  where
    wide : (fs : List Field) → 1 ≤ length (widen x fs)
    wide [] = omega arith
    wide (f ∷ fs) = omega arith

pub kind_yes : (m : ℕ) (f : Field) (F : List Field) → is_kind m f ≡ true → count_kind m (f ∷ F) ≡ suc (count_kind m F)
unfolding count_kind
kind_yes m f F e = rw (e, count_kind)

pub kind_no : (m : ℕ) (f : Field) (F : List Field) → is_kind m f ≡ false → count_kind m (f ∷ F) ≡ count_kind m F
unfolding count_kind
kind_no m f F e = rw (e, count_kind)

-- a column that is no plot column is a treatment column
pub column_plot : (f : Field) → is_column f ≡ true → get_or f 0 0 ≡ 112 → (is_kind 112 f ≡ true) × (is_kind 116 f ≡ false)
unfolding is_column is_kind
column_plot [] e b = clash e refl
column_plot (x ∷ xs) e b = (eq-eqb x 112 b, ne_eqb x 116 (λ z. omega arith))

pub column_treatment : (f : Field) → is_column f ≡ true → (get_or f 0 0 ≡ 112 → ⊥) → (is_kind 112 f ≡ false) × (is_kind 116 f ≡ true)
unfolding is_column is_kind
column_treatment [] e b = clash e refl
column_treatment (x ∷ []) e b = clash e refl
column_treatment (x ∷ y ∷ name) e b =
    (ne_eqb x 112 b, rw (ne_eqb x 112 b) at (and_left (eqb x 112 || eqb x 116) (eqb y 58) (and_left ((eqb x 112 || eqb x 116) && eqb y 58) (is_name name) e)))

pub length_names : (m : ℕ) (fs : List Field) → length (column_names m fs) ≡ count_kind m fs
unfolding column_names count_kind
length_names m [] = refl
length_names m (f ∷ fs) = by_cases (is_kind m f) (λ e. rw (e, column_names, count_kind, length_names m fs)) (λ e. rw (e, column_names, count_kind) (length_names m fs))

-- every column is of one of the two kinds
pub kinds_all : (fs : List Field) → all is_column fs ≡ true → count_kind 112 fs + count_kind 116 fs ≡ length fs
unfolding all count_kind
kinds_all [] a = refl
kinds_all (f ∷ fs) a =
    let g = and_left (is_column f) (all is_column fs) a in
    let k = kinds_all fs (and_right (is_column f) (all is_column fs) a) in
    by_cases (eqb (get_or f 0 0) 112)
    (λ b. let q = column_plot f g (eqb-true _ _ b) in omega (arith, kind_yes 112 f fs q.0, kind_no 116 f fs q.1))
    (λ b. let q = column_treatment f g (eqb-false _ _ b) in omega (arith, kind_no 112 f fs q.0, kind_yes 116 f fs q.1))

pub length_columns : (p t : ℕ) (fs : List Field) → length (columns_after p t fs) ≡ length fs
unfolding columns_after
length_columns p t [] = refl
length_columns p t (f ∷ fs) = by_cases (is_kind 112 f) (λ e. rw (e, columns_after) (ap suc (length_columns (suc p) t fs))) (λ e. rw (e, columns_after) (ap suc (length_columns p (suc t) fs)))

-- the columns that a header takes are columns of the level table
pub columns_fit : (p t : ℕ) (fs : List Field) → all is_column fs ≡ true → p + count_kind plot_mark fs ≤ most_columns → t + count_kind treatment_mark fs ≤ most_columns
    → all (λ c. ltb c most_fields) (columns_after p t fs) ≡ true
unfolding all columns_after count_kind
columns_fit p t [] a hp ht = refl
columns_fit p t (f ∷ fs) a hp ht =
    let g = and_left (is_column f) (all is_column fs) a in
    let r = and_right (is_column f) (all is_column fs) a in
    by_cases (eqb (get_or f 0 0) 112)
    (λ b. let q = column_plot f g (eqb-true _ _ b) in
    let y = kind_yes 112 f fs q.0 in
    let n = kind_no 116 f fs q.1 in
    rw (q.0, columns_after, lt-ltb p 12 (omega arith)) (columns_fit (suc p) t fs r (omega arith) (omega arith)))
    (λ b. let q = column_treatment f g (eqb-false _ _ b) in
    let y = kind_no 112 f fs q.0 in
    let n = kind_yes 116 f fs q.1 in
    rw (q.0, columns_after, lt-ltb (6 + t) 12 (omega arith)) (columns_fit p (suc t) fs r (omega arith) (omega arith)))

-- what the form of the first line tells
pub record FirstLine (fs : List Field) : Type 0 where
  pub some : 1 ≤ length fs
  pub few : length fs ≤ most_fields
  pub columns : all is_column fs ≡ true
  pub plots : count_kind plot_mark fs ≤ most_columns
  pub treatments : count_kind treatment_mark fs ≤ most_columns
  pub names : names_differ fs ≡ true

pub first_line_holds : (fs : List Field) → is_header fs ≡ true → FirstLine fs
unfolding is_header
first_line_holds fs e =
    let w : Bool = within 1 most_fields (length fs) in
    let p : Bool = leb (count_kind plot_mark fs) most_columns in
    let t : Bool = leb (count_kind treatment_mark fs) most_columns in
    let e2 = and_left (w && all is_column fs && p && t) (names_differ fs) e in
    let e3 = and_left (w && all is_column fs && p) t e2 in
    let e4 = and_left (w && all is_column fs) p e3 in
    let e5 = and_left w (all is_column fs) e4 in
    record {
      some = leb-true 1 (length fs) (and_left (leb 1 (length fs)) (leb (length fs) most_fields) e5);
      few = leb-true (length fs) most_fields (and_right (leb 1 (length fs)) (leb (length fs) most_fields) e5);
      columns = and_right w (all is_column fs) e4;
      plots = leb-true (count_kind plot_mark fs) most_columns (and_right (w && all is_column fs) p e3);
      treatments = leb-true (count_kind treatment_mark fs) most_columns (and_right (w && all is_column fs && p) t e2);
      names = and_right (w && all is_column fs && p && t) (names_differ fs) e;
    }

-- what question 3 tells
pub header_ended : (text : List ℕ) → question3 text ≡ true → has newline text ≡ true
unfolding question3
header_ended text e = and_left (has newline text) (is_header (header text)) e

pub header_form : (text : List ℕ) → question3 text ≡ true → FirstLine (header text)
unfolding question3
header_form text e = first_line_holds (header text) (and_right (has newline text) (is_header (header text)) e)

-- ---- questions 1 and 2

module _ (text levels : List ℕ) where
  pub refused_1 : length levels < table_cells → reading text levels ≡ refused 1
  unfolding reading_to
  refused_1 h = rw (lt-leb table_cells (length levels) h, reading_to)

  pub too_short : table_cells ≤ length levels → length text < 1 → reading text levels ≡ refused 2
  unfolding reading_to
  too_short l h = rw (le-leb table_cells (length levels) l, lt-leb 1 (length text) h, reading_to)

  pub too_long : table_cells ≤ length levels → most_text < length text → reading text levels ≡ refused 2
  unfolding reading_to
  too_long l h = rw (le-leb table_cells (length levels) l, lt-leb (length text) most_text h, and_false (leb 1 (length text)), reading_to)

  pub text_fits : table_cells ≤ length levels → 1 ≤ length text → length text ≤ most_text → reading text levels ≡ reading_from3 most_level text
  unfolding reading_to
  text_fits l h k = rw (le-leb table_cells (length levels) l, le-leb 1 (length text) h, le-leb (length text) most_text k, reading_to)

-- ---- what a reading tells

pub record Accepts (text levels : List ℕ) (n p t : ℕ) : Type 0 where
  pub table_fits : table_cells ≤ length levels
  pub header_good : FirstLine (header text)
  pub lines_good : all (is_plot_line most_level (length (header text))) (later_lines text) ≡ true
  pub plots : n ≡ length (later_lines text)
  pub plots_some : 1 ≤ n
  pub plots_few : n ≤ most_plots
  pub plot_columns_holds : p ≡ count_kind plot_mark (header text)
  pub treatment_columns_holds : t ≡ count_kind treatment_mark (header text)

three : (a b c n p t : ℕ) → read a b c ≡ read n p t → (n ≡ a) × (p ≡ b) × (t ≡ c)
three a b c n p t e = (cc, cc, cc)

-- a refusal is no reading
pub not_read : {P : Type 0} (q n p t : ℕ) → refused q ≡ read n p t → P
not_read q n p t e = let z : ◌≡◌ {A = ℕ} 0 1 = cc in absurd (no z)
  where
    no : ◌≡◌ {A = ℕ} 0 1 → ⊥
    no z = omega arith

-- Question 6's counts never refuse a table that was read.
pub read_accepts : (text levels : List ℕ) (n p t : ℕ) → reading text levels ≡ read n p t → Accepts text levels n p t
unfolding reading_to reading_from3 counts question4 question5
read_accepts text levels n p t e =
    by_cases (question1 levels)
    (λ q1. by_cases (question2 text)
    (λ q2. by_cases (question3 text)
    (λ q3. by_cases (question4 most_level text)
    (λ q4. by_cases (question5 text)
    (λ q5. accepts q1 q3 q4 q5 (three _ _ _ n p t (sym (rw (q1, q2, q3, q4, q5, reading_to, reading_from3)) ∙ e)))
    (λ q5. not_read 5 n p t (sym (rw (q1, q2, q3, q4, q5, reading_to, reading_from3)) ∙ e)))
    (λ q4. not_read 4 n p t (sym (rw (q1, q2, q3, q4, reading_to, reading_from3)) ∙ e)))
    (λ q3. not_read 3 n p t (sym (rw (q1, q2, q3, reading_to, reading_from3)) ∙ e)))
    (λ q2. not_read 2 n p t (sym (rw (q1, q2, reading_to)) ∙ e)))
    (λ q1. not_read 1 n p t (sym (rw (q1, reading_to)) ∙ e))
  where
    accepts : question1 levels ≡ true → question3 text ≡ true → question4 most_level text ≡ true → question5 text ≡ true
        → (n ≡ length (later_lines text)) × (p ≡ count_kind plot_mark (header text)) × (t ≡ count_kind treatment_mark (header text)) → Accepts text levels n p t
    accepts q1 q3 q4 q5 k = record {
      table_fits = leb-true table_cells (length levels) q1;
      header_good = header_form text q3;
      lines_good = q4;
      plots = k.0;
      plots_some = rw k.0 (leb-true 1 (length (later_lines text)) (and_left (leb 1 (length (later_lines text))) (leb (length (later_lines text)) most_plots) q5));
      plots_few = rw k.0 (leb-true (length (later_lines text)) most_plots (and_right (leb 1 (length (later_lines text))) (leb (length (later_lines text)) most_plots) q5));
      plot_columns_holds = k.1;
      treatment_columns_holds = k.2;
    }

-- ---- the cells that are written

pub length_with_plot : (cs : List ℕ) (u : ℕ) (fs : List Field) (T : List ℕ) → length (with_plot cs u fs T) ≡ length T
unfolding with_plot
length_with_plot [] u fs T = refl
length_with_plot (c ∷ cs) u [] T = refl
length_with_plot (c ∷ cs) u (f ∷ fs) T = length_with_plot cs u fs (set T (240 * c + u) (decimal f)) ∙ length-set T (240 * c + u) (decimal f)

pub length_with_plots : (cs : List ℕ) (u : ℕ) (ls : List Line) (T : List ℕ) → length (with_plots cs u ls T) ≡ length T
unfolding with_plots
length_with_plots cs u [] T = refl
length_with_plots cs u (l ∷ ls) T = length_with_plots cs (suc u) ls (with_plot cs u (fields l.bytes) T) ∙ length_with_plot cs u (fields l.bytes) T

-- the level table keeps its length
pub length_after : (o : Outcome) (text levels : List ℕ) → length (levels_after o text levels) ≡ length levels
unfolding levels_after
length_after (refused q) text levels = refl
length_after (read n p t) text levels = length_with_plots (columns_after 0 0 (header text)) 0 (later_lines text) levels

-- the fields of a plot line
pub row_levels : (top n : ℕ) (l : Line) → is_plot_line top n l ≡ true → (length (fields l.bytes) ≡ n) × (all (is_level top) (fields l.bytes) ≡ true)
unfolding is_plot_line is_row
row_levels top n l e =
    let r = and_right l.ended (eqb (length (fields l.bytes)) n && all (is_level top) (fields l.bytes)) e in (
      eqb-true (length (fields l.bytes)) n (and_left (eqb (length (fields l.bytes)) n) (all (is_level top) (fields l.bytes)) r),
      and_right (eqb (length (fields l.bytes)) n) (all (is_level top) (fields l.bytes)) r,
    )

-- the field that takes a column is one of them
field_in_lem : (top : ℕ) (cs : List ℕ) (fs : List Field) (c : ℕ) → all (is_level top) fs ≡ true → length fs ≡ length cs → has c cs ≡ true → is_level top (field_in c cs fs) ≡ true
unfolding all has field_in
field_in_lem top [] fs c a l h = clash h refl
field_in_lem top (d ∷ cs) [] c a l h = absurd (no l)
  where
    no : 0 ≡ suc (length cs) → ⊥
    no z = omega arith
field_in_lem top (d ∷ cs) (f ∷ fs) c a l h =
    by_cases (eqb d c)
    (λ e. rw (e, field_in) (and_left (is_level top f) (all (is_level top) fs) a))
    (λ e. rw (e, field_in) (field_in_lem top cs fs c (and_right (is_level top f) (all (is_level top) fs) a) (less l) (rw (e, has) at h)))
  where
    less : suc (length fs) ≡ suc (length cs) → length fs ≡ length cs
    less z = omega arith

-- each column of a kind is among those that the header takes
has_here : (c : ℕ) (cs : List ℕ) → has c (c ∷ cs) ≡ true
unfolding has
has_here c cs = rw (eq-eqb c c refl, has)

has_later : (c d : ℕ) (cs : List ℕ) → has c cs ≡ true → has c (d ∷ cs) ≡ true
unfolding has
has_later c d cs h = by_cases (eqb d c) (λ e. rw (e, has)) (λ e. rw (e, has) h)

plot_column : (p t : ℕ) (fs : List Field) (c : ℕ) → all is_column fs ≡ true → p ≤ c → c < p + count_kind plot_mark fs → has c (columns_after p t fs) ≡ true
unfolding all columns_after count_kind
plot_column p t [] c a h k = absurd (no h k)
  where
    no : p ≤ c → c < p + 0 → ⊥
    no h k = omega arith
plot_column p t (f ∷ fs) c a h k =
    let r = and_right (is_column f) (all is_column fs) a in
    by_cases (is_kind plot_mark f)
    (λ e. let y = kind_yes plot_mark f fs e in
    by_cases (eqb p c)
    (λ q. rw (e, columns_after, eqb-true p c q) (has_here c (columns_after (suc c) t fs)))
    (λ q. let n = eqb-false p c q in
    let low : suc p ≤ c = lt_of_le-ne h n in
    rw (e, columns_after) (has_later c p (columns_after (suc p) t fs) (plot_column (suc p) t fs c r low (omega arith)))))
    (λ e. let y = kind_no plot_mark f fs e in
    rw (e, columns_after) (has_later c (6 + t) (columns_after p (suc t) fs) (plot_column p (suc t) fs c r h (omega arith))))

treatment_column : (p t : ℕ) (fs : List Field) (c : ℕ) → all is_column fs ≡ true → 6 + t ≤ c → c < 6 + t + count_kind treatment_mark fs → has c (columns_after p t fs) ≡ true
unfolding all columns_after count_kind
treatment_column p t [] c a h k = absurd (no h k)
  where
    no : 6 + t ≤ c → c < 6 + t + 0 → ⊥
    no h k = omega arith
treatment_column p t (f ∷ fs) c a h k =
    let g = and_left (is_column f) (all is_column fs) a in
    let r = and_right (is_column f) (all is_column fs) a in
    by_cases (eqb (get_or f 0 0) 112)
    (λ b. let q = column_plot f g (eqb-true _ _ b) in
    let y = kind_no treatment_mark f fs q.1 in
    rw (q.0, columns_after) (has_later c p (columns_after (suc p) t fs) (treatment_column (suc p) t fs c r h (omega arith))))
    (λ b. let q = column_treatment f g (eqb-false _ _ b) in
    let y = kind_yes treatment_mark f fs q.1 in
    by_cases (eqb (6 + t) c)
    (λ z. rw (q.0, columns_after, eqb-true (6 + t) c z) (has_here c (columns_after p (suc t) fs)))
    (λ z. let low : suc (6 + t) ≤ c = lt_of_le-ne h (eqb-false (6 + t) c z) in
    rw (q.0, columns_after) (has_later c (6 + t) (columns_after p (suc t) fs) (treatment_column p (suc t) fs c r (omega arith) (omega arith)))))

-- ---- the level table cell by cell

-- cells of other places are not touched
plot_misses : (cs : List ℕ) (u : ℕ) (fs : List Field) (T : List ℕ) (i : ℕ) → ((c : ℕ) → has c cs ≡ true → i ≡ 240 * c + u → ⊥) → get_or (with_plot cs u fs T) i 0 ≡ get_or T i 0
unfolding with_plot
plot_misses [] u fs T i h = refl
plot_misses (c ∷ cs) u [] T i h = refl
plot_misses (c ∷ cs) u (f ∷ fs) T i h =
    plot_misses cs u fs (set T (240 * c + u) (decimal f)) i (λ d e. h d (has_later d c cs e))
    ∙ get_or-set_other T (240 * c + u) i (decimal f) 0 (h c (has_here c cs))

plots_miss : (cs : List ℕ) (u : ℕ) (ls : List Line) (T : List ℕ) (i : ℕ) → ((c v : ℕ) → has c cs ≡ true → v < length ls → i ≡ 240 * c + (u + v) → ⊥)
    → get_or (with_plots cs u ls T) i 0 ≡ get_or T i 0
unfolding with_plots
plots_miss cs u [] T i h = refl
plots_miss cs u (l ∷ ls) T i h =
    plots_miss cs (suc u) ls (with_plot cs u (fields l.bytes) T) i (λ c v e k z. h c (suc v) e (omega arith) (omega arith))
    ∙ plot_misses cs u (fields l.bytes) T i (λ c e z. h c 0 e (omega arith) (omega arith))

-- no column is taken twice
unfoldable distinct : List ℕ → Bool
unfolding has
distinct [] = true
distinct (c ∷ cs) = not (has c cs) && distinct cs

plot_reads : (cs : List ℕ) (u : ℕ) (fs : List Field) (T : List ℕ) (c : ℕ) → distinct cs ≡ true → length fs ≡ length cs → has c cs ≡ true → 240 * c + u < length T
    → get_or (with_plot cs u fs T) (240 * c + u) 0 ≡ decimal (field_in c cs fs)
unfolding with_plot distinct has field_in
plot_reads [] u fs T c d l h k = clash h refl
plot_reads (b ∷ cs) u [] T c d l h k = absurd (no l)
  where
    no : 0 ≡ suc (length cs) → ⊥
    no z = omega arith
plot_reads (b ∷ cs) u (f ∷ fs) T c d l h k =
    by_cases (eqb b c)
    (λ e. let q = eqb-true b c e in
    rw (e, field_in) (plot_misses cs u fs (set T (240 * b + u) (decimal f)) (240 * c + u) (λ a m z. alone q a m z)
    ∙ rw q (get_or-set_same T (240 * c + u) (decimal f) 0 k)))
    (λ e. rw (e, field_in) (plot_reads cs u fs (set T (240 * b + u) (decimal f)) c (and_right (not (has b cs)) (distinct cs) d) (less l) (rw (e, has) at h) (rw (length-set T (240 * b + u) (decimal f)) k)))
  where
    less : suc (length fs) ≡ suc (length cs) → length fs ≡ length cs
    less z = omega arith

    alone : b ≡ c → (a : ℕ) → has a cs ≡ true → 240 * c + u ≡ 240 * a + u → ⊥
    alone q a m z =
        let w : a ≡ b = omega arith in
        absurd (true≢false (sym (rw w at m) ∙ not_yes (has b cs) (and_left (not (has b cs)) (distinct cs) d)))

plots_read : (cs : List ℕ) (u : ℕ) (ls : List Line) (T : List ℕ) (c v : ℕ) → distinct cs ≡ true → all (is_plot_line most_level (length cs)) ls ≡ true → has c cs ≡ true → v < length ls
    → u + length ls ≤ 240 → 240 * c + (u + v) < length T → get_or (with_plots cs u ls T) (240 * c + (u + v)) 0 ≡ decimal (field_in c cs (fields (get_or ls v no_line).bytes))
unfolding with_plots all
plots_read cs u [] T c v d a h l b k = absurd (not-suc-le-zero l)
plots_read cs u (x ∷ ls) T c zero d a h l b k =
    let r = row_levels most_level (length cs) x (and_left (is_plot_line most_level (length cs) x) (all (is_plot_line most_level (length cs)) ls) a) in
    rw add-zero
    (plots_miss cs (suc u) ls (with_plot cs u (fields x.bytes) T) (240 * c + u) (λ e w m n z. omega arith)
    ∙ plot_reads cs u (fields x.bytes) T c d r.0 h (omega arith))
plots_read cs u (x ∷ ls) T c (suc v) d a h l b k =
    let e : u + suc v ≡ suc u + v = omega arith in
    rw e (plots_read cs (suc u) ls (with_plot cs u (fields x.bytes) T) c v d (and_right (is_plot_line most_level (length cs) x) (all (is_plot_line most_level (length cs)) ls) a) h (le_of_suc-le-suc l) (omega arith)
    (rw (length_with_plot cs u (fields x.bytes) T) (omega arith)))

-- the columns that a header takes, and no others
columns_only : (p t : ℕ) (fs : List Field) (c : ℕ) → all is_column fs ≡ true → has c (columns_after p t fs) ≡ true
    → ((p ≤ c) × (c < p + count_kind plot_mark fs)) ⊎ ((6 + t ≤ c) × (c < 6 + t + count_kind treatment_mark fs))
unfolding all columns_after count_kind has
columns_only p t [] c a h = clash h refl
columns_only p t (f ∷ fs) c a h =
    let g = and_left (is_column f) (all is_column fs) a in
    let r = and_right (is_column f) (all is_column fs) a in
    by_cases (eqb (get_or f 0 0) 112)
    (λ b. let q = column_plot f g (eqb-true _ _ b) in
    let y = kind_yes plot_mark f fs q.0 in
    let n = kind_no treatment_mark f fs q.1 in
    let k = rw (q.0, columns_after) at h in
    by_cases (eqb p c)
    (λ z. let w = eqb-true p c z in inl (omega arith, omega arith))
    (λ z. ⊎_elim (λ w. inl (omega arith, omega arith)) (λ w. inr (omega arith, omega arith)) (columns_only (suc p) t fs c r (rw (z, has) at k))))
    (λ b. let q = column_treatment f g (eqb-false _ _ b) in
    let y = kind_no plot_mark f fs q.0 in
    let n = kind_yes treatment_mark f fs q.1 in
    let k = rw (q.0, columns_after) at h in
    by_cases (eqb (6 + t) c)
    (λ z. let w = eqb-true (6 + t) c z in inr (omega arith, omega arith))
    (λ z. ⊎_elim (λ w. inl (omega arith, omega arith)) (λ w. inr (omega arith, omega arith)) (columns_only p (suc t) fs c r (rw (z, has) at k))))

columns_distinct : (p t : ℕ) (fs : List Field) → all is_column fs ≡ true → p + count_kind plot_mark fs ≤ 6 → distinct (columns_after p t fs) ≡ true
unfolding all columns_after count_kind distinct
columns_distinct p t [] a l = refl
columns_distinct p t (f ∷ fs) a l =
    let g = and_left (is_column f) (all is_column fs) a in
    let r = and_right (is_column f) (all is_column fs) a in
    by_cases (eqb (get_or f 0 0) 112)
    (λ b. let q = column_plot f g (eqb-true _ _ b) in
    let y = kind_yes plot_mark f fs q.0 in
    let no : has p (columns_after (suc p) t fs) ≡ false =
    by_cases (has p (columns_after (suc p) t fs)) (λ h. ⊎_elim (λ w. absurd (below p w.0)) (λ w. absurd (above p t w.0 (omega arith))) (columns_only (suc p) t fs p r h)) (λ h. h) in
    rw (q.0, columns_after, no) (columns_distinct (suc p) t fs r (omega arith)))
    (λ b. let q = column_treatment f g (eqb-false _ _ b) in
    let y = kind_no plot_mark f fs q.0 in
    let no : has (6 + t) (columns_after p (suc t) fs) ≡ false =
    by_cases (has (6 + t) (columns_after p (suc t) fs)) (λ h. ⊎_elim (λ w. absurd (past_six t (p + count_kind plot_mark fs) w.1 (omega arith))) (λ w. absurd (next_six t w.0)) (columns_only p (suc t) fs (6 + t) r h)) (λ h. h) in
    rw (q.0, columns_after, no) (columns_distinct p (suc t) fs r (omega arith)))
  where
    below : (a : ℕ) → suc a ≤ a → ⊥
    below a h = omega arith

    next_six : (t : ℕ) → 6 + suc t ≤ 6 + t → ⊥
    next_six t h = omega arith

    above : (p t : ℕ) → 6 + t ≤ p → p < 6 → ⊥
    above p t h k = omega arith

    past_six : (t s : ℕ) → 6 + t < s → s ≤ 6 → ⊥
    past_six t s h k = omega arith

-- the column that field i takes is one of them, and takes no other field
has_get_d : (cs : List ℕ) (i : ℕ) → i < length cs → has (get_or cs i 0) cs ≡ true
has_get_d [] i h = absurd (not-suc-le-zero h)
has_get_d (c ∷ cs) zero h = has_here c cs
has_get_d (c ∷ cs) (suc i) h = has_later (get_or cs i 0) c cs (has_get_d cs i (le_of_suc-le-suc h))

field_taken : (cs : List ℕ) (fs : List Field) (i : ℕ) → distinct cs ≡ true → length fs ≡ length cs → i < length cs → field_in (get_or cs i 0) cs fs ≡ get_or fs i []
unfolding distinct field_in
field_taken [] fs i d l h = absurd (not-suc-le-zero h)
field_taken (c ∷ cs) [] i d l h = absurd (suc-ne-zero _ (sym l))
field_taken (c ∷ cs) (f ∷ fs) zero d l h = rw (eq-eqb c c refl, field_in)
field_taken (c ∷ cs) (f ∷ fs) (suc i) d l h =
    by_cases (eqb c (get_or cs i 0))
    (λ e. clash (ap (λ (b : ℕ). has b cs) (eqb-true c (get_or cs i 0) e) ∙ has_get_d cs i (le_of_suc-le-suc h)) (not_yes (has c cs) (and_left (not (has c cs)) (distinct cs) d)))
    (λ e. rw (e, field_in) (field_taken cs fs i (and_right (not (has c cs)) (distinct cs) d) (suc_inj l) (le_of_suc-le-suc h)))

-- different fields take different columns
distinct_places : (cs : List ℕ) (i j : ℕ) → distinct cs ≡ true → i < length cs → j < length cs → get_or cs i 0 ≡ get_or cs j 0 → i ≡ j
unfolding distinct
distinct_places [] i j d h k e = absurd (not-suc-le-zero h)
distinct_places (c ∷ cs) zero zero d h k e = refl
distinct_places (c ∷ cs) zero (suc j) d h k e = clash (ap (λ (b : ℕ). has b cs) e ∙ has_get_d cs j (le_of_suc-le-suc k)) (not_yes (has c cs) (and_left (not (has c cs)) (distinct cs) d))
distinct_places (c ∷ cs) (suc i) zero d h k e = clash (ap (λ (b : ℕ). has b cs) (sym e) ∙ has_get_d cs i (le_of_suc-le-suc h)) (not_yes (has c cs) (and_left (not (has c cs)) (distinct cs) d))
distinct_places (c ∷ cs) (suc i) (suc j) d h k e = ap suc (distinct_places cs i j (and_right (not (has c cs)) (distinct cs) d) (le_of_suc-le-suc h) (le_of_suc-le-suc k) e)

pub columns_differ : (fs : List Field) → FirstLine fs → (i j : ℕ) → i < length fs → j < length fs → get_or (columns_after 0 0 fs) i 0 ≡ get_or (columns_after 0 0 fs) j 0 → i ≡ j
columns_differ fs f i j h k e =
    distinct_places (columns_after 0 0 fs) i j (columns_distinct 0 0 fs f.columns (omega (arith, f.plots))) (rw (length_columns 0 0 fs) h) (rw (length_columns 0 0 fs) k) e

-- columns whose cells are not zero
nonzero_all : (F : List ℕ) → ((u : ℕ) → u < length F → 1 ≤ get_or F u 0) → nonzero F ≡ true
unfolding nonzero
nonzero_all [] h = refl
nonzero_all (x ∷ F) h =
    let k = h 0 (omega arith) in
    rw (ne_eqb x 0 (λ z. absurd (no z (h 0 (omega arith)))), nonzero) (nonzero_all F (λ u l. h (suc u) (omega arith)))
  where
    no : x ≡ 0 → 1 ≤ x → ⊥
    no z k = omega arith

columns_nonzero : (n : ℕ) (T : List ℕ) (c m : ℕ) → ((d u : ℕ) → c ≤ d → d < c + m → u < n → 1 ≤ get_or T (240 * d + u) 0) → all_nonzero (columns_from n T c m) ≡ true
unfolding all_nonzero columns_from
columns_nonzero n T c zero h = refl
columns_nonzero n T c (suc m) h =
    rw (nonzero_all (take n (drop (240 * c) T)) here, all_nonzero) (columns_nonzero n T (suc c) m (λ d u a b l. h d u (omega arith) (omega arith) l))
  where
    here : (u : ℕ) → u < length (take n (drop (240 * c) T)) → 1 ≤ get_or (take n (drop (240 * c) T)) u 0
    here u l =
        let k : u < n = omega (arith, length-take n (drop (240 * c) T)) in
        rw (get_or-take n (drop (240 * c) T) u 0 k, get_or-drop (240 * c) T u 0) (h c u (omega arith) (omega arith) k)

-- ---- what is known of a table that was read

module _ (text levels : List ℕ) (n p t : ℕ) (e : reading text levels ≡ read n p t) where
  abbrev table : List ℕ
  table = levels_after (reading text levels) text levels

  after : table ≡ with_plots (columns_after 0 0 (header text)) 0 (later_lines text) levels
  unfolding levels_after
  after = rw e

  taken : (c : ℕ) → Used p t c → (has c (columns_after 0 0 (header text)) ≡ true) × (c < 12)
  taken c w =
      let s = read_accepts text levels n p t e in
      ⊎_elim
      (λ h. (plot_column 0 0 (header text) c s.header_good.columns (omega arith) (omega (arith, s.plot_columns_holds)), omega (arith, s.plot_columns_holds, s.header_good.plots)))
      (λ h. (treatment_column 0 0 (header text) c s.header_good.columns (omega arith) (omega (arith, s.treatment_columns_holds)), omega (arith, s.treatment_columns_holds, s.header_good.treatments)))
      w

  -- a line has a field for each of the columns
  rows_good : all (is_plot_line most_level (length (columns_after 0 0 (header text)))) (later_lines text) ≡ true
  rows_good = rw (length_columns 0 0 (header text)) (read_accepts text levels n p t e).lines_good

  module _ (c u : ℕ) (w : Used p t c) (l : u < n) where
    -- a used cell holds the decimal value of its field
    pub cell_read : get_or table (240 * c + u) 0 ≡ decimal (cell_field text c u)
    cell_read =
        let a = read_accepts text levels n p t e in
        let k = taken c w in
        let d = columns_distinct 0 0 (header text) a.header_good.columns (omega (arith, a.header_good.plots)) in
        let v : u < length (later_lines text) = omega (arith, a.plots) in
        let few : 0 + length (later_lines text) ≤ 240 = omega (arith, a.plots, a.plots_few) in
        let room : 240 * c + (0 + u) < length levels = omega (arith, a.plots_few, a.table_fits) in
        rw after (rw (zero-add u) at (plots_read (columns_after 0 0 (header text)) 0 (later_lines text) levels c u d rows_good k.0 v few room))

    -- which is a level
    pub cell_level : is_level most_level (cell_field text c u) ≡ true
    cell_level =
        let v : u < length (later_lines text) = omega (arith, (read_accepts text levels n p t e).plots) in
        let line = get_or (later_lines text) u no_line in
        let r = row_levels most_level (length (columns_after 0 0 (header text))) line (all_get_d (is_plot_line most_level (length (columns_after 0 0 (header text)))) (later_lines text) u no_line rows_good v) in
        field_in_lem most_level (columns_after 0 0 (header text)) (fields line.bytes) c r.1 r.0 (taken c w).0

  used_column : (c : ℕ) → has c (columns_after 0 0 (header text)) ≡ true → Used p t c
  used_column c m =
      let a = read_accepts text levels n p t e in
      ⊎_elim (λ w. inl (omega (arith, a.plot_columns_holds))) (λ w. inr (omega arith, omega (arith, a.treatment_columns_holds)))
      (columns_only 0 0 (header text) c a.header_good.columns m)

  -- a cell that no plot or column uses is not touched
  pub cell_kept : (i : ℕ) → ((c u : ℕ) → Used p t c → u < n → i ≡ 240 * c + u → ⊥) → get_or table i 0 ≡ get_or levels i 0
  cell_kept i h =
      let a = read_accepts text levels n p t e in
      rw after
      (plots_miss (columns_after 0 0 (header text)) 0 (later_lines text) levels i
      (λ c v m l z. h c v (used_column c m) (omega (arith, a.plots)) (omega arith)))

  -- the column that field i of the first line takes has the levels that stand in field i of each line
  module _ (i : ℕ) (h : i < length (header text)) where
    abbrev column : ℕ
    column = get_or (columns_after 0 0 (header text)) i 0

    has_column : has column (columns_after 0 0 (header text)) ≡ true
    has_column = has_get_d (columns_after 0 0 (header text)) i (rw (length_columns 0 0 (header text)) h)

    pub column_inside : column < 12
    column_inside = (taken column (used_column column has_column)).1

    pub column_read : (u : ℕ) → u < n → get_or table (240 * column + u) 0 ≡ decimal (get_or (fields (get_or (later_lines text) u no_line).bytes) i [])
    column_read u l =
        let a = read_accepts text levels n p t e in
        let v : u < length (later_lines text) = omega (arith, a.plots) in
        let line = get_or (later_lines text) u no_line in
        let r = row_levels most_level (length (columns_after 0 0 (header text))) line (all_get_d (is_plot_line most_level (length (columns_after 0 0 (header text)))) (later_lines text) u no_line rows_good v) in
        let d = columns_distinct 0 0 (header text) a.header_good.columns (omega (arith, a.header_good.plots)) in
        cell_read column u (used_column column has_column) l
        ∙ ap decimal (field_taken (columns_after 0 0 (header text)) (fields line.bytes) i d r.0 (rw (length_columns 0 0 (header text)) h))

  -- the counts are within limits, so of question 6 only the family buffer is left
  pub read_limits : (buffer : ℕ) → within_limits n p (length table) buffer ≡ leb 7680 buffer
  unfolding within_limits
  read_limits buffer =
      let s = read_accepts text levels n p t e in
      rw (lt-ltb 0 n s.plots_some, le-leb n 240 s.plots_few, le-leb p 6 (omega (arith, s.plot_columns_holds, s.header_good.plots)), le-leb 2880 (length table) (rw (length_after (reading text levels) text levels) s.table_fits))

  used : (c u : ℕ) → Used p t c → u < n → 1 ≤ get_or table (240 * c + u) 0
  used c u w l = rw (cell_read c u w l) (level_least most_level (cell_field text c u) (cell_level c u w l))

  -- Question 7 never refuses a table that was read, of the plot columns or of the treatment columns.
  pub plot_levels_nonzero : all_nonzero (columns_from n table 0 p) ≡ true
  plot_levels_nonzero = columns_nonzero n table 0 p (λ c u a b l. used c u (inl (omega arith)) l)

  pub treatment_levels_nonzero : all_nonzero (columns_from n table 6 t) ≡ true
  treatment_levels_nonzero = columns_nonzero n table 6 t (λ c u a b l. used c u (inr (a, b)) l)

-- ---- what is printed is read back

pub fields_one : (f : Field) → has tab f ≡ false → fields f ≡ f ∷ []
unfolding fields widen has
fields_one [] h = refl
fields_one (x ∷ f) h =
    by_cases (eqb x tab)
    (λ e. clash (rw (e, has)) h)
    (λ e. rw (e, fields, fields_one f (rw (e, has) at h)))

pub fields_more : (f : Field) (xs : List ℕ) → has tab f ≡ false → fields (f ++ tab ∷ xs) ≡ f ∷ fields xs
unfolding fields widen has
fields_more [] xs h = refl
fields_more (x ∷ f) xs h =
    by_cases (eqb x tab)
    (λ e. clash (rw (e, has)) h)
    (λ e. rw (e, fields, fields_more f xs (rw (e, has) at h)))

pub fields_joined : (f : Field) (fs : List Field) → all (free tab) (f ∷ fs) ≡ true → fields (joined (f ∷ fs)) ≡ f ∷ fs
unfolding joined all
fields_joined f [] a = fields_one f (not_yes (has tab f) (and_left (free tab f) true a))
fields_joined f (g ∷ fs) a =
    fields_more f (joined (g ∷ fs)) (not_yes (has tab f) (and_left (free tab f) (all (free tab) (g ∷ fs)) a))
    ∙ ap (λ (r : List Field). f ∷ r) (fields_joined g fs (and_right (free tab f) (all (free tab) (g ∷ fs)) a))

pub lines_more : (l xs : List ℕ) → has newline l ≡ false → lines (l ++ newline ∷ xs) ≡ record { bytes = l; ended = true } ∷ lines xs
unfolding lines extend has
lines_more [] xs h = refl
lines_more (x ∷ l) xs h =
    by_cases (eqb x newline)
    (λ e. clash (rw (e, has)) h)
    (λ e. rw (e, lines, lines_more l xs (rw (e, has) at h)))

-- a line that is printed
abbrev pub printed_line : List Field → Line
printed_line fs = record { bytes = joined fs; ended = true }

pub lines_printed : (ls : List (List Field)) → all (λ fs. free newline (joined fs)) ls ≡ true → lines (printed ls) ≡ map printed_line ls
unfolding printed all lines
lines_printed [] a = refl
lines_printed (fs ∷ ls) a =
    let rest : Bool = all (λ fs. free newline (joined fs)) ls in
    lines_more (joined fs) (printed ls) (not_yes (has newline (joined fs)) (and_left (free newline (joined fs)) rest a))
    ∙ ap (λ (r : List Line). printed_line fs ∷ r) (lines_printed ls (and_right (free newline (joined fs)) rest a))

-- a level's digits
digits_value : (k n : ℕ) (ds : List ℕ) → n < k → decimal_from 0 (digits_before k n ds) ≡ decimal_from n ds
unfolding digits_before decimal_from
digits_value zero n ds h = absurd (not-suc-le-zero h)
digits_value (suc k) n ds h =
    by_cases (ltb n 10)
    (λ e. let z : 10 * 0 + (48 + n - 48) ≡ n = omega arith in rw (e, digits_before) (ap (λ (v : ℕ). decimal_from v ds) z))
    (λ e. let l = ltb-false n 10 e in
    let z : 10 * (n / 10) + (48 + n % 10 - 48) ≡ n = omega arith in
    rw (e, digits_before) (digits_value k (n / 10) ((48 + n % 10) ∷ ds) (omega arith) ∙ ap (λ (v : ℕ). decimal_from v ds) z))

pub decimal_back : (n : ℕ) → decimal (decimal_of n) ≡ n
unfolding decimal_of decimal_from
decimal_back n = digits_value (suc n) n [] (omega arith)

digit_of : (m : ℕ) → m < 10 → digit (48 + m) ≡ true
digit_of m h = rw (le-leb 48 (48 + m) (omega arith), le-leb (48 + m) 57 (omega arith))

digits_all : (k n : ℕ) (ds : List ℕ) → all digit ds ≡ true → all digit (digits_before k n ds) ≡ true
unfolding digits_before all
digits_all zero n ds a = a
digits_all (suc k) n ds a =
    by_cases (ltb n 10)
    (λ e. rw (e, digits_before, digit_of n (ltb-true n 10 e)) a)
    (λ e. rw (e, digits_before) (digits_all k (n / 10) ((48 + n % 10) ∷ ds) (rw (digit_of (n % 10) (omega arith)) a)))

digits_first : (k n : ℕ) (ds : List ℕ) → n < k → 1 ≤ n → no_leading_zero (digits_before k n ds) ≡ true
unfolding digits_before no_leading_zero
digits_first zero n ds h l = absurd (not-suc-le-zero h)
digits_first (suc k) n ds h l =
    by_cases (ltb n 10)
    (λ e. rw (e, digits_before, ne_eqb (48 + n) 48 (λ z. omega arith)))
    (λ e. let t = ltb-false n 10 e in
    rw (e, digits_before) (digits_first k (n / 10) ((48 + n % 10) ∷ ds) (omega arith) (omega arith)))

-- every level can be printed
pub decimal_level : (top n : ℕ) → 1 ≤ n → n ≤ top → is_level top (decimal_of n) ≡ true
unfolding decimal_of all
decimal_level top n h k =
    let v = decimal_back n in
    level_is top (decimal_of n) (digits_first (suc n) n [] (omega arith) h) (digits_all (suc n) n [] refl) (omega arith) (omega arith)

-- ---- the sample sheet

-- its counts
pub sample_read : reading sample_sheet (replicate 2880 0) ≡ read 4 1 1
unfolding reading_to reading_from3 question3 question4 question5 counts is_header header later_lines has up_to past fields widen lines extend all is_column is_name count_kind is_kind names_differ new_name same_bytes is_plot_line is_row is_level no_leading_zero decimal_from
sample_read = refl

-- its level table
pub sample_levels : levels_after (read 4 1 1) sample_sheet (replicate 2880 0) ≡ 1 ∷ 1 ∷ 2 ∷ 2 ∷ replicate 1436 0 ++ 1 ∷ 2 ∷ 1 ∷ 2 ∷ replicate 1436 0
unfolding levels_after header later_lines up_to past fields widen lines extend columns_after is_kind with_plots with_plot decimal_from
sample_levels = refl
