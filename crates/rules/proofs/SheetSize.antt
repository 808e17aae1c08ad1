-- The longest sheet that is read: 12 columns of 14 bytes and 240 lines of 12 levels of ten digits, each field with the byte after it.
-- Assumes nothing.
use mathlib.Core.Path.{◌≡◌, refl, ap, ◌∙◌}
use mathlib.Core.Bool.{Bool, true, ◌&&◌, ◌||◌}
use mathlib.Core.List.{List, [], ◌∷◌}
use Prim.Native.Nat.{ℕ, zero, suc, ◌+◌, ◌-◌, ◌*◌, ◌^◌, ◌≤◌, ◌<◌}
use native.Mathlib.Nat.{not-suc-le-zero, suc-mul, pow-suc, mul_assoc, mul-le-mul_left}
use native.Mathlib.Omega.{arith}
use lib.Dec.{eqb, leb}
use lib.ListN.{length}
use borrow.Author.Tests.{leb-true}
use Rattle.rules.specs.Limits.{most_plots, most_level, most_name_tail}
use Rattle.rules.specs.Sheet.{within, all, newline, tab, up_to, past, Line, extend, lines, Field, widen, fields, letter, letter_or_digit, is_name, plot_mark, treatment_mark, is_column, header, decimal_from, is_level, is_plot_line, later_lines, read, reading}
use Rattle.rules.proofs.Numbering.{by_cases}
use Rattle.rules.proofs.Sheet.{and_left, and_right, decimal_grows, fields_some, row_levels, level_most, FirstLine, read_accepts}
use Rattle.rules.proofs.Labels.{level_digits}

-- ---- a line is as long as its fields, each with the byte after it

unfoldable spread : List Field → ℕ
spread [] = 0
spread (f ∷ fs) = suc (length f) + spread fs

spread_fields : (xs : List ℕ) → spread (fields xs) ≡ suc (length xs)
unfolding spread fields widen
spread_fields [] = refl
spread_fields (x ∷ xs) =
    by_cases (eqb x tab)
    (λ e. rw (e, fields) (omega (arith, spread_fields xs)))
    (λ e. rw (e, fields) (wider (fields xs) (fields_some xs) ∙ ap suc (spread_fields xs)))
  where
    wider : (fs : List Field) → 1 ≤ length fs → spread (widen x fs) ≡ suc (spread fs)
    wider [] h = absurd (not-suc-le-zero h)
    wider (f ∷ fs) h = omega arith

spread_most : (m : ℕ) (p : Field → Bool) → ((f : Field) → p f ≡ true → length f ≤ m) → (fs : List Field) → all p fs ≡ true → spread fs ≤ length fs * suc m
unfolding spread all
spread_most m p h [] a = omega arith
spread_most m p h (f ∷ fs) a =
    let l = h f (and_left (p f) (all p fs) a) in
    let r = spread_most m p h fs (and_right (p f) (all p fs) a) in
    omega (arith, suc-mul (length fs) (suc m))

-- ---- a text is as long as its lines

unfoldable spans : List Line → ℕ
spans [] = 0
spans (l ∷ ls) = suc (length l.bytes) + spans ls

spans_lines : (xs : List ℕ) → length xs ≤ spans (lines xs)
unfolding spans lines extend
spans_lines [] = omega arith
spans_lines (x ∷ xs) =
    by_cases (eqb x newline)
    (λ e. rw (e, lines) (omega (arith, spans_lines xs)))
    (λ e. rw (e, lines) (longer (lines xs) (spans_lines xs)))
  where
    longer : (ls : List Line) → length xs ≤ spans ls → suc (length xs) ≤ spans (extend x ls)
    longer [] h = omega arith
    longer (l ∷ ls) h = omega arith

spans_most : (m : ℕ) (p : Line → Bool) → ((l : Line) → p l ≡ true → suc (length l.bytes) ≤ m) → (ls : List Line) → all p ls ≡ true → spans ls ≤ length ls * m
unfolding spans all
spans_most m p h [] a = omega arith
spans_most m p h (l ∷ ls) a =
    let k = h l (and_left (p l) (all p ls) a) in
    let r = spans_most m p h ls (and_right (p l) (all p ls) a) in
    omega (arith, suc-mul (length ls) m)

-- the first line and the rest
parts_length : (b : ℕ) (xs : List ℕ) → length xs ≤ suc (length (up_to b xs)) + length (past b xs)
unfolding up_to past
parts_length b [] = omega arith
parts_length b (x ∷ xs) = by_cases (eqb x b) (λ e. rw (e, up_to, past) (omega arith)) (λ e. rw (e, up_to, past) (omega (arith, parts_length b xs)))

-- ---- a column has at most 14 bytes, a level at most ten

column_length : (f : Field) → is_column f ≡ true → length f ≤ 14
unfolding is_column is_name
column_length [] e = omega arith
column_length (x ∷ []) e = omega arith
column_length (x ∷ y ∷ []) e = omega arith
column_length (x ∷ y ∷ z ∷ zs) e =
    let n = and_right ((eqb x plot_mark || eqb x treatment_mark) && eqb y 58) (letter z && within 1 most_name_tail (length zs) && all letter_or_digit zs) e in
    let w = and_right (letter z) (within 1 most_name_tail (length zs)) (and_left (letter z && within 1 most_name_tail (length zs)) (all letter_or_digit zs) n) in
    let l = leb-true (length zs) most_name_tail (and_right (leb 1 (length zs)) (leb (length zs) most_name_tail) w) in
    omega arith

-- k digits more make a number at least 10 ^ k times as large
digits_few : (k v : ℕ) (xs : List ℕ) → decimal_from v xs < 10 ^ k * v → length xs < k
unfolding decimal_from
digits_few zero v xs h = absurd (no h (decimal_grows v xs))
  where
    no : decimal_from v xs < 10 ^ 0 * v → v ≤ decimal_from v xs → ⊥
    no h g = omega arith
digits_few (suc k) v [] h = omega arith
digits_few (suc k) v (x ∷ xs) h =
    let e : 10 ^ suc k * v ≡ 10 ^ k * (10 * v) = ap (λ (z : ℕ). z * v) (pow-suc 10 k) ∙ mul_assoc (10 ^ k) 10 v in
    let m : 10 ^ k * (10 * v) ≤ 10 ^ k * (10 * v + (x - 48)) = mul-le-mul_left (10 ^ k) (omega arith) in
    let r = digits_few k (10 * v + (x - 48)) xs (omega arith) in
    omega arith

level_length : (f : Field) → is_level most_level f ≡ true → length f ≤ 10
unfolding decimal_from
level_length [] e = omega arith
level_length (x ∷ xs) e =
    let most = level_most most_level (x ∷ xs) e in
    let l = digits_few 10 (10 * 0 + (x - 48)) xs (omega (arith, (level_digits most_level x xs e).first)) in
    omega arith

line_length : (n : ℕ) → n ≤ 12 → (l : Line) → is_plot_line most_level n l ≡ true → suc (length l.bytes) ≤ 132
line_length n h l e =
    let r = row_levels most_level n l e in
    omega (arith, r.0, spread_fields l.bytes, spread_most 10 (is_level most_level) level_length (fields l.bytes) r.1)

-- ---- the bytes of a sheet

-- of a text whose lines have the form
pub form_length : (text : List ℕ) → FirstLine (header text) → all (is_plot_line most_level (length (header text))) (later_lines text) ≡ true → length (later_lines text) ≤ most_plots → length text ≤ 31860
unfolding header later_lines
form_length text form rows few =
    let first = spread_most 14 is_column column_length (header text) form.columns in
    let later = spans_most 132 (is_plot_line most_level (length (header text))) (line_length (length (header text)) form.few) (later_lines text) rows in
    omega (arith, first, later, spread_fields (up_to newline text), spans_lines (past newline text), parts_length newline text, form.few, few)

pub sheet_length : (text levels : List ℕ) (n p t : ℕ) → reading text levels ≡ read n p t → length text ≤ 31860
sheet_length text levels n p t e =
    let a = read_accepts text levels n p t e in
    form_length text a.header_good a.lines_good (omega (arith, a.plots, a.plots_few))
