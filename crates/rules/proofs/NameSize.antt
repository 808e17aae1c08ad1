-- Laws of the lengths of decimal numbers and of names: a plot member's name has at most 80 bytes, a treatment member's 158.
-- Assumes nothing.
use mathlib.Core.Path.{◌≡◌, refl}
use mathlib.Core.Logic.{⊎_elim}
use mathlib.Core.Bool.{Bool, true, ◌&&◌, ◌||◌}
use mathlib.Core.List.{List, [], ◌∷◌}
use Prim.Native.Nat.{ℕ, zero, suc, ◌+◌, ◌*◌, ◌-◌, ◌/◌, ◌%◌, ◌^◌, ◌≤◌, ◌<◌}
use native.Mathlib.Nat.{not-suc-le-zero, pow-suc}
use native.Mathlib.Omega.{arith}
use lib.Dec.{eqb, leb, ltb}
use lib.IntN.{ℤ, pos, negsuc, nat_abs}
use lib.ListN.{length, get_or, drop, length-append}
use borrow.Author.Tests.{leb-true, ltb-false}
use Rattle.rules.specs.Limits.{name_bytes}
use Rattle.rules.specs.Factor.{Column, classes}
use Rattle.rules.specs.Family.{Family, alike}
use Rattle.rules.specs.Relation.{member_at}
use Rattle.rules.specs.Lists.{passing_from, digits_before, decimal_of}
use Rattle.rules.specs.Sheet.{column_names, Field, all, within, letter, letter_or_digit, is_name, is_column, is_kind, header, plot_mark, treatment_mark, question3}
use Rattle.rules.specs.Names.{Side, coarser_side, finer_side, name_column, name_infimum, name_supremum, name_place, equivalent_column, join_of, listed, shown, name_by_supremum, name_by_infimum, name_by_column, name_of, with_commas, bytes_of}
use Rattle.rules.specs.Naming.{name_on, Kind, plot, treatment, mark_of, kind_names, kind_columns, looked_at, looked_names, name_at}
use Rattle.rules.specs.Table.{signed}
use Rattle.rules.proofs.Lists.{append_at}
use Rattle.rules.proofs.Numbering.{by_cases}
use Rattle.rules.proofs.Members.{clash}
use Rattle.rules.proofs.Sheet.{and_left, and_right, header_form}
use Rattle.rules.proofs.NamesLooked.{length_kind, length_looked}

-- ---- decimal numbers

digits_length : (k n : ℕ) (ds : List ℕ) (j : ℕ) → n < 10 ^ suc j → length (digits_before k n ds) ≤ suc j + length ds
unfolding digits_before
digits_length zero n ds j h = omega arith
digits_length (suc k) n ds zero h =
    by_cases (ltb n 10)
    (λ e. rw (e, digits_before) (omega arith))
    (λ e. let l = ltb-false n 10 e in let z : 1 ≤ 0 = omega arith in absurd (not-suc-le-zero z))
digits_length (suc k) n ds (suc j) h =
    by_cases (ltb n 10)
    (λ e. rw (e, digits_before) (omega arith))
    (λ e. let p : 10 ^ suc (suc j) ≡ 10 ^ suc j * 10 = pow-suc 10 (suc j) in
    let q : n / 10 < 10 ^ suc j = omega arith in
    rw (e, digits_before) (omega (arith, digits_length k (n / 10) ((48 + n % 10) ∷ ds) j q)))

-- a number below 10 ^ j has at most j digits
pub decimal_length : (n j : ℕ) → n < 10 ^ suc j → length (decimal_of n) ≤ suc j
unfolding decimal_of
decimal_length n j h = omega (arith, digits_length (suc n) n [] j h)

-- a signed number has one byte more at most
pub signed_length : (z : ℤ) (j : ℕ) → nat_abs z < 10 ^ suc j → length (signed z) ≤ suc (suc j)
unfolding signed
signed_length (pos n) j h = omega (arith, decimal_length n j h)
signed_length (negsuc n) j h = omega (arith, decimal_length (suc n) j h)

-- ---- names

name_short : (f : List ℕ) → is_name f ≡ true → length f ≤ 12
unfolding is_name
name_short [] e = omega arith
name_short (x ∷ xs) e =
    let w : Bool = within 1 11 (length xs) in
    let two = and_right (letter x) w (and_left (letter x && w) (all letter_or_digit xs) e) in
    omega (arith, leb-true (length xs) 11 (and_right (leb 1 (length xs)) (leb (length xs) 11) two))

column_short : (f : Field) → is_column f ≡ true → length (drop 2 f) ≤ 12
unfolding is_column
column_short [] e = clash e refl
column_short (x ∷ []) e = clash e refl
column_short (x ∷ y ∷ name) e = name_short name (and_right ((eqb x plot_mark || eqb x treatment_mark) && eqb y 58) (is_name name) e)

-- the names of a header's columns have at most 12 bytes
pub names_short : (kind : Kind) (fs : List Field) → all is_column fs ≡ true → (k : ℕ) → length (get_or (kind_names kind fs) k []) ≤ 12
unfolding all column_names
names_short kind [] a k = omega arith
names_short kind (f ∷ fs) a k =
    by_cases (is_kind (mark_of kind) f)
    (λ e. rw (e, column_names) (here (λ j. names_short kind fs (and_right (is_column f) (all is_column fs) a) j) k))
    (λ e. rw (e, column_names) (names_short kind fs (and_right (is_column f) (all is_column fs) a) k))
  where
    here : ((j : ℕ) → length (get_or (kind_names kind fs) j []) ≤ 12) → (j : ℕ) → length (get_or (drop 2 f ∷ kind_names kind fs) j []) ≤ 12
    here rest zero = column_short f (and_left (is_column f) (all is_column fs) a)
    here rest (suc j) = rest j

-- and so have those of the columns looked at
pub looked_short : (kind : Kind) (fs : List Field) → all is_column fs ≡ true → (k : ℕ) → length (get_or (looked_names kind fs) k []) ≤ 12
unfolding looked_names
looked_short plot fs a k = names_short plot fs a k
looked_short treatment fs a k = ⊎_elim (λ w. rw w.1 (names_short plot fs a k)) (λ w. rw w.2 (names_short treatment fs a w.0)) (append_at [] (kind_names plot fs) (kind_names treatment fs) k)

passing_length : (t : ℕ → Bool) (i n : ℕ) → length (passing_from t i n) ≤ n
unfolding passing_from
passing_length t i zero = omega arith
passing_length t i (suc n) = by_cases (t i) (λ e. rw (e, passing_from) (omega (arith, passing_length t (suc i) n))) (λ e. rw (e, passing_from) (omega (arith, passing_length t (suc i) n)))

shown_length : (s : Side) (F : Column) (Cs : List Column) → length (shown s F Cs) ≤ length Cs
unfolding shown
shown_length s F Cs = passing_length (listed s F Cs) 0 (length Cs)

commas_length : (names : List (List ℕ)) → ((k : ℕ) → length (get_or names k []) ≤ 12) → (cs : List ℕ) → length (with_commas names cs) ≤ 13 * length cs - 1
unfolding with_commas
commas_length names short [] = omega arith
commas_length names short (c ∷ []) = omega (arith, short c)
commas_length names short (c ∷ d ∷ cs) = rw (length-append (get_or names c []) (44 ∷ with_commas names (d ∷ cs))) (omega (arith, short c, commas_length names short (d ∷ cs)))

module _ (names looked : List (List ℕ)) (short : (k : ℕ) → length (get_or names k []) ≤ 12) (short' : (k : ℕ) → length (get_or looked k []) ≤ 12) where
  infimum_bytes : (cs : List ℕ) → length (bytes_of names looked (name_infimum cs)) ≤ 13 * length cs - 1 + 3
  unfolding bytes_of
  infimum_bytes cs = rw (length-append (with_commas names cs) (41 ∷ [])) (omega (arith, commas_length names short cs))

  supremum_bytes : (cs : List ℕ) → length (bytes_of names looked (name_supremum cs)) ≤ 13 * length cs - 1 + 3
  unfolding bytes_of
  supremum_bytes cs = rw (length-append (with_commas looked cs) (41 ∷ [])) (omega (arith, commas_length looked short' cs))

  place_bytes : (i : ℕ) → i < 100 → length (bytes_of names looked (name_place i)) ≤ 3
  unfolding bytes_of
  place_bytes i h = omega (arith, decimal_length i 1 h)

  column_bytes : (c : ℕ) → length (bytes_of names looked (name_column c)) ≤ 12
  unfolding bytes_of
  column_bytes c = short c

  -- the name of a member by at most 6 columns of its kind, looking at 6 to m columns, at a place below 100
  pub bytes_length : (n m : ℕ) (Cs Ls : List Column) (place : ℕ) (F : Column) → length Cs ≤ 6 → length Ls ≤ m → 6 ≤ m → place < 100
      → length (bytes_of names looked (name_of n Cs Ls place F)) ≤ 13 * m + 2
  unfolding name_of name_by_column name_by_infimum name_by_supremum bytes_of
  bytes_length n m Cs Ls place F few many six h =
      by_cases (eqb (classes F) 1)
      (λ e. rw (e, name_of) (omega arith))
      (λ e. by_cases (eqb (classes F) n)
      (λ f. rw (e, f, name_of) (omega arith))
      (λ f. rw (e, f, name_of) (by_column (equivalent_column F 0 Cs))))
    where
      by_column : (c : ℕ) → length (bytes_of names looked (name_by_column n Cs Ls place F c)) ≤ 13 * m + 2
      by_column zero =
          by_cases (alike (join_of (coarser_side n) F Cs) F)
          (λ e. rw (e, name_by_infimum) (omega (arith, infimum_bytes (shown (coarser_side n) F Cs), shown_length (coarser_side n) F Cs)))
          (λ e. by_cases (alike (join_of (finer_side n) F Ls) F)
          (λ f. rw (e, f, name_by_infimum, name_by_supremum) (omega (arith, supremum_bytes (shown (finer_side n) F Ls), shown_length (finer_side n) F Ls)))
          (λ f. rw (e, f, name_by_infimum, name_by_supremum) (omega (arith, place_bytes place h))))
      by_column (suc c) = omega (arith, column_bytes c)

-- the bytes of the longest name: two, six names of twelve bytes or twelve with commas, and one
abbrev pub longest : Kind → ℕ
longest plot = 80
longest treatment = 158

-- no name is longer, whatever the level table and the member
name_on_length : (kind : Kind) (text : List ℕ) (n : ℕ) (levels : List ℕ) (place : ℕ) (F : Column) → question3 text ≡ true → place < 100 → length (name_on kind text n levels place F) ≤ longest kind
unfolding name_on kind_columns looked_at
name_on_length kind text n levels place F q h = of kind
  where
    columns : (k : Kind) → length (kind_columns k text n levels) ≤ 6
    columns plot = rw (length_kind plot text n levels) (header_form text q).plots
    columns treatment = rw (length_kind treatment text n levels) (header_form text q).treatments

    looked : (k : Kind) (m : ℕ) → length (looked_at k text n levels) ≤ m → 6 ≤ m → length (name_on k text n levels place F) ≤ 13 * m + 2
    looked k m l six =
        bytes_length (kind_names k (header text)) (looked_names k (header text)) (names_short k (header text) (header_form text q).columns) (looked_short k (header text) (header_form text q).columns)
        n m (kind_columns k text n levels) (looked_at k text n levels) place F (columns k) l six h

    of : (k : Kind) → length (name_on k text n levels place F) ≤ longest k
    of plot = looked plot 6 (columns plot) (omega arith)
    of treatment = looked treatment 12 (rw (length_looked text n levels).1 (omega (arith, (header_form text q).plots, (header_form text q).treatments))) (omega arith)

-- so a name has at most 158 bytes
pub name_on_short : (kind : Kind) (text : List ℕ) (n : ℕ) (levels : List ℕ) (place : ℕ) (F : Column) → question3 text ≡ true → place < 100 → length (name_on kind text n levels place F) ≤ 158
name_on_short plot text n levels place F q h = omega (arith, name_on_length plot text n levels place F q h)
name_on_short treatment text n levels place F q h = name_on_length treatment text n levels place F q h

-- the same of the members of a family
module _ (kind : Kind) (text : List ℕ) (n : ℕ) (levels : List ℕ) (S : Family) (place : ℕ) (q : question3 text ≡ true) (h : place < 100) where
  pub name_length : length (name_at kind text n levels S place) ≤ longest kind
  unfolding name_at
  name_length = name_on_length kind text n levels place (member_at S (place - 1)) q h

  pub name_short_enough : length (name_at kind text n levels S place) ≤ 158
  unfolding name_at
  name_short_enough = name_on_short kind text n levels place (member_at S (place - 1)) q h

  -- and the buffer that question 6 asks for holds it
  pub name_fits : length (name_at kind text n levels S place) ≤ name_bytes
  name_fits = omega (arith, name_short_enough)
