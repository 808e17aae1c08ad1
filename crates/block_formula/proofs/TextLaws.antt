-- The bytes of a formula tell its counts, its names and the first line of its sheet.
-- Assumes nothing.
use mathlib.Core.Path.{◌≡◌, refl, sym, ap, ap₂, ◌∙◌}
use mathlib.Core.Bool.{Bool, true, false, not, ◌&&◌}
use mathlib.Core.List.{List, [], ◌∷◌, ◌++◌, map, append_assoc, append-nil}
use Prim.Native.Nat.{ℕ, ◌*◌, ◌≤◌}
use native.Mathlib.Nat.{not-suc-le-zero}
use native.Mathlib.Omega.{arith}
use lib.Dec.{eqb}
use lib.ListN.{length, length-append, length-map}
use Rattle.std.specs.Option.{unwrap_or}
use Rattle.rules.specs.Limits.{least_count, most_count}
use Rattle.rules.specs.Sheet.{within, tab, newline, up_to, has, all, fields, free, digit, letter_or_digit, no_leading_zero, is_name, plot_mark, is_column, is_kind, column_names, header, decimal, joined}
use Rattle.rules.specs.SheetText.{plot_heading}
use Rattle.rules.specs.Formula.{Formula, names_of, counts_of, header_of, equals, open_bracket, close_bracket, star, operators, is_count, Part, items, Written, by_name, by_brackets, by_item, by_operator}
use Rattle.rules.specs.Parents.{slash}
use Rattle.rules.proofs.Numbering.{by_cases}
use Rattle.rules.proofs.Members.{clash}
use Rattle.rules.proofs.Sheet.{and_left, and_right, all_weaker}
use Rattle.rules.proofs.SheetText.{column_free, joined_free, fields_back}
use Rattle.rules.proofs.Grammar.{NoDigit, ends, before, leading_all}
use Rattle.rules.proofs.Formula.{names_some, headings_formed}
use Rattle.block_formula.specs.Text.{count_of, counts_in, in_count, heading_part, headings_from, headings}
use Rattle.block_formula.proofs.PartLaws.{Each, of_none, of_one, of_both, Joins, operator_equals, apart, name_plain, count_plain}

-- ---- counts

counts_skip : (x : ℕ) (xs : List ℕ) → eqb x equals ≡ false → counts_in (x ∷ xs) ≡ counts_in xs
unfolding counts_in
counts_skip x xs e = rw (e, counts_in)

-- letters and digits are passed over
counts_plain : (ys rest : List ℕ) → all letter_or_digit ys ≡ true → counts_in (ys ++ rest) ≡ counts_in rest
unfolding all
counts_plain [] rest a = refl
counts_plain (y ∷ ys) rest a =
    counts_skip y (ys ++ rest) (apart y equals (and_left (letter_or_digit y) (all letter_or_digit ys) a) refl) ∙ counts_plain ys rest (and_right (letter_or_digit y) (all letter_or_digit ys) a)

count_is : (ds : List ℕ) → is_count ds ≡ true → unwrap_or (count_of ds) 0 ≡ decimal ds
unfolding count_of
count_is ds c = rw (c, count_of)

-- no digit is an operator
operator_stops : (x : ℕ) → Joins x → (xs : List ℕ) → NoDigit (x ∷ xs)
operator_stops = of_both (λ x. (xs : List ℕ) → NoDigit (x ∷ xs)) (λ xs. before refl) (λ xs. before refl)

counts_part : {p : Part} {s : List ℕ} {f : Formula} → Written p s f → Each Joins p → (rest : List ℕ) → NoDigit rest → counts_in (s ++ rest) ≡ counts_of f ++ counts_in rest
unfolding counts_in counts_of is_count
counts_part (by_name name ds n c) k rest d =
    ap counts_in (append_assoc name (equals ∷ ds) rest)
    ∙ counts_plain name (equals ∷ ds ++ rest) (name_plain name n)
    ∙ ap₂ (λ (v : ℕ) (r : List ℕ). v ∷ r) (ap (λ (r : List ℕ). unwrap_or (count_of r) 0) (leading_all ds rest (digits c) d) ∙ count_is ds c) (counts_plain ds rest (count_plain ds c))
  where
    digits : is_count ds ≡ true → all digit ds ≡ true
    digits e = and_right (no_leading_zero ds) (all digit ds) (and_left (no_leading_zero ds && all digit ds) (within least_count most_count (decimal ds)) e)
counts_part (by_brackets {text} w) k rest d =
    ap (λ (r : List ℕ). counts_in (open_bracket ∷ r)) (append_assoc text (close_bracket ∷ []) rest) ∙ counts_part w (λ x q. q) (close_bracket ∷ rest) (before refl)
counts_part (by_item w) k rest d = counts_part w (of_none Joins) rest d
counts_part (by_operator {x = x} {text = text} {later = later} {f = f} {g = g} q w v) k rest d =
    ap counts_in (append_assoc text (x ∷ later) rest)
    ∙ counts_part w (of_none Joins) (x ∷ later ++ rest) (operator_stops x (k x q) (later ++ rest))
    ∙ ap (λ (r : List ℕ). counts_of f ++ r) (counts_skip x (later ++ rest) (operator_equals x (k x q)) ∙ counts_part v (of_one Joins x (k x q)) rest d)
    ∙ sym (append_assoc (counts_of f) (counts_of g) (counts_in rest))

-- the counts are the formula's
pub counts_are : {text : List ℕ} {f : Formula} → Written (items operators) text f → counts_in text ≡ counts_of f
unfolding counts_in
counts_are {text} {f} w = ap counts_in (sym (append-nil text)) ∙ counts_part w (λ x q. q) [] ends ∙ append-nil (counts_of f)

-- ---- headings

-- names, each with the start of the next heading after it
unfoldable tabbed : List (List ℕ) → List ℕ
tabbed [] = []
tabbed (n ∷ ns) = n ++ tab ∷ plot_mark ∷ 58 ∷ tabbed ns

tabbed_append : (ns ms : List (List ℕ)) → tabbed (ns ++ ms) ≡ tabbed ns ++ tabbed ms
unfolding tabbed
tabbed_append [] ms = refl
tabbed_append (n ∷ ns) ms = ap (λ (r : List ℕ). n ++ tab ∷ plot_mark ∷ 58 ∷ r) (tabbed_append ns ms) ∙ sym (append_assoc n (tab ∷ plot_mark ∷ 58 ∷ tabbed ns) (tabbed ms))

-- a name's bytes are copied
name_copied : (ys rest : List ℕ) → all letter_or_digit ys ≡ true → headings_from false (ys ++ rest) ≡ ys ++ headings_from false rest
unfolding all headings_from heading_part
name_copied [] rest a = refl
name_copied (y ∷ ys) rest a =
    let e = and_left (letter_or_digit y) (all letter_or_digit ys) a in
    rw (apart y equals e refl, e, heading_part) (ap (λ (r : List ℕ). y ∷ r) (name_copied ys rest (and_right (letter_or_digit y) (all letter_or_digit ys) a)))

-- a count's are left out
count_left : (ys rest : List ℕ) → all letter_or_digit ys ≡ true → headings_from true (ys ++ rest) ≡ headings_from true rest
unfolding all headings_from heading_part
count_left [] rest a = refl
count_left (y ∷ ys) rest a =
    let e = and_left (letter_or_digit y) (all letter_or_digit ys) a in
    rw (apart y equals e refl, e, heading_part) (count_left ys rest (and_right (letter_or_digit y) (all letter_or_digit ys) a))

-- brackets and operators are too, and end a count
abbrev Ends : ℕ → Type 0
Ends x = (d : Bool) (xs : List ℕ) → headings_from d (x ∷ xs) ≡ headings_from false xs

open_ends : Ends open_bracket
unfolding headings_from heading_part
open_ends true xs = refl
open_ends false xs = refl

close_ends : Ends close_bracket
unfolding headings_from heading_part
close_ends true xs = refl
close_ends false xs = refl

slash_ends : Ends slash
unfolding headings_from heading_part
slash_ends true xs = refl
slash_ends false xs = refl

star_ends : Ends star
unfolding headings_from heading_part
star_ends true xs = refl
star_ends false xs = refl

operator_ends : (x : ℕ) → Joins x → Ends x
operator_ends = of_both Ends slash_ends star_ends

headings_part : {p : Part} {s : List ℕ} {f : Formula} → Written p s f → Each Joins p → (rest : List ℕ) → (d : Bool) × (headings_from false (s ++ rest) ≡ tabbed (names_of f) ++ headings_from d rest)
unfolding names_of tabbed headings_from heading_part
headings_part (by_name name ds n c) k rest = (
  true,
  ap (headings_from false) (append_assoc name (equals ∷ ds) rest)
      ∙ name_copied name (equals ∷ ds ++ rest) (name_plain name n)
      ∙ ap (λ (r : List ℕ). name ++ tab ∷ plot_mark ∷ 58 ∷ r) (count_left ds rest (count_plain ds c))
      ∙ sym (append_assoc name (tab ∷ plot_mark ∷ 58 ∷ []) (headings_from true rest)),
)
headings_part (by_brackets {text} {f} w) k rest =
    let t = headings_part w (λ x q. q) (close_bracket ∷ rest) in (
      false,
      ap (λ (r : List ℕ). headings_from false (open_bracket ∷ r)) (append_assoc text (close_bracket ∷ []) rest)
          ∙ open_ends false (text ++ close_bracket ∷ rest) ∙ t.1 ∙ ap (λ (r : List ℕ). tabbed (names_of f) ++ r) (close_ends t.0 rest),
    )
headings_part (by_item w) k rest = headings_part w (of_none Joins) rest
headings_part (by_operator {x = x} {text = text} {later = later} {f = f} {g = g} q w v) k rest =
    let t = headings_part w (of_none Joins) (x ∷ later ++ rest) in
    let s = headings_part v (of_one Joins x (k x q)) rest in (
      s.0,
      ap (headings_from false) (append_assoc text (x ∷ later) rest)
          ∙ t.1
          ∙ ap (λ (r : List ℕ). tabbed (names_of f) ++ r) (operator_ends x (k x q) t.0 (later ++ rest) ∙ s.1)
          ∙ sym (append_assoc (tabbed (names_of f)) (tabbed (names_of g)) (headings_from s.0 rest))
          ∙ ap (λ (r : List ℕ). r ++ headings_from s.0 rest) (sym (tabbed_append (names_of f) (names_of g))),
    )

-- the start of one more heading
abbrev pub next_heading : List ℕ
next_heading = tab ∷ plot_mark ∷ 58 ∷ []

line_of : (n : List ℕ) (ns : List (List ℕ)) → plot_mark ∷ 58 ∷ tabbed (n ∷ ns) ≡ joined (map plot_heading (n ∷ ns)) ++ next_heading
unfolding tabbed joined
line_of n [] = refl
line_of n (m ∷ ns) =
    ap (λ (r : List ℕ). plot_mark ∷ 58 ∷ n ++ tab ∷ r) (line_of m ns)
    ∙ sym (append_assoc (plot_mark ∷ 58 ∷ n) (tab ∷ joined (map plot_heading (m ∷ ns))) next_heading)

-- the headings are those of the formula's names
pub headings_are : {text : List ℕ} {f : Formula} → Written (items operators) text f → headings text ≡ joined (header_of f) ++ next_heading
unfolding header_of headings_from
headings_are {text} {f} w =
    let t = headings_part w (λ x q. q) [] in
    ap (λ (r : List ℕ). plot_mark ∷ 58 ∷ headings_from false r) (sym (append-nil text))
    ∙ ap (λ (r : List ℕ). plot_mark ∷ 58 ∷ r) (t.1 ∙ append-nil (tabbed (names_of f)))
    ∙ go (names_of f) (names_some f)
  where
    go : (ns : List (List ℕ)) → 1 ≤ length ns → plot_mark ∷ 58 ∷ tabbed ns ≡ joined (map plot_heading ns) ++ next_heading
    go [] h = absurd (not-suc-le-zero h)
    go (n ∷ ns) h = line_of n ns

-- at most three bytes are added for a byte
pub headings_short : (b : Bool) (xs : List ℕ) → length (headings_from b xs) ≤ 3 * length xs
unfolding headings_from
headings_short b [] = omega arith
headings_short b (x ∷ xs) = omega (arith, length-append (heading_part b x) (headings_from (in_count b x) xs), one, headings_short (in_count b x) xs)
  where
    one : length (heading_part b x) ≤ 3
    one =
        by_cases (eqb x equals)
        (λ e. rw (e, heading_part) (omega arith))
        (λ e. by_cases (not b && letter_or_digit x) (λ l. rw (e, l, heading_part) (omega arith)) (λ l. rw (e, l, heading_part) (omega arith)))

-- ---- the names in the first line

names_back : (ns : List (List ℕ)) → column_names plot_mark (map plot_heading ns) ≡ ns
unfolding column_names is_kind
names_back [] = refl
names_back (n ∷ ns) = ap (λ (r : List (List ℕ)). n ∷ r) (names_back ns)

up_to_all : (b : ℕ) (xs : List ℕ) → has b xs ≡ false → up_to b xs ≡ xs
unfolding has up_to
up_to_all b [] h = refl
up_to_all b (x ∷ xs) h = by_cases (eqb x b) (λ e. clash (rw (e, has)) h) (λ e. rw (e, up_to) (ap (λ (r : List ℕ). x ∷ r) (up_to_all b xs (rw (e, has) at h))))

pub line_names : (f : Formula) → all is_name (names_of f) ≡ true → column_names plot_mark (header (joined (header_of f))) ≡ names_of f
unfolding header header_of
line_names f a =
    let fs = map plot_heading (names_of f) in
    let c = headings_formed (names_of f) a in
    let lines = all_weaker is_column (free newline) (column_free newline refl refl refl) fs c in
    let tabs = all_weaker is_column (free tab) (column_free tab refl refl refl) fs c in
    let some : 1 ≤ length fs = omega (arith, length-map (names_of f) plot_heading, names_some f) in
    ap (λ (l : List ℕ). column_names plot_mark (fields l)) (up_to_all newline (joined fs) (joined_free newline refl fs lines)) ∙ ap (column_names plot_mark) (fields_back fs some tabs) ∙ names_back (names_of f)
