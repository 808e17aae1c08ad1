-- What the bytes of a formula tell, one after the other: where a part of it ends, its counts, the headings of its names, and which names a name is
-- nested in. That these are the formula's own is shown in proofs/.
-- Assumes nothing.
use Rattle.std.specs.Prelude.{Bool, true, false, not, ◌&&◌, ◌||◌, Option, Some, None, unwrap_or, List, [], ◌∷◌, ◌++◌, map, ℕ, zero, suc, ◌+◌, ◌-◌, eqb, ltb, length, get_or, drop}
use Rattle.rules.specs.Limits.{most_formula, most_columns}
use Rattle.rules.specs.Lists.{tabulate}
use Rattle.rules.specs.Sheet.{within, tab, past, letter_or_digit, plot_mark, decimal, decimal_from, header, column_names, new_name}
use Rattle.rules.specs.SheetText.{plot_heading}
use Rattle.rules.specs.Parents.{slash}
use Rattle.rules.specs.Formula.{open_bracket, close_bracket, star, equals, operators, is_count, Parsed, nothing, parsed, leading, formula_at}

-- ---- parts

-- the text after a part, where one was read
abbrev pub rest_of : Parsed → Option (List ℕ)
rest_of nothing = None
rest_of (parsed f rest) = Some rest

-- the operators that may follow an item: both, or after the first only that one
abbrev pub allowed : Option ℕ → List ℕ
allowed None = operators
allowed (Some x) = x ∷ []

-- nothing is left over
abbrev pub to_end : Parsed → Bool
to_end nothing = false
to_end (parsed f []) = true
to_end (parsed f (x ∷ xs)) = false

-- the text is a formula but for the names, which may be alike
unfoldable pub readable : List ℕ → Bool
unfolding formula_at
readable text = within 1 most_formula (length text) && to_end (formula_at (suc (length text)) operators text)

-- ---- counts

-- the count that digits write, if they write one
unfoldable pub count_of : List ℕ → Option ℕ
unfolding is_count decimal_from
count_of ds = elim (is_count ds) [ true ↦ Some (decimal ds) | false ↦ None ]

-- the counts, one after each `=`, with 0 where none is written
unfoldable pub counts_in : List ℕ → List ℕ
unfolding count_of leading
counts_in [] = []
counts_in (x ∷ xs) = elim (eqb x equals) [ true ↦ unwrap_or (count_of (leading xs)) 0 ∷ counts_in xs | false ↦ counts_in xs ]

-- ---- headings

-- whether a byte belongs to a count, where the one before it did or not
abbrev pub in_count : Bool → ℕ → Bool
in_count b x = eqb x equals || letter_or_digit x && b

-- what a byte adds to the headings: a name's bytes as they stand, and for its `=` the start of the next heading
unfoldable pub heading_part : Bool → ℕ → List ℕ
heading_part b x = elim (eqb x equals) [ true ↦ tab ∷ plot_mark ∷ 58 ∷ [] | false ↦ elim (not b && letter_or_digit x) [ true ↦ x ∷ [] | false ↦ [] ] ]

unfoldable pub headings_from : Bool → List ℕ → List ℕ
unfolding heading_part
headings_from b [] = []
headings_from b (x ∷ xs) = heading_part b x ++ headings_from (in_count b x) xs

-- the headings of all names, each with a tab after it, and the start of one more
abbrev pub headings : List ℕ → List ℕ
headings text = plot_mark ∷ 58 ∷ headings_from false text

-- the names of the plot columns in a first line
abbrev pub names_in : List ℕ → List (List ℕ)
names_in line = column_names plot_mark (header line)

-- name i is that of none after it
abbrev pub new_at : List (List ℕ) → ℕ → Bool
new_at ns i = new_name (plot_heading (get_or ns i [])) (map plot_heading (drop (i + 1) ns))

-- ---- nesting

-- after the `=` of name j, from 0
unfoldable pub after_name : ℕ → List ℕ → List ℕ
unfolding past
after_name zero text = past equals text
after_name (suc j) text = after_name j (past equals text)

-- how many brackets are open that were not at the name from which the walk began; a bracket that encloses that name is left behind
abbrev pub depth_after : ℕ → ℕ → ℕ
depth_after h x = elim (eqb x open_bracket) [ true ↦ suc h | false ↦ elim (eqb x close_bracket) [ true ↦ h - 1 | false ↦ h ] ]

-- whether the last operator outside of these brackets is `/`
abbrev pub nests_after : ℕ → Bool → ℕ → Bool
nests_after h b x = elim (eqb h 0) [ true ↦ elim (eqb x slash) [ true ↦ true | false ↦ not (eqb x star) && b ] | false ↦ b ]

-- for each later name whether it is nested in the name from which the walk began
unfoldable pub later_nested : ℕ → Bool → List ℕ → List Bool
later_nested h b [] = []
later_nested h b (x ∷ xs) = elim (eqb x equals) [ true ↦ b ∷ later_nested h b xs | false ↦ later_nested (depth_after h x) (nests_after h b x) xs ]

-- name i is nested in name j, which stands before it
unfoldable pub nested_text : List ℕ → ℕ → ℕ → Bool
unfolding later_nested after_name
nested_text text i j = get_or (later_nested 0 false (after_name j text)) (i - suc j) false

-- plots must agree in name j to share a level of name i: it is that name, or that name is nested in it
abbrev pub sees : List ℕ → ℕ → ℕ → Bool
sees text i j = eqb i j || ltb j i && nested_text text i j

-- the names in which plots must agree to share a level of name i
unfoldable pub seen_text : List ℕ → ℕ → List Bool
unfolding nested_text tabulate
seen_text text i = tabulate (λ j. sees text i j) most_columns
