-- Block formulas (C-11): the grammar, which names a name is nested in, the plots and columns of a formula, its sheet, and questions 6, 17 and 18.
-- A text is the list of its bytes. Places of names, plots and levels of one name are counted from 0. Assumes nothing.
use Rattle.std.specs.Prelude.{◌≡◌, Bool, true, false, ◌&&◌, ◌||◌, List, [], ◌∷◌, ◌++◌, map, ◌⊎◌, ℕ, zero, suc, ◌-◌, ◌*◌, ◌/◌, ◌%◌, ◌≤◌, ◌<◌, eqb, ltb, leb, length, drop, get_or}
use Rattle.rules.specs.Limits.{most_plots, most_columns, most_text, most_formula, least_count, most_count}
use Rattle.rules.specs.Lists.{tabulate}
use Rattle.rules.specs.Factor.{Column, numbering}
use Rattle.rules.specs.Family.{columns_from}
use Rattle.rules.specs.Design.{plot_design}
use Rattle.rules.specs.Sheet.{within, all, up_to, past, has, Field, digit, is_name, same_bytes, names_differ, decimal_from, decimal, no_leading_zero, read, reading, levels_after}
use Rattle.rules.specs.SheetText.{plot_heading, sheet_text, SheetAnswer, no_sheet}
use Rattle.rules.specs.Parents.{slash}

-- ---- formulas

-- `/` (nesting) and `*` (crossing)
pub data Operator : Type 0 where
  nesting : Operator
  crossing : Operator

-- A name with its count, or two formulas joined. "One or more items joined by one operator" are joined two by two, the last two first.
pub data Formula : Type 0 where
  item : List ℕ → ℕ → Formula
  join : Operator → Formula → Formula → Formula

-- the names, "in the order written"
unfoldable pub names_of : Formula → List (List ℕ)
names_of (item name c) = name ∷ []
names_of (join o a b) = names_of a ++ names_of b

-- their counts
unfoldable pub counts_of : Formula → List ℕ
counts_of (item name c) = c ∷ []
counts_of (join o a b) = counts_of a ++ counts_of b

-- later names are nested in earlier ones
abbrev pub nests : Operator → Bool
nests nesting = true
nests crossing = false

-- "With `/`, all names of a later item are nested in all names of earlier ones.": the name at place i is nested in the name at place j
unfoldable pub nested_in : Formula → ℕ → ℕ → Bool
unfolding names_of
nested_in (item name c) i j = false
nested_in (join o a b) i j = elim (ltb i (length (names_of a))) [
  | true ↦ nested_in a i j
  | false ↦ elim (ltb j (length (names_of a))) [ true ↦ nests o | false ↦ nested_in b (i - length (names_of a)) (j - length (names_of a)) ]
]

-- ---- the plots: "Plots run over all combinations, the first name slowest."

-- how many combinations the counts have
unfoldable pub plot_count : List ℕ → ℕ
plot_count [] = 1
plot_count (c ∷ cs) = c * plot_count cs

-- the combination that plot u has: a number below its count for each name
unfoldable pub combination : List ℕ → ℕ → List ℕ
unfolding plot_count
combination [] u = []
combination (c ∷ cs) u = (u / plot_count cs) ∷ combination cs (u % plot_count cs)

-- a combination of the counts: a number below its count for each name
pub data OfCounts : List ℕ → List ℕ → Type 0 where
  no_name : OfCounts [] []
  one_more : {c d : ℕ} {cs ds : List ℕ} → d < c → OfCounts cs ds → OfCounts (c ∷ cs) (d ∷ ds)

-- "the first name slowest": of two combinations the one that is lower in the first name in which they differ comes first
pub data Earlier : List ℕ → List ℕ → Type 0 where
  lower : {d e : ℕ} {ds es : List ℕ} → d < e → Earlier (d ∷ ds) (e ∷ es)
  alike : {d : ℕ} {ds es : List ℕ} → Earlier ds es → Earlier (d ∷ ds) (d ∷ es)

-- ---- the columns

-- those of a list whose places are in a set
unfoldable pub kept : (ℕ → Bool) → List ℕ → List ℕ
kept S [] = []
kept S (d ∷ ds) = elim (S 0) [ true ↦ d ∷ kept (λ i. S (suc i)) ds | false ↦ kept (λ i. S (suc i)) ds ]

-- the column in which "two plots share a level when they agree in" every name of a set, "levels by first appearance"
unfoldable pub column_of : List ℕ → (ℕ → Bool) → Column
unfolding numbering same_bytes tabulate kept combination plot_count
column_of cs S = numbering same_bytes [] (tabulate (λ u. kept S (combination cs u)) (plot_count cs))

-- "in that name and in every name it is nested in"
unfoldable pub seen : Formula → ℕ → ℕ → Bool
unfolding nested_in
seen f i j = eqb i j || nested_in f i j

-- the same said of two combinations: "they agree in that name and in every name it is nested in"
abbrev pub AgreeIn : Formula → ℕ → List ℕ → List ℕ → Type 0
AgreeIn f i ds es = (get_or ds i 0 ≡ get_or es i 0) × ((j : ℕ) → nested_in f i j ≡ true → get_or ds j 0 ≡ get_or es j 0)

-- "Each name gives, in the order written, a plot column"
unfoldable pub columns_of : Formula → List Column
unfolding column_of seen counts_of tabulate
columns_of f = tabulate (λ i. column_of (counts_of f) (seen f i)) (length (counts_of f))

-- ---- the sheet

-- the first line
unfoldable pub header_of : Formula → List Field
unfolding names_of
header_of f = map plot_heading (names_of f)

-- "Write the sheet from the formula."
unfoldable pub sheet_of : Formula → List ℕ
unfolding sheet_text plot_count counts_of header_of columns_of
sheet_of f = sheet_text (plot_count (counts_of f)) (header_of f) (columns_of f)

-- ---- the grammar

-- the bytes `(`, `)`, `*`, `=`
abbrev pub open_bracket : ℕ
open_bracket = 40

abbrev pub close_bracket : ℕ
close_bracket = 41

abbrev pub star : ℕ
star = 42

abbrev pub equals : ℕ
equals = 61

-- both operators
abbrev pub operators : List ℕ
operators = slash ∷ star ∷ []

-- the operator that a byte is
abbrev pub operator_of : ℕ → Operator
operator_of x = elim (eqb x slash) [ true ↦ nesting | false ↦ crossing ]

-- "a decimal count of 2 to 240 without leading zeros"
unfoldable pub is_count : List ℕ → Bool
unfolding no_leading_zero decimal_from all
is_count ds = no_leading_zero ds && all digit ds && within least_count most_count (decimal ds)

-- what a text may be: an item; or items joined by one of the operators os
pub data Part : Type 0 where
  an_item : Part
  items : List ℕ → Part

-- Written p text f: the text is a part that makes the formula f
pub data Written : Part → List ℕ → Formula → Type 0 where
  -- "An item is a name, `=` and a decimal count"
  by_name : (name ds : List ℕ) → is_name name ≡ true → is_count ds ≡ true → Written an_item (name ++ equals ∷ ds) (item name (decimal ds))
  -- "or a formula in round brackets"
  by_brackets : {text : List ℕ} {f : Formula} → Written (items operators) text f → Written an_item (open_bracket ∷ text ++ close_bracket ∷ []) f
  -- "one or more items joined by one operator, all `/` (nesting) or all `*` (crossing)"
  by_item : {os text : List ℕ} {f : Formula} → Written an_item text f → Written (items os) text f
  by_operator : {os : List ℕ} {x : ℕ} {text later : List ℕ} {f g : Formula} → has x os ≡ true → Written an_item text f → Written (items (x ∷ [])) later g
      → Written (items os) (text ++ x ∷ later) (join (operator_of x) f g)

-- "A formula of 1 to 256 bytes": the text is the formula f, and "Names .. differ"
pub record IsFormula (text : List ℕ) (f : Formula) : Type 0 where
  pub least : 1 ≤ length text
  pub most : length text ≤ most_formula
  pub written : Written (items operators) text f
  pub differ : names_differ (header_of f) ≡ true

-- ---- reading a formula, by the grammar: formula-reads and formula-written in proofs/Grammar

-- a formula at the start of a text, and the text after it; or none
pub data Parsed : Type 0 where
  nothing : Parsed
  parsed : Formula → List ℕ → Parsed

-- the digits at the start of a text
unfoldable pub leading : List ℕ → List ℕ
leading [] = []
leading (x ∷ xs) = elim (digit x) [ true ↦ x ∷ leading xs | false ↦ [] ]

-- a name, `=` and a count: the name is what stands before the first `=`
unfoldable pub named : List ℕ → Parsed
unfolding has is_name up_to past leading is_count decimal_from
named text = elim (has equals text && is_name (up_to equals text) && is_count (leading (past equals text))) [
  | true ↦ parsed (item (up_to equals text) (decimal (leading (past equals text)))) (drop (length (leading (past equals text))) (past equals text))
  | false ↦ nothing
]

-- a `)` must follow
unfoldable pub closed : Parsed → Parsed
closed nothing = nothing
closed (parsed f []) = nothing
closed (parsed f (x ∷ xs)) = elim (eqb x close_bracket) [ true ↦ parsed f xs | false ↦ nothing ]

-- an item, in which a formula is read so
unfoldable pub item_by : (List ℕ → Parsed) → List ℕ → Parsed
unfolding named closed
item_by formula [] = nothing
item_by formula (x ∷ xs) = elim (eqb x open_bracket) [ true ↦ closed (formula xs) | false ↦ named (x ∷ xs) ]

-- a formula joined to what follows it
unfoldable pub joined_to : Operator → Formula → Parsed → Parsed
joined_to o f nothing = nothing
joined_to o f (parsed g rest) = parsed (join o f g) rest

-- after an item: one of the operators os and the items that follow it, or the end of the formula
unfoldable pub more_by : (ℕ → List ℕ → Parsed) → List ℕ → Parsed → Parsed
unfolding has joined_to
more_by later os nothing = nothing
more_by later os (parsed f []) = parsed f []
more_by later os (parsed f (x ∷ xs)) = elim (has x os) [ true ↦ joined_to (operator_of x) f (later x xs) | false ↦ parsed f (x ∷ xs) ]

-- a formula: os are the operators that may follow an item, after the first only that one; a text of fewer than k bytes needs at most k steps
unfoldable pub formula_at : ℕ → List ℕ → List ℕ → Parsed
unfolding item_by more_by
formula_at zero os text = nothing
formula_at (suc k) os text = more_by (λ x xs. formula_at k (x ∷ []) xs) os (item_by (formula_at k operators) text)

-- ---- questions 6, 17 and 18

-- the whole text is the formula, and its names differ
unfoldable pub whole : Parsed → Parsed
unfolding names_differ header_of
whole nothing = nothing
whole (parsed f []) = elim (names_differ (header_of f)) [ true ↦ parsed f [] | false ↦ nothing ]
whole (parsed f (x ∷ xs)) = nothing

-- the formula that a text is
unfoldable pub formula_of : List ℕ → Parsed
unfolding whole formula_at
formula_of text = elim (within 1 most_formula (length text)) [ true ↦ whole (formula_at (suc (length text)) operators text) | false ↦ nothing ]

-- "18, after it, when there are over 6 names or 240 plots"
unfoldable pub question18 : Formula → Bool
unfolding names_of counts_of plot_count
question18 f = leb (length (names_of f)) most_columns && leb (plot_count (counts_of f)) most_plots

-- "17 when the text isn't such a formula"
unfoldable pub question17 : Parsed → SheetAnswer
unfolding question18 sheet_of
question17 nothing = no_sheet 17
question17 (parsed f rest) = elim (question18 f) [ true ↦ record { refusal = 0; sheet = sheet_of f } | false ↦ no_sheet 18 ]

-- "The lent sheet must hold 32,768 bytes (01's question 6, asked first)"
unfoldable pub formula_sheet : List ℕ → ℕ → SheetAnswer
unfolding question17 formula_of
formula_sheet text outLength = elim (leb most_text outLength) [ true ↦ question17 (formula_of text) | false ↦ no_sheet 6 ]

-- "a refusal leaves it untouched. The sheet's length is answered and bytes past it are untouched.": sheet_buffer of SheetText

-- ---- "Show that, with slices long enough, such a sheet is always read, and its plot design is refused by 8 or not at all."

-- of a text, the sheet written for it, a level table and a family buffer of b bytes
pub record Planned (text sheet levels : List ℕ) (b : ℕ) : Type 0 where
  pub formula : Formula
  pub is_formula : IsFormula text formula
  pub fits : length sheet ≤ most_text
  -- the sheet is read: as many plots as combinations, a plot column a name, no treatment column
  pub is_read : reading sheet levels ≡ read (plot_count (counts_of formula)) (length (names_of formula)) 0
  -- the level table then holds the formula's columns
  pub columns : columns_from (plot_count (counts_of formula)) (levels_after (reading sheet levels) sheet levels) 0 (length (names_of formula)) ≡ columns_of formula
  -- the plot design of that table
  pub design : ((plot_design (plot_count (counts_of formula)) (length (names_of formula)) (levels_after (reading sheet levels) sheet levels) b).refusal ≡ 0)
      ⊎ ((plot_design (plot_count (counts_of formula)) (length (names_of formula)) (levels_after (reading sheet levels) sheet levels) b).refusal ≡ 8)
