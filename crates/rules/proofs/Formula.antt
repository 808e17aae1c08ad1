-- C-11: the sheet of a formula is always read, and its plot design is refused by 8 or not at all.
-- Assumes nothing.
use mathlib.Core.Path.{◌≡◌, refl, sym, ap, ap₂, ◌∙◌, subst}
use mathlib.Core.Logic.{◌↔◌, ◌⊎◌, inl, inr}
use mathlib.Core.Bool.{Bool, true, false, ◌&&◌, ◌||◌}
use mathlib.Core.List.Memᴰ
use mathlib.Core.List.{List, [], ◌∷◌, ◌++◌, map}
use Prim.Native.Nat.{ℕ, zero, suc, ◌+◌, ◌-◌, ◌*◌, ◌≤◌, ◌<◌}
use native.Mathlib.Nat.{suc-ne-zero, mul-pos}
use native.Mathlib.Omega.{arith}
use lib.Dec.{eqb, leb, ltb}
use lib.ListN.{length, get_or, take, drop, length-append, length-map, replicate, length-replicate}
use borrow.Author.Tests.{eqb-true, le-leb, leb-true, lt-ltb, le-ltb, ltb-true, ltb-false}
use Rattle.rules.specs.Limits.{most_plots, most_columns, most_fields, table_cells, family_bytes, most_text, least_count, most_count}
use Rattle.rules.specs.Lists.{tabulate}
use Rattle.rules.specs.Factor.{Column, Same, number}
use Rattle.rules.specs.Family.{◌∈◌, columns_from}
use Rattle.rules.specs.Closing.{plot_family}
use Rattle.rules.specs.Design.{question7, question8, plot_design}
use Rattle.rules.specs.Structure.{OrthogonalBlockStructure, ContainsAll}
use Rattle.rules.specs.Sheet.{within, all, digit, is_name, plot_mark, treatment_mark, is_column, is_kind, count_kind, columns_after, is_header, names_differ, decimal, no_leading_zero, Outcome, read, reading, levels_after}
use Rattle.rules.specs.SheetText.{plot_heading, table_columns, no_sheet}
use Rattle.rules.specs.Formula.{Operator, nesting, crossing, Formula, item, join, names_of, counts_of, nests, nested_in, plot_count, combination, column_of, seen, AgreeIn, columns_of, header_of, sheet_of, operator_of, is_count, Part, Written, by_name, by_brackets, by_item, by_operator, IsFormula, Parsed, nothing, parsed, formula_of, question18, question17, formula_sheet, Planned}
use Rattle.rules.proofs.Grammar.{formula_reads, formula_written}
use Rattle.rules.proofs.Lists.{length_tabulate, get_d_tabulate}
use Rattle.rules.proofs.Members.{clash}
use Rattle.rules.proofs.Numbering.{by_cases, eqb_self}
use Rattle.rules.proofs.Sheet.{and_left, and_right, read_limits, plot_levels_nonzero}
use Rattle.rules.proofs.SheetText.{numbered_levels, Writable, text_short, sheet_read, table_back}
use Rattle.rules.proofs.Crossed.{length_column, column_divides, Crossed, crossed_verdict}
use Rattle.rules.proofs.CrossedStructure.{all_sets, crossed_contained, crossed_structure, crossed_accepted}
use Rattle.rules.proofs.Numbered.{number_column}
use Rattle.rules.proofs.Combinations.{agree_places}

-- ---- the columns of a formula

-- a count for each name
pub counts_names : (f : Formula) → length (counts_of f) ≡ length (names_of f)
unfolding names_of counts_of
counts_names (item name c) = refl
counts_names (join o a b) = length-append (counts_of a) (counts_of b) ∙ ap₂ ◌+◌ (counts_names a) (counts_names b) ∙ sym (length-append (names_of a) (names_of b))

-- a member of a list that is given by its elements is one of them
in_tabulate : {A : Type 0} (f : ℕ → A) (n : ℕ) (x : A) → x ∈ tabulate f n → (i : ℕ) × (i < n) × (x ≡ f i)
unfolding tabulate
in_tabulate f zero x m = absurd (Memᴰ.not-nil m)
in_tabulate f (suc n) x m = go (in_tabulate (λ i. f (suc i)) n x) (Memᴰ.cases_cons m)
  where
    go : (x ∈ tabulate (λ i. f (suc i)) n → (i : ℕ) × (i < n) × (x ≡ f (suc i))) → (x ≡ f 0) ⊎ (x ∈ tabulate (λ i. f (suc i)) n) → (i : ℕ) × (i < suc n) × (x ≡ f i)
    go below (inl e) = (0, omega arith, e)
    go below (inr k) = let b = below k in (suc b.0, omega (arith, b.1), b.2)

-- each column divides the plots as agreement in a set of names does
pub formula_crossed : (f : Formula) (F : Column) → F ∈ columns_of f → Crossed (counts_of f) F
unfolding columns_of
formula_crossed f F m =
    let g = in_tabulate (λ i. column_of (counts_of f) (seen f i)) (length (counts_of f)) F m in
    subst (Crossed (counts_of f)) (sym g.2) (record { set = seen f g.0; divides = column_divides (counts_of f) (seen f g.0) })

-- so one orthogonal block structure contains all columns of a formula
pub formula_structure : (f : Formula) → OrthogonalBlockStructure (plot_count (counts_of f)) (all_sets (counts_of f)) × ContainsAll (plot_count (counts_of f)) (all_sets (counts_of f)) (columns_of f)
formula_structure f = (crossed_structure (counts_of f), λ F m. crossed_contained (counts_of f) F (formula_crossed f F m))

-- and their plot family is refused by 8 or not at all
pub formula_verdict : (f : Formula)
    → ((question8 (plot_count (counts_of f)) (plot_family (plot_count (counts_of f)) (columns_of f))).refusal ≡ 0) ⊎ ((question8 (plot_count (counts_of f)) (plot_family (plot_count (counts_of f)) (columns_of f))).refusal ≡ 8)
formula_verdict f = crossed_verdict (counts_of f) (columns_of f) (formula_crossed f)

-- with at most 5 names it is accepted
pub formula_five : (f : Formula) → length (names_of f) ≤ 5 → (question8 (plot_count (counts_of f)) (plot_family (plot_count (counts_of f)) (columns_of f))).refusal ≡ 0
formula_five f h = crossed_accepted (counts_of f) (columns_of f) (formula_crossed f) (rw (counts_names f) h)

-- ---- the columns, said of combinations

module _ (f : Formula) (i : ℕ) (h : i < length (names_of f)) where
  column_at_lem : get_or (columns_of f) i [] ≡ column_of (counts_of f) (seen f i)
  unfolding columns_of
  column_at_lem = get_d_tabulate (λ i. column_of (counts_of f) (seen f i)) (length (counts_of f)) i [] (rw (counts_names f) h)

  -- "two plots share a level when they agree in that name and in every name it is nested in"
  pub column_shares : (u v : ℕ) → u < plot_count (counts_of f) → v < plot_count (counts_of f)
      → Same (get_or (columns_of f) i []) u v ↔ AgreeIn f i (combination (counts_of f) u) (combination (counts_of f) v)
  unfolding seen
  column_shares u v hu hv = (
    λ e. let a = (agree_places (counts_of f) (seen f i) u v).0 ((column_divides (counts_of f) (seen f i)).to u v hu hv (rw column_at_lem at e)) in
        (a i (rw (eqb_self i)), λ j n. a j (rw n (or_true (eqb i j)))),
    λ p. rw column_at_lem ((column_divides (counts_of f) (seen f i)).from u v hu hv ((agree_places (counts_of f) (seen f i) u v).1
        (λ j s. by_cases (eqb i j) (λ e. rw (← eqb-true i j e) p.0) (λ e. p.1 j (rw e at s))))),
  )
    where
      or_true : (b : Bool) → b || true ≡ true
      or_true true = refl
      or_true false = refl

  -- "levels by first appearance"
  pub column_numbered : number (get_or (columns_of f) i []) ≡ get_or (columns_of f) i []
  column_numbered = rw column_at_lem (number_column (counts_of f) (seen f i))

-- ---- what the grammar tells

-- names have the form of 01, counts are 2 to 240
pub record Good (f : Formula) : Type 0 where
  pub named_well : all is_name (names_of f) ≡ true
  pub counted : all (within least_count most_count) (counts_of f) ≡ true

all_append : {A : Type 0} (p : A → Bool) (xs ys : List A) → all p xs ≡ true → all p ys ≡ true → all p (xs ++ ys) ≡ true
unfolding all
all_append p [] ys a b = b
all_append p (x ∷ xs) ys a b = rw (and_left (p x) (all p xs) a) (all_append p xs ys (and_right (p x) (all p xs) a) b)

join_good : (o : Operator) (f g : Formula) → Good f → Good g → Good (join o f g)
unfolding names_of counts_of
join_good o f g a b = record {
  named_well = all_append is_name (names_of f) (names_of g) a.named_well b.named_well;
  counted = all_append (within least_count most_count) (counts_of f) (counts_of g) a.counted b.counted;
}

-- a text that is written by the grammar makes a good formula
pub written_good : {p : Part} {text : List ℕ} {f : Formula} → Written p text f → Good f
unfolding names_of counts_of all is_count
written_good (by_name name ds n c) = record { named_well = rw n; counted = rw (and_right (no_leading_zero ds && all digit ds) (within least_count most_count (decimal ds)) c) }
written_good (by_brackets w) = written_good w
written_good (by_item w) = written_good w
written_good (by_operator {x = x} {f = f} {g = g} h w v) = join_good (operator_of x) f g (written_good w) (written_good v)

-- ---- the sheet of a formula

pub names_some : (f : Formula) → 1 ≤ length (names_of f)
unfolding names_of
names_some (item name c) = omega arith
names_some (join o a b) = rw (length-append (names_of a) (names_of b)) (omega (arith, names_some a))

pub plots_some : (cs : List ℕ) → all (within least_count most_count) cs ≡ true → 1 ≤ plot_count cs
unfolding plot_count all
plots_some [] a = omega arith
plots_some (c ∷ cs) a =
    let b = leb-true 2 c (and_left (leb 2 c) (leb c 240) (and_left (within least_count most_count c) (all (within least_count most_count) cs) a)) in
    mul-pos {m = c} {n = plot_count cs} (omega arith) (plots_some cs (and_right (within least_count most_count c) (all (within least_count most_count) cs) a))

-- a first line of plot columns
plots_counted : (ns : List (List ℕ)) → count_kind plot_mark (map plot_heading ns) ≡ length ns
unfolding count_kind is_kind
plots_counted [] = refl
plots_counted (x ∷ ns) = ap suc (plots_counted ns)

treatments_counted : (ns : List (List ℕ)) → count_kind treatment_mark (map plot_heading ns) ≡ 0
unfolding count_kind is_kind
treatments_counted [] = refl
treatments_counted (x ∷ ns) = treatments_counted ns

pub headings_formed : (ns : List (List ℕ)) → all is_name ns ≡ true → all is_column (map plot_heading ns) ≡ true
unfolding all is_column
headings_formed [] a = refl
headings_formed (x ∷ ns) a = rw (and_left (is_name x) (all is_name ns) a) (headings_formed ns (and_right (is_name x) (all is_name ns) a))

-- it takes the columns of the level table one after the other
plots_taken : (n : ℕ) (levels : List ℕ) (ns : List (List ℕ)) (c : ℕ)
    → map (λ (j : ℕ). take n (drop (most_plots * j) levels)) (columns_after c 0 (map plot_heading ns)) ≡ columns_from n levels c (length ns)
unfolding columns_after columns_from is_kind
plots_taken n levels [] c = refl
plots_taken n levels (x ∷ ns) c = ap (λ (r : List Column). take n (drop (most_plots * c) levels) ∷ r) (plots_taken n levels ns (suc c))

module _ (f : Formula) (good : Good f) (differ : names_differ (header_of f) ≡ true) (fits : question18 f ≡ true) where
  names_few : length (names_of f) ≤ most_columns
  unfolding question18
  names_few = leb-true (length (names_of f)) 6 (and_left (leb (length (names_of f)) 6) (leb (plot_count (counts_of f)) 240) fits)

  plots_few : plot_count (counts_of f) ≤ most_plots
  unfolding question18
  plots_few = leb-true (plot_count (counts_of f)) 240 (and_right (leb (length (names_of f)) 6) (leb (plot_count (counts_of f)) 240) fits)

  columns_names : length (columns_of f) ≡ length (names_of f)
  unfolding columns_of
  columns_names = length_tabulate (λ i. column_of (counts_of f) (seen f i)) (length (counts_of f)) ∙ counts_names f

  -- names, columns and plots are those of a sheet
  pub formula_writable : Writable (plot_count (counts_of f)) (header_of f) (columns_of f)
  unfolding header_of columns_of is_header is_column
  formula_writable = record {
    first =
        rw (
          length-map (names_of f) plot_heading,
          le-leb 1 (length (names_of f)) (names_some f),
          le-leb (length (names_of f)) most_fields (omega (arith, names_few)),
          headings_formed (names_of f) good.named_well,
          plots_counted (names_of f),
          treatments_counted (names_of f),
          le-leb (length (names_of f)) most_columns names_few,
          differ,
        );
    columns = columns_names ∙ sym (length-map (names_of f) plot_heading);
    plots_some = plots_some (counts_of f) good.counted;
    plots_few = plots_few;
    levels = λ i h. rw (column_at_lem f i (omega (arith, h, columns_names)))
        (numbered_levels (plot_count (counts_of f)) (column_of (counts_of f) (seen f i)) (length_column (counts_of f) (seen f i)) (number_column (counts_of f) (seen f i)) plots_few);
  }

  module _ (levels : List ℕ) (table : table_cells ≤ length levels) where
    -- the sheet is read
    pub formula_read : reading (sheet_of f) levels ≡ read (plot_count (counts_of f)) (length (names_of f)) 0
    unfolding sheet_of header_of
    formula_read =
        sheet_read (plot_count (counts_of f)) (header_of f) (columns_of f) formula_writable levels table
        ∙ ap₂ (read (plot_count (counts_of f))) (plots_counted (names_of f)) (treatments_counted (names_of f))

    -- the level table then holds the formula's columns
    pub formula_columns : columns_from (plot_count (counts_of f)) (levels_after (read (plot_count (counts_of f)) (length (names_of f)) 0) (sheet_of f) levels) 0 (length (names_of f)) ≡ columns_of f
    unfolding sheet_of header_of table_columns
    formula_columns =
        ap (λ (o : Outcome). columns_from (plot_count (counts_of f)) (levels_after o (sheet_of f) levels) 0 (length (names_of f))) (sym formula_read)
        ∙ sym (plots_taken (plot_count (counts_of f)) (levels_after (reading (sheet_of f) levels) (sheet_of f) levels) (names_of f) 0)
        ∙ table_back (plot_count (counts_of f)) (header_of f) (columns_of f) formula_writable levels table

-- the plot design of a sheet that was read is decided by 8 to 10
read_plot_design : (text levels : List ℕ) (n p t b : ℕ) → reading text levels ≡ read n p t → family_bytes ≤ b
    → plot_design n p (levels_after (read n p t) text levels) b ≡ question8 n (plot_family n (columns_from n (levels_after (read n p t) text levels) 0 p))
unfolding plot_design question7
read_plot_design text levels n p t b e h =
    let same : levels_after (read n p t) text levels ≡ levels_after (reading text levels) text levels = ap (λ (o : Outcome). levels_after o text levels) (sym e) in
    rw same (rw (read_limits text levels n p t e b ∙ le-leb family_bytes b h, plot_design) (rw (plot_levels_nonzero text levels n p t e, question7)))

-- ---- C-11

planned : (text : List ℕ) (f : Formula) → IsFormula text f → question18 f ≡ true → (levels : List ℕ) (b : ℕ) → table_cells ≤ length levels → family_bytes ≤ b → Planned text (sheet_of f) levels b
unfolding sheet_of header_of
planned text f i q levels b h k = record {
  formula = f;
  is_formula = i;
  fits = omega (arith, text_short (plot_count (counts_of f)) (header_of f) (columns_of f) (formula_writable f (written_good i.written) i.differ q));
  is_read = e;
  columns = rw e (formula_columns f (written_good i.written) i.differ q levels h);
  design =
      rw (e, read_plot_design (sheet_of f) levels (plot_count (counts_of f)) (length (names_of f)) 0 b e k, formula_columns f (written_good i.written) i.differ q levels h) (formula_verdict f);
}
  where
    e : reading (sheet_of f) levels ≡ read (plot_count (counts_of f)) (length (names_of f)) 0
    e = formula_read f (written_good i.written) i.differ q levels h

-- "Show that, with slices long enough, such a sheet is always read, and its plot design is refused by 8 or not at all."
pub formula_planned : (text : List ℕ) (outLength : ℕ) (levels : List ℕ) (b : ℕ) → (formula_sheet text outLength).refusal ≡ 0 → table_cells ≤ length levels → family_bytes ≤ b
    → Planned text (formula_sheet text outLength).sheet levels b
unfolding formula_sheet question17
formula_planned text outLength levels b e h k =
    by_cases (leb most_text outLength)
    (λ room. rw (room, formula_sheet) (go (formula_of text) refl (rw (room, formula_sheet) at e)))
    (λ room. absurd (suc-ne-zero 5 (rw (room, formula_sheet) at e)))
  where
    go : (p : Parsed) → formula_of text ≡ p → (question17 p).refusal ≡ 0 → Planned text (question17 p).sheet levels b
    go nothing z r = absurd (suc-ne-zero 16 r)
    go (parsed f rest) z r =
        by_cases (question18 f)
        (λ q. rw (q, question17) (planned text f (formula_written text f rest z).1 q levels b h k))
        (λ q. absurd (suc-ne-zero 17 (rw (q, question17) at r)))

-- ---- the answers

-- a formula within the limits is answered by its sheet
pub answered_0 : (text : List ℕ) (f : Formula) (outLength : ℕ) → most_text ≤ outLength → IsFormula text f → question18 f ≡ true → formula_sheet text outLength ≡ record { refusal = 0; sheet = sheet_of f }
unfolding formula_sheet question17
answered_0 text f outLength h i q = rw (le-leb most_text outLength h, formula_sheet, formula_reads text f i) (rw (q, question17))

-- one past them by 18
pub answered_18 : (text : List ℕ) (f : Formula) (outLength : ℕ) → most_text ≤ outLength → IsFormula text f → question18 f ≡ false → formula_sheet text outLength ≡ no_sheet 18
unfolding formula_sheet question17
answered_18 text f outLength h i q = rw (le-leb most_text outLength h, formula_sheet, formula_reads text f i) (rw (q, question17))

-- what is no formula by 17
pub answered_17 : (text : List ℕ) (outLength : ℕ) → most_text ≤ outLength → ((f : Formula) → IsFormula text f → ⊥) → formula_sheet text outLength ≡ no_sheet 17
unfolding formula_sheet question17
answered_17 text outLength h none = rw (le-leb most_text outLength h, formula_sheet) (go (formula_of text) refl)
  where
    go : (p : Parsed) → formula_of text ≡ p → question17 p ≡ no_sheet 17
    go nothing z = refl
    go (parsed f rest) z = absurd (none f (formula_written text f rest z).1)

-- the sheet fits in what is lent
pub formula_fits : (text : List ℕ) (outLength : ℕ) → length (formula_sheet text outLength).sheet ≤ outLength
unfolding formula_sheet question17
formula_fits text outLength =
    by_cases (leb most_text outLength)
    (λ room. rw (room, formula_sheet) (go (leb-true most_text outLength room) (formula_of text) refl))
    (λ room. rw (room, formula_sheet) (omega arith))
  where
    go : most_text ≤ outLength → (p : Parsed) → formula_of text ≡ p → length (question17 p).sheet ≤ outLength
    go h nothing z = omega arith
    go h (parsed f rest) z =
        by_cases (question18 f)
        (λ q. let i = (formula_written text f rest z).1 in
        rw (q, question17) (omega (arith, fits f i q)))
        (λ q. rw (q, question17) (omega arith))
      where
        fits : (f : Formula) → IsFormula text f → question18 f ≡ true → length (sheet_of f) ≤ most_text
        fits f i q = (planned text f i q (replicate table_cells 0) family_bytes (rw length-replicate (omega arith)) (omega arith)).fits

-- ---- nesting

-- "With `/`, all names of a later item are nested in all names of earlier ones."
pub nesting_all : (a b : Formula) (i j : ℕ) → length (names_of a) ≤ i → j < length (names_of a) → nested_in (join nesting a b) i j ≡ true
unfolding nested_in
nesting_all a b i j h k = rw (le-ltb i (length (names_of a)) h, lt-ltb j (length (names_of a)) k, nested_in)

-- with `*` none is
pub crossing_none : (a b : Formula) (i j : ℕ) → length (names_of a) ≤ i → j < length (names_of a) → nested_in (join crossing a b) i j ≡ false
unfolding nested_in
crossing_none a b i j h k = rw (le-ltb i (length (names_of a)) h, lt-ltb j (length (names_of a)) k, nested_in)

-- a name is nested only in names written before it
pub nested_before : (f : Formula) (i j : ℕ) → nested_in f i j ≡ true → j < i
unfolding nested_in
nested_before (item name c) i j e = clash e refl
nested_before (join o a b) i j e =
    by_cases (ltb i (length (names_of a)))
    (λ h. nested_before a i j (rw (h, nested_in) at e))
    (λ h. by_cases (ltb j (length (names_of a)))
    (λ k. omega (arith, ltb-false i (length (names_of a)) h, ltb-true j (length (names_of a)) k))
    (λ k. let n : j - length (names_of a) < i - length (names_of a) = nested_before b (i - length (names_of a)) (j - length (names_of a)) (rw (h, k, nested_in) at e) in
    omega (arith, ltb-false i (length (names_of a)) h, ltb-false j (length (names_of a)) k)))

-- and in all that these are nested in
pub nested_trans : (f : Formula) (i j k : ℕ) → nested_in f i j ≡ true → nested_in f j k ≡ true → nested_in f i k ≡ true
unfolding nested_in
nested_trans (item name c) i j k e g = e
nested_trans (join o a b) i j k e g =
    by_cases (ltb i (length (names_of a)))
    (λ h. let below = nested_before a i j (rw (h, nested_in) at e) in
    let l : ltb j (length (names_of a)) ≡ true = lt-ltb j (length (names_of a)) (omega (arith, ltb-true i (length (names_of a)) h)) in
    rw (h, nested_in) (nested_trans a i j k (rw (h, nested_in) at e) (rw (l, nested_in) at g)))
    (λ h. by_cases (ltb k (length (names_of a)))
    (λ m. rw (h, m, nested_in) (outer h m (ltb j (length (names_of a))) refl))
    (λ m. rw (h, m, nested_in) (inner h m (ltb j (length (names_of a))) refl (nested_trans b (i - length (names_of a)) (j - length (names_of a)) (k - length (names_of a))))))
  where
    n : ℕ
    n = length (names_of a)

    outer : ltb i n ≡ false → ltb k n ≡ true → (t : Bool) → ltb j n ≡ t → nests o ≡ true
    outer h m true l = rw (h, l, nested_in) at e
    outer h m false l = rw (l, m, nested_in) at g

    inner : ltb i n ≡ false → ltb k n ≡ false → (t : Bool) → ltb j n ≡ t → (nested_in b (i - n) (j - n) ≡ true → nested_in b (j - n) (k - n) ≡ true → nested_in b (i - n) (k - n) ≡ true) → nested_in b (i - n) (k - n) ≡ true
    inner h m true l below =
        let x : k < j = nested_before a j k (rw (l, nested_in) at g) in
        clash (lt-ltb k n (omega (arith, ltb-true j n l))) m
    inner h m false l below = below (rw (h, l, nested_in) at e) (rw (l, m, nested_in) at g)
