-- `expand_readable`: names that are alike, and formulas past the limits, are refused.
use Prim.Native.Nat.{ℕ, ◌+◌, ◌-◌, ◌≤◌, min}
use mathlib.Core.Path.{◌≡◌, refl, sym, ap, ap₂, ◌∙◌}
use mathlib.Core.Bool.{false}
use mathlib.Core.List.{List, ◌++◌, map, append_assoc}
use native.Mathlib.Omega.{arith}
use lib.ListN.{length, take, drop, replicate, length-append, length-replicate}
use lib.Seq.{take_at}
use Rattle.rules.specs.Sheet.{plot_mark, column_names, header, joined, names_differ}
use Rattle.rules.specs.SheetText.{plot_heading}
use Rattle.rules.specs.Formula.{Formula, names_of, counts_of, plot_count, header_of}
use Rattle.rules.proofs.Formula.{counts_names, written_good}
use Rattle.decimal.proofs.Writing.{written_all, place_all, wrote_length}
use Rattle.writer.specs.Answers.{writing_numbers, answer_numbers}
use Rattle.block_formula.specs.Text.{headings}
use Rattle.block_formula.proofs.TextLaws.{counts_are, next_heading, headings_are, headings_short, line_names}
use Rattle.block_formula.proofs.AnswerLaws.{Readable, is_readable, alike_17, is_formula, names_18, plots_18, within_limits_lem}
use Rattle.block_formula.proofs.expand_readable.Goals as goal
use Rattle.block_formula.proofs.expand_readable.Goals.{After-names_differ, After-write_headings-end}

abbrev zeros : ℕ → List ℕ
zeros n = replicate n 0

parsed : (c : After-write_headings-end) → Readable c.args.formula.now
parsed c = is_readable c.args.formula.now c.requires.1

abbrev formula : After-write_headings-end → Formula
formula c = (parsed c).formula

-- the headings: one more is begun
headings-is : (c : After-write_headings-end) → headings c.args.formula.now ≡ joined (header_of (formula c)) ++ next_heading
headings-is c = headings_are (parsed c).written

fits : (c : After-write_headings-end) → length (headings c.args.formula.now) ≤ length (zeros 770)
fits c =
    let z : ℕ = 0 in
    omega (arith, length-replicate 770 z, headings_short false c.args.formula.now, (parsed c).most)

size_is : (c : After-write_headings-end) → c.write_headings-end.result ≡ length (headings c.args.formula.now)
size_is c = c.write_headings-end.ensures.0 ∙ place_all (zeros 770) (headings c.args.formula.now) (fits c)

line_length : (c : After-write_headings-end) → length (headings c.args.formula.now) ≡ length (joined (header_of (formula c))) + 3
line_length c = ap length (headings-is c) ∙ length-append (joined (header_of (formula c))) next_heading

kept : (c : After-write_headings-end) → length c.write_headings-end.new.out ≡ 770
kept c = let z : ℕ = 0 in wrote_length (zeros 770) 0 (headings c.args.formula.now) c.write_headings-end.ensures ∙ length-replicate 770 z

-- without it they are the first line
line_is : (c : After-write_headings-end) → take (c.write_headings-end.result - 3) c.write_headings-end.new.out ≡ joined (header_of (formula c))
line_is c =
    let t = headings c.args.formula.now in
    let line = joined (header_of (formula c)) in
    let rest = drop (length t) (zeros 770) in
    let n : c.write_headings-end.result - 3 ≡ length line = omega (arith, size_is c, line_length c) in
    ap₂ take n (c.write_headings-end.ensures.1 ∙ written_all (zeros 770) t (fits c) ∙ ap (λ (l : List ℕ). l ++ rest) (headings-is c) ∙ append_assoc line next_heading rest) ∙ take_at line (next_heading ++ rest) (length line) refl

counts_is : (c : After-write_headings-end) → c.read_counts-counts.result.now ≡ counts_of (formula c)
counts_is c = c.read_counts-counts.ensures ∙ counts_are (parsed c).written

names-are : (c : After-write_headings-end) → length c.read_counts-counts.result.now ≡ length (names_of (formula c))
names-are c = ap length (counts_is c) ∙ counts_names (formula c)

-- the names in the first line are the formula's
names-is : (c : After-write_headings-end) → column_names plot_mark (header (take (c.write_headings-end.result - 3) c.write_headings-end.new.out)) ≡ names_of (formula c)
names-is c = ap (λ (l : List ℕ). column_names plot_mark (header l)) (line_is c) ∙ line_names (formula c) (written_good (parsed c).written).named_well

-- whether they differ
differ-is : (c : After-names_differ) → c.names_differ.result ≡ names_differ (header_of (formula (goal.at.After-names_differ c).After-write_headings-end))
unfolding header_of
differ-is c = c.names_differ.ensures ∙ ap (λ (ns : List (List ℕ)). names_differ (map plot_heading ns)) (names-is (goal.at.After-names_differ c).After-write_headings-end)

pub read_counts-counts-requires : goal.read_counts-counts-requires
read_counts-counts-requires c = (is_readable c.args.formula.now c.requires.1).most

pub overflow_sub-end : goal.overflow_sub-end
overflow_sub-end c =
    let w = (goal.at.overflow_sub-end c).After-write_headings-end in
    omega (arith, size_is w, line_length w)

pub slice_bounds-headings-end : goal.slice_bounds-headings-end
slice_bounds-headings-end c =
    let w = (goal.at.slice_bounds-headings-end c).After-write_headings-end in
    omega (arith, size_is w, fits w, kept w)

pub slice_bounds-line-end : goal.slice_bounds-line-end
slice_bounds-line-end c =
    let w = (goal.at.slice_bounds-line-end c).After-write_headings-end in
    omega (arith, size_is w, line_length w, ap length (line_is w))

pub names_differ-requires : goal.names_differ-requires
names_differ-requires c =
    let w = (goal.at.names_differ-requires c).After-write_headings-end in
    names-are w ∙ sym (ap length (names-is w))

pub returns-then-not-names_differ : goal.returns-then-not-names_differ
unfolding writing_numbers answer_numbers
returns-then-not-names_differ c =
    let w = (goal.at.returns-then-not-names_differ c).After-write_headings-end in
    let a = w.args in
    rw (alike_17 a.formula.now (length a.out.now) w.requires.0 (parsed w) (sym (differ-is (goal.at.returns-then-not-names_differ c).After-names_differ) ∙ c.if-not-names_differ.true)) record {
      answer = refl;
      sheet = refl;
    }

pub returns-then-counts-gt-COLUMNS : goal.returns-then-counts-gt-COLUMNS
unfolding writing_numbers answer_numbers
returns-then-counts-gt-COLUMNS c =
    let w = (goal.at.returns-then-counts-gt-COLUMNS c).After-write_headings-end in
    let a = w.args in
    rw (names_18 a.formula.now (length a.out.now) w.requires.0 (parsed w) (sym (differ-is (goal.at.returns-then-counts-gt-COLUMNS c).After-names_differ) ∙ c.if-not-names_differ.false) (omega (arith, names-are w))) record {
      answer = refl;
      sheet = refl;
    }

pub returns-then-plots-gt-PLOTS : goal.returns-then-plots-gt-PLOTS
unfolding writing_numbers answer_numbers
returns-then-plots-gt-PLOTS c =
    let w = (goal.at.returns-then-plots-gt-PLOTS c).After-write_headings-end in
    let a = w.args in
    let n = c.plot_count-plots.ensures ∙ ap (λ (cs : List ℕ). min 241 (plot_count cs)) (counts_is w) in
    rw (plots_18 a.formula.now (length a.out.now) w.requires.0 (parsed w) (sym (differ-is (goal.at.returns-then-plots-gt-PLOTS c).After-names_differ) ∙ c.if-not-names_differ.false) (omega (arith, n))) record {
      answer = refl;
      sheet = refl;
    }

pub write_plots-requires : goal.write_plots-requires
write_plots-requires c =
    let w = (goal.at.write_plots-requires c).After-write_headings-end in
    let a = w.args in
    let n = c.plot_count-plots.ensures ∙ ap (λ (cs : List ℕ). min 241 (plot_count cs)) (counts_is w) in
    let plots : c.plot_count-plots.result ≡ plot_count (counts_of (formula w)) = omega (arith, n) in
    record {
      room = w.requires.0;
      formula = formula w;
      is_formula = is_formula a.formula.now (length a.out.now) w.requires.0 (parsed w) (sym (differ-is (goal.at.write_plots-requires c).After-names_differ) ∙ c.if-not-names_differ.false);
      limits = within_limits_lem (formula w) (omega (arith, names-are w)) (omega (arith, plots));
      line_is = line_is w;
      counts_are = counts_is w;
      plots_are = plots;
    }
