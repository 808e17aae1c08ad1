-- Laws of the entries: the columns looked at, and the answers by their questions.
-- Assumes nothing.
use mathlib.Core.Path.{◌≡◌, refl, sym, ap, ap₂, ◌∙◌}
use mathlib.Core.Bool.{Bool, true, false, ◌&&◌}
use mathlib.Core.List.{List, [], ◌∷◌, ◌++◌}
use Prim.Native.Nat.{ℕ, ◌≤◌, ◌<◌}
use native.Mathlib.Omega.{arith}
use lib.Dec.{eqb, ltb, leb}
use lib.ListN.{length, get_or, take}
use lib.Seq.{take_all}
use borrow.Author.Tests.{leb-true, ltb-true, eqb-true, lt-ltb, le-leb, eq-eqb, ne_eqb}
use Rattle.rules.specs.Factor.{Column}
use Rattle.rules.specs.Family.{Family, columns_from, members_of, well_formed}
use Rattle.rules.specs.Design.{plots_within, nonzero, all_nonzero}
use Rattle.rules.specs.Lists.{tabulate}
use Rattle.rules.specs.Names.{name_of, bytes_of}
use Rattle.rules.specs.Sheet.{header, question2, question3}
use Rattle.rules.specs.Naming.{Kind as Rule, plot, treatment, kind_names, looked_names, kind_columns, looked_at, name_on, name_at, NameAnswer, name_refused, name_buffer, naming_within, naming_from7, naming}
use Rattle.rules.proofs.Lists.{tabulate_get_d}
use Rattle.rules.proofs.Members.{clash}
use Rattle.rules.proofs.NameBytes.{length_kind_names}
use Rattle.rules.proofs.NameSize.{name_on_short}
use Rattle.rules.proofs.Numbering.{by_cases}
use Rattle.rules.proofs.Sheet.{and_left, and_right, header_form}
use Rattle.sheet.specs.Answers.{first_line, headed}
use Rattle.sheet.specs.declared.Counts.{Counts}
use Rattle.sheet.specs.declared.header.Header.{Header}
use Rattle.sheet.proofs.QuestionLaws.{headed_some}
use Rattle.naming.specs.declared.columns.Look.{Look}
use Rattle.naming.specs.declared.Kind.{Kind}
use Rattle.naming.specs.declared.Kind.TheVariants.{Plot, Treatment}
use Rattle.naming.specs.Answers.{kind_of, look_of, CountedIn, look_fits, member_fits, name_by, naming_by, starting_with, name_numbers, name_numbers_of}
use Rattle.naming.specs.Columns.{InTable, own_of, looked_of, own_names, look_names}
use Rattle.std.specs.Prelude.{Some, Result, Ok, Err}
use Rattle.refusal.specs.declared.Refusal.{Refusal}
use Rattle.refusal.specs.Numbers.{number_of}

-- ---- the columns looked at

module _ (text : List ℕ) (q : question3 text ≡ true) where
  pub counted_in : (h : Header) → Some h ≡ headed text → (n : ℕ) → CountedIn text (record { plots = n; plot_columns = h.plot_columns; treatment_columns = h.treatment_columns })
  unfolding first_line
  counted_in h e n =
      let is : h ≡ first_line text = (headed_some text h e).1 in
      record { plot_columns_holds = ap (λ (x : Header). x.plot_columns) is; treatment_columns_holds = ap (λ (x : Header). x.treatment_columns) is }

-- by the columns counted in the first line they are the rules'
module _ (text : List ℕ) (counts : Counts) (c : CountedIn text counts) where
  pub looked_columns : (kind : Kind) (levels : List ℕ) → looked_of (look_of kind counts) levels ≡ looked_at (kind_of kind) text counts.plots levels
  unfolding looked_at kind_columns columns_from
  looked_columns Plot levels = ap (columns_from counts.plots levels 0) c.plot_columns_holds
  looked_columns Treatment levels =
      ap₂ (λ (p t : ℕ). columns_from counts.plots levels 0 p ++ columns_from counts.plots levels 6 t) c.plot_columns_holds c.treatment_columns_holds

  own_columns : (kind : Kind) (levels : List ℕ) → own_of (look_of kind counts) levels ≡ kind_columns (kind_of kind) text counts.plots levels
  unfolding kind_columns
  own_columns Plot levels = ap (columns_from counts.plots levels 0) c.plot_columns_holds
  own_columns Treatment levels = ap (columns_from counts.plots levels 6) c.treatment_columns_holds

  own_names_lem : (kind : Kind) → own_names (look_of kind counts) text ≡ kind_names (kind_of kind) (header text)
  own_names_lem Plot = refl
  own_names_lem Treatment = refl

  looked_names_lem : (kind : Kind) → look_names (look_of kind counts) text ≡ looked_names (kind_of kind) (header text)
  unfolding look_names looked_names tabulate
  looked_names_lem Plot = refl
  looked_names_lem Treatment =
      let names = kind_names plot (header text) in
      ap (λ (l : List (List ℕ)). l ++ kind_names treatment (header text))
      (ap (tabulate (λ i. get_or names i [])) (c.plot_columns_holds ∙ sym (length_kind_names plot (header text))) ∙ tabulate_get_d [] names)

  pub counted_on : (kind : Kind) (levels : List ℕ) (place : ℕ) (F : Column) → name_by (look_of kind counts) text levels place F ≡ name_on (kind_of kind) text counts.plots levels place F
  unfolding name_by name_on
  counted_on kind levels place F =
      ap₂ (λ (xs ys : List (List ℕ)). bytes_of xs ys (name_of (look_of kind counts).plots (own_of (look_of kind counts) levels) (looked_of (look_of kind counts) levels) place F)) (own_names_lem kind) (looked_names_lem kind)
      ∙ ap (bytes_of (kind_names (kind_of kind) (header text)) (looked_names (kind_of kind) (header text)))
      (ap₂ (λ (Cs Ls : List Column). name_of (look_of kind counts).plots Cs Ls place F) (own_columns kind levels) (looked_columns kind levels) ∙ ap (λ (n : ℕ). name_of n (kind_columns (kind_of kind) text counts.plots levels) (looked_at (kind_of kind) text counts.plots levels) place F) (plots_of_lem kind))
    where
      plots_of_lem : (kind : Kind) → (look_of kind counts).plots ≡ counts.plots
      plots_of_lem Plot = refl
      plots_of_lem Treatment = refl

  pub few_looked : question3 text ≡ true → (kind : Kind) → ((look_of kind counts).before ≤ 6) × ((look_of kind counts).count ≤ 6)
  few_looked q Plot = (omega arith, omega (arith, c.plot_columns_holds, (header_form text q).plots))
  few_looked q Treatment = (omega (arith, c.plot_columns_holds, (header_form text q).plots), omega (arith, c.treatment_columns_holds, (header_form text q).treatments))

pub plots_are : (kind : Kind) (counts : Counts) → (look_of kind counts).plots ≡ counts.plots
plots_are Plot counts = refl
plots_are Treatment counts = refl

-- 7 of the columns looked at: of the first of them, then of the others
pub nonzero_first : (Cs Ds : List Column) → all_nonzero Cs ≡ false → all_nonzero (Cs ++ Ds) ≡ false
unfolding all_nonzero
nonzero_first [] Ds e = clash refl e
nonzero_first (C ∷ Cs) Ds e =
    by_cases (nonzero C)
    (λ a. rw (a, all_nonzero) (nonzero_first Cs Ds (sym (rw (a, all_nonzero)) ∙ e)))
    (λ a. rw (a, all_nonzero))

pub nonzero_rest : (Cs Ds : List Column) → all_nonzero Cs ≡ true → all_nonzero (Cs ++ Ds) ≡ all_nonzero Ds
unfolding all_nonzero
nonzero_rest [] Ds e = refl
nonzero_rest (C ∷ Cs) Ds e =
    by_cases (nonzero C)
    (λ a. rw (a, all_nonzero) (nonzero_rest Cs Ds (sym (rw (a, all_nonzero)) ∙ e)))
    (λ a. clash e (rw (a, all_nonzero)))

-- ---- what a call is given

pub record LookFits (look : Look) (tableLength : ℕ) : Type 0 where
  pub some_plots : 1 ≤ look.plots
  pub few_plots : look.plots ≤ 240
  pub few_before : look.before ≤ 6
  pub few : look.count ≤ 6
  pub long : 2880 ≤ tableLength

pub look_fits_lem : (look : Look) (t : ℕ) → look_fits look t ≡ true → LookFits look t
unfolding look_fits plots_within
look_fits_lem look t e =
    let p : Bool = ltb 0 look.plots && leb look.plots 240 in
    let e1 = and_left (p && leb look.before 6 && leb look.count 6) (leb 2880 t) e in
    let e2 = and_left (p && leb look.before 6) (leb look.count 6) e1 in
    let e3 = and_left p (leb look.before 6) e2 in
    record {
      some_plots = ltb-true 0 look.plots (and_left (ltb 0 look.plots) (leb look.plots 240) e3);
      few_plots = leb-true look.plots 240 (and_right (ltb 0 look.plots) (leb look.plots 240) e3);
      few_before = leb-true look.before 6 (and_right p (leb look.before 6) e2);
      few = leb-true look.count 6 (and_right (p && leb look.before 6) (leb look.count 6) e1);
      long = leb-true 2880 t (and_right (p && leb look.before 6 && leb look.count 6) (leb 2880 t) e);
    }

-- the columns stand in the level table
pub in_table : (kind : Kind) (counts : Counts) (levels : List ℕ) → look_fits (look_of kind counts) (length levels) ≡ true → InTable (look_of kind counts) levels
in_table kind counts levels e = of kind (look_fits_lem (look_of kind counts) (length levels) e)
  where
    of : (kind : Kind) → LookFits (look_of kind counts) (length levels) → InTable (look_of kind counts) levels
    of Plot w = record { few_plots = w.few_plots; few_before = w.few_before; few = w.few; inside = omega (arith, w.few); long = w.long }
    of Treatment w = record { few_plots = w.few_plots; few_before = w.few_before; few = w.few; inside = omega (arith, w.few); long = w.long }

-- ---- one member

pub record Fits (look : Look) (tableLength nameLength memberLength : ℕ) : Type 0 where
  pub columns : look_fits look tableLength ≡ true
  pub room : 160 ≤ nameLength
  pub on : memberLength ≡ look.plots

pub fits : (look : Look) (t r m : ℕ) → member_fits look t r m ≡ true → Fits look t r m
unfolding member_fits
fits look t r m e =
    let e1 = and_left (look_fits look t && leb 160 r) (eqb m look.plots) e in
    record {
      columns = and_left (look_fits look t) (leb 160 r) e1;
      room = leb-true 160 r (and_right (look_fits look t) (leb 160 r) e1);
      on = eqb-true m look.plots (and_right (look_fits look t && leb 160 r) (eqb m look.plots) e);
    }

module _ (look : Look) (text levels : List ℕ) (F : Column) (place room : ℕ) where
  pub unnamed : member_fits look (length levels) room (length F) ≡ false → naming_by look text levels F place room ≡ name_refused 6
  unfolding naming_by
  unnamed e = rw (e, naming_by)

  pub named : member_fits look (length levels) room (length F) ≡ true → naming_by look text levels F place room ≡ record { refusal = 0; name = take room (name_by look text levels place F) }
  unfolding naming_by
  named e = rw (e, naming_by)

-- by the columns of a first line of the form there is room for the name
pub counted_short : (kind : Kind) (counts : Counts) (text levels : List ℕ) (place : ℕ) (F : Column) → question3 text ≡ true → CountedIn text counts → place ≤ 32 → length (name_by (look_of kind counts) text levels place F) ≤ 158
counted_short kind counts text levels place F q c h = omega (arith, ap length (counted_on text counts c kind levels place F), name_on_short (kind_of kind) text counts.plots levels place F q (omega arith))

pub named_for : (kind : Kind) (counts : Counts) (text levels : List ℕ) (F : Column) (place room : ℕ) → question3 text ≡ true → CountedIn text counts → place ≤ 32 → member_fits (look_of kind counts) (length levels) room (length F) ≡ true
    → naming_by (look_of kind counts) text levels F place room ≡ record { refusal = 0; name = name_on (kind_of kind) text counts.plots levels place F }
named_for kind counts text levels F place room q c h e =
    let f = fits (look_of kind counts) (length levels) room (length F) e in
    let W = name_by (look_of kind counts) text levels place F in
    named (look_of kind counts) text levels F place room e
    ∙ ap (λ (X : List ℕ). record { refusal = 0; name = X }) (take_all room W (omega (arith, f.room, counted_short kind counts text levels place F q c h)) ∙ counted_on text counts c kind levels place F)

-- what an answer says of the enum and of the buffer
pub answered : (r : Result ℕ Refusal) (out after : List ℕ) (a b : NameAnswer) → b ≡ a → (name_numbers r ≡ name_numbers_of a) × (after ≡ name_buffer out a) → (name_numbers r ≡ name_numbers_of b) × (after ≡ name_buffer out b)
answered r out after a b e w = rw e w

pub accepting : (m : ℕ) (out after W : List ℕ) (b : NameAnswer) → b ≡ record { refusal = 0; name = W } → m ≡ length W → after ≡ starting_with W out → (name_numbers (Ok m) ≡ name_numbers_of b) × (after ≡ name_buffer out b)
unfolding name_numbers name_numbers_of
accepting m out after W b e l w = rw (e, l) (refl, w)

pub refusing : (q : Refusal) (out : List ℕ) (b : NameAnswer) → 0 < number_of q → b ≡ name_refused (number_of q) → (name_numbers (Err q) ≡ name_numbers_of b) × (out ≡ name_buffer out b)
unfolding name_numbers name_numbers_of
refusing q out b h e = rw (e, ne_eqb (number_of q) 0 (λ z. omega arith)) (refl, refl)

-- ---- the entry's questions

module _ (kind : Rule) (text levels buffer : List ℕ) (n size place room : ℕ) where
  pub naming_2 : question2 text ≡ false → naming kind text levels buffer n size place room ≡ name_refused 2
  unfolding naming
  naming_2 e = rw (e, naming)

  module _ (e : question2 text ≡ true) where
    pub naming_3 : question3 text ≡ false → naming kind text levels buffer n size place room ≡ name_refused 3
    unfolding naming
    naming_3 f = rw (e, f, naming)

    pub naming_6 : question3 text ≡ true → naming_within n size place (length levels) (length buffer) room ≡ false → naming kind text levels buffer n size place room ≡ name_refused 6
    unfolding naming
    naming_6 f g = rw (e, f, g, naming)

    pub naming_on : question3 text ≡ true → naming_within n size place (length levels) (length buffer) room ≡ true → naming kind text levels buffer n size place room ≡ naming_from7 kind text n levels (members_of n buffer size) place
    unfolding naming
    naming_on f g = rw (e, f, g, naming)

module _ (kind : Rule) (text : List ℕ) (n : ℕ) (levels : List ℕ) (S : Family) (place : ℕ) where
  pub naming_7 : all_nonzero (looked_at kind text n levels) ≡ false → naming_from7 kind text n levels S place ≡ name_refused 7
  unfolding naming_from7
  naming_7 e = rw (e, naming_from7)

  module _ (e : all_nonzero (looked_at kind text n levels) ≡ true) where
    pub naming_15 : well_formed S ≡ false → naming_from7 kind text n levels S place ≡ name_refused 15
    unfolding naming_from7
    naming_15 f = rw (e, f, naming_from7)

    pub naming_found : well_formed S ≡ true → naming_from7 kind text n levels S place ≡ record { refusal = 0; name = name_at kind text n levels S place }
    unfolding naming_from7
    naming_found f = rw (e, f, naming_from7)

-- what question 6 tells
pub record Ranges (n size place tableLength familyLength nameLength : ℕ) : Type 0 where
  pub some_plots : 1 ≤ n
  pub few_plots : n ≤ 240
  pub first : 1 ≤ place
  pub last : place ≤ size
  pub table : 2880 ≤ tableLength
  pub family : 7680 ≤ familyLength
  pub room : 160 ≤ nameLength

pub ranges : (n size place t f r : ℕ) → naming_within n size place t f r ≡ true → Ranges n size place t f r
unfolding naming_within plots_within
ranges n size place t f r e =
    let p : Bool = ltb 0 n && leb n 240 in
    let e1 = and_left (p && ltb 0 place && leb place size && leb 2880 t && leb 7680 f) (leb 160 r) e in
    let e2 = and_left (p && ltb 0 place && leb place size && leb 2880 t) (leb 7680 f) e1 in
    let e3 = and_left (p && ltb 0 place && leb place size) (leb 2880 t) e2 in
    let e4 = and_left (p && ltb 0 place) (leb place size) e3 in
    let e5 = and_left p (ltb 0 place) e4 in
    record {
      some_plots = ltb-true 0 n (and_left (ltb 0 n) (leb n 240) e5);
      few_plots = leb-true n 240 (and_right (ltb 0 n) (leb n 240) e5);
      first = ltb-true 0 place (and_right p (ltb 0 place) e4);
      last = leb-true place size (and_right (p && ltb 0 place) (leb place size) e3);
      table = leb-true 2880 t (and_right (p && ltb 0 place && leb place size) (leb 2880 t) e2);
      family = leb-true 7680 f (and_right (p && ltb 0 place && leb place size && leb 2880 t) (leb 7680 f) e1);
      room = leb-true 160 r (and_right (p && ltb 0 place && leb place size && leb 2880 t && leb 7680 f) (leb 160 r) e);
    }

pub ranges_fit : (kind : Kind) (counts : Counts) (size place t f r m : ℕ) → Ranges counts.plots size place t f r → ((look_of kind counts).before ≤ 6) × ((look_of kind counts).count ≤ 6) → m ≡ counts.plots → member_fits (look_of kind counts) t r m ≡ true
unfolding member_fits look_fits plots_within
ranges_fit kind counts size place t f r m w few e =
    let n = (look_of kind counts).plots in
    let is = plots_are kind counts in
    rw (lt-ltb 0 n (omega (arith, w.some_plots)), le-leb n 240 (omega (arith, w.few_plots)), le-leb (look_of kind counts).before 6 few.0, le-leb (look_of kind counts).count 6 few.1, le-leb 2880 t w.table, le-leb 160 r w.room, eq-eqb m n (e ∙ sym is))
