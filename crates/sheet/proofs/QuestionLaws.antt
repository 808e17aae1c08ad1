-- Laws of the questions, by what the walks answer.
-- Assumes nothing.
use mathlib.Core.Path.{◌≡◌, sym, ap, ap₂, ◌∙◌}
use mathlib.Core.Bool.{true, false}
use mathlib.Core.List.{List}
use Prim.Native.Nat.{ℕ, ◌+◌, ◌≤◌}
use native.Mathlib.Omega.{arith}
use native.Mathlib.Nat.{zero-add}
use lib.Dec.{leb}
use lib.ListN.{length, take, drop}
use lib.Seq.{take_at}
use borrow.Author.Tests.{leb-true}
use Rattle.rules.specs.Limits.{most_level, most_plots}
use Rattle.rules.specs.Sheet.{Line, within, lines, count_kind, header, columns_after, later_lines, with_plots, question3, question4, question5, Outcome, read, refused, counts, reading_from3, levels_after}
use Rattle.rules.proofs.Sheet.{and_right, FirstLine, header_form, kinds_all, length_columns, columns_fit}
use Rattle.rules.proofs.Numbering.{by_cases}
use Rattle.sheet.specs.Walk.{Store, PlotLines}
use Rattle.sheet.specs.Answers.{first_line, headed, judged}
use Rattle.sheet.specs.declared.header.Header.{Header}
use Rattle.std.specs.Prelude.{Some, None}
use Rattle.sheet.proofs.Stops.{past_drop}
use Rattle.sheet.proofs.HeaderLaws.{headed_no, headed_yes}

-- ---- question 3

module _ (text : List ℕ) where
  pub headed_none : None ≡ headed text → question3 text ≡ false
  headed_none e = by_cases (question3 text) (λ q. let y = headed_yes text q in cc) (λ q. q)

  pub headed_some : (h : Header) → Some h ≡ headed text → (question3 text ≡ true) × (h ≡ first_line text)
  headed_some h e = by_cases (question3 text) (λ q. (q, (let y = headed_yes text q in cc))) (λ q. let n = headed_no text q in cc)

-- ---- questions 3 to 5 of a text

module _ (text : List ℕ) where
  pub refused_3 : question3 text ≡ false → reading_from3 most_level text ≡ refused 3
  unfolding reading_from3
  refused_3 a = rw (a, reading_from3)

  refused_4 : question3 text ≡ true → question4 most_level text ≡ false → reading_from3 most_level text ≡ refused 4
  unfolding reading_from3
  refused_4 a b = rw (a, b, reading_from3)

  refused_5 : question3 text ≡ true → question4 most_level text ≡ true → question5 text ≡ false → reading_from3 most_level text ≡ refused 5
  unfolding reading_from3
  refused_5 a b c = rw (a, b, c, reading_from3)

  all_read : question3 text ≡ true → question4 most_level text ≡ true → question5 text ≡ true
      → reading_from3 most_level text ≡ read (length (later_lines text)) (count_kind 112 (header text)) (count_kind 116 (header text))
  unfolding reading_from3 counts
  all_read a b c = rw (a, b, c, reading_from3)

-- ---- the later lines of a text that question 3 accepts, by its first line h

module _ (text : List ℕ) (q : question3 text ≡ true) (h : Header) (is : h ≡ first_line text) where
  abbrev fields_in : ℕ
  fields_in = h.plot_columns + h.treatment_columns

  form : FirstLine (header text)
  form = header_form text q

  pub fields_all : fields_in ≡ length (header text)
  unfolding first_line
  fields_all = rw is (kinds_all (header text) form.columns)

  pub fields_some : 1 ≤ fields_in
  fields_some = omega (arith, fields_all, form.some)

  pub fields_few : fields_in ≤ 12
  unfolding first_line
  fields_few = rw is (omega (arith, form.plots, form.treatments))

  columns_all : take fields_in h.columns ≡ columns_after 0 0 (header text)
  unfolding first_line
  columns_all = rw is (take_at (columns_after 0 0 (header text)) _ _ (length_columns 0 0 (header text) ∙ sym (kinds_all (header text) form.columns)))

  later : lines (drop h.end text) ≡ later_lines text
  unfolding first_line later_lines
  later = rw is (ap lines (sym (past_drop 10 text)))

  pub columns_size : length (take fields_in h.columns) ≡ fields_in
  columns_size = ap length columns_all ∙ length_columns 0 0 (header text) ∙ sym fields_all

  -- each field has a column of the level table
  pub columns_placed : (cells : ℕ) → 2880 ≤ cells → Store (take fields_in h.columns) cells
  columns_placed cells room = record {
    some = omega (arith, columns_size, fields_some);
    places = rw columns_all (columns_fit 0 0 (header text) form.columns (omega (arith, form.plots)) (omega (arith, form.treatments)));
    room = room;
  }

  -- what question 4 tells of the lines
  judged_later : judged 0 fields_in (lines (drop h.end text)) ≡ judged 0 (length (header text)) (later_lines text)
  judged_later = ap₂ (λ (n : ℕ) (ls : List Line). judged 0 n ls) fields_all later

  bad : question4 most_level text ≡ false → judged 0 fields_in (lines (drop h.end text)) ≡ None
  unfolding judged question4
  bad a = judged_later ∙ rw (a, judged)

  good : question4 most_level text ≡ true → judged 0 fields_in (lines (drop h.end text)) ≡ Some (length (later_lines text))
  unfolding judged question4
  good a = judged_later ∙ rw (a, judged, zero-add)

  -- a line has not the form
  pub later_bad : None ≡ judged 0 fields_in (lines (drop h.end text)) → reading_from3 most_level text ≡ refused 4
  later_bad e = by_cases (question4 most_level text) (λ a. let y = good a in cc) (refused_4 text q)

  -- so many lines have it
  module _ (plots : ℕ) (e : Some plots ≡ judged 0 fields_in (lines (drop h.end text))) where
    formed : question4 most_level text ≡ true
    formed = by_cases (question4 most_level text) (λ a. a) (λ a. let n = bad a in cc)

    counted : plots ≡ length (later_lines text)
    counted = let y = good formed in cc

    -- too few or too many
    pub later_other : within 1 most_plots plots ≡ false → reading_from3 most_level text ≡ refused 5
    unfolding question5
    later_other w = refused_5 text q formed (rw counted at w)

    -- the lines can be stored, and the sheet is read
    module _ (w : within 1 most_plots plots ≡ true) where
      held : question5 text ≡ true
      unfolding question5
      held = rw counted at w

      pub later_lines_lem : PlotLines text h.end fields_in plots
      unfolding question4
      later_lines_lem = record {
        counted = counted ∙ ap length (sym later);
        few = leb-true plots 240 (and_right (leb 1 plots) (leb plots 240) w);
        form = rw (fields_all, later) formed;
      }

      pub later_read : reading_from3 most_level text ≡ read plots h.plot_columns h.treatment_columns
      unfolding first_line
      later_read = rw (is, counted) (all_read text q formed held)

      -- the rules' table
      pub later_stored : (levels : List ℕ) → with_plots (take fields_in h.columns) 0 (lines (drop h.end text)) levels ≡ levels_after (reading_from3 most_level text) text levels
      unfolding levels_after
      later_stored levels =
          ap₂ (λ (cs : List ℕ) (ls : List Line). with_plots cs 0 ls levels) columns_all later
          ∙ sym (ap (λ (o : Outcome). levels_after o text levels) (all_read text q formed held))
