-- Sheets with levels up to a lower top: what is read of them, and what is made of it, stays with a higher one.
-- Assumes nothing.
use mathlib.Core.Path.{◌≡◌, refl, sym, ap, ◌∙◌}
use mathlib.Core.Logic.{◌⊎◌, inl, inr, ⊎_elim}
use mathlib.Core.Bool.{true, false}
use mathlib.Core.List.{List, [], ◌∷◌}
use Prim.Native.Nat.{ℕ, ◌≤◌}
use lib.Dec.{lit≤}
use lib.ListN.{length}
use borrow.Author.Tests.{eq-eqb}
use Rattle.rules.specs.Limits.{most_level, most_older_level}
use Rattle.rules.specs.Sheet.{all, Line, fields, header, decimal_from, no_leading_zero, is_level, is_row, is_plot_line, later_lines, question1, question2, question3, question4, Outcome, read, refused, reading_from3, reading_to, reading, levels_after, OlderKept}
use Rattle.rules.specs.Design.{plot_design, full_design}
use Rattle.rules.specs.Table.{empty_table, outcome_rows, table_rows}
use Rattle.rules.proofs.Numbering.{by_cases}
use Rattle.rules.proofs.Sheet.{and_left, all_weaker, level_wider, row_levels, not_read}

module _ (lower higher : ℕ) (h : lower ≤ higher) where
  line_wider : (n : ℕ) (l : Line) → is_plot_line lower n l ≡ true → is_plot_line higher n l ≡ true
  unfolding is_plot_line is_row
  line_wider n l e =
      let r = row_levels lower n l e in
      rw (and_left l.ended (is_row lower n (fields l.bytes)) e, eq-eqb (length (fields l.bytes)) n r.0)
      (all_weaker (is_level lower) (is_level higher) (λ f. level_wider lower f higher h) (fields l.bytes) r.1)

  lines_wider : (text : List ℕ) → question4 lower text ≡ true → question4 higher text ≡ true
  unfolding question4
  lines_wider text =
      all_weaker (is_plot_line lower (length (header text))) (is_plot_line higher (length (header text))) (line_wider (length (header text))) (later_lines text)

  -- With a higher top only refusals by 4 change.
  pub top_raised : (text levels : List ℕ) → (reading_to lower text levels ≡ refused 4) ⊎ (reading_to higher text levels ≡ reading_to lower text levels)
  unfolding reading_to reading_from3
  top_raised text levels =
      by_cases (question1 levels)
      (λ q1. by_cases (question2 text)
      (λ q2. by_cases (question3 text)
      (λ q3. by_cases (question4 lower text)
      (λ q4. inr (rw (q1, q2, q3, q4, lines_wider text q4, reading_to, reading_from3)))
      (λ q4. inl (rw (q1, q2, q3, q4, reading_to, reading_from3))))
      (λ q3. inr (rw (q1, q2, q3, reading_to, reading_from3))))
      (λ q2. inr (rw (q1, q2, reading_to))))
      (λ q1. inr (rw (q1, reading_to)))

-- A text is answered, and the level table left, as with levels up to 65535, unless these refuse it by 4.
pub older_kept : (text levels : List ℕ) (o : Outcome) (after : List ℕ) → o ≡ reading text levels → after ≡ levels_after (reading text levels) text levels → OlderKept text levels o after
older_kept text levels o after a b =
    ⊎_elim inl (λ e. inr (a ∙ e, b ∙ ap (λ (o : Outcome). levels_after o text levels) e)) (top_raised most_older_level most_level (lit≤ tt) text levels)

-- Every older sheet gives the same counts, the same level table and the same families.
module _ (text levels : List ℕ) (n p t : ℕ) (e : reading_to most_older_level text levels ≡ read n p t) where
  pub older_read : reading text levels ≡ read n p t
  older_read = ⊎_elim (λ r. not_read 4 n p t (sym r ∙ e)) (λ r. r ∙ e) (top_raised most_older_level most_level (lit≤ tt) text levels)

  abbrev table : List ℕ
  table = levels_after (reading text levels) text levels

  abbrev older_table : List ℕ
  older_table = levels_after (reading_to most_older_level text levels) text levels

  pub older_levels : table ≡ older_table
  older_levels = ap (λ (o : Outcome). levels_after o text levels) (older_read ∙ sym e)

  pub older_plots : (b : ℕ) → plot_design n p table b ≡ plot_design n p older_table b
  older_plots b = ap (λ (T : List ℕ). plot_design n p T b) older_levels

  pub older_full : (k b c : ℕ) → full_design n p t k table b c ≡ full_design n p t k older_table b c
  older_full k b c = ap (λ (T : List ℕ). full_design n p t k T b c) older_levels

-- The printed table too is the same, unless levels up to 65535 give 4.
pub older_rows : (text : List ℕ) → (reading_to most_older_level text empty_table ≡ refused 4) ⊎ (table_rows text ≡ outcome_rows text (reading_to most_older_level text empty_table))
unfolding table_rows
older_rows text = ⊎_elim inl (λ e. inr (ap (outcome_rows text) e)) (top_raised most_older_level most_level (lit≤ tt) text empty_table)

-- 65535 is a level of older sheets, 65536 is none
older_highest : (is_level most_older_level (54 ∷ 53 ∷ 53 ∷ 51 ∷ 53 ∷ []) ≡ true) × (is_level most_older_level (54 ∷ 53 ∷ 53 ∷ 51 ∷ 54 ∷ []) ≡ false)
unfolding is_level no_leading_zero all decimal_from
older_highest = (refl, refl)
