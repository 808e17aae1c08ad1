-- Laws of a walk that stores levels: what is left of a line's work, field by field, and of the lines, line by line.
-- Assumes nothing.
use mathlib.Core.Path.{◌≡◌, refl, sym, ap, ◌∙◌}
use mathlib.Core.Bool.{true, ◌&&◌}
use mathlib.Core.List.{List, [], ◌∷◌}
use Prim.Native.Nat.{ℕ, zero, suc, ◌+◌, ◌*◌, ◌≤◌, ◌<◌}
use native.Mathlib.Omega.{arith}
use native.Mathlib.Nat.{not-suc-le-zero, le_of_suc-le-suc}
use native.Mathlib.Numerals.{add-one}
use lib.Dec.{ltb}
use lib.ListN.{length, get_or, drop, set}
use lib.Seq.{drop-drop}
use borrow.Author.Tests.{ltb-true, ltb-false}
use Rattle.rules.specs.Limits.{most_level}
use Rattle.rules.specs.Sheet.{Field, Line, up_to, has, fields, lines, all, decimal, with_plot, with_plots, is_plot_line}
use Rattle.rules.proofs.Sheet.{and_left, and_right}
use Rattle.rules.proofs.Members.{clash}
use Rattle.rules.proofs.Numbering.{by_cases}
use Rattle.sheet.specs.Walk.{field_of, stop_before, level_there, row_there, is_place}
use Rattle.sheet.proofs.Stops.{AtTab, AtNewline, Stop, at_tab, at_newline, at_end, stop}
use Rattle.sheet.proofs.RowLaws.{row_turn, row_last, not_there, lines_turn, lines_none}

-- ---- a level that is there

there_tab : (xs : List ℕ) → level_there 9 xs ≡ true → AtTab xs
there_tab xs e = go (stop xs)
  where
    go : Stop xs → AtTab xs
    go (at_tab r) = r
    go (at_newline r) = clash e (not_there 9 0 xs (λ h b. omega (arith, r.byte)))
    go (at_end r) = clash e (not_there 9 0 xs (λ h b. omega (arith, r.all_of_it)))

there_newline : (xs : List ℕ) → level_there 10 xs ≡ true → AtNewline xs
there_newline xs e = go (stop xs)
  where
    go : Stop xs → AtNewline xs
    go (at_tab r) = clash e (not_there 10 0 xs (λ h b. omega (arith, r.byte)))
    go (at_newline r) = r
    go (at_end r) = clash e (not_there 10 0 xs (λ h b. omega (arith, r.all_of_it)))

-- ---- what is left of a line: m fields, to be stored in the columns cs, whole work W, end E

abbrev pub Left : ℕ → List ℕ → ℕ → List ℕ → ℕ → List ℕ → List ℕ → ℕ → Type 0
Left zero cs u xs at levels W E = (levels ≡ W) × (at ≡ E)
Left (suc m) cs u xs at levels W E =
    (row_there (suc m) xs ≡ true) × (with_plot cs u (fields (up_to 10 xs)) levels ≡ W) × (at + suc (length (up_to 10 xs)) ≡ E)

pub left_start : (n : ℕ) (cs : List ℕ) (u : ℕ) (xs : List ℕ) (at : ℕ) (levels : List ℕ) → 1 ≤ n → row_there n xs ≡ true
    → Left n cs u xs at levels (with_plot cs u (fields (up_to 10 xs)) levels) (at + suc (length (up_to 10 xs)))
left_start zero cs u xs at levels h e = absurd (not-suc-le-zero h)
left_start (suc n) cs u xs at levels h e = (e, refl, refl)

-- a level is at hand, and the byte after it that must be there
pub left_there : (m : ℕ) (xs : List ℕ) → row_there (suc m) xs ≡ true → level_there (stop_before m) xs ≡ true
left_there zero xs e = sym (row_last xs) ∙ e
left_there (suc m) xs e = and_left (level_there 9 xs) _ (sym (row_turn m xs) ∙ e)

no_fields : (cs : List ℕ) (u : ℕ) (levels : List ℕ) → with_plot cs u [] levels ≡ levels
unfolding with_plot
no_fields [] u levels = refl
no_fields (c ∷ cs) u levels = refl

one_field : (c : ℕ) (cs : List ℕ) (u : ℕ) (f : Field) (fs : List Field) (levels : List ℕ) → with_plot (c ∷ cs) u (f ∷ fs) levels ≡ with_plot cs u fs (set levels (240 * c + u) (decimal f))
unfolding with_plot
one_field c cs u f fs levels = refl

module _ (c : ℕ) (cs : List ℕ) (u : ℕ) (text : List ℕ) (at r : ℕ) (levels W : List ℕ) (E : ℕ) (d : r ≡ at + suc (length (field_of (drop at text)))) where
  next : drop (suc (length (field_of (drop at text)))) (drop at text) ≡ drop r text
  next = drop-drop (suc (length (field_of (drop at text)))) at text ∙ ap (λ (k : ℕ). drop k text) (sym d)

  -- a turn: one field is stored
  pub left_turn : (m : ℕ) → Left (suc m) (c ∷ cs) u (drop at text) at levels W E
      → Left m cs u (drop r text) r (set levels (240 * c + u) (decimal (field_of (drop at text)))) W E
  left_turn zero l =
      let s = there_newline (drop at text) (left_there zero (drop at text) l.0) in
      let w = rw s.parts at l.1 in (
        sym (no_fields cs u (set levels (240 * c + u) (decimal (field_of (drop at text)))))
            ∙ sym (one_field c cs u (field_of (drop at text)) [] levels) ∙ w,
        omega (arith, l.2, s.size),
      )
  left_turn (suc m) l =
      let both : level_there 9 (drop at text) && row_there (suc m) (drop (suc (length (field_of (drop at text)))) (drop at text)) ≡ true = sym (row_turn m (drop at text)) ∙ l.0 in
      let s = there_tab (drop at text) (left_there (suc m) (drop at text) l.0) in
      let there = and_right (level_there 9 (drop at text)) (row_there (suc m) (drop (suc (length (field_of (drop at text)))) (drop at text))) both in
      let w = rw (s.parts, next) at l.1 in (
        rw next at there,
        sym (one_field c cs u (field_of (drop at text)) (fields (up_to 10 (drop r text))) levels) ∙ w,
        omega (arith, l.2, rw next at s.size),
      )

-- a column of the level table
pub place_at : (cs : List ℕ) (i : ℕ) → all is_place cs ≡ true → i < length cs → get_or cs i 0 < 12
unfolding all
place_at [] i e h = absurd (not-suc-le-zero h)
place_at (c ∷ cs) zero e h = ltb-true c 12 (and_left (ltb c 12) (all is_place cs) e)
place_at (c ∷ cs) (suc i) e h = place_at cs i (and_right (ltb c 12) (all is_place cs) e) (le_of_suc-le-suc h)

-- ---- all lines

no_lines : (cs : List ℕ) (u : ℕ) (levels : List ℕ) → with_plots cs u [] levels ≡ levels
unfolding with_plots
no_lines cs u levels = refl

-- what is left: lines from `at` on, to be stored from plot u on
pub record More (cs : List ℕ) (n u plots : ℕ) (text : List ℕ) (at : ℕ) (levels W : List ℕ) : Type 0 where
  pub counted : u + length (lines (drop at text)) ≡ plots
  pub form : all (is_plot_line most_level n) (lines (drop at text)) ≡ true
  pub work : with_plots cs u (lines (drop at text)) levels ≡ W

module _ (cs : List ℕ) (n u plots : ℕ) (text : List ℕ) (at : ℕ) (levels W : List ℕ) (m : More cs n u plots text at levels W) where
  pub more_none : plots ≤ u → levels ≡ W
  more_none h = none (lines (drop at text)) refl
    where
      none : (ls : List Line) → lines (drop at text) ≡ ls → levels ≡ W
      none [] e = sym (no_lines cs u levels) ∙ (rw e at m.work)
      none (l ∷ ls) e = absurd (no (ap length e))
        where
          no : length (lines (drop at text)) ≡ suc (length ls) → ⊥
          no k = omega (arith, m.counted)

  more_inside : u < plots → at < length text
  more_inside h = by_cases (ltb at (length text)) (λ e. ltb-true at (length text) e) (λ e. absurd (no (ap length (lines_none text at (ltb-false at (length text) e)))))
    where
      no : length (lines (drop at text)) ≡ 0 → ⊥
      no k = omega (arith, m.counted)

  abbrev first : Line
  first = record { bytes = up_to 10 (drop at text); ended = has 10 (drop at text) }

  pub more_form : u < plots → row_there n (drop at text) ≡ true
  unfolding is_plot_line row_there all
  more_form h = and_left (is_plot_line most_level n first) _ (rw (lines_turn text at (more_inside h)) at m.form)

  pub more_turn : u < plots → (r : ℕ) (after : List ℕ) → r ≡ at + suc (length (up_to 10 (drop at text))) → after ≡ with_plot cs u (fields (up_to 10 (drop at text))) levels
      → More cs n (u + 1) plots text r after W
  unfolding all with_plots
  more_turn h r after e w = record {
    counted = let k = ap length turn in omega (arith, m.counted);
    form = and_right (is_plot_line most_level n first) (all (is_plot_line most_level n) (lines (drop r text))) (rw turn at m.form);
    work = rw (w, add-one) (rw turn at m.work);
  }
    where
      turn : lines (drop at text) ≡ first ∷ lines (drop r text)
      turn = rw e (lines_turn text at (more_inside h))
