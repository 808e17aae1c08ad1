-- Laws of a walk over the later lines.
-- Assumes nothing.
use mathlib.Core.Path.{◌≡◌, refl, sym, ap, ◌∙◌}
use mathlib.Core.Bool.{Bool, true, false, ◌&&◌}
use mathlib.Core.List.{List, [], ◌∷◌}
use Prim.Native.Nat.{ℕ, suc, ◌+◌, ◌≤◌, ◌<◌}
use native.Mathlib.Omega.{arith}
use native.Mathlib.Nat.{add-zero}
use lib.Dec.{eqb, ltb}
use lib.ListN.{length, get_or, drop, drop_of_length-le, length-drop}
use lib.Seq.{drop-cons, drop-drop}
use borrow.Author.Tests.{eq-eqb, ne_eqb, eqb-true, eqb-false, lt-ltb, le-ltb, ltb-true}
use Rattle.std.specs.Prelude.{Some, None}
use Rattle.rules.specs.Limits.{most_level}
use Rattle.rules.specs.Sheet.{Field, Line, up_to, past, has, fields, lines, all, is_level, is_row, is_plot_line}
use Rattle.rules.proofs.Numbering.{by_cases}
use Rattle.rules.proofs.Members.{clash}
use Rattle.rules.proofs.Sheet.{and_false, fields_some}
use Rattle.sheet.specs.Walk.{field_of, level_there, row_there, row_end}
use Rattle.sheet.specs.Answers.{judged}
use Rattle.sheet.proofs.Stops.{AtTab, Stop, at_tab, at_newline, at_end, stop, field_byte, past_drop, lines_cons}

eqb_suc : (a b : ℕ) → eqb (suc a) (suc b) ≡ eqb a b
eqb_suc a b =
    by_cases (eqb a b)
    (λ e. eq-eqb (suc a) (suc b) (ap suc (eqb-true a b e)) ∙ sym e)
    (λ e. ne_eqb (suc a) (suc b) (λ z. eqb-false a b e (omega arith)) ∙ sym e)

-- ---- a level

module _ (s at : ℕ) (xs : List ℕ) where
  -- no such byte after the field
  pub not_there : (length (field_of xs) < length xs → get_or xs (length (field_of xs)) 0 ≡ s → ⊥) → level_there s xs ≡ false
  unfolding level_there
  not_there n =
      by_cases (ltb (length (field_of xs)) (length xs))
      (λ h. rw (h, ne_eqb (get_or xs (length (field_of xs)) 0) s (n (ltb-true (length (field_of xs)) (length xs) h))))
      (λ h. rw h)

  pub level_bad : is_level most_level (field_of xs) ≡ false → level_there s xs ≡ false
  unfolding level_there
  level_bad e = rw e (and_false (ltb (length (field_of xs)) (length xs) && eqb (get_or xs (length (field_of xs)) 0) s))

-- by the place e where the field ends
module _ (text : List ℕ) (start e s : ℕ) (d : e ≡ start + length (field_of (drop start text))) where
  pub level_far : length text ≤ e → level_there s (drop start text) ≡ false
  level_far h = not_there s start (drop start text) (λ l b. omega (arith, length-drop start text))

  pub level_other : (get_or text e 0 ≡ s → ⊥) → level_there s (drop start text) ≡ false
  level_other n = not_there s start (drop start text) (λ l b. n (field_byte text start e d ∙ b))

  pub level_good : e < length text → get_or text e 0 ≡ s → is_level most_level (field_of (drop start text)) ≡ true → level_there s (drop start text) ≡ true
  unfolding level_there
  level_good h b l =
      let k : length (field_of (drop start text)) < length (drop start text) = omega (arith, length-drop start text) in
      rw (lt-ltb (length (field_of (drop start text))) (length (drop start text)) k, eq-eqb (get_or (drop start text) (length (field_of (drop start text))) 0) s (sym (field_byte text start e d) ∙ b)) l

-- ---- a line

-- a line of more than one level: the first one and a tab, and the others
pub row_turn : (m : ℕ) (xs : List ℕ) → row_there (suc (suc m)) xs ≡ level_there 9 xs && row_there (suc m) (drop (suc (length (field_of xs))) xs)
unfolding row_there level_there is_row all
row_turn m xs = go (stop xs)
  where
    ys : List ℕ
    ys = drop (suc (length (field_of xs))) xs

    F : List Field
    F = fields (up_to 10 ys)

    tabbed : (b h : Bool) → h && (eqb (suc (length F)) (suc (suc m)) && (b && all (is_level most_level) F)) ≡ b && (h && (eqb (length F) (suc m) && all (is_level most_level) F))
    tabbed true h = rw (eqb_suc (length F) (suc m))
    tabbed false h = rw (and_false (eqb (suc (length F)) (suc (suc m)))) (and_false h)

    go : Stop xs → row_there (suc (suc m)) xs ≡ level_there 9 xs && row_there (suc m) ys
    go (at_tab r) = rw (r.parts, r.ends, lt-ltb _ _ r.less, r.byte) (tabbed (is_level most_level (field_of xs)) (has 10 ys))
    go (at_newline r) = rw (r.parts, r.ends, lt-ltb _ _ r.less, r.byte, ne_eqb 1 (suc (suc m)) (λ e. omega arith))
    go (at_end r) = rw (r.ends, le-ltb _ _ r.all_of_it)

-- a line of one level: the level and a newline
pub row_last : (xs : List ℕ) → row_there 1 xs ≡ level_there 10 xs
unfolding row_there level_there is_row all
row_last xs = go (stop xs)
  where
    F : List Field
    F = fields (up_to 10 (drop (suc (length (field_of xs))) xs))

    two : eqb (suc (length F)) 1 ≡ false
    two = ne_eqb (suc (length F)) 1 (λ e. omega (arith, fields_some (up_to 10 (drop (suc (length (field_of xs))) xs))))

    one : (b : Bool) → b && true ≡ b
    one true = refl
    one false = refl

    go : Stop xs → row_there 1 xs ≡ level_there 10 xs
    go (at_tab r) = rw (r.parts, r.byte, two, and_false (has 10 xs), and_false (ltb (length (field_of xs)) (length xs)))
    go (at_newline r) = rw (r.parts, r.ends, lt-ltb _ _ r.less, r.byte) (one (is_level most_level (field_of xs)))
    go (at_end r) = rw (r.ends, le-ltb _ _ r.all_of_it)

-- where it ends
pub row_end_is : (n at : ℕ) (xs : List ℕ) → row_there n xs ≡ true → row_end n at xs ≡ Some (at + suc (length (up_to 10 xs)))
unfolding row_end
row_end_is n at xs e = rw (e, row_end)

row_end_no : (n at : ℕ) (xs : List ℕ) → row_there n xs ≡ false → row_end n at xs ≡ None
unfolding row_end
row_end_no n at xs e = rw (e, row_end)

row_end_none : (n at : ℕ) (xs : List ℕ) → None ≡ row_end n at xs → row_there n xs ≡ false
row_end_none n at xs e = by_cases (row_there n xs) (λ c. let y = row_end_is n at xs c in cc) (λ c. c)

row_end_some : (n at r : ℕ) (xs : List ℕ) → Some r ≡ row_end n at xs → (row_there n xs ≡ true) × (r ≡ at + suc (length (up_to 10 xs)))
row_end_some n at r xs e = by_cases (row_there n xs) (λ c. (c, (let y = row_end_is n at xs c in cc))) (λ c. let y = row_end_no n at xs c in cc)

-- a line of one level ends where the level does
pub last_off : (at : ℕ) (xs : List ℕ) → level_there 10 xs ≡ false → row_end 1 at xs ≡ None
last_off at xs e = row_end_no 1 at xs (row_last xs ∙ e)

pub last_on : (at : ℕ) (xs : List ℕ) → level_there 10 xs ≡ true → row_end 1 at xs ≡ Some (at + suc (length (field_of xs)))
last_on at xs e = go (stop xs)
  where
    go : Stop xs → row_end 1 at xs ≡ Some (at + suc (length (field_of xs)))
    go (at_tab r) = clash e (not_there 10 at xs (λ h b. omega (arith, r.byte)))
    go (at_newline r) = row_end_is 1 at xs (row_last xs ∙ e) ∙ ap (λ (k : ℕ). Some (at + suc k)) r.size
    go (at_end r) = clash e (not_there 10 at xs (λ h b. omega (arith, r.all_of_it)))

module _ (m at : ℕ) (text : List ℕ) where
  -- no level and tab at the start of a longer line
  pub row_off : level_there 9 (drop at text) ≡ false → row_end (suc (suc m)) at (drop at text) ≡ None
  row_off z = row_end_no (suc (suc m)) at (drop at text) (row_turn m (drop at text) ∙ rw z)

  -- a turn: the line ends where the rest of it does
  pub row_on : (r : ℕ) → level_there 9 (drop at text) ≡ true → r ≡ at + suc (length (field_of (drop at text))) → row_end (suc (suc m)) at (drop at text) ≡ row_end (suc m) r (drop r text)
  row_on r there next = go (stop xs)
    where
      xs : List ℕ
      xs = drop at text

      ys : drop (suc (length (field_of xs))) xs ≡ drop r text
      ys = drop-drop (suc (length (field_of xs))) at text ∙ ap (λ (k : ℕ). drop k text) (sym next)

      turn : row_there (suc (suc m)) xs ≡ row_there (suc m) (drop r text)
      turn = row_turn m xs ∙ rw (there, ys)

      same : AtTab xs → row_there (suc m) (drop r text) ≡ true → row_end (suc (suc m)) at xs ≡ row_end (suc m) r (drop r text)
      same s d =
          row_end_is (suc (suc m)) at xs (turn ∙ d)
          ∙ (let z : length (up_to 10 xs) ≡ suc (length (field_of xs)) + length (up_to 10 (drop r text)) = rw ys at s.size in
          let w : at + suc (length (up_to 10 xs)) ≡ r + suc (length (up_to 10 (drop r text))) = omega (arith, next) in
          ap (λ (k : ℕ). Some k) w)
          ∙ sym (row_end_is (suc m) r (drop r text) d)

      go : Stop xs → row_end (suc (suc m)) at xs ≡ row_end (suc m) r (drop r text)
      go (at_tab s) = by_cases (row_there (suc m) (drop r text)) (same s) (λ d. row_end_no (suc (suc m)) at xs (turn ∙ d) ∙ sym (row_end_no (suc m) r (drop r text) d))
      go (at_newline s) = clash there (not_there 9 at xs (λ h e. omega (arith, s.byte)))
      go (at_end s) = clash there (not_there 9 at xs (λ h e. omega (arith, s.all_of_it)))

-- ---- all lines

-- the first line, and the others
pub lines_turn : (text : List ℕ) (at : ℕ) → at < length text
    → lines (drop at text) ≡ record { bytes = up_to 10 (drop at text); ended = has 10 (drop at text) } ∷ lines (drop (at + suc (length (up_to 10 (drop at text)))) text)
lines_turn text at h = start ∙ ap (λ (r : List ℕ). record { bytes = up_to 10 (drop at text); ended = has 10 (drop at text) } ∷ lines r) (past_drop 10 (drop at text) ∙ drop-drop (suc (length (up_to 10 (drop at text)))) at text)
  where
    start : lines (drop at text) ≡ record { bytes = up_to 10 (drop at text); ended = has 10 (drop at text) } ∷ lines (past 10 (drop at text))
    start = rw (drop-cons text at 0 h) (lines_cons (get_or text at 0) (drop (suc at) text))

pub lines_none : (text : List ℕ) (at : ℕ) → length text ≤ at → lines (drop at text) ≡ []
unfolding lines
lines_none text at h = rw (drop_of_length-le text h)

module _ (count n : ℕ) (text : List ℕ) (at : ℕ) where
  judged_end : judged count n [] ≡ Some count
  unfolding judged all
  judged_end = ap (λ (k : ℕ). Some k) (add-zero count)

  judged_no : (l : Line) (ls : List Line) → is_plot_line most_level n l ≡ false → judged count n (l ∷ ls) ≡ None
  unfolding judged all
  judged_no l ls e = rw (e, judged)

  judged_yes : (l : Line) (ls : List Line) → is_plot_line most_level n l ≡ true → judged count n (l ∷ ls) ≡ judged (count + 1) n ls
  unfolding judged all
  judged_yes l ls e = by_cases (all (is_plot_line most_level n) ls) (λ a. rw (e, judged, a) (ap (λ (k : ℕ). Some k) (omega arith))) (λ a. rw (e, judged, a))

  pub judge_end : length text ≤ at → judged count n (lines (drop at text)) ≡ Some count
  judge_end h = rw (lines_none text at h) judged_end

  pub judge_off : at < length text → None ≡ row_end n at (drop at text) → judged count n (lines (drop at text)) ≡ None
  unfolding is_plot_line row_there
  judge_off h z = rw (lines_turn text at h) (judged_no _ _ (row_end_none n at (drop at text) z))

  pub judge_on : (r : ℕ) → at < length text → Some r ≡ row_end n at (drop at text)
      → (at < r) × (judged count n (lines (drop at text)) ≡ judged (count + 1) n (lines (drop r text)))
  unfolding is_plot_line row_there
  judge_on r h e =
      let s = row_end_some n at r (drop at text) e in
      (omega (arith, s.1), rw (lines_turn text at h, ← s.1) (judged_yes _ _ s.0))
