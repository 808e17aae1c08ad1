-- Laws of an old sheet without its slash parts: it is read as the old sheet asks, and leaves the old sheet's columns in the level table.
-- Assumes nothing.
use mathlib.Core.Path.{◌≡◌, refl, sym, ap, ap₂, ◌∙◌}
use mathlib.Core.Bool.{true, false, ◌&&◌}
use mathlib.Core.List.{List, [], ◌∷◌, ◌++◌, map}
use Prim.Native.Nat.{ℕ, ◌≤◌, ◌<◌}
use native.Mathlib.Omega.{arith}
use lib.Dec.{eqb, leb}
use lib.ListN.{length, length-append, length-map}
use borrow.Author.Tests.{leb-true, le-leb, lt-leb}
use Rattle.rules.specs.Limits.{most_text, most_level, table_cells}
use Rattle.rules.specs.Sheet.{within, newline, tab, up_to, past, has, all, Field, widen, fields, free, joined, is_header, header, later_lines, lines, Line, question3, question4, question5, Outcome, read, refused, counts, reading_from3, reading}
use Rattle.rules.specs.Lists.{tabulate}
use Rattle.rules.specs.SheetText.{field_column, sheet_columns, SheetAnswer, no_sheet}
use Rattle.rules.specs.Parents.{slash, without_parent, slash_form, old_question3, plain_header, question23, converted_sheet, conversion_from3, conversion}
use Rattle.rules.proofs.Numbering.{by_cases}
use Rattle.rules.proofs.Members.{clash}
use Rattle.rules.proofs.Sheet.{and_left, and_right, not_yes, fields_some, text_fits}
use Rattle.rules.proofs.SheetText.{joined_free, has_part, up_to_part, past_part, fields_back}
use Rattle.rules.proofs.SheetBack.{joined_fields, part_back}
use Rattle.conversion.specs.Plain.{plain_text, Formed}
use Rattle.sheet.proofs.FirstByte.{up_to_short}

-- ---- bytes that are not in a field

-- what a part of a text has not
up_to_free : (b c : ℕ) (xs : List ℕ) → has b xs ≡ false → has b (up_to c xs) ≡ false
unfolding has up_to
up_to_free b c [] h = refl
up_to_free b c (x ∷ xs) h =
    by_cases (eqb x c)
    (λ e. rw (e, up_to))
    (λ e. by_cases (eqb x b) (λ q. clash (rw (q, has)) h) (λ q. rw (e, up_to, q, has) (up_to_free b c xs (rw (q, has) at h))))

up_to_stops : (b : ℕ) (xs : List ℕ) → has b (up_to b xs) ≡ false
unfolding has up_to
up_to_stops b [] = refl
up_to_stops b (x ∷ xs) = by_cases (eqb x b) (λ e. rw (e, up_to)) (λ e. rw (e, up_to) (rw (e, has) (up_to_stops b xs)))

-- the fields of a line have no tab, and no byte that the line has not
fields_no_tab : (xs : List ℕ) → all (free tab) (fields xs) ≡ true
unfolding fields widen all has
fields_no_tab [] = refl
fields_no_tab (x ∷ xs) = by_cases (eqb x tab) (λ e. rw (e, fields) (fields_no_tab xs)) (λ e. rw (e, fields) (wider (fields xs) e (fields_no_tab xs)))
  where
    wider : (fs : List Field) → eqb x tab ≡ false → all (free tab) fs ≡ true → all (free tab) (widen x fs) ≡ true
    wider [] e a = rw (e, has)
    wider (f ∷ fs) e a = rw (e, has) a

fields_free : (b : ℕ) (xs : List ℕ) → has b xs ≡ false → all (free b) (fields xs) ≡ true
unfolding fields widen all has
fields_free b [] h = refl
fields_free b (x ∷ xs) h =
    by_cases (eqb x b)
    (λ q. clash (rw (q, has)) h)
    (λ q. let rest = fields_free b xs (rw (q, has) at h) in
    by_cases (eqb x tab) (λ e. rw (e, fields) rest) (λ e. rw (e, fields) (wider (fields xs) q rest)))
  where
    wider : (fs : List Field) → eqb x b ≡ false → all (free b) fs ≡ true → all (free b) (widen x fs) ≡ true
    wider [] e a = rw (e, has)
    wider (f ∷ fs) e a = rw (e, has) a

plain_free : (b : ℕ) (fs : List Field) → all (free b) fs ≡ true → all (free b) (map without_parent fs) ≡ true
unfolding all
plain_free b [] a = refl
plain_free b (f ∷ fs) a =
    rw (up_to_free b slash f (not_yes (has b f) (and_left (free b f) (all (free b) fs) a))) (plain_free b fs (and_right (free b f) (all (free b) fs) a))

-- a line without slash parts is no longer
joined_plain : (fs : List Field) → length (joined (map without_parent fs)) ≤ length (joined fs)
unfolding joined
joined_plain [] = omega arith
joined_plain (f ∷ []) = up_to_short slash f
joined_plain (f ∷ g ∷ fs) =
    rw (length-append (without_parent f) (tab ∷ joined (map without_parent (g ∷ fs))), length-append f (tab ∷ joined (g ∷ fs))) (omega (arith, up_to_short slash f, joined_plain (g ∷ fs)))

-- ---- the plain text

module _ (old : List ℕ) (ended : has newline old ≡ true) where
  abbrev plain : List ℕ
  plain = plain_text old

  abbrev line : List ℕ
  line = joined (plain_header old)

  line_free : has newline line ≡ false
  unfolding plain_header header
  line_free = joined_free newline refl (plain_header old) (plain_free newline (header old) (fields_free newline (up_to newline old) (up_to_stops newline old)))

  pub plain_line : up_to newline plain ≡ line
  unfolding plain_text
  plain_line = up_to_part newline line (past newline old) line_free

  pub plain_header_lem : header plain ≡ plain_header old
  unfolding header plain_header
  plain_header_lem =
      ap fields plain_line
      ∙ fields_back (plain_header old) (rw (length-map (header old) without_parent) (fields_some (up_to newline old))) (plain_free tab (header old) (fields_no_tab (up_to newline old)))

  pub plain_later : later_lines plain ≡ later_lines old
  unfolding plain_text later_lines
  plain_later = ap lines (past_part newline line (past newline old) line_free)

  pub plain_ended : has newline plain ≡ true
  unfolding plain_text
  plain_ended = has_part newline line (past newline old)

  plain_some : 1 ≤ length plain
  unfolding plain_text
  plain_some = rw (length-append line (newline ∷ past newline old)) (omega arith)

  pub plain_short : length plain ≤ length old
  unfolding plain_text plain_header header
  plain_short =
      let a = joined_plain (fields (up_to newline old)) in
      let b : length (joined (fields (up_to newline old))) ≡ length (up_to newline old) = ap length (joined_fields (up_to newline old)) in
      let c : length old ≡ length (up_to newline old ++ newline ∷ past newline old) = ap length (sym (part_back newline old ended)) in
      rw (length-append line (newline ∷ past newline old)) (omega (arith, a, b, c, length-append (up_to newline old) (newline ∷ past newline old)))

  length_header : length (header plain) ≡ length (header old)
  unfolding plain_header
  length_header = ap length plain_header_lem ∙ length-map (header old) without_parent

  -- it has the old sheet's columns
  pub plain_columns : sheet_columns plain ≡ sheet_columns old
  unfolding sheet_columns
  plain_columns = ap₂ (λ (ls : List Line) (m : ℕ). tabulate (field_column ls) m) plain_later length_header

  -- questions 3 to 5
  plain_3 : question3 plain ≡ is_header (plain_header old)
  unfolding question3
  plain_3 = rw (plain_ended, plain_header_lem)

  pub plain_4 : question4 most_level plain ≡ question4 most_level old
  unfolding question4
  plain_4 = rw (plain_later, length_header)

  plain_5 : question5 plain ≡ question5 old
  unfolding question5
  plain_5 = rw plain_later

-- ---- what reading it answers

-- the old sheet's answer, by the outcome of the reading
unfoldable pub answer_after : List ℕ → Outcome → SheetAnswer
unfolding question23 converted_sheet
answer_after old (refused q) = no_sheet q
answer_after old (read n p t) = elim (question23 old) [ false ↦ no_sheet 23 | true ↦ record { refusal = 0; sheet = converted_sheet old } ]

module _ (old : List ℕ) (outLength : ℕ) (f : Formed old outLength) (levels : List ℕ) (table : table_cells ≤ length levels) where
  old_3 : old_question3 old ≡ is_header (plain_header old)
  unfolding old_question3
  old_3 = rw (f.ended, f.slashes)

  pub text_size : length (plain_text old) ≤ most_text
  text_size = omega (arith, plain_short old f.ended, leb-true (length old) most_text (and_right (leb 1 (length old)) (leb (length old) most_text) f.size))

  asked : conversion_from3 old ≡ answer_after old (reading_from3 most_level (plain_text old))
  unfolding conversion_from3 reading_from3 answer_after counts
  asked =
      let p3 = plain_3 old f.ended in
      let p4 = plain_4 old f.ended in
      let p5 = plain_5 old f.ended in
      by_cases (is_header (plain_header old))
      (λ q3. by_cases (question4 most_level old)
      (λ q4. by_cases (question5 old)
      (λ q5. rw (old_3 ∙ q3, q4, q5, p3 ∙ q3, p4 ∙ q4, p5 ∙ q5, conversion_from3, reading_from3))
      (λ q5. rw (old_3 ∙ q3, q4, q5, p3 ∙ q3, p4 ∙ q4, p5 ∙ q5, conversion_from3, reading_from3)))
      (λ q4. rw (old_3 ∙ q3, q4, p3 ∙ q3, p4 ∙ q4, conversion_from3, reading_from3)))
      (λ q3. rw (old_3 ∙ q3, p3 ∙ q3, conversion_from3, reading_from3))

  pub plain_answers : conversion_from3 old ≡ answer_after old (reading (plain_text old) levels)
  plain_answers = asked ∙ ap (answer_after old) (sym (text_fits (plain_text old) levels table (plain_some old f.ended) text_size))

-- ---- the questions before

module _ (old : List ℕ) (outLength : ℕ) where
  pub short_6 : outLength < most_text → conversion old outLength ≡ no_sheet 6
  unfolding conversion
  short_6 h = rw (lt-leb most_text outLength h, conversion)

  module _ (room : most_text ≤ outLength) where
    pub size_2 : within 1 most_text (length old) ≡ false → conversion old outLength ≡ no_sheet 2
    unfolding conversion
    size_2 e = rw (le-leb most_text outLength room, e, conversion)

    module _ (some : 1 ≤ length old) where
      module _ (short : length old ≤ most_text) where
        pub from_3 : conversion old outLength ≡ conversion_from3 old
        unfolding conversion
        from_3 = rw (le-leb most_text outLength room, le-leb 1 (length old) some, le-leb (length old) most_text short, conversion)

        pub unformed_3 : has newline old && all slash_form (header old) ≡ false → conversion old outLength ≡ no_sheet 3
        unfolding conversion_from3 old_question3
        unformed_3 e = from_3 ∙ rw (e, old_question3, conversion_from3)
