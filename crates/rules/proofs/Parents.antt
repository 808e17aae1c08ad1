-- Laws of sheets numbered within a parent (C-22): what is converted is read, gives the converted columns, and converts to itself.
-- Assumes nothing.
use mathlib.Core.Path.{◌≡◌, refl, sym, ap, ap₂, ◌∙◌, subst}
use mathlib.Core.Logic.{◌⊎◌, inl, inr, ⊎_elim, ◌↔◌}
use mathlib.Core.Bool.{Bool, true, false, not, ◌&&◌, ◌||◌}
use mathlib.Core.List.{List, [], ◌∷◌, ◌++◌, map, append-nil, append_assoc}
use Prim.Native.Nat.{ℕ, zero, suc, ◌+◌, ◌≤◌, ◌<◌, zero-le, suc-le-suc}
use native.Mathlib.Nat.{not-suc-le-zero, le_of_suc-le-suc, suc_inj, suc-ne-zero, add-zero, zero-add}
use native.Mathlib.Omega.{arith}
use lib.Dec.{eqb, leb, ltb}
use lib.ListN.{length, get_or, length-append, length-map, get_or-append}
use lib.Seq.{get_or_at}
use borrow.Author.Tests.{eqb-true, le-leb, leb-true, ltb-true, ltb-false, lt-ltb}
use Rattle.rules.specs.Limits.{most_text, most_plots, most_level, table_cells}
use Rattle.rules.specs.Factor.{Column, Same, number, index_of, infimum}
use Rattle.rules.specs.Sheet.{all, newline, up_to, past, has, Line, Field, fields, is_name, same_bytes, plot_mark, treatment_mark, is_kind, is_column, is_header, header, decimal, is_level, is_plot_line, later_lines, free, no_line, question2, question3, question4, question5, Outcome, read, refused, counts, reading_from3, reading_to, reading}
use Rattle.rules.specs.SheetText.{sheet_text, field_column, sheet_columns, SheetAnswer, no_sheet}
use Rattle.rules.specs.Parents.{slash, without_parent, slash_form, old_question3, plain_header, parent_place, parents_left, question23, converted_column, converted_after, converted_columns, converted_sheet, conversion_from3, conversion, Above, itself, parent, Converted}
use Rattle.rules.proofs.Lists.{length_tabulate, get_d_tabulate, get_d_map}
use Rattle.rules.proofs.Numbering.{by_cases, length_infimum, infimum_same, number_infimum, get_d_place, place_yes, place_no}
use Rattle.rules.proofs.Members.{clash}
use Rattle.rules.proofs.Sheet.{and_left, and_right, not_yes, all_get_d, all_weaker, same_equal, same_self, level_least, level_most, row_levels, header_ended, header_form, read_accepts}
use Rattle.rules.proofs.ReadSheets.{read_questions}
use Rattle.rules.proofs.SheetText.{numbered_levels, column_free, has_part, up_to_part, past_part, Levels, Writable, header_back, two, three, four, five, text_short, sheet_read, table_back}
use Rattle.rules.proofs.SheetBack.{part_back, sheet_again}

-- ---- levels

-- the infimum of two columns has levels again
infimum_levels : (n : ℕ) (F G : Column) → length F ≡ n → length G ≡ n → n ≤ most_plots → Levels n (infimum F G)
infimum_levels n F G l_f l_g few =
    let same : length F ≡ length G = l_f ∙ sym l_g in
    numbered_levels n (infimum F G) (length_infimum F G same ∙ l_f) (number_infimum F G same) few

-- the columns of plot lines have levels
field_levels : (m : ℕ) (ls : List Line) → all (is_plot_line most_level m) ls ≡ true → (j : ℕ) → j < m → Levels (length ls) (field_column ls j)
unfolding field_column
field_levels m ls good j l = record {
  on = length-map ls level;
  least = λ u h. rw (get_d_map level ls u no_line 0 h) (level_least most_level _ (field u h));
  most = λ u h. rw (get_d_map level ls u no_line 0 h) (level_most most_level _ (field u h));
}
  where
    level : Line → ℕ
    level l = decimal (get_or (fields l.bytes) j [])

    field : (u : ℕ) → u < length ls → is_level most_level (get_or (fields (get_or ls u no_line).bytes) j []) ≡ true
    field u h =
        let r = row_levels most_level m (get_or ls u no_line) (all_get_d (is_plot_line most_level m) ls u no_line good h) in
        all_get_d (is_level most_level) (fields (get_or ls u no_line).bytes) j [] r.1 (rw r.0 l)

-- ---- the walk from left to right

module _ (ps : List Field) where
  -- a parent stands further left
  pub left_parent : (i : ℕ) (f : Field) (fs : List Field) → parents_left ps i (f ∷ fs) ≡ true → has slash f ≡ true → parent_place ps f < i
  unfolding parents_left
  left_parent i f fs e h = ltb-true (parent_place ps f) i (rw h at (and_left (not (has slash f) || ltb (parent_place ps f) i) (parents_left ps (suc i) fs) e))

  left_rest : (i : ℕ) (f : Field) (fs : List Field) → parents_left ps i (f ∷ fs) ≡ true → parents_left ps (suc i) fs ≡ true
  unfolding parents_left
  left_rest i f fs e = and_right (not (has slash f) || ltb (parent_place ps f) i) (parents_left ps (suc i) fs) e

  pub left_at : (i : ℕ) (fs : List Field) (k : ℕ) → parents_left ps i fs ≡ true → k < length fs → has slash (get_or fs k []) ≡ true → parent_place ps (get_or fs k []) < i + k
  left_at i [] k e l h = absurd (not-suc-le-zero l)
  left_at i (f ∷ fs) zero e l h = rw add-zero (left_parent i f fs e h)
  left_at i (f ∷ fs) (suc k) e l h = let z : i + suc k ≡ suc i + k = omega arith in rw z (left_at (suc i) fs k (left_rest i f fs e) (le_of_suc-le-suc l) h)

  -- a column with a parent, and one without
  pub column_slash : (Ds : List Column) (f : Field) (C : Column) → has slash f ≡ true → converted_column ps Ds f C ≡ infimum C (get_or Ds (parent_place ps f) [])
  unfolding converted_column
  column_slash Ds f C h = rw (h, converted_column)

  pub column_plain : (Ds : List Column) (f : Field) (C : Column) → has slash f ≡ false → converted_column ps Ds f C ≡ C
  unfolding converted_column
  column_plain Ds f C h = rw (h, converted_column)

  one_more : (Ds : List Column) (D : Column) → length (Ds ++ D ∷ []) ≡ suc (length Ds)
  one_more Ds D = length-append Ds (D ∷ []) ∙ omega arith

  pub length_converted : (Ds : List Column) (fs : List Field) (Cs : List Column) → length Cs ≡ length fs → length (converted_after ps Ds fs Cs) ≡ length Ds + length fs
  unfolding converted_after
  length_converted Ds [] Cs l = omega arith
  length_converted Ds (f ∷ fs) [] l = absurd (suc-ne-zero _ (sym l))
  length_converted Ds (f ∷ fs) (C ∷ Cs) l = length_converted (Ds ++ converted_column ps Ds f C ∷ []) fs Cs (suc_inj l) ∙ omega (arith, one_more Ds (converted_column ps Ds f C))

  -- columns further left stay
  pub converted_stays : (Ds : List Column) (fs : List Field) (Cs : List Column) (i : ℕ) → i < length Ds → get_or (converted_after ps Ds fs Cs) i [] ≡ get_or Ds i []
  unfolding converted_after
  converted_stays Ds [] Cs i h = refl
  converted_stays Ds (f ∷ fs) [] i h = refl
  converted_stays Ds (f ∷ fs) (C ∷ Cs) i h =
      converted_stays (Ds ++ converted_column ps Ds f C ∷ []) fs Cs i (omega (arith, one_more Ds (converted_column ps Ds f C)))
      ∙ get_or-append Ds (converted_column ps Ds f C ∷ []) [] i h

  -- a column is made of its parent's as this one stands in the end
  pub converted_at : (Ds : List Column) (fs : List Field) (Cs : List Column) → length Cs ≡ length fs → parents_left ps (length Ds) fs ≡ true → (k : ℕ) → k < length fs
      → get_or (converted_after ps Ds fs Cs) (length Ds + k) [] ≡ converted_column ps (converted_after ps Ds fs Cs) (get_or fs k []) (get_or Cs k [])
  unfolding converted_after
  converted_at Ds [] Cs l e k h = absurd (not-suc-le-zero h)
  converted_at Ds (f ∷ fs) [] l e k h = absurd (suc-ne-zero _ (sym l))
  converted_at Ds (f ∷ fs) (C ∷ Cs) l e zero h =
      let D = converted_column ps Ds f C in
      rw add-zero
      (converted_stays (Ds ++ D ∷ []) fs Cs (length Ds) (omega (arith, one_more Ds D)) ∙ get_or_at Ds D [] [] (length Ds) refl ∙ same)
    where
      all_of : List Column
      all_of = converted_after ps (Ds ++ converted_column ps Ds f C ∷ []) fs Cs

      same : converted_column ps Ds f C ≡ converted_column ps all_of f C
      same =
          by_cases (has slash f)
          (λ q. let b = left_parent (length Ds) f fs e q in
          column_slash Ds f C q
          ∙ ap (infimum C) (sym (converted_stays (Ds ++ converted_column ps Ds f C ∷ []) fs Cs (parent_place ps f) (omega (arith, one_more Ds (converted_column ps Ds f C))) ∙ get_or-append Ds (converted_column ps Ds f C ∷ []) [] (parent_place ps f) b))
          ∙ sym (column_slash all_of f C q))
          (λ q. column_plain Ds f C q ∙ sym (column_plain all_of f C q))
  converted_at Ds (f ∷ fs) (C ∷ Cs) l e (suc k) h =
      let D = converted_column ps Ds f C in
      let z : length Ds + suc k ≡ length (Ds ++ D ∷ []) + k = omega (arith, one_more Ds D) in
      rw z (converted_at (Ds ++ D ∷ []) fs Cs (suc_inj l) (rw (one_more Ds D) (left_rest (length Ds) f fs e)) k (le_of_suc-le-suc h))

  -- each has levels
  pub converted_levels : (n : ℕ) → n ≤ most_plots → (Ds : List Column) (fs : List Field) (Cs : List Column) → length Cs ≡ length fs → parents_left ps (length Ds) fs ≡ true
      → ((k : ℕ) → k < length Cs → Levels n (get_or Cs k [])) → ((k : ℕ) → k < length Ds → Levels n (get_or Ds k []))
      → (k : ℕ) → k < length Ds + length fs → Levels n (get_or (converted_after ps Ds fs Cs) k [])
  unfolding converted_after
  converted_levels n few Ds [] Cs l e hC hD k h = hD k (omega arith)
  converted_levels n few Ds (f ∷ fs) [] l e hC hD k h = absurd (suc-ne-zero _ (sym l))
  converted_levels n few Ds (f ∷ fs) (C ∷ Cs) l e hC hD k h =
      converted_levels n few (Ds ++ D ∷ []) fs Cs (suc_inj l) (rw (one_more Ds D) (left_rest (length Ds) f fs e)) (λ j lj. hC (suc j) (omega arith)) more k (omega (arith, one_more Ds D))
    where
      D : Column
      D = converted_column ps Ds f C

      here : Levels n D
      here =
          by_cases (has slash f)
          (λ q. rw (column_slash Ds f C q) (infimum_levels n C (get_or Ds (parent_place ps f) []) (hC 0 (omega arith)).on (hD (parent_place ps f) (left_parent (length Ds) f fs e q)).on few))
          (λ q. rw (column_plain Ds f C q) (hC 0 (omega arith)))

      more : (j : ℕ) → j < length (Ds ++ D ∷ []) → Levels n (get_or (Ds ++ D ∷ []) j [])
      more j lj =
          by_cases (ltb j (length Ds))
          (λ q. let b = ltb-true j (length Ds) q in rw (get_or-append Ds (D ∷ []) [] j b) (hD j b))
          (λ q. let z : length Ds ≡ j = omega (arith, ltb-false j (length Ds) q, one_more Ds D) in rw (get_or_at Ds D [] [] j z) here)

-- columns without a slash are copied
pub all_copied : (ps : List Field) (Ds : List Column) (fs : List Field) (Cs : List Column) → length Cs ≡ length fs → all (free slash) fs ≡ true → converted_after ps Ds fs Cs ≡ Ds ++ Cs
unfolding converted_after all
all_copied ps Ds [] [] l a = sym (append-nil Ds)
all_copied ps Ds [] (C ∷ Cs) l a = absurd (suc-ne-zero _ l)
all_copied ps Ds (f ∷ fs) [] l a = absurd (suc-ne-zero _ (sym l))
all_copied ps Ds (f ∷ fs) (C ∷ Cs) l a =
    let h = not_yes (has slash f) (and_left (free slash f) (all (free slash) fs) a) in
    all_copied ps (Ds ++ converted_column ps Ds f C ∷ []) fs Cs (suc_inj l) (and_right (free slash f) (all (free slash) fs) a)
    ∙ append_assoc Ds (converted_column ps Ds f C ∷ []) Cs ∙ ap (λ (D : Column). Ds ++ D ∷ Cs) (column_plain ps Ds f C h)

-- nothing is dropped where there is no slash
pub up_to_none : (b : ℕ) (xs : List ℕ) → has b xs ≡ false → up_to b xs ≡ xs
unfolding has up_to
up_to_none b [] h = refl
up_to_none b (x ∷ xs) h = by_cases (eqb x b) (λ e. clash (rw (e, has)) h) (λ e. rw (e, up_to) (ap (λ (r : List ℕ). x ∷ r) (up_to_none b xs (rw (e, has) at h))))

plain_all : (fs : List Field) → all (free slash) fs ≡ true → map without_parent fs ≡ fs
unfolding all
plain_all [] a = refl
plain_all (f ∷ fs) a =
    ap₂ (λ (g : Field) (r : List Field). g ∷ r) (up_to_none slash f (not_yes (has slash f) (and_left (free slash f) (all (free slash) fs) a))) (plain_all fs (and_right (free slash f) (all (free slash) fs) a))

none_asked : (ps : List Field) (i : ℕ) (fs : List Field) → all (free slash) fs ≡ true → parents_left ps i fs ≡ true
unfolding parents_left all
none_asked ps i [] a = refl
none_asked ps i (f ∷ fs) a = rw (and_left (free slash f) (all (free slash) fs) a) (none_asked ps (suc i) fs (and_right (free slash f) (all (free slash) fs) a))

-- ---- sheets without a slash

module _ (text : List ℕ) where
  pub columns_length : length (sheet_columns text) ≡ length (header text)
  unfolding sheet_columns
  columns_length = length_tabulate (field_column (later_lines text)) (length (header text))

  -- the first line of a sheet that is read has none
  pub no_slash : question3 text ≡ true → all (free slash) (header text) ≡ true
  no_slash q = all_weaker is_column (free slash) (column_free slash refl refl refl) (header text) (header_form text q).columns

  module _ (a : all (free slash) (header text) ≡ true) where
    -- then the old sheet's questions are the reader's
    pub unslashed_3 : old_question3 text ≡ question3 text
    unfolding old_question3 question3 slash_form
    unslashed_3 =
        rw (plain_all (header text) a, all_weaker (free slash) slash_form (λ f e. rw e) (header text) a) (nothing (has newline text))
      where
        nothing : (b : Bool) → (b && true && is_header (header text)) ≡ (b && is_header (header text))
        nothing true = refl
        nothing false = refl

    unslashed_23 : question23 text ≡ true
    unfolding question23
    unslashed_23 = none_asked (plain_header text) 0 (header text) a

    -- and it comes back byte for byte
    pub unslashed_sheet : has newline text ≡ true → question4 most_level text ≡ true → converted_sheet text ≡ text
    unfolding converted_sheet plain_header converted_columns
    unslashed_sheet h q =
        ap₂ (sheet_text (length (later_lines text))) (plain_all (header text) a) (all_copied (plain_header text) [] (header text) (sheet_columns text) columns_length a)
        ∙ sheet_again text h q

-- ---- sheets that are converted

-- what an old sheet that is converted is like
pub record Old (text : List ℕ) : Type 0 where
  pub size : question2 text ≡ true
  pub ended : has newline text ≡ true
  pub slashes : all slash_form (header text) ≡ true
  pub first : is_header (plain_header text) ≡ true
  pub rows : question4 most_level text ≡ true
  pub plots_some : 1 ≤ length (later_lines text)
  pub plots_few : length (later_lines text) ≤ most_plots
  pub parents : question23 text ≡ true

-- the answer is the conversion of such a sheet, or a refusal that writes nothing
pub conversion_answers : (text : List ℕ) (outLength : ℕ)
    → ((most_text ≤ outLength) × Old text × (conversion text outLength ≡ record { refusal = 0; sheet = converted_sheet text }))
    ⊎ ((q : ℕ) × (conversion text outLength ≡ no_sheet (suc q)))
unfolding conversion conversion_from3 old_question3 question5 plain_header
conversion_answers text outLength =
    by_cases (leb most_text outLength)
    (λ q6. by_cases (question2 text)
    (λ q2. by_cases (old_question3 text)
    (λ q3. by_cases (question4 most_level text)
    (λ q4. by_cases (question5 text)
    (λ q5. by_cases (question23 text)
    (λ q23. inl (leb-true most_text outLength q6, old q2 q3 q4 q5 q23, rw (q6, q2, q3, q4, q5, q23, conversion, conversion_from3)))
    (λ q23. inr (22, rw (q6, q2, q3, q4, q5, q23, conversion, conversion_from3))))
    (λ q5. inr (4, rw (q6, q2, q3, q4, q5, conversion, conversion_from3))))
    (λ q4. inr (3, rw (q6, q2, q3, q4, conversion, conversion_from3))))
    (λ q3. inr (2, rw (q6, q2, q3, conversion, conversion_from3))))
    (λ q2. inr (1, rw (q6, q2, conversion))))
    (λ q6. inr (5, rw (q6, conversion)))
  where
    old : question2 text ≡ true → old_question3 text ≡ true → question4 most_level text ≡ true → question5 text ≡ true → question23 text ≡ true → Old text
    old q2 q3 q4 q5 q23 =
        let a : Bool = has newline text in
        let b : Bool = all slash_form (header text) in
        let c : Bool = is_header (map without_parent (header text)) in
        let ab = and_left (a && b) c q3 in
        record {
          size = q2;
          ended = and_left a b ab;
          slashes = and_right a b ab;
          first = and_right (a && b) c q3;
          rows = q4;
          plots_some = leb-true 1 (length (later_lines text)) (and_left (leb 1 (length (later_lines text))) (leb (length (later_lines text)) most_plots) q5);
          plots_few = leb-true (length (later_lines text)) most_plots (and_right (leb 1 (length (later_lines text))) (leb (length (later_lines text)) most_plots) q5);
          parents = q23;
        }

-- what is accepted is such a sheet, and its conversion is the answer
pub conversion_accepts : (text : List ℕ) (outLength : ℕ) → (conversion text outLength).refusal ≡ 0
    → (most_text ≤ outLength) × Old text × (conversion text outLength ≡ record { refusal = 0; sheet = converted_sheet text })
conversion_accepts text outLength e = ⊎_elim (λ a. a) (λ r. absurd (no r.0 (sym (ap (λ (a : SheetAnswer). a.refusal) r.1) ∙ e))) (conversion_answers text outLength)
  where
    no : (q : ℕ) → suc q ≡ 0 → ⊥
    no q w = omega arith

-- every such sheet is accepted
pub conversion_takes : (text : List ℕ) (outLength : ℕ) → most_text ≤ outLength → Old text → conversion text outLength ≡ record { refusal = 0; sheet = converted_sheet text }
unfolding conversion conversion_from3 old_question3 question5 plain_header
conversion_takes text outLength h old =
    let three : old_question3 text ≡ true = rw (old.ended, old.slashes, old.first) in
    let five : question5 text ≡ true = rw (le-leb 1 (length (later_lines text)) old.plots_some, le-leb (length (later_lines text)) most_plots old.plots_few) in
    rw (le-leb most_text outLength h, old.size, conversion) (rw (three, old.rows, five, old.parents, conversion_from3))

-- a sheet without a slash, whose questions 2 to 5 hold, comes back byte for byte
pub unslashed : (text : List ℕ) (outLength : ℕ) → most_text ≤ outLength → question2 text ≡ true → question3 text ≡ true → question4 most_level text ≡ true → question5 text ≡ true
    → conversion text outLength ≡ record { refusal = 0; sheet = text }
unfolding conversion conversion_from3
unslashed text outLength h q2 q3 q4 q5 =
    let a = no_slash text q3 in
    rw (le-leb most_text outLength h, q2, conversion)
    (rw (unslashed_3 text a ∙ q3, q4, q5, unslashed_23 text a, conversion_from3, unslashed_sheet text a (header_ended text q3) q4))

-- so does every sheet that is read
pub read_unchanged : (text levels : List ℕ) (n p t outLength : ℕ) → reading text levels ≡ read n p t → most_text ≤ outLength → conversion text outLength ≡ record { refusal = 0; sheet = text }
unfolding question4 question5
read_unchanged text levels n p t outLength e h =
    let s = read_accepts text levels n p t e in
    let q = read_questions text levels n p t e in
    unslashed text outLength h q.0 q.1 s.lines_good
    (rw (← s.plots, le-leb 1 n s.plots_some, le-leb n most_plots s.plots_few))

module _ (text : List ℕ) (old : Old text) where
  abbrev n : ℕ
  n = length (later_lines text)

  abbrev fs : List Field
  fs = header text

  abbrev ps : List Field
  ps = plain_header text

  abbrev Cs : List Column
  Cs = sheet_columns text

  abbrev Ds : List Column
  Ds = converted_columns text

  pub length_plain : length ps ≡ length fs
  unfolding plain_header
  length_plain = length-map fs without_parent

  pub length_Ds : length Ds ≡ length fs
  unfolding converted_columns
  length_Ds = length_converted ps [] fs Cs (columns_length text) ∙ omega arith

  old_levels : (k : ℕ) → k < length fs → Levels n (get_or Cs k [])
  unfolding sheet_columns question4
  old_levels k h = rw (get_d_tabulate (field_column (later_lines text)) (length fs) k [] h) (field_levels (length fs) (later_lines text) old.rows k h)

  parents_left_lem : parents_left ps 0 fs ≡ true
  unfolding question23
  parents_left_lem = old.parents

  levels_at : (k : ℕ) → k < length Ds → Levels n (get_or Ds k [])
  unfolding converted_columns
  levels_at k h =
      converted_levels ps n old.plots_few [] fs Cs (columns_length text) parents_left_lem (λ j l. old_levels j (rw (← columns_length text) l)) (λ j l. absurd (not-suc-le-zero l)) k (omega (arith, length_Ds))

  pub writable : Writable n ps Ds
  writable = record {
    first = old.first;
    columns = length_Ds ∙ sym length_plain;
    plots_some = old.plots_some;
    plots_few = old.plots_few;
    levels = levels_at;
  }

  -- a parent is a column further left
  pub parent_left : (i : ℕ) → i < length fs → has slash (get_or fs i []) ≡ true → parent_place ps (get_or fs i []) < i
  parent_left i h s = rw (zero-add i) at (left_at ps 0 fs i parents_left_lem h s)

  -- a plot column with the name after the slash
  pub parent_named : (i : ℕ) → i < length fs → has slash (get_or fs i []) ≡ true → get_or ps (parent_place ps (get_or fs i [])) [] ≡ plot_mark ∷ 58 ∷ past slash (get_or fs i [])
  unfolding parent_place
  parent_named i h s = get_d_place same_bytes same_equal same_self ps (plot_mark ∷ 58 ∷ past slash (get_or fs i [])) [] (omega (arith, parent_left i h s, length_plain))

  -- each converted column: itself, or the infimum of itself and its converted parent
  pub converted_column_lem : (i : ℕ) → i < length fs → get_or Ds i [] ≡ converted_column ps Ds (get_or fs i []) (get_or Cs i [])
  unfolding converted_columns
  converted_column_lem i h = rw (zero-add i) at (converted_at ps [] fs Cs (columns_length text) parents_left_lem i h)

  pub copied : (i : ℕ) → i < length fs → has slash (get_or fs i []) ≡ false → get_or Ds i [] ≡ get_or Cs i []
  copied i h s = converted_column_lem i h ∙ column_plain ps Ds (get_or fs i []) (get_or Cs i []) s

  pub within_parent : (i : ℕ) → i < length fs → has slash (get_or fs i []) ≡ true → get_or Ds i [] ≡ infimum (get_or Cs i []) (get_or Ds (parent_place ps (get_or fs i [])) [])
  within_parent i h s = converted_column_lem i h ∙ column_slash ps Ds (get_or fs i []) (get_or Cs i []) s

  -- two plots share a converted level exactly where they share the column's and the converted parent's
  pub within_same : (i : ℕ) → i < length fs → has slash (get_or fs i []) ≡ true → (u v : ℕ) → u < n → v < n
      → Same (get_or Ds i []) u v ↔ (Same (get_or Cs i []) u v × Same (get_or Ds (parent_place ps (get_or fs i [])) []) u v)
  within_same i h s u v hu hv =
      let l_c = (old_levels i h).on in
      let l_d = (levels_at (parent_place ps (get_or fs i [])) (omega (arith, parent_left i h s, length_Ds))).on in
      rw (within_parent i h s) (infimum_same (get_or Cs i []) (get_or Ds (parent_place ps (get_or fs i [])) []) (l_c ∙ sym l_d) u v (rw l_c hu) (rw l_c hv))

  -- "levels by first appearance"
  pub within_numbered : (i : ℕ) → i < length fs → has slash (get_or fs i []) ≡ true → number (get_or Ds i []) ≡ get_or Ds i []
  within_numbered i h s =
      let l_c = (old_levels i h).on in
      let l_d = (levels_at (parent_place ps (get_or fs i [])) (omega (arith, parent_left i h s, length_Ds))).on in
      rw (within_parent i h s) (number_infimum (get_or Cs i []) (get_or Ds (parent_place ps (get_or fs i [])) []) (l_c ∙ sym l_d))

  -- so the column is the infimum with its parent and all its ancestors: plots share a converted level exactly where they share the levels of all these in the old sheet
  module _ (u v : ℕ) (hu : u < n) (hv : v < n) where
    down : {i j : ℕ} → Above fs i j → i < length fs → Same (get_or Ds i []) u v → Same (get_or Cs j []) u v
    unfolding plain_header
    down (itself {i = i}) h e =
        by_cases (has slash (get_or fs i []))
        (λ s. ((within_same i h s u v hu hv).0 e).0)
        (λ s. rw (copied i h s) at e)
    down (parent {i = i} s a) h e = down a (omega (arith, parent_left i h s)) ((within_same i h s u v hu hv).0 e).1

    up : (k i : ℕ) → i < k → i < length fs → ((j : ℕ) → Above fs i j → Same (get_or Cs j []) u v) → Same (get_or Ds i []) u v
    unfolding plain_header
    up zero i l h e = absurd (not-suc-le-zero l)
    up (suc k) i l h e =
        by_cases (has slash (get_or fs i []))
        (λ s. let p = parent_left i h s in
        (within_same i h s u v hu hv).1 (e i itself, up k (parent_place ps (get_or fs i [])) (omega arith) (omega arith) (λ j a. e j (parent s a))))
        (λ s. rw (copied i h s) (e i itself))

    pub ancestors_same : (i : ℕ) → i < length fs → Same (get_or Ds i []) u v ↔ ((j : ℕ) → Above fs i j → Same (get_or Cs j []) u v)
    ancestors_same i h = (λ e j a. down a h e, up (suc i) i (omega arith) h)

  -- ---- the claim

  pub converted : (levels : List ℕ) → table_cells ≤ length levels → Converted text (converted_sheet text) levels
  unfolding converted_sheet
  converted levels h =
      let e = sheet_read n ps Ds writable levels h in
      record {
        fits = omega (arith, text_short n ps Ds writable);
        is_read = e;
        first_line_holds = header_back n ps Ds writable;
        columns = table_back n ps Ds writable levels h;
        again = λ outLength room. unslashed (converted_sheet text) outLength room (two n ps Ds writable) (three n ps Ds writable) (four n ps Ds writable) (five n ps Ds writable);
      }

  -- the converted sheet is no longer than the longest that is read
  pub converted_length : length (converted_sheet text) ≤ 31860
  unfolding converted_sheet
  converted_length = text_short n ps Ds writable

-- C-22: whatever is accepted is converted
pub conversion_converted : (text : List ℕ) (outLength : ℕ) (levels : List ℕ) → (conversion text outLength).refusal ≡ 0 → table_cells ≤ length levels → Converted text (conversion text outLength).sheet levels
conversion_converted text outLength levels e h =
    let a = conversion_accepts text outLength e in
    rw a.2 (converted text a.1 levels h)

-- what is written fits the lent output
pub conversion_fits : (text : List ℕ) (outLength : ℕ) → length (conversion text outLength).sheet ≤ outLength
conversion_fits text outLength =
    ⊎_elim
    (λ a. rw a.2 (omega (arith, a.0, converted_length text a.1)))
    (λ r. rw r.1 (omega arith))
    (conversion_answers text outLength)

-- ---- texts without a slash are answered as the reader answers them

-- the number of a refusal, 0 for none
abbrev pub refusal_of : Outcome → ℕ
refusal_of (read n p t) = 0
refusal_of (refused q) = q

pub unslashed_refusal : (text levels : List ℕ) (outLength : ℕ) → all (free slash) (header text) ≡ true → table_cells ≤ length levels → most_text ≤ outLength
    → (conversion text outLength).refusal ≡ refusal_of (reading text levels)
unfolding conversion conversion_from3 reading_to reading_from3 counts
unslashed_refusal text levels outLength a h room =
    by_cases (question2 text)
    (λ q2. by_cases (question3 text)
    (λ q3. by_cases (question4 most_level text)
    (λ q4. by_cases (question5 text)
    (λ q5. rw (le-leb most_text outLength room, le-leb table_cells (length levels) h, q2, unslashed_3 text a, q3, q4, q5, unslashed_23 text a, conversion, reading_to, conversion_from3, reading_from3))
    (λ q5. rw (le-leb most_text outLength room, le-leb table_cells (length levels) h, q2, unslashed_3 text a, q3, q4, q5, conversion, reading_to, conversion_from3, reading_from3)))
    (λ q4. rw (le-leb most_text outLength room, le-leb table_cells (length levels) h, q2, unslashed_3 text a, q3, q4, conversion, reading_to, conversion_from3, reading_from3)))
    (λ q3. rw (le-leb most_text outLength room, le-leb table_cells (length levels) h, q2, unslashed_3 text a, q3, conversion, reading_to, conversion_from3, reading_from3)))
    (λ q2. rw (le-leb most_text outLength room, le-leb table_cells (length levels) h, q2, conversion, reading_to))

-- the reader "goes on refusing a slash with 3"
pub slash_3 : (text levels : List ℕ) → all (free slash) (header text) ≡ false → table_cells ≤ length levels → question2 text ≡ true → reading text levels ≡ refused 3
unfolding reading_to reading_from3
slash_3 text levels a h q2 =
    let q3 : question3 text ≡ false = by_cases (question3 text) (λ e. clash (no_slash text e) a) (λ e. e) in
    rw (le-leb table_cells (length levels) h, q2, q3, reading_to, reading_from3)

-- ---- the questions in words

-- a plot column, a slash and a name
abbrev pub WithParent : Field → Type 0
WithParent f = (own : List ℕ) × (above : List ℕ) × (is_name own ≡ true) × (is_name above ≡ true) × (f ≡ plot_mark ∷ 58 ∷ own ++ slash ∷ above)

with_parent : (f g : Field) → f ≡ g ++ slash ∷ past slash f → is_column g ≡ true → is_kind plot_mark f ≡ true → is_name (past slash f) ≡ true → WithParent f
unfolding is_column is_kind
with_parent f [] q c k n = clash c refl
with_parent f (x ∷ []) q c k n = clash c refl
with_parent f (x ∷ y ∷ own) q c k n =
    let m : Bool = eqb x plot_mark || eqb x treatment_mark in
    let kx : eqb x plot_mark ≡ true = subst (λ (z : Field). is_kind plot_mark z ≡ true) q k in (
      own,
      past slash f,
      and_right (m && eqb y 58) (is_name own) c,
      n,
      q ∙ ap₂ (λ (a b : ℕ). a ∷ b ∷ own ++ slash ∷ past slash f) (eqb-true x plot_mark kx) (eqb-true y 58 (and_right m (eqb y 58) (and_left (m && eqb y 58) (is_name own) c))),
    )

-- 3: each field is a column as the reader takes it, or a plot column, a slash and a name
pub old_field : (f : Field) → ((slash_form f && is_column (without_parent f)) ≡ true) ↔ ((is_column f ≡ true) ⊎ WithParent f)
unfolding slash_form is_column is_kind
old_field f = (to, ⊎_elim own_form with_form)
  where
    to : (slash_form f && is_column (without_parent f)) ≡ true → (is_column f ≡ true) ⊎ WithParent f
    to e =
        let a = and_left (slash_form f) (is_column (without_parent f)) e in
        let c = and_right (slash_form f) (is_column (without_parent f)) e in
        by_cases (has slash f)
        (λ s. let k : is_kind plot_mark f && is_name (past slash f) ≡ true = rw s at a in
        inr (with_parent f (without_parent f) (sym (part_back slash f s)) c (and_left (is_kind plot_mark f) (is_name (past slash f)) k) (and_right (is_kind plot_mark f) (is_name (past slash f)) k)))
        (λ s. inl (rw (up_to_none slash f s) at c))

    own_form : is_column f ≡ true → (slash_form f && is_column (without_parent f)) ≡ true
    own_form c = let s = not_yes (has slash f) (column_free slash refl refl refl f c) in rw (s, up_to_none slash f s) c

    with_form : WithParent f → (slash_form f && is_column (without_parent f)) ≡ true
    with_form w =
        let own = w.0 in
        let above = w.1 in
        let c : is_column (plot_mark ∷ 58 ∷ own) ≡ true = w.2 in
        let s = not_yes (has slash (plot_mark ∷ 58 ∷ own)) (column_free slash refl refl refl (plot_mark ∷ 58 ∷ own) c) in
        rw (w.4, has_part slash (plot_mark ∷ 58 ∷ own) above, past_part slash (plot_mark ∷ 58 ∷ own) above s, w.3, up_to_part slash (plot_mark ∷ 58 ∷ own) above s) c

-- where a field stands it is found, or before
pub index_first : (s : List Field) (x : Field) (j : ℕ) → j < length s → get_or s j [] ≡ x → index_of same_bytes s x ≤ j
unfolding index_of
index_first [] x j h e = absurd (not-suc-le-zero h)
index_first (y ∷ s) x zero h e = rw (place_yes same_bytes same_equal same_self y s x (rw e (same_self x))) zero-le
index_first (y ∷ s) x (suc j) h e =
    by_cases (same_bytes y x)
    (λ q. rw (place_yes same_bytes same_equal same_self y s x q) zero-le)
    (λ q. rw (place_no same_bytes same_equal same_self y s x q) (suc-le-suc (index_first s x j (le_of_suc-le-suc h) e)))

-- the part after the slash of the field at place k of fs, if it has one, names a plot column at a place below i
abbrev pub ParentBefore : List Field → ℕ → List Field → ℕ → Type 0
ParentBefore ps i fs k = has slash (get_or fs k []) ≡ true → (j : ℕ) × (j < i) × (get_or ps j [] ≡ plot_mark ∷ 58 ∷ past slash (get_or fs k []))

left_from : (ps : List Field) (i : ℕ) (fs : List Field) → i + length fs ≤ length ps → ((k : ℕ) → k < length fs → ParentBefore ps (i + k) fs k) → parents_left ps i fs ≡ true
unfolding parents_left parent_place
left_from ps i [] l h = refl
left_from ps i (f ∷ fs) l h =
    let rest = left_from ps (suc i) fs (omega arith) (λ k b s. let w = h (suc k) (omega arith) s in (w.0, omega (arith, w.1), w.2)) in
    by_cases (has slash f)
    (λ s. let w = h 0 (omega arith) s in
    let m = index_first ps (plot_mark ∷ 58 ∷ past slash f) w.0 (omega (arith, w.1)) w.2 in
    rw (s, lt-ltb (index_of same_bytes ps (plot_mark ∷ 58 ∷ past slash f)) i (omega (arith, w.1))) rest)
    (λ s. rw s rest)

left_to : (ps : List Field) (fs : List Field) → length fs ≤ length ps → parents_left ps 0 fs ≡ true → (k : ℕ) → k < length fs → ParentBefore ps k fs k
unfolding parent_place
left_to ps fs l e k h s =
    let b = left_at ps 0 fs k e h s in
    (parent_place ps (get_or fs k []), omega arith, get_d_place same_bytes same_equal same_self ps (plot_mark ∷ 58 ∷ past slash (get_or fs k [])) [] (omega arith))

-- 23: each part after a slash names a plot column further left
pub question23_says : (text : List ℕ) → (question23 text ≡ true) ↔ ((k : ℕ) → k < length (header text) → ParentBefore (plain_header text) k (header text) k)
unfolding question23 plain_header
question23_says text = (
  left_to (plain_header text) (header text) (omega (arith, long)),
  λ h. left_from (plain_header text) 0 (header text) (omega (arith, long)) (λ k l s. let w = h k l s in (w.0, omega (arith, w.1), w.2)),
)
  where
    long : length (plain_header text) ≡ length (header text)
    long = length-map (header text) without_parent
