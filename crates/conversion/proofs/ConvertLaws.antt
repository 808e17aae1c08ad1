-- Laws of converting a sheet that was read: the marks of its fields, its columns in the level table, and the text that is written.
-- Assumes nothing.
use mathlib.Core.Path.{◌≡◌, refl, sym, ap, ap₂, ◌∙◌, subst}
use mathlib.Core.Bool.{true, false}
use mathlib.Core.List.{List, [], ◌∷◌}
use Prim.Native.Nat.{ℕ, suc, ◌+◌, ◌-◌, ◌≤◌, ◌<◌}
use Rattle.std.proofs.Common.{Option, Some, None}
use Rattle.std.proofs.lemmas.Option.{none-some, same_Some}
use native.Mathlib.Omega.{arith}
use lib.ListN.{length, get_or, take, replicate, length-take, length-map}
use lib.Seq.{get_or-take, take_at}
use Rattle.rules.specs.Limits.{most_level, table_cells}
use Rattle.rules.specs.Factor.{Column, infimum}
use Rattle.rules.specs.Sheet.{newline, up_to, past, has, Field, plot_mark, treatment_mark, is_header, count_kind, header, later_lines, columns_after, joined, question3, question4, read, reading}
use Rattle.rules.specs.SheetText.{sheet_text, sheet_columns, table_columns, no_sheet}
use Rattle.rules.specs.Parents.{slash, without_parent, plain_header, parent_place, parents_left, question23, converted_columns, converted_sheet, conversion_from3}
use Rattle.rules.proofs.Lists.{get_d_map}
use Rattle.rules.proofs.Numbering.{by_cases}
use Rattle.rules.proofs.Sheet.{and_right, FirstLine, Accepts, length_columns, columns_differ, read_accepts, length_after, column_inside, kinds_all}
use Rattle.rules.proofs.SheetText.{read_columns}
use Rattle.rules.proofs.ReadSheets.{read_questions}
use Rattle.rules.proofs.Parents.{Old, columns_length, length_Ds, parent_left, copied, within_parent, converted_length}
use Rattle.sheet.specs.Answers.{padded, first_line, headed}
use Rattle.sheet.specs.declared.Counts.{Counts}
use Rattle.sheet.specs.declared.header.Header.{Header}
use Rattle.sheet.proofs.HeaderLaws.{headed_yes}
use Rattle.writer.specs.Rows.{columns_at, sheet_bytes}
use Rattle.writer.proofs.Rows.{sheet_bytes_lem}
use Rattle.conversion.specs.Plain.{plain_text, parent_of, parents_of, PlainRead}
use Rattle.conversion.specs.Table.{Within, Convertible, ConvertedTo}
use Rattle.conversion.proofs.FirstLine.{parent_none, parent_some}
use Rattle.conversion.proofs.PlainLaws.{plain_line, plain_header_lem, plain_later, plain_columns, plain_4, plain_answers, answer_after}

module _ (old plain : List ℕ) (counts : Counts) (levels : List ℕ) (outLength : ℕ) (r : PlainRead old plain counts levels outLength) where
  abbrev n : ℕ
  n = counts.plot_columns + counts.treatment_columns

  abbrev ps : List Field
  ps = plain_header old

  abbrev cs : List ℕ
  cs = columns_after 0 0 (plain_header old)

  same_header : header plain ≡ plain_header old
  same_header = ap header r.is_plain ∙ plain_header_lem old r.formed.ended

  accepts : Accepts plain r.before counts.plots counts.plot_columns counts.treatment_columns
  accepts = read_accepts plain r.before counts.plots counts.plot_columns counts.treatment_columns r.is_read

  pub read_room : table_cells ≤ length r.before
  read_room = accepts.table_fits

  form : FirstLine (plain_header old)
  form = subst FirstLine same_header accepts.header_good

  length_plain : length (plain_header old) ≡ length (header old)
  unfolding plain_header
  length_plain = length-map (header old) without_parent

  pub same_length : length (header plain) ≡ length (header old)
  same_length = ap length same_header ∙ length_plain

  -- as many fields as columns
  pub field_count : length (header old) ≡ n
  field_count =
      let p = accepts.plot_columns_holds ∙ ap (count_kind plot_mark) same_header in
      let t = accepts.treatment_columns_holds ∙ ap (count_kind treatment_mark) same_header in
      omega (arith, length_plain, kinds_all (plain_header old) form.columns, p, t)

  pub few_fields : n ≤ 12
  few_fields = omega (arith, field_count, length_plain, form.few)

  -- ---- what the header answers

  three : question3 plain ≡ true
  three = (read_questions plain r.before counts.plots counts.plot_columns counts.treatment_columns r.is_read).1

  pub header_some : headed plain ≡ Some (first_line plain)
  header_some = headed_yes plain three

  module _ (h : Header) (e : headed plain ≡ Some h) where
    read_line : h ≡ first_line plain
    read_line = let k = header_some in cc

    -- the columns of the fields
    pub taken_columns : take n h.columns ≡ cs
    unfolding first_line
    taken_columns =
        ap (λ (x : Header). take n x.columns) read_line ∙ ap (λ (fs : List Field). take n (padded (columns_after 0 0 fs))) same_header
        ∙ take_at cs (replicate (12 - length cs) 0) n (length_columns 0 0 (plain_header old) ∙ length_plain ∙ field_count)

    pub columns_long : n ≤ length h.columns
    columns_long = omega (arith, length-take n h.columns, ap length taken_columns, length_columns 0 0 (plain_header old), length_plain, field_count)

    -- the first line
    pub line_end : h.end ≡ suc (length (joined (plain_header old)))
    unfolding first_line
    line_end = ap (λ (x : Header). x.end) read_line ∙ ap (λ (l : List ℕ). suc (length (up_to newline l))) r.is_plain ∙ ap (λ (l : List ℕ). suc (length l)) (plain_line old r.formed.ended)

    pub line_taken : take (h.end - 1) plain ≡ joined (plain_header old)
    unfolding plain_text
    line_taken =
        let k : h.end - 1 ≡ length (joined (plain_header old)) = omega (arith, line_end) in
        ap₂ take k r.is_plain ∙ take_at (joined (plain_header old)) (newline ∷ past newline old) (length (joined (plain_header old))) refl

  -- ---- the columns in the level table

  pub table_columns_lem : columns_at counts.plots levels cs ≡ sheet_columns old
  unfolding table_columns
  table_columns_lem =
      ap₂ (λ (fs : List Field) (T : List ℕ). columns_at counts.plots T (columns_after 0 0 fs)) (sym same_header) r.table
      ∙ read_columns plain r.before counts.plots counts.plot_columns counts.treatment_columns r.is_read
      ∙ ap sheet_columns r.is_plain ∙ plain_columns old r.formed.ended

  -- ---- 23

  answer : conversion_from3 old ≡ answer_after old (read counts.plots counts.plot_columns counts.treatment_columns)
  answer = plain_answers old outLength r.formed r.before accepts.table_fits ∙ ap (answer_after old) (ap (λ (t : List ℕ). reading t r.before) (sym r.is_plain) ∙ r.is_read)

  pub answer_23 : parents_left (header plain) 0 (header old) ≡ false → conversion_from3 old ≡ no_sheet 23
  unfolding answer_after question23
  answer_23 e =
      let q : question23 old ≡ false = ap (λ (fs : List Field). parents_left fs 0 (header old)) (sym same_header) ∙ e in
      answer ∙ rw (q, answer_after)

  module _ (left : parents_left (header plain) 0 (header old) ≡ true) where
    yes_23 : question23 old ≡ true
    unfolding question23
    yes_23 = ap (λ (fs : List Field). parents_left fs 0 (header old)) (sym same_header) ∙ left

    pub answer_0 : conversion_from3 old ≡ record { refusal = 0; sheet = converted_sheet old }
    unfolding answer_after
    answer_0 = answer ∙ rw (yes_23, answer_after)

    same_plots : counts.plots ≡ length (later_lines old)
    same_plots = accepts.plots ∙ ap (λ (t : List ℕ). length (later_lines t)) r.is_plain ∙ ap length (plain_later old r.formed.ended)

    pub is_old : Old old
    unfolding question3 question4
    is_old = record {
      size = r.formed.size;
      ended = r.formed.ended;
      slashes = r.formed.slashes;
      first = ap is_header (sym same_header) ∙ and_right (has newline plain) (is_header (header plain)) three;
      rows = sym (plain_4 old r.formed.ended) ∙ ap (question4 most_level) (sym r.is_plain) ∙ accepts.lines_good;
      plots_some = omega (arith, same_plots, accepts.plots_some);
      plots_few = omega (arith, same_plots, accepts.plots_few);
      parents = yes_23;
    }

    -- the places of the fields' parents, in an array
    module _ (parents : List (Option ℕ)) (found : parents ≡ parents_of (header plain) (header old)) where
      parent_at : (i : ℕ) → i < length (header old) → get_or parents i None ≡ parent_of (plain_header old) (get_or (header old) i [])
      parent_at i h =
          ap (λ (ms : List (Option ℕ)). get_or ms i None) (found ∙ ap (λ (fs : List Field). parents_of fs (header old)) same_header)
          ∙ get_d_map (parent_of (plain_header old)) (header old) i [] None h

      pub found_length : length parents ≡ n
      found_length = ap length found ∙ length-map (header old) (parent_of (header plain)) ∙ field_count

      no_parent : (i : ℕ) → i < length (header old) → get_or parents i None ≡ None → has slash (get_or (header old) i []) ≡ false
      no_parent i h e =
          by_cases (has slash (get_or (header old) i []))
          (λ s. absurd (none-some _ (sym e ∙ parent_at i h ∙ parent_some (plain_header old) (get_or (header old) i []) s)))
          (λ s. s)

      with_parent : (i j : ℕ) → i < length (header old) → get_or parents i None ≡ Some j → (has slash (get_or (header old) i []) ≡ true) × (parent_place (plain_header old) (get_or (header old) i []) ≡ j)
      with_parent i j h e =
          by_cases (has slash (get_or (header old) i []))
          (λ s. (s, same_Some _ _ (sym (parent_some (plain_header old) (get_or (header old) i []) s) ∙ sym (parent_at i h) ∙ e)))
          (λ s. absurd (none-some j (sym (parent_none (plain_header old) (get_or (header old) i []) s) ∙ sym (parent_at i h) ∙ e)))

      further_left : (i j : ℕ) → i < length (header old) → get_or parents i None ≡ Some j → j < i
      further_left i j h e = let w = with_parent i j h e in subst (λ (m : ℕ). m < i) w.1 (parent_left old is_old i h w.0)

      pub parents_within : Within parents (sheet_columns old) (converted_columns old)
      parents_within = record {
        size = length_Ds old is_old ∙ sym (columns_length old);
        copied = λ i h e. let k : i < length (header old) = rw (columns_length old) at h in copied old is_old i k (no_parent i k e);
        within = λ i j h e.
            let k : i < length (header old) = rw (columns_length old) at h in
            let w = with_parent i j k e in
            (further_left i j k e, subst (λ (m : ℕ). get_or (converted_columns old) i [] ≡ infimum (get_or (sheet_columns old) i []) (get_or (converted_columns old) m [])) w.1 (within_parent old is_old i k w.0));
      }

      module _ (h : Header) (e : headed plain ≡ Some h) where
        column_is : (i : ℕ) → i < n → get_or h.columns i 0 ≡ get_or cs i 0
        column_is i l = sym (get_or-take n h.columns i 0 l) ∙ ap (λ (c : List ℕ). get_or c i 0) (taken_columns h e)

        pub parents_convertible : Convertible h.columns parents n counts.plots (length levels)
        parents_convertible = record {
          few = accepts.plots_few;
          columns_long = columns_long h e;
          inside = λ i l.
              let k : i < length (header plain) = omega (arith, l, field_count, length_plain, ap length same_header) in
              let c = column_inside plain r.before counts.plots counts.plot_columns counts.treatment_columns r.is_read i k in
              let same : get_or h.columns i 0 ≡ get_or (columns_after 0 0 (header plain)) i 0 = column_is i l ∙ ap (λ (fs : List Field). get_or (columns_after 0 0 fs) i 0) (sym same_header) in
              let size : length levels ≡ length r.before = ap length r.table ∙ length_after (reading plain r.before) plain r.before in
              omega (arith, c, same, size, accepts.table_fits, accepts.plots_few);
          differ = λ i j l m q. columns_differ (plain_header old) form i j (omega (arith, l, field_count, length_plain)) (omega (arith, m, field_count, length_plain)) (sym (column_is i l) ∙ q ∙ column_is j m);
          left = λ i j l q. further_left i j (omega (arith, l, field_count)) q;
        }

        -- what is written
        pub sheet_written : (after : List ℕ) → ConvertedTo h.columns parents n counts.plots levels after
            → sheet_bytes (take (h.end - 1) plain) counts.plots (columns_at counts.plots after (take n h.columns)) ≡ converted_sheet old
        unfolding converted_sheet
        sheet_written after c =
            let before : columns_at counts.plots levels (take n h.columns) ≡ sheet_columns old = ap (columns_at counts.plots levels) (taken_columns h e) ∙ table_columns_lem in
            let made = c (converted_columns old) (subst (λ (Cs : List Column). Within parents Cs (converted_columns old)) (sym before) parents_within) in
            ap₂ (λ (l : List ℕ) (Ds : List Column). sheet_bytes l counts.plots Ds) (line_taken h e) made ∙ sheet_bytes_lem counts.plots (plain_header old) (converted_columns old)
            ∙ ap (λ (m : ℕ). sheet_text m (plain_header old) (converted_columns old)) same_plots

    -- it fits
    pub sheet_fits : length (converted_sheet old) ≤ outLength
    sheet_fits = omega (arith, converted_length old is_old, r.formed.room)
