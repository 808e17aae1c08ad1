-- Laws of a walk over the first line.
-- Assumes nothing.
use mathlib.Core.Path.{◌≡◌, refl, sym, ap, ◌∙◌}
use mathlib.Core.Bool.{Bool, true, false, ◌&&◌}
use mathlib.Core.List.{List, [], ◌∷◌, ◌++◌}
use mathlib.Core.Logic.{◌⊎◌, ⊎_elim}
use Rattle.std.specs.Prelude.{Some, None}
use Prim.Native.Nat.{ℕ, suc, ◌+◌, ◌-◌, ◌≤◌, ◌<◌}
use native.Mathlib.Omega.{arith}
use native.Mathlib.Nat.{zero-add, add-zero}
use native.Mathlib.Numerals.{add-one}
use lib.Dec.{eqb, leb}
use lib.ListN.{length, get_or, take, drop, set, replicate, length-drop, length-append}
use lib.Seq.{slice, drop-drop, set_at, append_snoc, take_at}
use borrow.Author.Tests.{eqb-true, eqb-false, lt-ltb, leb-true, le-leb, lt-leb}
use Rattle.rules.specs.Sheet.{Field, newline, up_to, has, all, is_column, count_kind, same_bytes, name_of, new_name, names_differ, header, columns_after, is_header, question3}
use Rattle.rules.proofs.Sheet.{and_false, and_left, and_right, fields_some, kind_yes, kind_no, column_plot, column_treatment, kinds_all, FirstLine, header_ended, header_form}
use Rattle.rules.proofs.Members.{clash}
use Rattle.rules.proofs.Numbering.{by_cases}
use Rattle.sheet.specs.Walk.{field_of, column_there}
use Rattle.sheet.specs.Answers.{padded, markable, marked, first_line, headed}
use Rattle.sheet.specs.declared.header.Header.{Header}
use Rattle.sheet.proofs.Stops.{AtTab, AtNewline, AtEnd, Stop, at_tab, at_newline, at_end, stop, field_byte, field_part, field_next}
use Rattle.sheet.proofs.ColumnLaws.{Column, column_long}

-- ---- the place e where the field that starts at `at` ends

module _ (text : List ℕ) (at e : ℕ) (d : e ≡ at + length (field_of (drop at text))) where
  pub inside : has 10 (drop at text) ≡ true → e < length text
  inside h = go (stop (drop at text))
    where
      go : Stop (drop at text) → e < length text
      go (at_tab r) = omega (arith, r.less, length-drop at text)
      go (at_newline r) = omega (arith, r.less, length-drop at text)
      go (at_end r) = clash h r.ends

  pub end_here : length text ≤ e → AtEnd (drop at text)
  end_here h = go (stop (drop at text))
    where
      no : length (field_of (drop at text)) < length (drop at text) → ⊥
      no l = omega (arith, length-drop at text)

      go : Stop (drop at text) → AtEnd (drop at text)
      go (at_tab r) = absurd (no r.less)
      go (at_newline r) = absurd (no r.less)
      go (at_end r) = r

  pub newline_here : e < length text → get_or text e 0 ≡ 10 → AtNewline (drop at text)
  newline_here h b = go (stop (drop at text))
    where
      not_tab : get_or (drop at text) (length (field_of (drop at text))) 0 ≡ 9 → ⊥
      not_tab z = let y : get_or (drop at text) (length (field_of (drop at text))) 0 ≡ 10 = sym (field_byte text at e d) ∙ b in omega arith

      no : length (drop at text) ≤ length (field_of (drop at text)) → ⊥
      no l = omega (arith, length-drop at text)

      go : Stop (drop at text) → AtNewline (drop at text)
      go (at_tab r) = absurd (not_tab r.byte)
      go (at_newline r) = r
      go (at_end r) = absurd (no r.all_of_it)

  pub tab_here : e < length text → (get_or text e 0 ≡ 10 → ⊥) → AtTab (drop at text)
  tab_here h b = go (stop (drop at text))
    where
      no : length (drop at text) ≤ length (field_of (drop at text)) → ⊥
      no l = omega (arith, length-drop at text)

      go : Stop (drop at text) → AtTab (drop at text)
      go (at_tab r) = r
      go (at_newline r) = absurd (b (field_byte text at e d ∙ r.byte))
      go (at_end r) = absurd (no r.all_of_it)

  module _ (h : e < length text) where
    -- the fields of the line from here on
    pub line_last : get_or text e 0 ≡ 10 → header (drop at text) ≡ field_of (drop at text) ∷ []
    unfolding header
    line_last b = (newline_here h b).parts

    pub line_on : (get_or text e 0 ≡ 10 → ⊥) → header (drop at text) ≡ field_of (drop at text) ∷ header (drop (e + 1) text)
    unfolding header
    line_on b = rw (field_next text at e d) at (tab_here h b).parts

-- ---- columns one by one

-- the field f is counted, after which there are p' and t' columns, and takes column c of the level table
pub record Counted (f : Field) (p t c p' t' : ℕ) : Type 0 where
  pub plots : (F : List Field) → p + count_kind 112 (f ∷ F) ≡ p' + count_kind 112 F
  pub treatments : (F : List Field) → t + count_kind 116 (f ∷ F) ≡ t' + count_kind 116 F
  pub takes : (F : List Field) → columns_after p t (f ∷ F) ≡ c ∷ columns_after p' t' F

module _ (f : Field) (p t : ℕ) (e : is_column f ≡ true) where
  pub counted_plot : get_or f 0 0 ≡ 112 → Counted f p t p (p + 1) t
  unfolding columns_after
  counted_plot b =
      let k = column_plot f e b in
      record {
        plots = λ F. let y = kind_yes 112 f F k.0 in omega arith;
        treatments = λ F. let n = kind_no 116 f F k.1 in omega arith;
        takes = λ F. rw (k.0, add-one, columns_after);
      }

  pub counted_treatment : (get_or f 0 0 ≡ 112 → ⊥) → Counted f p t (6 + t) p (t + 1)
  unfolding columns_after
  counted_treatment b =
      let k = column_treatment f e b in
      record {
        plots = λ F. let n = kind_no 112 f F k.0 in omega arith;
        treatments = λ F. let y = kind_yes 116 f F k.1 in omega arith;
        takes = λ F. rw (k.0, add-one, columns_after);
      }

marked_no : (at p t : ℕ) (cs xs : List ℕ) → markable p t xs ≡ false → marked at p t cs xs ≡ None
unfolding marked
marked_no at p t cs xs e = rw (e, marked)

marked_yes : (at p t : ℕ) (cs xs : List ℕ) → markable p t xs ≡ true
    → marked at p t cs xs ≡ Some (record { end = at + suc (length (up_to 10 xs)); plot_columns = p + count_kind 112 (header xs); treatment_columns = t + count_kind 116 (header xs); columns = padded (cs ++ columns_after p t (header xs)) })
unfolding marked
marked_yes at p t cs xs e = rw (e, marked)

markable_no : (p t : ℕ) (xs : List ℕ) → all is_column (header xs) ≡ false → markable p t xs ≡ false
unfolding markable
markable_no p t xs e = rw (e, and_false (has 10 xs))

module _ (text : List ℕ) (at p t : ℕ) (cs : List ℕ) where
  -- no column, or one that nothing ends
  pub marks_off : column_there (drop at text) ≡ false → marked at p t cs (drop at text) ≡ None
  unfolding column_there all markable header
  marks_off n = marked_no at p t cs (drop at text) (go (stop (drop at text)))
    where
      bad : length (field_of (drop at text)) < length (drop at text) → is_column (field_of (drop at text)) ≡ false
      bad l = rw (lt-ltb (length (field_of (drop at text))) (length (drop at text)) l) at n

      go : Stop (drop at text) → markable p t (drop at text) ≡ false
      go (at_tab r) = markable_no p t (drop at text) (rw (r.parts, bad r.less))
      go (at_newline r) = markable_no p t (drop at text) (rw (r.parts, bad r.less))
      go (at_end r) = rw r.ends

  -- a column, which ends at e and is counted
  module _ (k : Column text at) (e : ℕ) (d : e ≡ at + length (field_of (drop at text))) (c p' t' : ℕ) (m : Counted (field_of (drop at text)) p t c p' t') where
    in_text : e < length text
    in_text = omega (arith, k.ended)

    -- one too many of its kind
    pub marks_over : (6 < p') ⊎ (6 < t') → marked at p t cs (drop at text) ≡ None
    unfolding markable
    marks_over h =
        marked_no at p t cs (drop at text)
        (by_cases (eqb (get_or text e 0) 10)
        (λ b. over [] (line_last text at e d in_text (eqb-true _ _ b)))
        (λ b. over (header (drop (e + 1) text)) (line_on text at e d in_text (eqb-false _ _ b))))
      where
        over : (F : List Field) → header (drop at text) ≡ field_of (drop at text) ∷ F → markable p t (drop at text) ≡ false
        over F q =
            ⊎_elim
            (λ l. rw (q, m.plots F, lt-leb (p' + count_kind 112 F) 6 (omega arith), and_false (has 10 (drop at text) && all is_column (field_of (drop at text) ∷ F))))
            (λ l. rw (q, m.treatments F, lt-leb (t' + count_kind 116 F) 6 (omega arith)) (and_false (has 10 (drop at text) && all is_column (field_of (drop at text) ∷ F) && leb (p + count_kind 112 (field_of (drop at text) ∷ F)) 6)))
            h

    pub marks_last : get_or text e 0 ≡ 10 → p' ≤ 6 → t' ≤ 6 → marked at p t cs (drop at text) ≡ Some (record { end = e + 1; plot_columns = p'; treatment_columns = t'; columns = padded (cs ++ c ∷ []) })
    unfolding markable all count_kind columns_after
    marks_last b hp ht =
        let r = newline_here text at e d in_text b in
        let q = line_last text at e d in_text b in
        let y : p + count_kind 112 (header (drop at text)) ≡ p' = rw q (m.plots [] ∙ add-zero p') in
        let z : t + count_kind 116 (header (drop at text)) ≡ t' = rw q (m.treatments [] ∙ add-zero t') in
        let x : at + suc (length (up_to 10 (drop at text))) ≡ e + 1 = omega (arith, r.size) in
        let w : columns_after p t (header (drop at text)) ≡ c ∷ [] = rw q (m.takes []) in
        let a : all is_column (header (drop at text)) ≡ true = rw (q, k.is) in
        let good : markable p t (drop at text) ≡ true = rw (r.ends, a, y, z, le-leb p' 6 hp, le-leb t' 6 ht) in
        marked_yes at p t cs (drop at text) good ∙ rw (x, y, z, w)

    pub marks_on : (get_or text e 0 ≡ 10 → ⊥) → marked at p t cs (drop at text) ≡ marked (e + 1) p' t' (cs ++ c ∷ []) (drop (e + 1) text)
    unfolding markable all
    marks_on b =
        let r = tab_here text at e d in_text b in
        let q = line_on text at e d in_text b in
        let F = header (drop (e + 1) text) in
        let s = rw (field_next text at e d) at r.size in
        let y : p + count_kind 112 (header (drop at text)) ≡ p' + count_kind 112 F = rw q (m.plots F) in
        let z : t + count_kind 116 (header (drop at text)) ≡ t' + count_kind 116 F = rw q (m.treatments F) in
        let x : at + suc (length (up_to 10 (drop at text))) ≡ e + 1 + suc (length (up_to 10 (drop (e + 1) text))) = omega arith in
        let w : cs ++ columns_after p t (header (drop at text)) ≡ (cs ++ c ∷ []) ++ columns_after p' t' F = rw (q, m.takes F) (sym (append_snoc cs c (columns_after p' t' F))) in
        let a : all is_column (header (drop at text)) ≡ all is_column F = rw (q, k.is) in
        let same : markable p t (drop at text) ≡ markable p' t' (drop (e + 1) text) = rw (ends, a, y, z) in
        by_cases (markable p' t' (drop (e + 1) text))
        (λ g. marked_yes at p t cs (drop at text) (same ∙ g) ∙ rw (x, y, z, w) (sym (marked_yes (e + 1) p' t' (cs ++ c ∷ []) (drop (e + 1) text) g)))
        (λ g. marked_no at p t cs (drop at text) (same ∙ g) ∙ sym (marked_no (e + 1) p' t' (cs ++ c ∷ []) (drop (e + 1) text) g))
      where
        ends : has 10 (drop at text) ≡ has 10 (drop (e + 1) text)
        ends = rw (field_next text at e d) at (tab_here text at e d in_text b).ends

-- ---- names

pub name_part : (text : List ℕ) (at e : ℕ) → name_of (slice at e text) ≡ slice (at + 2) e text
name_part text at e = drop-drop 2 at (take e text)

module _ (text : List ℕ) (at e : ℕ) (d : e ≡ at + length (field_of (drop at text))) (h : has 10 (drop at text) ≡ true) (a : all is_column (header (drop at text)) ≡ true) where
  column_here : is_column (field_of (drop at text)) ≡ true
  unfolding all header
  column_here = go (stop (drop at text))
    where
      go : Stop (drop at text) → is_column (field_of (drop at text)) ≡ true
      go (at_tab r) = and_left (is_column (field_of (drop at text))) _ (rw r.parts at a)
      go (at_newline r) = and_left (is_column (field_of (drop at text))) _ (rw r.parts at a)
      go (at_end r) = and_left (is_column (field_of (drop at text))) _ (rw r.parts at a)

  pub room : at + 2 ≤ e
  room = omega (arith, column_long (field_of (drop at text)) column_here)

  header_last : get_or text e 0 ≡ 10 → header (drop at text) ≡ slice at e text ∷ []
  header_last b = rw (line_last text at e d (inside text at e d h) b, field_part text at e d)

  header_on : (get_or text e 0 ≡ 10 → ⊥) → header (drop at text) ≡ slice at e text ∷ header (drop (e + 1) text)
  header_on b = rw (line_on text at e d (inside text at e d h) b, field_part text at e d)

  pub rest_ended : (get_or text e 0 ≡ 10 → ⊥) → has 10 (drop (e + 1) text) ≡ true
  rest_ended b = sym (rw (field_next text at e d) at (tab_here text at e d (inside text at e d h) b).ends) ∙ h

  pub rest_columns : (get_or text e 0 ≡ 10 → ⊥) → all is_column (header (drop (e + 1) text)) ≡ true
  unfolding all
  rest_columns b = and_right (is_column (slice at e text)) (all is_column (header (drop (e + 1) text))) (rw (header_on b) at a)

  -- the names of the line, one by one
  module _ (f : Field) where
    pub new_here : same_bytes (name_of f) (name_of (slice at e text)) ≡ true → new_name f (header (drop at text)) ≡ false
    unfolding new_name
    new_here s = by_cases (eqb (get_or text e 0) 10) (λ b. rw (header_last (eqb-true _ _ b), s)) (λ b. rw (header_on (eqb-false _ _ b), s))

    pub new_last : get_or text e 0 ≡ 10 → same_bytes (name_of f) (name_of (slice at e text)) ≡ false → new_name f (header (drop at text)) ≡ true
    unfolding new_name
    new_last b s = rw (header_last b, s)

    pub new_on : (get_or text e 0 ≡ 10 → ⊥) → same_bytes (name_of f) (name_of (slice at e text)) ≡ false → new_name f (header (drop at text)) ≡ new_name f (header (drop (e + 1) text))
    unfolding new_name
    new_on b s = rw (header_on b, s)

  pub differ_last : get_or text e 0 ≡ 10 → names_differ (header (drop at text)) ≡ true
  unfolding names_differ new_name
  differ_last b = rw (header_last b)

  pub differ_no : (get_or text e 0 ≡ 10 → ⊥) → new_name (slice at e text) (header (drop (e + 1) text)) ≡ false → names_differ (header (drop at text)) ≡ false
  unfolding names_differ
  differ_no b n = rw (header_on b, n)

  pub differ_on : (get_or text e 0 ≡ 10 → ⊥) → new_name (slice at e text) (header (drop (e + 1) text)) ≡ true → names_differ (header (drop at text)) ≡ names_differ (header (drop (e + 1) text))
  unfolding names_differ
  differ_on b n = rw (header_on b, n)

-- ---- the columns in an array: the first n cells, and 0 past them

pub record Filled (r : List ℕ) (n : ℕ) : Type 0 where
  pub size : length (take n r) ≡ n
  pub rest : r ≡ padded (take n r)

pub filled_none : Filled (replicate 12 0) 0
filled_none = record { size = refl; rest = refl }

padded_set : (cs : List ℕ) (n c : ℕ) → length cs ≡ n → n < 12 → set (padded cs) n c ≡ padded (cs ++ c ∷ [])
padded_set cs n c l h =
    let a : 12 - length cs ≡ suc (11 - n) = omega arith in
    let b : 12 - length (cs ++ c ∷ []) ≡ 11 - n = rw length-append (omega arith) in
    rw (a, b) (set_at cs 0 (replicate (11 - n) 0) c n l ∙ sym (append_snoc cs c (replicate (11 - n) 0)))

module _ (r : List ℕ) (n c : ℕ) (f : Filled r n) (h : n < 12) where
  pub filled_set : set r n c ≡ padded (take n r ++ c ∷ [])
  filled_set = ap (λ (r : List ℕ). set r n c) f.rest ∙ padded_set (take n r) n c f.size h

  longer : length (take n r ++ c ∷ []) ≡ n + 1
  longer = length-append (take n r) (c ∷ []) ∙ ap (λ (k : ℕ). k + 1) f.size

  pub filled_take : take (n + 1) (set r n c) ≡ take n r ++ c ∷ []
  filled_take = ap (take (n + 1)) filled_set ∙ take_at (take n r ++ c ∷ []) (replicate (12 - length (take n r ++ c ∷ [])) 0) (n + 1) longer

  pub filled_on : Filled (set r n c) (n + 1)
  filled_on = record { size = ap length filled_take ∙ longer; rest = filled_set ∙ ap padded (sym filled_take) }

-- a field is counted, and its column stored
pub record Step (f : Field) (p t : ℕ) (r : List ℕ) (p' t' : ℕ) (r' : List ℕ) : Type 0 where
  pub column : ℕ
  pub counted : Counted f p t column p' t'
  pub stored : r' ≡ set r (p + t) column
  pub one : p' + t' ≡ p + t + 1
  pub few_plots : p' ≤ 6
  pub few_treatments : t' ≤ 6

-- ---- question 3

pub headed_no : (text : List ℕ) → question3 text ≡ false → headed text ≡ None
unfolding headed
headed_no text e = rw (e, headed)

pub headed_yes : (text : List ℕ) → question3 text ≡ true → headed text ≡ Some (first_line text)
unfolding headed
headed_yes text e = rw (e, headed)

-- what a line of columns tells
pub record Marks (text : List ℕ) : Type 0 where
  pub ended : has 10 text ≡ true
  pub columns : all is_column (header text) ≡ true
  pub plots : count_kind 112 (header text) ≤ 6
  pub treatments : count_kind 116 (header text) ≤ 6

module _ (text : List ℕ) where
  pub told : markable 0 0 text ≡ true → Marks text
  unfolding markable
  told e =
      let p : Bool = leb (0 + count_kind 112 (header text)) 6 in
      let t : Bool = leb (0 + count_kind 116 (header text)) 6 in
      let e1 = and_left (has 10 text && all is_column (header text) && p) t e in
      let e2 = and_left (has 10 text && all is_column (header text)) p e1 in
      let l = leb-true (0 + count_kind 112 (header text)) 6 (and_right (has 10 text && all is_column (header text)) p e1) in
      let m = leb-true (0 + count_kind 116 (header text)) 6 (and_right (has 10 text && all is_column (header text) && p) t e) in
      record {
        ended = and_left (has 10 text) (all is_column (header text)) e2;
        columns = and_right (has 10 text) (all is_column (header text)) e2;
        plots = omega arith;
        treatments = omega arith;
      }

  pub refuse_marks : markable 0 0 text ≡ false → question3 text ≡ false
  unfolding markable
  refuse_marks e = by_cases (question3 text) (λ q. clash (good (header_ended text q) (header_form text q)) e) (λ q. q)
    where
      good : has newline text ≡ true → FirstLine (header text) → markable 0 0 text ≡ true
      good ended f = rw (ended, f.columns, le-leb (0 + count_kind 112 (header text)) 6 (omega (arith, f.plots)), le-leb (0 + count_kind 116 (header text)) 6 (omega (arith, f.treatments)))

  pub refuse_names : names_differ (header text) ≡ false → question3 text ≡ false
  refuse_names e = by_cases (question3 text) (λ q. clash (header_form text q).names e) (λ q. q)

  pub accept : markable 0 0 text ≡ true → names_differ (header text) ≡ true → question3 text ≡ true
  unfolding question3 is_header header
  accept e n =
      let m = told e in
      let s = kinds_all (header text) m.columns in
      rw (m.ended, le-leb 1 (length (header text)) (fields_some (up_to 10 text)), le-leb (length (header text)) 12 (omega (arith, m.plots, m.treatments)), m.columns, le-leb (count_kind 112 (header text)) 6 m.plots, le-leb (count_kind 116 (header text)) 6 m.treatments, n)

  -- what the walk over the fields found
  pub found_line : markable 0 0 text ≡ true → marked 0 0 0 [] text ≡ Some (first_line text)
  unfolding marked first_line
  found_line a = rw (a, marked, zero-add, zero-add, zero-add)

  pub found : (h : Header) → Some h ≡ marked 0 0 0 [] text → markable 0 0 text ≡ true
  found h e = by_cases (markable 0 0 text) (λ a. a) (λ a. let n = marked_no 0 0 0 [] text a in cc)

  pub not_found : None ≡ marked 0 0 0 [] text → markable 0 0 text ≡ false
  not_found e = by_cases (markable 0 0 text) (λ a. let y = found_line a in cc) (λ a. a)
