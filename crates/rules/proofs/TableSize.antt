-- Laws of the length of the printed table: it always fits.
-- Assumes nothing.
use mathlib.Core.Path.{◌≡◌, refl, sym, ap, ◌∙◌}
use mathlib.Core.Logic.{inl}
use mathlib.Core.Bool.{true, not, ◌&&◌}
use mathlib.Core.List.{List, [], ◌∷◌, ◌++◌, map}
use Prim.Native.Nat.{ℕ, zero, suc, ◌+◌, ◌*◌, ◌^◌, ◌≤◌, ◌<◌}
use native.Mathlib.Nat.{zero-add, pow-le-pow_right, suc-ne-zero}
use native.Mathlib.Omega.{arith}
use lib.Arith.{lt_of_le-ne}
use lib.Dec.{eqb, leb, ltb}
use lib.IntN.{ℤ, pos, nat_abs}
use lib.ListN.{length, get_or, length-append, get_or-eq_default}
use borrow.Author.Tests.{eqb-true, eqb-false, ltb-true, ltb-false, le-leb, lt-leb}
use Rattle.rules.specs.Factor.{Column}
use Rattle.rules.specs.Family.{Family}
use Rattle.rules.specs.Design.{Answer, full_design}
use Rattle.rules.specs.Lists.{bit, decimal_of}
use Rattle.rules.specs.Degrees.{degrees}
use Rattle.rules.specs.Strata.{stratum, sum_at, residuals_from, residuals}
use Rattle.rules.specs.Limits.{most_level}
use Rattle.rules.specs.Sheet.{Outcome, read, refused, header, later_lines, count_kind, plot_mark, treatment_mark, question1, question2, question3, question4, question5, counts, reading_from3, reading_to, reading, levels_after}
use Rattle.rules.specs.Naming.{Kind, plot, treatment}
use Rattle.rules.specs.Table.{Row, row_bytes, rows_bytes, word_stratum, word_source, word_df, word_residual, word_total, word_all, word_refused, dash, signed, source_rows, is_zero, residual_rows, stratum_rows, strata_rows, names_from, accepted_rows, refused_row, first_kind, second_kind, family_of, place_name, design_refused_row, design_rows, empty_table, outcome_rows, table_rows, table_text}
use Rattle.rules.proofs.Numbering.{by_cases}
use Rattle.rules.proofs.Signed.{abs_add, abs_sub}
use Rattle.rules.proofs.DegreesLaws.{length_degrees, degrees_bound}
use Rattle.rules.proofs.Sheet.{read_accepts}
use Rattle.rules.proofs.Made.{WellMade, Placed, Tells, full_tells}
use Rattle.rules.proofs.ReadSheets.{read_questions}
use Rattle.rules.proofs.NameSize.{decimal_length, signed_length, longest, name_length, name_short_enough}

-- ---- rows

row_three : (a b c : List ℕ) → length (row_bytes (a ∷ b ∷ c ∷ [])) ≡ length a + length b + length c + 3
unfolding row_bytes
row_three a b c = simp length-append (omega arith)

row_four : (a b c d : List ℕ) → length (row_bytes (a ∷ b ∷ c ∷ d ∷ [])) ≡ length a + length b + length c + length d + 4
unfolding row_bytes
row_four a b c d = simp length-append (omega arith)

rows_cons : (r : Row) (rs : List Row) → length (rows_bytes (r ∷ rs)) ≡ length (row_bytes r) + length (rows_bytes rs)
unfolding rows_bytes
rows_cons r rs = length-append (row_bytes r) (rows_bytes rs)

rows_none : length (rows_bytes []) ≡ 0
unfolding rows_bytes
rows_none = refl

rows_append : (rs ss : List Row) → length (rows_bytes (rs ++ ss)) ≡ length (rows_bytes rs) + length (rows_bytes ss)
rows_append [] ss = rw rows_none (sym (zero-add (length (rows_bytes ss))))
rows_append (r ∷ rs) ss = omega (arith, rows_cons r (rs ++ ss), rows_cons r rs, rows_append rs ss)

-- ---- each treatment member is listed in one stratum

-- how many of the places are from i on
unfoldable count_from : ℕ → List ℕ → ℕ
count_from i [] = 0
count_from i (s ∷ ss) = bit (leb i s) + count_from i ss

module _ (i s : ℕ) (ss : List ℕ) where
  count_yes : i ≤ s → count_from i (s ∷ ss) ≡ suc (count_from i ss)
  unfolding count_from
  count_yes h = rw (le-leb i s h, count_from) (omega arith)

  count_no : s < i → count_from i (s ∷ ss) ≡ count_from i ss
  unfolding count_from
  count_no h = rw (lt-leb i s h, count_from) (omega arith)

count_most : (i : ℕ) (ss : List ℕ) → count_from i ss ≤ length ss
unfolding count_from
count_most i [] = omega arith
count_most i (s ∷ ss) =
    by_cases (ltb s i)
    (λ e. omega (arith, count_no i s ss (ltb-true s i e), count_most i ss))
    (λ e. omega (arith, count_yes i s ss (ltb-false s i e), count_most i ss))

count_less : (i : ℕ) (ss : List ℕ) → count_from (suc i) ss ≤ count_from i ss
unfolding count_from
count_less i [] = omega arith
count_less i (s ∷ ss) =
    by_cases (ltb s i)
    (λ e. let l = ltb-true s i e in omega (arith, count_no i s ss l, count_no (suc i) s ss (omega arith), count_less i ss))
    (λ e. let l = ltb-false s i e in
    by_cases (ltb s (suc i))
    (λ f. omega (arith, count_yes i s ss l, count_no (suc i) s ss (ltb-true s (suc i) f), count_less i ss))
    (λ f. omega (arith, count_yes i s ss l, count_yes (suc i) s ss (ltb-false s (suc i) f), count_less i ss)))

-- numbers of at most 14 digits, either way
abbrev Small : ℤ → Type 0
Small z = nat_abs z < 10 ^ 14

abbrev AllSmall : List ℤ → Type 0
AllSmall ds = (k : ℕ) → Small (get_or ds k (pos 0))

abbrev AllShort : ℕ → List (List ℕ) → Type 0
AllShort m names = (k : ℕ) → length (get_or names k []) ≤ m

small_signed : (z : ℤ) → Small z → length (signed z) ≤ 15
small_signed z h = signed_length z 13 h

module _ (name : List ℕ) (short : length name ≤ 80) (i : ℕ) where
  -- the lines of a stratum's treatment members
  source_length : (ts : List (List ℕ)) (ss : List ℕ) (ds : List ℤ) → AllShort 158 ts → AllSmall ds
      → length (rows_bytes (source_rows name i ts ss ds)) + 256 * count_from (suc i) ss ≤ 256 * count_from i ss
  unfolding source_rows
  source_length [] ss ds a b = omega (arith, rows_none, count_less i ss)
  source_length (t ∷ ts) [] ds a b = omega (arith, rows_none, count_less i [])
  source_length (t ∷ ts) (s ∷ ss) [] a b = omega (arith, rows_none, count_less i (s ∷ ss))
  source_length (t ∷ ts) (s ∷ ss) (d ∷ ds) a b =
      let rest = source_length ts ss ds (λ k. a (suc k)) (λ k. b (suc k)) in
      by_cases (eqb s i)
      (λ e. let q = eqb-true s i e in
      rw (e, source_rows)
      (omega (arith, rows_cons (name ∷ t ∷ signed d ∷ []) (source_rows name i ts ss ds), row_three name t (signed d), small_signed d (b 0), a 0, count_no (suc i) s ss (omega arith), count_yes i s ss (omega arith))))
      (λ e. rw (e, source_rows) (by_cases (ltb s i)
      (λ f. let l = ltb-true s i f in omega (arith, count_no i s ss l, count_no (suc i) s ss (omega arith)))
      (λ f. let l : i ≤ s = ltb-false s i f in
      let m : suc i ≤ s = lt_of_le-ne l (λ z. eqb-false s i e (sym z)) in
      omega (arith, count_yes i s ss l, count_yes (suc i) s ss m))))

  -- its residual
  residual_length : (sources : List Row) (r : ℤ) → Small r → length (rows_bytes (residual_rows name sources r)) ≤ 107
  unfolding residual_rows
  residual_length sources r h =
      by_cases (ltb 0 (length sources) && not (is_zero r))
      (λ e. rw (e, residual_rows) (omega (arith, rows_cons (name ∷ word_residual ∷ signed r ∷ []) [], rows_none, row_three name word_residual (signed r), small_signed r h)))
      (λ e. rw (e, residual_rows) (omega (arith, rows_none)))

  stratum_is : (ts : List (List ℕ)) (ss : List ℕ) (ds : List ℤ) (total r : ℤ) → length (rows_bytes (stratum_rows name i ts ss ds total r))
      ≡ length (rows_bytes (source_rows name i ts ss ds)) + length (rows_bytes (residual_rows name (source_rows name i ts ss ds) r)) + length (rows_bytes ((name ∷ word_total ∷ signed total ∷ []) ∷ []))
  unfolding stratum_rows
  stratum_is ts ss ds total r =
      rows_append (source_rows name i ts ss ds ++ residual_rows name (source_rows name i ts ss ds) r) ((name ∷ word_total ∷ signed total ∷ []) ∷ [])
      ∙ ap (λ (x : ℕ). x + length (rows_bytes ((name ∷ word_total ∷ signed total ∷ []) ∷ []))) (rows_append (source_rows name i ts ss ds) (residual_rows name (source_rows name i ts ss ds) r))

  -- all its lines
  stratum_length : (ts : List (List ℕ)) (ss : List ℕ) (ds : List ℤ) (total r : ℤ) → AllShort 158 ts → AllSmall ds → Small total → Small r
      → length (rows_bytes (stratum_rows name i ts ss ds total r)) + 256 * count_from (suc i) ss ≤ 256 * count_from i ss + 211
  stratum_length ts ss ds total r a b ht hr =
      let last : Row = name ∷ word_total ∷ signed total ∷ [] in
      omega (
        arith,
        stratum_is ts ss ds total r,
        rows_cons last [],
        rows_none,
        row_three name word_total (signed total),
        small_signed total ht,
        residual_length (source_rows name i ts ss ds) r hr,
        source_length ts ss ds a b,
      )

strata_is : (i : ℕ) (p : List ℕ) (ps : List (List ℕ)) (e : ℤ) (es : List ℤ) (r : ℤ) (rs : List ℤ) (ts : List (List ℕ)) (ss : List ℕ) (ds : List ℤ)
    → length (rows_bytes (strata_rows i (p ∷ ps) (e ∷ es) (r ∷ rs) ts ss ds)) ≡ length (rows_bytes (stratum_rows p i ts ss ds e r)) + length (rows_bytes (strata_rows (suc i) ps es rs ts ss ds))
unfolding strata_rows
strata_is i p ps e es r rs ts ss ds = rows_append (stratum_rows p i ts ss ds e r) (strata_rows (suc i) ps es rs ts ss ds)

-- all strata's lines: as many as treatment members, and two for each plot member
strata_length : (i : ℕ) (ps : List (List ℕ)) (es rs : List ℤ) (ts : List (List ℕ)) (ss : List ℕ) (ds : List ℤ) → AllShort 80 ps → AllSmall es → AllSmall rs → AllShort 158 ts → AllSmall ds
    → length (rows_bytes (strata_rows i ps es rs ts ss ds)) ≤ 256 * count_from i ss + 211 * length ps
unfolding strata_rows
strata_length i [] es rs ts ss ds hp he hr ht hd = omega (arith, rows_none)
strata_length i (p ∷ ps) [] rs ts ss ds hp he hr ht hd = omega (arith, rows_none)
strata_length i (p ∷ ps) (e ∷ es) [] ts ss ds hp he hr ht hd = omega (arith, rows_none)
strata_length i (p ∷ ps) (e ∷ es) (r ∷ rs) ts ss ds hp he hr ht hd =
    omega (
      arith,
      strata_is i p ps e es r rs ts ss ds,
      stratum_length p (hp 0) i ts ss ds e r ht hd (he 0) (hr 0),
      strata_length (suc i) ps es rs ts ss ds (λ k. hp (suc k)) (λ k. he (suc k)) (λ k. hr (suc k)) ht hd,
    )

-- ---- the numbers are small

-- 240 × 2 ^ 31
abbrev bound : ℕ
bound = 515396075520

module _ (n : ℕ) (S : Family) (small : n ≤ 240) (made : WellMade n S) where
  degrees_at : (k : ℕ) → nat_abs (get_or (degrees n S) k (pos 0)) ≤ bound
  degrees_at k =
      by_cases (ltb k (length S))
      (λ e. let l = ltb-true k (length S) e in
      let m : k ≤ 31 = omega (arith, made.few) in
      let two : 0 < 2 = omega arith in
      let p : 2 ^ k ≤ 2 ^ 31 = pow-le-pow_right two m in
      omega (arith, degrees_bound n S small made.on k l))
      (λ e. let l : length (degrees n S) ≤ k = omega (arith, length_degrees n S, ltb-false k (length S) e) in
      rw (get_or-eq_default (degrees n S) (pos 0) {n = k} l) (omega arith))

  degrees_small : AllSmall (degrees n S)
  degrees_small k = omega (arith, degrees_at k)

sum_size : (i : ℕ) (ss : List ℕ) (ds : List ℤ) → ((k : ℕ) → nat_abs (get_or ds k (pos 0)) ≤ bound) → nat_abs (sum_at i ss ds) ≤ bound * length ds
unfolding sum_at
sum_size i [] ds h = omega arith
sum_size i (s ∷ ss) [] h = omega arith
sum_size i (s ∷ ss) (d ∷ ds) h =
    by_cases (eqb s i)
    (λ e. rw (e, sum_at) (omega (arith, abs_add d (sum_at i ss ds), sum_size i ss ds (λ k. h (suc k)), h 0)))
    (λ e. rw (e, sum_at) (omega (arith, sum_size i ss ds (λ k. h (suc k)))))

residual_size : (i : ℕ) (es : List ℤ) (ss : List ℕ) (ds : List ℤ) → length ds ≤ 32 → ((k : ℕ) → nat_abs (get_or es k (pos 0)) ≤ bound) → ((k : ℕ) → nat_abs (get_or ds k (pos 0)) ≤ bound)
    → AllSmall (residuals_from i es ss ds)
unfolding residuals_from
residual_size i [] ss ds few he hd k = omega arith
residual_size i (e ∷ es) ss ds few he hd zero = omega (arith, abs_sub e (sum_at i ss ds), sum_size i ss ds hd, he 0)
residual_size i (e ∷ es) ss ds few he hd (suc k) = residual_size (suc i) es ss ds few (λ j. he (suc j)) hd k

-- ---- an accepted sheet

length_map : (f : Column → ℕ) (S : Family) → length (map f S) ≡ length S
length_map f [] = refl
length_map f (F ∷ S) = ap suc (length_map f S)

length_names : (kind : Kind) (text : List ℕ) (n : ℕ) (levels : List ℕ) (S : Family) (i m : ℕ) → length (names_from kind text n levels S i m) ≡ m
unfolding names_from
length_names kind text n levels S i zero = refl
length_names kind text n levels S i (suc m) = ap suc (length_names kind text n levels S (suc i) m)

names_short : (kind : Kind) (text : List ℕ) (n : ℕ) (levels : List ℕ) (S : Family) → question3 text ≡ true → (i m : ℕ) → i + m ≤ 100 → AllShort (longest kind) (names_from kind text n levels S i m)
unfolding names_from
names_short kind text n levels S q i zero h k = omega arith
names_short kind text n levels S q i (suc m) h zero = name_length kind text n levels S i q (omega arith)
names_short kind text n levels S q i (suc m) h (suc k) = names_short kind text n levels S q (suc i) m (omega arith) k

module _ (text : List ℕ) (n : ℕ) (levels : List ℕ) (P R : Family) where
  abbrev plot_names : List (List ℕ)
  plot_names = names_from plot text n levels P 1 (length P)

  abbrev treatment_names : List (List ℕ)
  treatment_names = names_from treatment text n levels R 1 (length R)

  abbrev places : List ℕ
  places = map (stratum n P) R

  abbrev middle : List Row
  middle = strata_rows 1 plot_names (degrees n P) (residuals n P R) treatment_names places (degrees n R)

  abbrev last_row : Row
  last_row = word_all ∷ word_total ∷ decimal_of n ∷ []

  accepted_is : length (rows_bytes (accepted_rows text n levels P R)) ≡ length (row_bytes (word_stratum ∷ word_source ∷ word_df ∷ [])) + (length (rows_bytes middle) + length (rows_bytes (last_row ∷ [])))
  unfolding accepted_rows
  accepted_is =
      rows_cons (word_stratum ∷ word_source ∷ word_df ∷ []) (middle ++ last_row ∷ [])
      ∙ ap (λ (x : ℕ). length (row_bytes (word_stratum ∷ word_source ∷ word_df ∷ [])) + x) (rows_append middle (last_row ∷ []))

  -- the table of a sheet that is accepted
  pub accepted_length : question3 text ≡ true → n ≤ 240 → WellMade n P → WellMade n R → length (rows_bytes (accepted_rows text n levels P R)) ≤ 14978
  unfolding residuals
  accepted_length q small m_p mR =
      omega (
        arith,
        accepted_is,
        rows_cons last_row [],
        rows_none,
        row_three word_stratum word_source word_df,
        row_three word_all word_total (decimal_of n),
        decimal_length n 2 (omega arith),
        whole,
        count_most 1 places,
        length_map (stratum n P) R,
        length_names plot text n levels P 1 (length P),
        m_p.few,
        mR.few,
      )
    where
      whole : length (rows_bytes middle) ≤ 256 * count_from 1 places + 211 * length plot_names
      whole =
          strata_length 1 plot_names (degrees n P) (residuals n P R) treatment_names places (degrees n R) (names_short plot text n levels P q 1 (length P) (omega (arith, m_p.few)))
          (degrees_small n P small m_p) (residual_size 1 (degrees n P) places (degrees n R) (omega (arith, length_degrees n R, mR.few)) (degrees_at n P small m_p) (degrees_at n R small mR))
          (names_short treatment text n levels R q 1 (length R) (omega (arith, mR.few))) (degrees_small n R small mR)

-- ---- a refused sheet

refused_length : (q : ℕ) (a b : List ℕ) → q < 100 → length a ≤ 158 → length b ≤ 158 → length (rows_bytes (refused_row q a b ∷ [])) ≤ 329
unfolding refused_row
refused_length q a b h ha hb = omega (arith, rows_cons (word_refused ∷ decimal_of q ∷ a ∷ b ∷ []) [], rows_none, row_four word_refused (decimal_of q) a b, decimal_length q 1 h)

place_length : (kind : Kind) (text : List ℕ) (n : ℕ) (levels : List ℕ) (S : Family) (i : ℕ) → question3 text ≡ true → (1 ≤ i → Placed n S i) → length (place_name kind text n levels S i) ≤ 158
unfolding place_name
place_length kind text n levels S zero q h = omega arith
place_length kind text n levels S (suc i) q h = let p = h (omega arith) in name_short_enough kind text n levels S (suc i) q (omega (arith, p.most, p.made.few))

-- the table of a sheet that was read
design_length : (text : List ℕ) (n : ℕ) (levels : List ℕ) (a : Answer) → question3 text ≡ true → n ≤ 240 → Tells n a → length (rows_bytes (design_rows text n levels a)) ≤ 14978
unfolding design_rows design_refused_row
design_length text n levels a q small t = go a.refusal refl
  where
    go : (x : ℕ) → a.refusal ≡ x → length (rows_bytes (design_rows text n levels a)) ≤ 14978
    go zero e = rw (e, design_rows) (accepted_length text n levels a.plot a.treatment q small (t.plot_made (inl e)) (t.treatment_made (inl e)))
    go (suc x) e =
        let k = first_kind a.refusal in
        let l = second_kind a.refusal in
        let r = refused_length a.refusal (place_name k text n levels (family_of k a) a.places.first) (place_name l text n levels (family_of l a) a.places.second) (omega (arith, t.most))
        (place_length k text n levels (family_of k a) a.places.first q t.first_place_holds) (place_length l text n levels (family_of l a) a.places.second q t.second_place_holds) in
        rw (e, design_rows) (omega (arith, r))

-- a reading refuses by 1 to 5
pub reading_number : (text levels : List ℕ) (q : ℕ) → reading text levels ≡ refused q → (1 ≤ q) × (q ≤ 5)
unfolding reading_to reading_from3 counts
reading_number text levels q e =
    by_cases (question1 levels)
    (λ q1. by_cases (question2 text)
    (λ q2. by_cases (question3 text)
    (λ q3. by_cases (question4 most_level text)
    (λ q4. by_cases (question5 text)
    (λ q5. not_read (length (later_lines text)) (count_kind plot_mark (header text)) (count_kind treatment_mark (header text)) q (sym (rw (q1, q2, q3, q4, q5, reading_to, reading_from3)) ∙ e))
    (λ q5. number 5 q (omega arith) (omega arith) (sym (rw (q1, q2, q3, q4, q5, reading_to, reading_from3)) ∙ e)))
    (λ q4. number 4 q (omega arith) (omega arith) (sym (rw (q1, q2, q3, q4, reading_to, reading_from3)) ∙ e)))
    (λ q3. number 3 q (omega arith) (omega arith) (sym (rw (q1, q2, q3, reading_to, reading_from3)) ∙ e)))
    (λ q2. number 2 q (omega arith) (omega arith) (sym (rw (q1, q2, reading_to)) ∙ e)))
    (λ q1. number 1 q (omega arith) (omega arith) (sym (rw (q1, reading_to)) ∙ e))
  where
    number : (a b : ℕ) → 1 ≤ a → a ≤ 5 → refused a ≡ refused b → (1 ≤ b) × (b ≤ 5)
    number a b g h z = let w : a ≡ b = cc in (omega arith, omega arith)

    not_read : (a b c d : ℕ) → read a b c ≡ refused d → (1 ≤ d) × (d ≤ 5)
    not_read a b c d z = let w : ◌≡◌ {A = ℕ} 0 1 = cc in absurd (suc-ne-zero 0 (sym w))

-- ---- every sheet

-- the text printed for any input has at most 14,978 bytes, so it fits 32,768
pub table_length : (text : List ℕ) → length (table_text text) ≤ 14978
unfolding table_text table_rows outcome_rows
table_length text = go (reading text empty_table) refl
  where
    go : (o : Outcome) → reading text empty_table ≡ o → length (rows_bytes (outcome_rows text o)) ≤ 14978
    go (refused q) e = omega (arith, refused_length q dash dash (omega (arith, (reading_number text empty_table q e).1)) (omega arith) (omega arith))
    go (read n p t) e =
        let levels : List ℕ = levels_after (read n p t) text empty_table in
        design_length text n levels (full_design n p t 6 levels 7680 7680) (read_questions text empty_table n p t e).1 (read_accepts text empty_table n p t e).plots_few (full_tells n p t 6 levels 7680 7680)

pub table_fits : (text : List ℕ) → length (table_text text) ≤ 32768
table_fits text = omega (arith, table_length text)
