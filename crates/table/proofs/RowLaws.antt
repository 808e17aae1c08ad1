-- Laws of the lines of the table: line by line, member by member.
-- Assumes nothing.
use mathlib.Core.Path.{◌≡◌, refl, sym, ap, ap₂, ◌∙◌}
use mathlib.Core.Bool.{Bool, true, false, ◌||◌}
use mathlib.Core.List.{List, [], ◌∷◌, ◌++◌, append_assoc, append-nil}
use Prim.Native.Nat.{ℕ, suc, ◌+◌, ◌<◌, ◌≤◌}
use native.Mathlib.Numerals.{add-one}
use native.Mathlib.Omega.{arith}
use lib.Dec.{eqb, ltb}
use lib.IntN.{ℤ, pos, negsuc}
use lib.ListN.{length, get_or, take, drop, drop_of_length-le}
use lib.Seq.{drop-cons, append_snoc, get_or-take, length-take-le}
use borrow.Author.Tests.{lt-ltb, eq-eqb, ne_eqb}
use Rattle.std.specs.List.{list_any}
use Rattle.rules.proofs.Lists.{length_tabulate, get_d_tabulate}
use Rattle.rules.specs.Lists.{decimal_of}
use Rattle.rules.specs.Table.{Row, refused_row, word_all, row_bytes, rows_bytes, signed, is_zero, source_rows, residual_rows, stratum_rows, strata_rows, word_total, word_residual}
use Rattle.table.specs.Names.{name_in, names_in, among, residual_of, table_of}

-- a line of three fields, field by field
pub row_fields : (f g h : List ℕ) → (f ++ 9 ∷ []) ++ (g ++ 9 ∷ []) ++ (h ++ 10 ∷ []) ≡ row_bytes (f ∷ g ∷ h ∷ [])
unfolding row_bytes
row_fields f g h =
    append_assoc (f ++ 9 ∷ []) (g ++ 9 ∷ []) (h ++ 10 ∷ [])
    ∙ append_snoc f 9 ((g ++ 9 ∷ []) ++ (h ++ 10 ∷ []))
    ∙ ap (λ (r : List ℕ). f ++ 9 ∷ r) (append_snoc g 9 (h ++ 10 ∷ []))

-- lines and more lines
pub rows_append : (rs ss : List Row) → rows_bytes (rs ++ ss) ≡ rows_bytes rs ++ rows_bytes ss
unfolding rows_bytes
rows_append [] ss = refl
rows_append (r ∷ rs) ss = ap (λ (x : List ℕ). row_bytes r ++ x) (rows_append rs ss) ∙ sym (append_assoc (row_bytes r) (rows_bytes rs) (rows_bytes ss))

-- one line
pub rows_one : (r : Row) → rows_bytes (r ∷ []) ≡ row_bytes r
unfolding rows_bytes
rows_one r = append-nil (row_bytes r)

-- ---- the treatment members of a stratum

-- one member, which stands in the stratum or in another
module _ (name : List ℕ) (i : ℕ) (t : List ℕ) (s : ℕ) (d : ℤ) where
  pub source_here : s ≡ i → rows_bytes (source_rows name i (t ∷ []) (s ∷ []) (d ∷ [])) ≡ row_bytes (name ∷ t ∷ signed d ∷ [])
  unfolding source_rows rows_bytes
  source_here e = rw (eq-eqb s i e, source_rows) (append-nil (row_bytes (name ∷ t ∷ signed d ∷ [])))

  pub source_else : ((s ≡ i) → ⊥) → rows_bytes (source_rows name i (t ∷ []) (s ∷ []) (d ∷ [])) ≡ []
  unfolding source_rows rows_bytes
  source_else e = rw (ne_eqb s i e, source_rows)

  source_cons : (ts : List (List ℕ)) (ss : List ℕ) (ds : List ℤ)
      → rows_bytes (source_rows name i (t ∷ ts) (s ∷ ss) (d ∷ ds)) ≡ rows_bytes (source_rows name i (t ∷ []) (s ∷ []) (d ∷ [])) ++ rows_bytes (source_rows name i ts ss ds)
  unfolding source_rows rows_bytes
  source_cons ts ss ds = go (eqb s i) refl
    where
      go : (b : Bool) → eqb s i ≡ b → rows_bytes (source_rows name i (t ∷ ts) (s ∷ ss) (d ∷ ds)) ≡ rows_bytes (source_rows name i (t ∷ []) (s ∷ []) (d ∷ [])) ++ rows_bytes (source_rows name i ts ss ds)
      go true e = rw (e, source_rows) (ap (λ (x : List ℕ). x ++ rows_bytes (source_rows name i ts ss ds)) (sym (append-nil (row_bytes (name ∷ t ∷ signed d ∷ [])))))
      go false e = rw (e, source_rows)

-- the members from place j on
pub source_turn : (name : List ℕ) (i : ℕ) (ts : List (List ℕ)) (ss : List ℕ) (ds : List ℤ) (j : ℕ) → j < length ts → j < length ss → j < length ds
    → rows_bytes (source_rows name i (drop j ts) (drop j ss) (drop j ds)) ≡ rows_bytes (source_rows name i (get_or ts j [] ∷ []) (get_or ss j 0 ∷ []) (get_or ds j (pos 0) ∷ [])) ++ rows_bytes (source_rows name i (drop (j + 1) ts) (drop (j + 1) ss) (drop (j + 1) ds))
source_turn name i ts ss ds j ht hs hd =
    rw (add-one, drop-cons ts j [] ht, drop-cons ss j 0 hs, drop-cons ds j (pos 0) hd) (source_cons name i (get_or ts j []) (get_or ss j 0) (get_or ds j (pos 0)) (drop (suc j) ts) (drop (suc j) ss) (drop (suc j) ds))

-- no member is left
pub source_end : (name : List ℕ) (i : ℕ) (ts : List (List ℕ)) (ss : List ℕ) (ds : List ℤ) (j : ℕ) → length ts ≤ j → rows_bytes (source_rows name i (drop j ts) (drop j ss) (drop j ds)) ≡ []
unfolding source_rows rows_bytes
source_end name i ts ss ds j h = rw (drop_of_length-le ts h)

-- ---- whether a stratum has a treatment member

pub among_any : (i : ℕ) (ss : List ℕ) → among i ss ≡ list_any (λ y. eqb y i) ss
unfolding among
among_any i [] = refl
among_any i (s ∷ ss) = ap (λ b. eqb s i || b) (among_any i ss)

-- it has one exactly where it has a line
pub among_rows : (name : List ℕ) (i : ℕ) (ts : List (List ℕ)) (ss : List ℕ) (ds : List ℤ) → length ts ≡ length ss → length ds ≡ length ss → ltb 0 (length (source_rows name i ts ss ds)) ≡ among i ss
unfolding among source_rows
among_rows name i [] [] ds l m = refl
among_rows name i [] (s ∷ ss) ds l m = absurd (omega arith)
among_rows name i (t ∷ ts) [] ds l m = absurd (omega arith)
among_rows name i (t ∷ ts) (s ∷ ss) [] l m = absurd (omega arith)
among_rows name i (t ∷ ts) (s ∷ ss) (d ∷ ds) l m = go (eqb s i) (among_rows name i ts ss ds (omega arith) (omega arith))
  where
    go : (b : Bool) → ltb 0 (length (source_rows name i ts ss ds)) ≡ among i ss
        → ltb 0 (length {A = Row} (elim b [ true ↦ (name ∷ t ∷ signed d ∷ []) ∷ source_rows name i ts ss ds | false ↦ source_rows name i ts ss ds ])) ≡ (b || among i ss)
    go true e = lt-ltb 0 (suc (length (source_rows name i ts ss ds))) (omega arith)
    go false e = e

-- the residual's line
pub residual_rows_lem : (name : List ℕ) (sources : List Row) (found : Bool) (r : ℤ) → ltb 0 (length sources) ≡ found → residual_rows name sources r ≡ residual_of name found r
unfolding residual_rows residual_of
residual_rows_lem name sources found r e = rw (e, residual_rows, residual_of)

pub residual_none : (name : List ℕ) (r : ℤ) → rows_bytes (residual_of name false r) ≡ []
unfolding residual_of rows_bytes
residual_none name r = refl

pub residual_zero : (name : List ℕ) (found : Bool) (r : ℤ) → r ≡ pos 0 → rows_bytes (residual_of name found r) ≡ []
unfolding residual_of rows_bytes is_zero
residual_zero name true r e = rw e
residual_zero name false r e = refl

-- ---- names

pub length_names : (names lengths : List ℕ) (size : ℕ) → length (names_in names lengths size) ≡ size
unfolding names_in
length_names names lengths size = length_tabulate (name_in names lengths) size

pub name_at_lem : (names lengths : List ℕ) (size j : ℕ) → j < size → get_or (names_in names lengths size) j [] ≡ name_in names lengths j
unfolding names_in
name_at_lem names lengths size j h = get_d_tabulate (name_in names lengths) size j [] h

-- a residual that is not 0
pub residual_line : (name : List ℕ) (found : Bool) (r : ℤ) → found ≡ true → ((r ≡ pos 0) → ⊥) → rows_bytes (residual_of name found r) ≡ row_bytes (name ∷ word_residual ∷ signed r ∷ [])
unfolding residual_of rows_bytes is_zero
residual_line name true (pos n) f e = rw (ne_eqb n 0 (λ z. e (ap pos z)), residual_of) (append-nil (row_bytes (name ∷ word_residual ∷ signed (pos n) ∷ [])))
residual_line name true (negsuc n) f e = append-nil (row_bytes (name ∷ word_residual ∷ signed (negsuc n) ∷ []))
residual_line name false r f e = let z : ◌≡◌ {A = ℕ} 0 1 = cc in absurd (omega arith)

-- the members from place j on, by their names, places and numbers
pub source_step : (name : List ℕ) (i : ℕ) (names lengths : List ℕ) (size : ℕ) (places : List ℕ) (numbers : List ℤ) (j : ℕ) → j < size → size ≤ length places → size ≤ length numbers
    → rows_bytes (source_rows name i (drop j (names_in names lengths size)) (drop j (take size places)) (drop j (take size numbers)))
    ≡ rows_bytes (source_rows name i (name_in names lengths j ∷ []) (get_or places j 0 ∷ []) (get_or numbers j (pos 0) ∷ []))
    ++ rows_bytes (source_rows name i (drop (j + 1) (names_in names lengths size)) (drop (j + 1) (take size places)) (drop (j + 1) (take size numbers)))
source_step name i names lengths size places numbers j h hp hn =
    let ts = names_in names lengths size in
    let lt : j < length ts = omega (arith, length_names names lengths size) in
    let ls : j < length (take size places) = omega (arith, length-take-le size places hp) in
    let ld : j < length (take size numbers) = omega (arith, length-take-le size numbers hn) in
    source_turn name i ts (take size places) (take size numbers) j lt ls ld
    ∙ rw (name_at_lem names lengths size j h, get_or-take size places j 0 h, get_or-take size numbers j (pos 0) h)

-- the lines of a stratum, part by part
pub stratum_bytes : (name : List ℕ) (i : ℕ) (names lengths : List ℕ) (size : ℕ) (places : List ℕ) (numbers : List ℤ) (total r : ℤ) → size ≤ length places → size ≤ length numbers
    → (rows_bytes (source_rows name i (names_in names lengths size) (take size places) (take size numbers)) ++ rows_bytes (residual_of name (among i (take size places)) r)) ++ row_bytes (name ∷ word_total ∷ signed total ∷ [])
    ≡ rows_bytes (stratum_rows name i (names_in names lengths size) (take size places) (take size numbers) total r)
unfolding stratum_rows
stratum_bytes name i names lengths size places numbers total r hp hn =
    let ts = names_in names lengths size in
    let ss = take size places in
    let ds = take size numbers in
    let sources = source_rows name i ts ss ds in
    let last = (name ∷ word_total ∷ signed total ∷ []) ∷ [] in
    let l = length-take-le size places hp in
    let e = residual_rows_lem name sources (among i ss) r (among_rows name i ts ss ds (length_names names lengths size ∙ sym l) (length-take-le size numbers hn ∙ sym l)) in
    sym (rows_append (sources ++ residual_rows name sources r) last
    ∙ ap (λ (x : List ℕ). x ++ rows_bytes last) (rows_append sources (residual_rows name sources r) ∙ ap (λ (x : List Row). rows_bytes sources ++ rows_bytes x) e)
    ∙ ap (λ (x : List ℕ). (rows_bytes sources ++ rows_bytes (residual_of name (among i ss) r)) ++ x) (rows_one (name ∷ word_total ∷ signed total ∷ [])))

-- the strata from place i on
pub strata_step : (strata lens : List ℕ) (count : ℕ) (totals residuals : List ℤ) (ts : List (List ℕ)) (ss : List ℕ) (ds : List ℤ) (i : ℕ) → i < count → count ≤ length totals → count ≤ length residuals
    → rows_bytes (strata_rows (i + 1) (drop i (names_in strata lens count)) (drop i (take count totals)) (drop i (take count residuals)) ts ss ds)
    ≡ rows_bytes (stratum_rows (name_in strata lens i) (i + 1) ts ss ds (get_or totals i (pos 0)) (get_or residuals i (pos 0)))
    ++ rows_bytes (strata_rows (i + 1 + 1) (drop (i + 1) (names_in strata lens count)) (drop (i + 1) (take count totals)) (drop (i + 1) (take count residuals)) ts ss ds)
unfolding strata_rows
strata_step strata lens count totals residuals ts ss ds i h ht hr =
    let ps = names_in strata lens count in
    let es = take count totals in
    let rs = take count residuals in
    let lp : i < length ps = omega (arith, length_names strata lens count) in
    let le : i < length es = omega (arith, length-take-le count totals ht) in
    let lr : i < length rs = omega (arith, length-take-le count residuals hr) in
    let name : List ℕ = name_in strata lens i in
    let rows = stratum_rows name (i + 1) ts ss ds (get_or totals i (pos 0)) (get_or residuals i (pos 0)) in
    let rest = strata_rows (suc (i + 1)) (drop (suc i) ps) (drop (suc i) es) (drop (suc i) rs) ts ss ds in
    let first : strata_rows (i + 1) (drop i ps) (drop i es) (drop i rs) ts ss ds ≡ rows ++ rest =
    rw (drop-cons ps i [] lp, drop-cons es i (pos 0) le, drop-cons rs i (pos 0) lr, name_at_lem strata lens count i h, get_or-take count totals i (pos 0) h, get_or-take count residuals i (pos 0) h) in
    let same : rest ≡ strata_rows (i + 1 + 1) (drop (i + 1) ps) (drop (i + 1) es) (drop (i + 1) rs) ts ss ds =
    ap₂ (λ (k j : ℕ). strata_rows k (drop j ps) (drop j es) (drop j rs) ts ss ds) (sym (add-one (i + 1))) (sym (add-one i)) in
    ap rows_bytes first ∙ rows_append rows rest ∙ ap (λ (x : List Row). rows_bytes rows ++ rows_bytes x) same

-- no stratum is left
pub strata_end : (k : ℕ) (ps : List (List ℕ)) (es rs : List ℤ) (ts : List (List ℕ)) (ss : List ℕ) (ds : List ℤ) (i : ℕ) → length ps ≤ i → rows_bytes (strata_rows k (drop i ps) (drop i es) (drop i rs) ts ss ds) ≡ []
unfolding strata_rows rows_bytes
strata_end k ps es rs ts ss ds i h = rw (drop_of_length-le ps h)

-- ---- the first line, the last line, the line of a refusal

-- `=all`, tab, `=total`, tab
abbrev pub start_plots : List ℕ
start_plots = 61 ∷ 97 ∷ 108 ∷ 108 ∷ 9 ∷ 61 ∷ 116 ∷ 111 ∷ 116 ∷ 97 ∷ 108 ∷ 9 ∷ []

pub plots_bytes : (n : ℕ) → start_plots ++ decimal_of n ++ 10 ∷ [] ≡ row_bytes (word_all ∷ word_total ∷ decimal_of n ∷ [])
unfolding row_bytes
plots_bytes n = refl

-- `stratum`, tab, `source`, tab, `df`, end of the line
abbrev pub start_table : List ℕ
start_table = 115 ∷ 116 ∷ 114 ∷ 97 ∷ 116 ∷ 117 ∷ 109 ∷ 9 ∷ 115 ∷ 111 ∷ 117 ∷ 114 ∷ 99 ∷ 101 ∷ 9 ∷ 100 ∷ 102 ∷ 10 ∷ []

pub table_bytes_lem : (n : ℕ) (rows : List Row) → start_table ++ rows_bytes rows ++ row_bytes (word_all ∷ word_total ∷ decimal_of n ∷ []) ≡ rows_bytes (table_of n rows)
unfolding table_of rows_bytes row_bytes
table_bytes_lem n rows =
    let last = (word_all ∷ word_total ∷ decimal_of n ∷ []) ∷ [] in
    let e : rows_bytes rows ++ row_bytes (word_all ∷ word_total ∷ decimal_of n ∷ []) ≡ rows_bytes (rows ++ last) =
    sym (rows_append rows last ∙ ap (λ (x : List ℕ). rows_bytes rows ++ x) (rows_one (word_all ∷ word_total ∷ decimal_of n ∷ []))) in
    ap (λ (x : List ℕ). start_table ++ x) e

-- `refused`, tab
abbrev pub start_refused : List ℕ
start_refused = 114 ∷ 101 ∷ 102 ∷ 117 ∷ 115 ∷ 101 ∷ 100 ∷ 9 ∷ []

pub refused_bytes : (q : ℕ) (f s : List ℕ) → start_refused ++ decimal_of q ++ 9 ∷ [] ++ (f ++ 9 ∷ []) ++ s ++ 10 ∷ [] ≡ rows_bytes (refused_row q f s ∷ [])
unfolding refused_row row_bytes
refused_bytes q f s =
    let d = decimal_of q in
    let x = d ++ 9 ∷ [] in
    let y = f ++ 9 ∷ [] in
    let t = s ++ 10 ∷ [] in
    let e : x ++ y ++ s ++ 10 ∷ [] ≡ d ++ 9 ∷ (f ++ 9 ∷ t) =
    append_assoc (x ++ y) s (10 ∷ []) ∙ append_assoc x y t ∙ append_snoc d 9 (y ++ t) ∙ ap (λ (r : List ℕ). d ++ 9 ∷ r) (append_snoc f 9 t) in
    ap (λ (r : List ℕ). start_refused ++ r) e ∙ sym (rows_one (refused_row q f s))
