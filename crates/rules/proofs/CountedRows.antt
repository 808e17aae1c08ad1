-- C-13 of what is printed: in the table of an accepted sheet each line after the first ends with a natural number, so none has a minus.
-- Assumes nothing.
use mathlib.Core.Path.{◌≡◌, refl, ap}
use mathlib.Core.Bool.{not, ◌&&◌}
use mathlib.Core.List.{List, [], ◌∷◌, ◌++◌, map}
use Prim.Native.Nat.{ℕ, suc}
use lib.Dec.{eqb, ltb}
use lib.IntN.{ℤ}
use lib.ListN.{length}
use Rattle.rules.specs.Family.{Family}
use Rattle.rules.specs.Design.{full_design}
use Rattle.rules.specs.Degrees.{degrees, NonNeg, NoneBelow0}
use Rattle.rules.specs.Strata.{stratum, residuals, Trusted}
use Rattle.rules.specs.Sheet.{read, reading, levels_after}
use Rattle.rules.specs.Naming.{plot, treatment}
use Rattle.rules.specs.Lists.{decimal_of}
use Rattle.rules.specs.Table.{Row, word_stratum, word_source, word_df, word_residual, word_total, word_all, signed, is_zero, source_rows, residual_rows, stratum_rows, strata_rows, names_from, accepted_rows, design_rows, empty_table, outcome_rows, table_rows}
use Rattle.rules.proofs.Numbering.{by_cases}
use Rattle.rules.proofs.FullStrata.{full_trusted}

-- a line that ends with a natural number
pub record Counted (row : Row) : Type 0 where
  pub stratum_name : List ℕ
  pub source_name : List ℕ
  pub number : ℕ
  pub is : row ≡ stratum_name ∷ source_name ∷ decimal_of number ∷ []

unfoldable pub EachCounted : List Row → Type 0
EachCounted [] = Unit {0}
EachCounted (row ∷ rows) = Counted row × EachCounted rows

both_counted : (a b : List Row) → EachCounted a → EachCounted b → EachCounted (a ++ b)
unfolding EachCounted
both_counted [] b h k = k
both_counted (row ∷ a) b h k = (h.0, both_counted a b h.1 k)

-- a number that is not below 0 is written without a sign
signed_counted : (name source : List ℕ) (z : ℤ) → NonNeg z → Counted (name ∷ source ∷ signed z ∷ [])
unfolding signed
signed_counted name source z h = record { stratum_name = name; source_name = source; number = h.value; is = ap (λ (x : ℤ). name ∷ source ∷ signed x ∷ []) h.is }

module _ (name : List ℕ) (i : ℕ) where
  sources_counted : (ts : List (List ℕ)) (ss : List ℕ) (ds : List ℤ) → NoneBelow0 ds → EachCounted (source_rows name i ts ss ds)
  unfolding source_rows EachCounted
  sources_counted [] ss ds h = tt
  sources_counted (t ∷ ts) [] ds h = tt
  sources_counted (t ∷ ts) (s ∷ ss) [] h = tt
  sources_counted (t ∷ ts) (s ∷ ss) (d ∷ ds) h =
      let below : EachCounted (source_rows name i ts ss ds) = sources_counted ts ss ds (λ j. h (suc j)) in
      by_cases (eqb s i) (λ e. rw (e, source_rows) (signed_counted name t d (h 0), below)) (λ e. rw (e, source_rows) below)

  residual_counted : (sources : List Row) (r : ℤ) → NonNeg r → EachCounted (residual_rows name sources r)
  unfolding residual_rows EachCounted
  residual_counted sources r h =
      by_cases (ltb 0 (length sources) && not (is_zero r)) (λ e. rw (e, residual_rows) (signed_counted name word_residual r h, tt)) (λ e. rw (e, residual_rows) tt)

  stratum_counted : (ts : List (List ℕ)) (ss : List ℕ) (ds : List ℤ) (total r : ℤ) → NoneBelow0 ds → NonNeg total → NonNeg r → EachCounted (stratum_rows name i ts ss ds total r)
  unfolding stratum_rows EachCounted
  stratum_counted ts ss ds total r h k l =
      both_counted (source_rows name i ts ss ds ++ residual_rows name (source_rows name i ts ss ds) r) _
      (both_counted (source_rows name i ts ss ds) _ (sources_counted ts ss ds h) (residual_counted (source_rows name i ts ss ds) r l)) (signed_counted name word_total total k, tt)

strata_counted : (i : ℕ) (ps : List (List ℕ)) (es rs : List ℤ) (ts : List (List ℕ)) (ss : List ℕ) (ds : List ℤ) → NoneBelow0 es → NoneBelow0 rs → NoneBelow0 ds → EachCounted (strata_rows i ps es rs ts ss ds)
unfolding strata_rows EachCounted
strata_counted i [] es rs ts ss ds h k l = tt
strata_counted i (p ∷ ps) [] rs ts ss ds h k l = tt
strata_counted i (p ∷ ps) (e ∷ es) [] ts ss ds h k l = tt
strata_counted i (p ∷ ps) (e ∷ es) (r ∷ rs) ts ss ds h k l =
    both_counted (stratum_rows p i ts ss ds e r) _ (stratum_counted p i ts ss ds e r l (h 0) (k 0)) (strata_counted (suc i) ps es rs ts ss ds (λ j. h (suc j)) (λ j. k (suc j)) l)

-- a first line of three words, and lines that end with a natural number
pub record CountedTable (rows : List Row) : Type 0 where
  pub later : List Row
  pub is : rows ≡ (word_stratum ∷ word_source ∷ word_df ∷ []) ∷ later
  pub counted : EachCounted later

rows_counted : (text : List ℕ) (n : ℕ) (levels : List ℕ) (P R : Family) → Trusted n P R → CountedTable (accepted_rows text n levels P R)
unfolding accepted_rows EachCounted
rows_counted text n levels P R t = record {
  later = _;
  is = refl;
  counted = both_counted (strata_rows 1 (names_from plot text n levels P 1 (length P)) (degrees n P) (residuals n P R) (names_from treatment text n levels R 1 (length R)) (map (stratum n P) R) (degrees n R)) _
      (strata_counted 1 (names_from plot text n levels P 1 (length P)) (degrees n P) (residuals n P R) (names_from treatment text n levels R 1 (length R)) (map (stratum n P) R) (degrees n R)
      t.plot_strata.no_stratum t.no_residual t.no_treatment)
      (record { stratum_name = word_all; source_name = word_total; number = n; is = refl }, tt);
}

-- the table of a sheet that is read and whose design is accepted
pub printed_counted : (text : List ℕ) (n p t : ℕ) → reading text empty_table ≡ read n p t → (full_design n p t 6 (levels_after (read n p t) text empty_table) 7680 7680).refusal ≡ 0 → CountedTable (table_rows text)
unfolding table_rows outcome_rows design_rows
printed_counted text n p t e z =
    rw (e, table_rows) (rw (z, design_rows) (rows_counted text n levels _ _ (full_trusted n p t 6 levels 7680 7680 z)))
  where
    levels : List ℕ
    levels = levels_after (read n p t) text empty_table
