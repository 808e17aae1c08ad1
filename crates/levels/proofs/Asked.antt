-- Laws of question 7: levels that are not 0.
-- Assumes nothing.
use mathlib.Core.Path.{◌≡◌, refl, sym, ap, ◌∙◌}
use mathlib.Core.Bool.{Bool, true, false, not, ◌&&◌}
use mathlib.Core.List.{List, [], ◌∷◌}
use Rattle.std.specs.List.{list_all}
use Prim.Native.Nat.{ℕ, zero, suc, ◌+◌, ◌*◌, ◌-◌, ◌≤◌, ◌<◌}
use native.Mathlib.Numerals.{add-one}
use native.Mathlib.Omega.{arith}
use lib.Dec.{eqb}
use lib.ListN.{length}
use Rattle.rules.specs.Factor.{Column}
use Rattle.rules.specs.Family.{columns_from}
use Rattle.rules.specs.Design.{nonzero, all_nonzero}
use Rattle.factor.specs.Lent.{column_at}
use Rattle.factor.proofs.Lent.{part_none}
use Rattle.std.proofs.Common.{◌⊎◌, inl, inr}

-- ---- one column

-- each level passes the test
pub nonzero_tested : (F : Column) → list_all (λ (x : ℕ). not (eqb x 0)) F ≡ nonzero F
unfolding nonzero
nonzero_tested [] = refl
nonzero_tested (x ∷ F) = go (eqb x 0) (nonzero_tested F)
  where
    go : (b : Bool) {p q : Bool} → p ≡ q → (not b && p) ≡ elim b [ true ↦ false | false ↦ q ]
    go true e = refl
    go false e = e

-- ---- the columns from c on, m of them

module _ (n : ℕ) (table : List ℕ) where
  all_head : (F : Column) (Fs : List Column) → nonzero F ≡ false → all_nonzero (F ∷ Fs) ≡ false
  unfolding all_nonzero
  all_head F Fs e = rw (e, all_nonzero)

  all_tail : (F : Column) (Fs : List Column) → nonzero F ≡ true → all_nonzero (F ∷ Fs) ≡ all_nonzero Fs
  unfolding all_nonzero
  all_tail F Fs e = rw (e, all_nonzero)

  module _ (c m : ℕ) (h : 0 < m) where
    rest : columns_from n table c m ≡ column_at n table c ∷ columns_from n table (c + 1) (m - 1)
    unfolding columns_from
    rest =
        let e : m ≡ suc (m - 1) = omega arith in
        ap (columns_from n table c) e ∙ ap (λ (i : ℕ). column_at n table c ∷ columns_from n table i (m - 1)) (sym (add-one c))

    pub all_stops : nonzero (column_at n table c) ≡ false → all_nonzero (columns_from n table c m) ≡ false
    all_stops e = ap all_nonzero rest ∙ all_head (column_at n table c) (columns_from n table (c + 1) (m - 1)) e

    pub all_on : nonzero (column_at n table c) ≡ true → all_nonzero (columns_from n table c m) ≡ all_nonzero (columns_from n table (c + 1) (m - 1))
    all_on e = ap all_nonzero rest ∙ all_tail (column_at n table c) (columns_from n table (c + 1) (m - 1)) e

  -- there is no level past the table
  pub all_past : (c m : ℕ) → length table ≤ 240 * c → all_nonzero (columns_from n table c m) ≡ true
  unfolding all_nonzero columns_from nonzero
  all_past c zero h = refl
  all_past c (suc m) h = all_tail (column_at n table c) (columns_from n table (suc c) m) (ap nonzero (sym (part_none n c table h))) ∙ all_past (suc c) m (omega arith)

  pub all_none : (c m : ℕ) → m ≤ 0 → all_nonzero (columns_from n table c m) ≡ true
  unfolding all_nonzero columns_from
  all_none c m h =
      let e : m ≡ 0 = omega arith in
      rw e

  -- nothing is left to ask, or no level
  pub all_rest : (c m : ℕ) → (m ≤ 0) ⊎ (length table ≤ 240 * c) → all_nonzero (columns_from n table c m) ≡ true
  all_rest c m (inl h) = all_none c m h
  all_rest c m (inr h) = all_past c m h
