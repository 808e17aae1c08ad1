-- Sums over the listed cells: each plot is in one of them, so they tell how many plots have each label.
-- Assumes nothing.
use mathlib.Core.Path.{◌≡◌, refl, sym, ap, ap₂, ◌∙◌}
use mathlib.Core.Bool.{true, false}
use mathlib.Core.List.{List, ◌∷◌}
use Prim.Native.Nat.{ℕ, zero, suc, ◌+◌, ◌≤◌, ◌<◌}
use native.Mathlib.Nat.{le_refl}
use native.Mathlib.Numerals.{add-one}
use native.Mathlib.Omega.{arith}
use lib.Dec.{eqb}
use lib.ListN.{length, set}
use lib.Seq.{get_or-set_same, get_or-set_other}
use borrow.Author.Tests.{eqb-true, eqb-false, eq-eqb, le-ltb}
use Rattle.rules.specs.Factor.{Column, at, infimum}
use Rattle.rules.proofs.Numbering.{by_cases, length_infimum}
use Rattle.rules.proofs.Tests.{count_none, count_same}
use Rattle.factor.specs.Sizes.{labelled}
use Rattle.standing.specs.Joining.{spread}
use Rattle.standing.specs.Cells.{Listed, LabelSizes, cell_size, sum_at, label_sum}
use Rattle.standing.proofs.Joining.{spread_at}
use Rattle.standing.proofs.CellTable.{entered, entered_here, entered_other, entered_all}

-- ---- sums by label

module _ (t : ℕ → ℕ) (H : Column) (z i : ℕ) where
  sum_yes : eqb z (at H i) ≡ true → sum_at t H (suc i) z ≡ sum_at t H i z + t i
  unfolding sum_at
  sum_yes e = rw (e, sum_at)

  sum_no : eqb z (at H i) ≡ false → sum_at t H (suc i) z ≡ sum_at t H i z
  unfolding sum_at
  sum_no e = rw (e, sum_at) (omega arith)

-- a sum over fewer places is no larger
pub sum_le : (t : ℕ → ℕ) (H : Column) (z i m : ℕ) → i ≤ m → sum_at t H i z ≤ sum_at t H m z
sum_le t H z i zero h = let e : i ≡ 0 = omega arith in rw e (omega arith)
sum_le t H z i (suc m) h =
    by_cases (eqb i (suc m))
    (λ e. let q : i ≡ suc m = eqb-true i (suc m) e in rw q (omega arith))
    (λ e. let ne : i ≡ suc m → ⊥ = eqb-false i (suc m) e in
    let less = sum_le t H z i m (omega (arith, ne)) in
    by_cases (eqb z (at H m)) (λ f. let s = sum_yes t H z m f in omega arith) (λ f. let s = sum_no t H z m f in omega arith))

-- one place more in a table of sums
pub sum_step : (t : ℕ → ℕ) (H : Column) (i : ℕ) (sums : List ℕ) → length sums ≡ 256 → at H i < 256 → ((z : ℕ) → z < 256 → at sums z ≡ sum_at t H i z)
    → (z : ℕ) → z < 256 → at (set sums (at H i) (at sums (at H i) + t i)) z ≡ sum_at t H (i + 1) z
sum_step t H i sums long byte are z hz =
    by_cases (eqb z (at H i))
    (λ e. let q : z ≡ at H i = eqb-true z (at H i) e in
    ap (at (set sums (at H i) (at sums (at H i) + t i))) q ∙ get_or-set_same sums (at H i) (at sums (at H i) + t i) 0 (omega arith)
    ∙ ap (λ (k : ℕ). k + t i) (are (at H i) byte ∙ ap (sum_at t H i) (sym q)) ∙ sym (rw add-one (sum_yes t H z i e)))
    (λ e. get_or-set_other sums (at H i) z (at sums (at H i) + t i) 0 (eqb-false z (at H i) e) ∙ are z hz ∙ sym (rw add-one (sum_no t H z i e)))

-- the entry after it
pub sum_next : (t : ℕ → ℕ) (H : Column) (i : ℕ) → sum_at t H (i + 1) (at H i) ≡ sum_at t H i (at H i) + t i
sum_next t H i = rw add-one (sum_yes t H (at H i) i (eq-eqb (at H i) (at H i) refl))

-- ---- the plots of the first cells: those whose number in the infimum is no larger

module _ (F G : Column) (few : length F ≤ 240) (l : length F ≡ length G) (X Y : Column) (listed : Listed F G X Y) (sizes : List ℕ) (counted : LabelSizes (infimum F G) sizes) where
  abbrev I : Column
  I = infimum F G

  long : length I ≡ length F
  long = length_infimum F G l

  -- a plot's number is that of its cell
  number_is : (u : ℕ) (h : u < length F) → at I u ≡ suc (listed.stands.place u h).plot
  number_is u h = let p = listed.stands.place u h in listed.number p.plot u p.less h (sym p.first) (sym p.second)

  -- the size of a cell
  size_is : (i : ℕ) → i < length X → cell_size sizes i ≡ labelled (length I) I (suc i)
  size_is i h = ap (at sizes) (add-one i) ∙ counted (suc i) (omega (arith, h, listed.few, few))

  -- H has for each cell the label that K has for its plots
  module _ (H K : Column) (even : length H ≡ length X) (own : (u : ℕ) (h : u < length F) → at H (listed.stands.place u h).plot ≡ at K u) where
    -- the labels by number
    abbrev t : List ℕ
    t = 0 ∷ H

    next_label : (i z : ℕ) → entered t I (suc (suc i)) z ≡ entered t I (suc i + 1) z
    next_label i z = ap (λ (x : ℕ). entered t I x z) (sym (add-one (suc i)))

    sums : (z i : ℕ) → i ≤ length X → sum_at (cell_size sizes) H i z ≡ entered t I (suc i) z
    unfolding sum_at entered
    sums z zero h = sym (count_none (length I) _ (λ v hv. let k : v < length F = rw long at hv in rw (le-ltb (at I v) 1 (omega (arith, number_is v k)))))
    sums z (suc i) h =
        by_cases (eqb z (at H i))
        (λ e. let q : z ≡ at H i = eqb-true z (at H i) e in
        sum_yes (cell_size sizes) H z i e ∙ ap₂ ◌+◌ (sums z i (omega arith) ∙ ap (entered t I (suc i)) q) (size_is i h)
        ∙ sym (ap (entered t I (suc (suc i))) q ∙ next_label i (at H i) ∙ entered_here t I (suc i)))
        (λ e. sum_no (cell_size sizes) H z i e ∙ sums z i (omega arith) ∙ sym (next_label i z ∙ entered_other t I (suc i) z (eqb-false z (at H i) e)))

    -- all cells
    sums_all : (z : ℕ) → label_sum sizes H z ≡ labelled (length F) K z
    unfolding labelled
    sums_all z =
        ap (λ (k : ℕ). sum_at (cell_size sizes) H k z) even ∙ sums z (length X) (le_refl _)
        ∙ entered_all t I (suc (length X)) (λ u h. let k : u < length F = rw long at h in omega (arith, number_is u k, (listed.stands.place u k).less)) z
        ∙ ap (λ (k : ℕ). labelled k (spread t I) z) long
        ∙ count_same (length F) _ _ (λ v hv. ap (eqb z) (spread_at t I v (rw long hv) ∙ ap (at t) (number_is v hv) ∙ own v hv))

  pub sums_first : (z : ℕ) → label_sum sizes X z ≡ labelled (length F) F z
  sums_first = sums_all X F refl (λ u h. (listed.stands.place u h).first)

  pub sums_second : (z : ℕ) → label_sum sizes Y z ≡ labelled (length F) G z
  sums_second = sums_all Y G listed.even (λ u h. (listed.stands.place u h).second)
