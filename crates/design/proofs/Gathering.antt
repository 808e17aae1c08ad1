-- Laws of points as they are met column by column, and of columns gathered on them.
-- Assumes nothing.
use mathlib.Core.Path.{◌≡◌, refl, sym, ap, ◌∙◌, subst}
use mathlib.Core.Bool.{true, false}
use mathlib.Core.List.{map}
use Prim.Native.Nat.{ℕ, ◌+◌, ◌-◌, ◌≤◌, ◌<◌}
use native.Mathlib.Nat.{not-suc-le-zero}
use native.Mathlib.Omega.{arith}
use lib.ListN.{length, take, set, length-map}
use lib.Seq.{get_or-take, get_or-set_same, get_or-set_other, ext_get_or}
use lib.Dec.{eqb}
use borrow.Author.Tests.{eqb-true, eqb-false}
use Rattle.rules.specs.Factor.{Column, at, Finer, classes, infimum, universal}
use Rattle.rules.proofs.Bounds.{finer_trans, infimum_left, infimum_right}
use Rattle.rules.proofs.Numbering.{by_cases}
use Rattle.design.specs.Points.{Points, Ranged, points_on_plots}
use Rattle.design.proofs.Judge.{get_d_map}
use Rattle.design.proofs.PointLaws.{points_universal, points_more}
use Rattle.design.proofs.Pasted.{in_range}

-- ---- points met

-- the points p of those of the first i columns that are met
abbrev pub Met : ℕ → ℕ → Column → (ℕ → Column) → (ℕ → Type 0) → ℕ → Type 0
Met n m p column IsMet i = Points n m p × ((k : ℕ) → k < i → IsMet k → Finer n p (column k))

-- no column
pub met_none : (n : ℕ) → 1 ≤ n → (p : Column) (column : ℕ → Column) (IsMet : ℕ → Type 0) → p ≡ universal n → Met n 1 p column IsMet 0
met_none n some p column IsMet e = rw e (points_universal n some, λ k h. absurd (not-suc-le-zero h))

module _ (n m : ℕ) (p : Column) (column : ℕ → Column) (IsMet : ℕ → Type 0) (i : ℕ) (h : Met n m p column IsMet i) where
  -- column i is not met
  pub met_same : (m' : ℕ) (p' : Column) → m' ≡ m → p' ≡ p → (IsMet i → ⊥) → Met n m' p' column IsMet (i + 1)
  met_same m' p' z w out = rw (z, w) (h.0, λ k l d. h.1 k (let q : k ≡ i → ⊥ = λ x. out (subst IsMet x d) in omega (arith, q)) d)

  -- it is met
  pub met_more : (m' : ℕ) (p' : Column) → m' ≡ classes (infimum (column i) p) → p' ≡ infimum (column i) p → length (column i) ≡ n → Met n m' p' column IsMet (i + 1)
  met_more m' p' z w l = rw (z, w) (points_more F p l h.0.on (classes (infimum F p)) refl, λ k q d. by_cases (eqb k i) (here k) (there k q d))
    where
      F : Column
      F = column i

      here : (k : ℕ) → eqb k i ≡ true → Finer n (infimum F p) (column k)
      here k e = subst (λ (x : ℕ). Finer n (infimum F p) (column x)) (sym (eqb-true k i e)) (infimum_left n F p l h.0.on)

      there : (k : ℕ) → k < i + 1 → IsMet k → eqb k i ≡ false → Finer n (infimum F p) (column k)
      there k w d e = finer_trans n (infimum F p) p (column k) (infimum_right n F p l h.0.on) (h.1 k (omega (arith, eqb-false k i e)) d)

-- ---- columns gathered

-- one plot more: an earlier plot of the same point has the same label
pub gathered_plot : (n : ℕ) (p F column : Column) (u : ℕ) → u < n → Ranged n (take n p) → Finer n (take n p) F → length column ≡ 240
    → ((v : ℕ) → v < u → at column (at p v - 1) ≡ at F v) → (y : ℕ) → y ≡ at F u → (v : ℕ) → v < u + 1 → at (set column (at p u - 1) y) (at p v - 1) ≡ at F v
gathered_plot n p F column u h r f l all y e v k = by_cases (eqb (at p v) (at p u)) here there
  where
    of_u : (0 < at p u) × (at p u ≤ 240)
    of_u = in_range n p r u h

    of_v : (0 < at p v) × (at p v ≤ 240)
    of_v = in_range n p r v (omega arith)

    here : eqb (at p v) (at p u) ≡ true → at (set column (at p u - 1) y) (at p v - 1) ≡ at F v
    here q =
        let w : at p v ≡ at p u = eqb-true (at p v) (at p u) q in
        ap (λ (x : ℕ). at (set column (at p u - 1) y) (x - 1)) w
        ∙ get_or-set_same column (at p u - 1) y 0 (omega (arith, of_u))
        ∙ e
        ∙ f u v h (omega arith) (get_or-take n p u 0 h ∙ sym w ∙ sym (get_or-take n p v 0 (omega arith)))

    there : eqb (at p v) (at p u) ≡ false → at (set column (at p u - 1) y) (at p v - 1) ≡ at F v
    there q =
        let w : at p v ≡ at p u → ⊥ = eqb-false (at p v) (at p u) q in
        let d : v ≡ u → ⊥ = λ z. w (ap (at p) z) in
        get_or-set_other column (at p u - 1) (at p v - 1) y 0 (λ z. w (omega (arith, of_u, of_v)))
        ∙ all v (omega (arith, d))

-- all plots
pub gathered_plots : (n : ℕ) (p F column : Column) → Ranged n (take n p) → length F ≡ n → ((v : ℕ) → v < n → at column (at p v - 1) ≡ at F v) → points_on_plots (take n p) column ≡ F
unfolding points_on_plots
gathered_plots n p F column r l all =
    let f : ℕ → ℕ = λ x. at column (x - 1) in
    let len : length (map f (take n p)) ≡ n = length-map (take n p) f ∙ r.0 in
    ext_get_or 0 (map f (take n p)) F (len ∙ sym l)
    (λ v h. get_d_map f (take n p) 0 v (omega (arith, len, r.0)) ∙ ap f (get_or-take n p v 0 (omega (arith, len))) ∙ all v (omega (arith, len)))
