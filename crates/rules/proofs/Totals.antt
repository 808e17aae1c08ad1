-- Laws of the numbers of an accepted sheet: the totals of the strata add up to the number of plots, and in each stratum the treatment members and the residual make up the total.
-- Assumes nothing.
use mathlib.Core.Path.{◌≡◌, refl, sym, ap, ◌∙◌}
use mathlib.Core.Logic.{inl}
use mathlib.Core.List.{List, [], ◌∷◌, map}
use Prim.Native.Nat.{ℕ, zero, suc, ◌+◌, ◌<◌}
use native.Mathlib.Nat.{not-suc-le-zero, le_of_suc-le-suc, add-zero}
use native.Mathlib.Omega.{arith}
use lib.IntN.{ℤ, pos, ◌+ℤ◌, ◌-ℤ◌, -ℤ-+ℤ_cancel}
use lib.ListN.{length, get_or}
use Rattle.rules.specs.Factor.{equality}
use Rattle.rules.specs.Family.{Family, ◌∈◌}
use Rattle.rules.specs.Design.{full_design}
use Rattle.rules.specs.Degrees.{degrees, add_up}
use Rattle.rules.specs.Strata.{stratum, sum_at, residuals_from, residuals}
use Rattle.rules.proofs.WellFormed.{accepted}
use Rattle.rules.proofs.DegreesLaws.{length_degrees}
use Rattle.rules.proofs.Shares.{degrees_total}
use Rattle.rules.proofs.Made.{WellMade, full_tells}

-- the degrees of freedom of a family that has E add up to the number of plots
pub made_total : (n : ℕ) (P : Family) → WellMade n P → equality n ∈ P → add_up (degrees n P) ≡ pos n
made_total n P m h = degrees_total n P (accepted P m.formed) m.on h

-- the `=total` numbers of an accepted sheet add up to N, the number in its last line
pub accepted_total : (n c d k : ℕ) (levels : List ℕ) (p r : ℕ) → (full_design n c d k levels p r).refusal ≡ 0 → add_up (degrees n (full_design n c d k levels p r).plot) ≡ pos n
accepted_total n c d k levels p r e =
    let t = full_tells n c d k levels p r in
    made_total n (full_design n c d k levels p r).plot (t.plot_made (inl e)) (t.has_equality_holds e)

-- a residual for each stratum
pub length_residuals : (i : ℕ) (es : List ℤ) (ss : List ℕ) (ds : List ℤ) → length (residuals_from i es ss ds) ≡ length es
unfolding residuals_from
length_residuals i [] ss ds = refl
length_residuals i (e ∷ es) ss ds = ap suc (length_residuals (suc i) es ss ds)

-- a residual is the stratum's number less those of its treatment members
pub residual_at_lem : (i : ℕ) (es : List ℤ) (ss : List ℕ) (ds : List ℤ) (k : ℕ) → k < length es → get_or (residuals_from i es ss ds) k (pos 0) ≡ get_or es k (pos 0) -ℤ sum_at (i + k) ss ds
unfolding residuals_from
residual_at_lem i [] ss ds k h = absurd (not-suc-le-zero h)
residual_at_lem i (e ∷ es) ss ds zero h = ap (λ (j : ℕ). e -ℤ sum_at j ss ds) (sym (add-zero i))
residual_at_lem i (e ∷ es) ss ds (suc k) h =
    residual_at_lem (suc i) es ss ds k (le_of_suc-le-suc h) ∙ ap (λ (j : ℕ). get_or es k (pos 0) -ℤ sum_at j ss ds) (across i k)
  where
    across : (a b : ℕ) → suc a + b ≡ a + suc b
    across a b = omega arith

-- the stratum at place k + 1: its residual and its treatment members' degrees of freedom make up its total
pub stratum_total : (n : ℕ) (P R : Family) (k : ℕ) → k < length P
    → get_or (residuals n P R) k (pos 0) +ℤ sum_at (suc k) (map (stratum n P) R) (degrees n R) ≡ get_or (degrees n P) k (pos 0)
unfolding residuals
stratum_total n P R k h =
    ap (λ (z : ℤ). z +ℤ sum_at (suc k) (map (stratum n P) R) (degrees n R))
    (residual_at_lem 1 (degrees n P) (map (stratum n P) R) (degrees n R) k (omega (arith, length_degrees n P)) ∙ ap (λ (j : ℕ). get_or (degrees n P) k (pos 0) -ℤ sum_at j (map (stratum n P) R) (degrees n R)) one)
    ∙ -ℤ-+ℤ_cancel (get_or (degrees n P) k (pos 0)) (sum_at (suc k) (map (stratum n P) R) (degrees n R))
  where
    one : 1 + k ≡ suc k
    one = omega arith
