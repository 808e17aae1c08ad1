-- Laws of residuals: a stratum's is its degrees of freedom less those of its treatment members, each counted once, so that all add up to the number of plots.
-- Assumes nothing.
use mathlib.Core.Path.{◌≡◌, refl, sym, ap, ap₂, ◌∙◌, subst}
use mathlib.Core.Logic.{◌↔◌}
use mathlib.Core.Bool.{true, false}
use mathlib.Core.List.{List, [], ◌∷◌, map}
use Prim.Native.Nat.{ℕ, zero, suc, ◌+◌, ◌≤◌, ◌<◌}
use native.Mathlib.Nat.{not-suc-le-zero, suc_inj, suc-ne-zero}
use native.Mathlib.Omega.{arith}
use lib.Dec.{eqb}
use lib.Arith.{lt_of_le-ne}
use lib.IntN.{ℤ, pos, ◌+ℤ◌, ◌-ℤ◌, +ℤ_assoc, +ℤ_comm, +ℤ-neg_ℤ_cancel, -ℤ-+ℤ_cancel}
use lib.ListN.{length, get_or, length-map}
use borrow.Author.Tests.{eqb-true, eqb-false, eq-eqb, ne_eqb}
use Rattle.rules.specs.Factor.{Column}
use Rattle.rules.specs.Family.{Family, ◌∈◌, well_formed}
use Rattle.rules.specs.Design.{full_design}
use Rattle.rules.specs.Relation.{member_at}
use Rattle.rules.specs.Degrees.{degrees, add_up}
use Rattle.rules.specs.Strata.{all_have_stratum, stratum, sum_at, residuals_from, residuals}
use Rattle.rules.specs.Listing.{Enumerates}
use Rattle.rules.specs.Allocation.{IsStratum}
use Rattle.rules.proofs.Numbering.{by_cases}
use Rattle.rules.proofs.WellFormed.{member_at_lem}
use Rattle.rules.proofs.First.{member_suc}
use Rattle.rules.proofs.DegreesLaws.{length_degrees}
use Rattle.rules.proofs.Made.{full_tells}
use Rattle.rules.proofs.Printing.{stratum_some, stratum_most}
use Rattle.rules.proofs.Totals.{accepted_total, stratum_total}
use Rattle.rules.proofs.Allocation.{stratum_at}
use Rattle.rules.proofs.Listing.{enumerates_as}
use Rattle.rules.proofs.ChosenSums.{sum_enumerated}

module _ (i s : ℕ) (ss : List ℕ) (d : ℤ) (ds : List ℤ) where
  sum_here : eqb s i ≡ true → sum_at i (s ∷ ss) (d ∷ ds) ≡ d +ℤ sum_at i ss ds
  unfolding sum_at
  sum_here e = rw (e, sum_at)

  sum_there : eqb s i ≡ false → sum_at i (s ∷ ss) (d ∷ ds) ≡ sum_at i ss ds
  unfolding sum_at
  sum_there e = rw (e, sum_at)

-- ---- all strata together

-- what the strata from place i on, m of them, take of the treatment members' numbers
unfoldable sums_from : ℕ → ℕ → List ℕ → List ℤ → ℤ
sums_from i zero ss ds = pos 0
sums_from i (suc m) ss ds = sum_at i ss ds +ℤ sums_from (suc i) m ss ds

swap : (x y z : ℤ) → x +ℤ (y +ℤ z) ≡ y +ℤ (x +ℤ z)
swap x y z = sym (+ℤ_assoc x y z) ∙ ap (λ (w : ℤ). w +ℤ z) (+ℤ_comm x y) ∙ +ℤ_assoc y x z

across : (a b c d : ℤ) → (a +ℤ b) +ℤ (c +ℤ d) ≡ (a +ℤ c) +ℤ (b +ℤ d)
across a b c d = +ℤ_assoc a b (c +ℤ d) ∙ ap (λ (z : ℤ). a +ℤ z) (swap b c d) ∙ sym (+ℤ_assoc a c (b +ℤ d))

residual_sums : (i : ℕ) (es : List ℤ) (ss : List ℕ) (ds : List ℤ) → add_up (residuals_from i es ss ds) +ℤ sums_from i (length es) ss ds ≡ add_up es
unfolding add_up residuals_from sums_from
residual_sums i [] ss ds = refl
residual_sums i (e ∷ es) ss ds =
    across (e -ℤ sum_at i ss ds) (add_up (residuals_from (suc i) es ss ds)) (sum_at i ss ds) (sums_from (suc i) (length es) ss ds)
    ∙ ap₂ ◌+ℤ◌ (-ℤ-+ℤ_cancel e (sum_at i ss ds)) (residual_sums (suc i) es ss ds)

sums_none : (i m : ℕ) (ds : List ℤ) → sums_from i m [] ds ≡ pos 0
unfolding sums_from sum_at
sums_none i zero ds = refl
sums_none i (suc m) ds = ap (λ (z : ℤ). pos 0 +ℤ z) (sums_none (suc i) m ds)

-- a member whose stratum has a place before i counts nowhere, one from i on counts once
module _ (s : ℕ) (ss : List ℕ) (d : ℤ) (ds : List ℤ) where
  sums_before : (i m : ℕ) → s < i → sums_from i m (s ∷ ss) (d ∷ ds) ≡ sums_from i m ss ds
  unfolding sums_from
  sums_before i zero h = refl
  sums_before i (suc m) h = ap₂ ◌+ℤ◌ (sum_there i s ss d ds (ne_eqb s i (λ q. omega arith))) (sums_before (suc i) m (omega arith))

  sums_once : (i m : ℕ) → i ≤ s → s < i + m → sums_from i m (s ∷ ss) (d ∷ ds) ≡ d +ℤ sums_from i m ss ds
  unfolding sums_from
  sums_once i zero h l = let z : 1 ≤ 0 = omega arith in absurd (not-suc-le-zero z)
  sums_once i (suc m) h l =
      by_cases (eqb s i)
      (λ e. let q = eqb-true s i e in
      ap₂ ◌+ℤ◌ (sum_here i s ss d ds e) (sums_before (suc i) m (omega arith)) ∙ +ℤ_assoc d (sum_at i ss ds) (sums_from (suc i) m ss ds))
      (λ e. ap₂ ◌+ℤ◌ (sum_there i s ss d ds e) (sums_once (suc i) m (further (eqb-false s i e)) (omega arith)) ∙ swap (sum_at i ss ds) d (sums_from (suc i) m ss ds))
    where
      further : (s ≡ i → ⊥) → suc i ≤ s
      further n = lt_of_le-ne h (λ q. n (sym q))

sums_all : (i m : ℕ) (ss : List ℕ) (ds : List ℤ) → length ss ≡ length ds → ((j : ℕ) → j < length ss → (i ≤ get_or ss j 0) × (get_or ss j 0 < i + m)) → sums_from i m ss ds ≡ add_up ds
unfolding add_up
sums_all i m [] [] l h = sums_none i m []
sums_all i m [] (d ∷ ds) l h = absurd (suc-ne-zero _ (sym l))
sums_all i m (s ∷ ss) [] l h = absurd (suc-ne-zero _ l)
sums_all i m (s ∷ ss) (d ∷ ds) l h =
    sums_once s ss d ds i m (h 0 (omega arith)).0 (h 0 (omega arith)).1 ∙ ap (λ (z : ℤ). d +ℤ z) (sums_all i m ss ds (suc_inj l) (λ j k. h (suc j) (omega arith)))

pub at_map : (f : Column → ℕ) (R : Family) (j : ℕ) → j < length R → get_or (map f R) j 0 ≡ f (member_at R j)
at_map f [] j h = absurd (not-suc-le-zero h)
at_map f (T ∷ R) zero h = refl
at_map f (T ∷ R) (suc j) h = at_map f R j (omega arith)

-- where every treatment member has a stratum, residuals and treatment members' degrees of freedom add up to the strata's
pub residuals_total : (n : ℕ) (P R : Family) → all_have_stratum n P R ≡ true → add_up (residuals n P R) +ℤ add_up (degrees n R) ≡ add_up (degrees n P)
unfolding residuals
residuals_total n P R has =
    ap (λ (z : ℤ). add_up (residuals n P R) +ℤ z) (sym (sums_all 1 (length (degrees n P)) (map (stratum n P) R) (degrees n R) (length-map R (stratum n P) ∙ sym (length_degrees n R)) within))
    ∙ residual_sums 1 (degrees n P) (map (stratum n P) R) (degrees n R)
  where
    within : (j : ℕ) → j < length (map (stratum n P) R) → (1 ≤ get_or (map (stratum n P) R) j 0) × (get_or (map (stratum n P) R) j 0 < 1 + length (degrees n P))
    within j h =
        let l : j < length R = omega (arith, length-map R (stratum n P)) in
        let some = stratum_some n P R has (member_at R j) (member_at_lem R j l) in
        rw (at_map (stratum n P) R j l) (some, omega (arith, stratum_most n P (member_at R j) some, length_degrees n P))

-- in an accepted design they add up to the number of plots
pub accepted_residuals : (n c d k : ℕ) (levels : List ℕ) (p r : ℕ) → (full_design n c d k levels p r).refusal ≡ 0
    → add_up (residuals n (full_design n c d k levels p r).plot (full_design n c d k levels p r).treatment) +ℤ add_up (degrees n (full_design n c d k levels p r).treatment) ≡ pos n
accepted_residuals n c d k levels p r e =
    residuals_total n (full_design n c d k levels p r).plot (full_design n c d k levels p r).treatment ((full_tells n c d k levels p r).strata e)
    ∙ accepted_total n c d k levels p r e

-- ---- each stratum

-- "A stratum's residual is its degrees of freedom less those of its treatment members": the stratum is the plot member at k, from 0, and its treatment members stand at the places js
pub residual_is : (n : ℕ) (P R : Family) → well_formed P ≡ true → ((F : Column) → F ∈ P → length F ≡ n) → (k : ℕ) → k < length P
    → (js : List ℕ) → Enumerates (λ j. (j < length R) × IsStratum n P (member_at R j) (member_at P k)) js
    → get_or (residuals n P R) k (pos 0) ≡ get_or (degrees n P) k (pos 0) -ℤ add_up (map (λ j. get_or (degrees n R) j (pos 0)) js)
unfolding sum_at
residual_is n P R formed on k h js lists =
    sym (+ℤ-neg_ℤ_cancel (get_or (residuals n P R) k (pos 0)) taken)
    ∙ ap (λ (z : ℤ). z -ℤ taken) (stratum_total n P R k h)
    ∙ ap (λ (z : ℤ). get_or (degrees n P) k (pos 0) -ℤ z) (sum_enumerated 0 (λ s. eqb s (suc k)) (sum_at (suc k)) none here there ss (degrees n R) long js (enumerates_as js says lists))
  where
    ss : List ℕ
    ss = map (stratum n P) R

    taken : ℤ
    taken = sum_at (suc k) ss (degrees n R)

    none : (ds : List ℤ) → sum_at (suc k) [] ds ≡ pos 0
    none ds = refl

    here : (s : ℕ) (l : List ℕ) (d : ℤ) (ds : List ℤ) → eqb s (suc k) ≡ true → sum_at (suc k) (s ∷ l) (d ∷ ds) ≡ d +ℤ sum_at (suc k) l ds
    here s l d ds = sum_here (suc k) s l d ds

    there : (s : ℕ) (l : List ℕ) (d : ℤ) (ds : List ℤ) → eqb s (suc k) ≡ false → sum_at (suc k) (s ∷ l) (d ∷ ds) ≡ sum_at (suc k) l ds
    there s l d ds = sum_there (suc k) s l d ds

    long : length ss ≡ length (degrees n R)
    long = length-map R (stratum n P) ∙ sym (length_degrees n R)

    says : (j : ℕ) → ((j < length R) × IsStratum n P (member_at R j) (member_at P k)) ↔ ((j < length ss) × (eqb (get_or ss j 0) (suc k) ≡ true))
    says j = (
      λ w. (
        omega (arith, w.0, length-map R (stratum n P)),
        eq-eqb (get_or ss j 0) (suc k) (at_map (stratum n P) R j w.0 ∙ (stratum_at n P formed on (member_at R j) (suc k) (omega arith) h).1 (subst (λ (F : Column). IsStratum n P (member_at R j) F) (sym (member_suc P k)) w.1)),
      ),
      λ w. let l : j < length R = omega (arith, w.0, length-map R (stratum n P)) in (
        l,
        subst (λ (F : Column). IsStratum n P (member_at R j) F) (member_suc P k) ((stratum_at n P formed on (member_at R j) (suc k) (omega arith) h).0 (sym (at_map (stratum n P) R j l) ∙ eqb-true (get_or ss j 0) (suc k) w.1)),
      ),
    )
