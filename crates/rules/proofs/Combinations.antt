-- Laws of the combinations of counts: each belongs to exactly one plot, the first name slowest, and plots agree in a set of names exactly when their combinations are equal there.
-- Assumes nothing.
use mathlib.Core.Path.{◌≡◌, refl, ap, ap₂, ◌∙◌}
use mathlib.Core.Logic.{◌↔◌}
use mathlib.Core.Bool.{Bool, true, false}
use mathlib.Core.List.{List, [], ◌∷◌}
use Prim.Native.Nat.{ℕ, zero, suc, ◌+◌, ◌*◌, ◌/◌, ◌%◌, ◌≤◌, ◌<◌}
use native.Mathlib.Nat.{suc-mul, mul-le-mul_right, div-add-mod'}
use native.Mathlib.Omega.{arith}
use lib.Dec.{eqb, ltb}
use lib.ListN.{get_or}
use borrow.Author.Tests.{eqb-true, eqb-false, eq-eqb, ltb-true, ltb-false}
use Rattle.rules.specs.Formula.{plot_count, combination, OfCounts, no_name, one_more, Earlier, lower, alike}
use Rattle.rules.proofs.Numbering.{by_cases}
use Rattle.rules.proofs.Agreement.{later, agree, agree_one, agree_first, agree_rest, agree_pair, agree_all, split, high_part, low_part}

-- ---- agreement

agree_equal : (cs : List ℕ) (S : ℕ → Bool) (u v : ℕ) → agree cs S u v ≡ true → (j : ℕ) → S j ≡ true → get_or (combination cs u) j 0 ≡ get_or (combination cs v) j 0
unfolding combination
agree_equal [] S u v e j s = refl
agree_equal (c ∷ cs) S u v e zero s = eqb-true (u / plot_count cs) (v / plot_count cs) (rw s at (agree_first c cs S u v e))
agree_equal (c ∷ cs) S u v e (suc j) s = agree_equal cs (later S) (u % plot_count cs) (v % plot_count cs) (agree_rest c cs S u v e) j s

equal_agree : (cs : List ℕ) (S : ℕ → Bool) (u v : ℕ) → ((j : ℕ) → S j ≡ true → get_or (combination cs u) j 0 ≡ get_or (combination cs v) j 0) → agree cs S u v ≡ true
unfolding combination agree
equal_agree [] S u v h = refl
equal_agree (c ∷ cs) S u v h = agree_pair c cs S u v (first (S 0) (h 0)) (equal_agree cs (later S) (u % plot_count cs) (v % plot_count cs) (λ j s. h (suc j) s))
  where
    first : (b : Bool) → (b ≡ true → u / plot_count cs ≡ v / plot_count cs) → agree_one b (u / plot_count cs) (v / plot_count cs) ≡ true
    first true k = eq-eqb (u / plot_count cs) (v / plot_count cs) (k refl)
    first false k = refl

-- plots agree in a set exactly when their combinations are equal at its places
pub agree_places : (cs : List ℕ) (S : ℕ → Bool) (u v : ℕ) → (agree cs S u v ≡ true) ↔ ((j : ℕ) → S j ≡ true → get_or (combination cs u) j 0 ≡ get_or (combination cs v) j 0)
agree_places cs S u v = (agree_equal cs S u v, equal_agree cs S u v)

-- ---- "Plots run over all combinations"

-- a plot has a combination of the counts
pub combination_of : (cs : List ℕ) (u : ℕ) → u < plot_count cs → OfCounts cs (combination cs u)
unfolding plot_count combination
combination_of [] u h = no_name
combination_of (c ∷ cs) u h = let p = split c (plot_count cs) u h in one_more p.high (combination_of cs (u % plot_count cs) p.low)

-- each combination of the counts is a plot's
pub combination_plot : {cs ds : List ℕ} → OfCounts cs ds → (u : ℕ) × (u < plot_count cs) × (combination cs u ≡ ds)
unfolding plot_count combination
combination_plot no_name = (0, omega arith, refl)
combination_plot (one_more {c} {d} {cs} {ds} h o) =
    let b = combination_plot o in
    let w : ℕ = b.0 in
    let m : ℕ = plot_count cs in (
      d * m + w,
      omega (arith, b.1, suc-mul d m, mul-le-mul_right m h),
      ap₂ (λ (x : ℕ) (r : List ℕ). x ∷ r) (high_part m d w b.1) (ap (combination cs) (low_part m d w b.1) ∙ b.2),
    )

-- and of one only
pub combination_one : (cs : List ℕ) (u v : ℕ) → u < plot_count cs → v < plot_count cs → combination cs u ≡ combination cs v → u ≡ v
combination_one cs u v hu hv e = agree_all cs u v hu hv ((agree_places cs (λ j. true) u v).1 (λ j s. ap (λ (ds : List ℕ). get_or ds j 0) e))

-- ---- "the first name slowest"

-- of two plots the first has the earlier combination
pub combination_earlier : (cs : List ℕ) (u v : ℕ) → u < v → v < plot_count cs → Earlier (combination cs u) (combination cs v)
unfolding plot_count combination
combination_earlier [] u v h hv = absurd (none (omega arith))
  where
    none : 1 ≤ 0 → ⊥
    none z = omega arith
combination_earlier (c ∷ cs) u v h hv =
    by_cases (ltb (u / m) (v / m))
    (λ e. lower (ltb-true (u / m) (v / m) e))
    (λ e. let same = equal (ltb-false (u / m) (v / m) e) in
    rw same (alike (combination_earlier cs (u % m) (v % m) (less same) (split c m v hv).low)))
  where
    m : ℕ
    m = plot_count cs

    -- the first numbers are equal
    equal : v / m ≤ u / m → u / m ≡ v / m
    equal k = by_cases (eqb (u / m) (v / m)) (λ e. eqb-true (u / m) (v / m) e) (λ e. absurd (never (eqb-false (u / m) (v / m) e)))
      where
        never : (u / m ≡ v / m → ⊥) → ⊥
        never n =
            let g : suc (v / m) ≤ u / m = omega (arith, n, k) in
            omega (arith, h, div-add-mod' u m, div-add-mod' v m, (split c m v hv).low, suc-mul (v / m) m, mul-le-mul_right m g)

    -- so the rest decides
    less : u / m ≡ v / m → u % m < v % m
    less e = omega (arith, h, div-add-mod' u m, div-add-mod' v m, ap (λ (q : ℕ). q * m) e)
