-- Strata and residuals; questions 6, 15 and 16.
-- Assumes nothing.
use Rattle.std.specs.Prelude.{Bool, true, false, not, ◌&&◌, ◌||◌, List, [], ◌∷◌, map, ℕ, suc, eqb, leb, ℤ, pos, ◌+ℤ◌, ◌-ℤ◌, length}
use Rattle.rules.specs.Limits.{family_bytes}
use Rattle.rules.specs.Factor.{Column, finer}
use Rattle.rules.specs.Family.{Family, members_of, well_formed}
use Rattle.rules.specs.Design.{first_failing}
use Rattle.rules.specs.Lists.{for_places}
use Rattle.rules.specs.Relation.{family_within}
use Rattle.rules.specs.Degrees.{degrees, NoneBelow0, TrustedStrata}

-- every member passes the test
unfoldable pub all : (Column → Bool) → Family → Bool
all p [] = true
all p (F ∷ S) = elim (p F) [ true ↦ all p S | false ↦ false ]

-- "the plot member that is finer than or equivalent to it and to which every other such plot member is finer"
unfoldable pub is_stratum : ℕ → Family → Column → Column → Bool
unfolding finer all
is_stratum n P T F = finer n F T && all (λ G. not (finer n G T) || finer n G F) P

-- the place of the stratum of T, from 1; "where there is no such member it has no stratum": 0
unfoldable pub stratum : ℕ → Family → Column → ℕ
unfolding first_failing is_stratum
stratum n P T = first_failing (λ F. not (is_stratum n P T F)) 1 P

-- the degrees of freedom of the treatment members whose stratum has place i
unfoldable pub sum_at : ℕ → List ℕ → List ℤ → ℤ
sum_at i [] ds = pos 0
sum_at i (s ∷ ss) [] = pos 0
sum_at i (s ∷ ss) (d ∷ ds) = elim (eqb s i) [ true ↦ d +ℤ sum_at i ss ds | false ↦ sum_at i ss ds ]

-- what is left to the strata from place i on
unfoldable pub residuals_from : ℕ → List ℤ → List ℕ → List ℤ → List ℤ
unfolding sum_at
residuals_from i [] ss ds = []
residuals_from i (e ∷ es) ss ds = (e -ℤ sum_at i ss ds) ∷ residuals_from (suc i) es ss ds

-- "A stratum's residual is its degrees of freedom less those of its treatment members."
unfoldable pub residuals : ℕ → Family → Family → List ℤ
unfolding residuals_from degrees stratum
residuals n P R = residuals_from 1 (degrees n P) (map (stratum n P) R) (degrees n R)

-- C-13: "no treatment member and no residual is below 0", and what it says of strata, of a plot family and a final treatment family on n plots
pub record Trusted (n : ℕ) (P R : Family) : Type 0 where
  pub plot_strata : TrustedStrata n P
  pub no_treatment : NoneBelow0 (degrees n R)
  pub no_residual : NoneBelow0 (residuals n P R)

-- ---- the answer

-- the places of the strata by treatment member, the residuals by plot member
pub record StrataAnswer : Type 0 where
  pub refusal : ℕ
  pub places : List ℕ
  pub residuals : List ℤ

unfoldable pub strata_refused : ℕ → StrataAnswer
unfolding for_places
strata_refused q = record { refusal = q; places = for_places 0 []; residuals = for_places (pos 0) [] }

-- 16. "Has every treatment member a stratum?"
unfoldable pub all_have_stratum : ℕ → Family → Family → Bool
unfolding all stratum
all_have_stratum n P R = all (λ T. not (eqb (stratum n P T) 0)) R

unfoldable pub question16 : ℕ → Family → Family → StrataAnswer
unfolding all_have_stratum for_places stratum residuals strata_refused
question16 n P R = elim (all_have_stratum n P R) [
  | true ↦ record { refusal = 0; places = for_places 0 (map (stratum n P) R); residuals = for_places (pos 0) (residuals n P R) }
  | false ↦ strata_refused 16
]

-- 15, of both families
unfoldable pub question15 : ℕ → Family → Family → StrataAnswer
unfolding well_formed question16 strata_refused
question15 n P R = elim (well_formed P && well_formed R) [ true ↦ question16 n P R | false ↦ strata_refused 15 ]

-- 6, then 15, "Strata then ask 16": two family buffers, with the sizes of the families in them
unfoldable pub strata : ℕ → List ℕ → ℕ → List ℕ → ℕ → StrataAnswer
unfolding family_within question15 members_of strata_refused
strata n plot_buffer plot_size treatment_buffer treatment_size = elim (family_within n plot_buffer && leb family_bytes (length treatment_buffer)) [
  | true ↦ question15 n (members_of n plot_buffer plot_size) (members_of n treatment_buffer treatment_size)
  | false ↦ strata_refused 6
]
