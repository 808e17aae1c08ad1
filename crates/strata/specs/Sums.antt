-- Signed sums over places, counted from 0.
-- Assumes nothing.
use Rattle.std.specs.Prelude.{◌≡◌, Bool, true, false, List, ℕ, zero, suc, ◌≤◌, eqb, ℤ, pos, ◌+ℤ◌, ◌-ℤ◌, nat_abs, length, get_or}
use Rattle.rules.specs.Limits.{most_members}
use Rattle.rules.specs.Lists.{tabulate, for_places}

-- the numbers of those of the first m places that pass, added up
unfoldable pub sum_passing : (ℕ → Bool) → (ℕ → ℤ) → ℕ → ℤ
sum_passing t d zero = pos 0
sum_passing t d (suc m) = elim (t m) [ true ↦ sum_passing t d m +ℤ d m | false ↦ sum_passing t d m ]

-- a number far from the ends of 64 bits: 2 ^ 40 at most, either way
abbrev pub Small : ℤ → Type 0
Small z = nat_abs z ≤ 1099511627776

abbrev pub AllSmall : List ℤ → Type 0
AllSmall ds = (i : ℕ) → Small (get_or ds i (pos 0))

-- what is left to place p, from 0, when the numbers of those of the first m places that name it, from 1, are taken from its own
unfoldable pub residual_at : List ℤ → List ℤ → List ℕ → ℕ → ℕ → ℤ
unfolding sum_passing
residual_at own numbers places m p = get_or own p (pos 0) -ℤ sum_passing (λ t. eqb (get_or places t 0) (suc p)) (λ t. get_or numbers t (pos 0)) m

-- what is left to each place that has a number of its own, by places
abbrev pub residuals_of : List ℤ → List ℤ → List ℕ → List ℤ
residuals_of own numbers places = for_places (pos 0) (tabulate (residual_at own numbers places (length places)) (length own))

-- small numbers of plot members, small numbers of treatment members, and as many places
abbrev pub Unsubtracted : List ℤ → List ℤ → List ℕ → Type 0
Unsubtracted own numbers places =
    (length own ≤ most_members) × (length places ≤ most_members) × (length numbers ≡ length places) × AllSmall own × AllSmall numbers
