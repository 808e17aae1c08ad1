-- Searches over places, from 0, for the first that fails a test; the answers count from 1.
-- Assumes nothing.
use Rattle.std.specs.Prelude.{Bool, true, false, Option, Some, None, ℕ, zero, suc, ◌-◌, eqb}
use Rattle.design.specs.declared.questions.Places.{Places}

-- the least k from j on, k < j + left, at which the test fails, and 1; 0 where there is none
unfoldable pub first_from : (ℕ → Bool) → ℕ → ℕ → ℕ
first_from t j zero = 0
first_from t j (suc left) = elim (t j) [ true ↦ first_from t (suc j) left | false ↦ suc j ]

-- a place that is counted from 1, where 0 says that there is none
abbrev pub place_told : ℕ → Option ℕ
place_told zero = None
place_told (suc k) = Some (suc k)

-- the second place of the first failing pair whose first place is i + 1; 0 where there is none
unfoldable pub partner : (ℕ → ℕ → Bool) → ℕ → ℕ → ℕ
unfolding first_from
partner t n i = first_from (t i) (suc i) (n - suc i)

-- the first place of the first failing pair; 0 where there is none
unfoldable pub first_place : (ℕ → ℕ → Bool) → ℕ → ℕ
unfolding first_from partner
first_place t n = first_from (λ i. eqb (partner t n i) 0) 0 n

unfoldable pub second_place : (ℕ → ℕ → Bool) → ℕ → ℕ → ℕ
unfolding partner
second_place t n zero = 0
second_place t n (suc i) = partner t n i

-- the first failing pair of places below n
unfoldable pub first_pair_of : (ℕ → ℕ → Bool) → ℕ → Places
unfolding first_place second_place
first_pair_of t n = record { first = first_place t n; second = second_place t n (first_place t n) }

-- the second place, below n, of the first failing pair whose first place is i + 1; 0 where there is none
unfoldable pub cross_partner : (ℕ → ℕ → Bool) → ℕ → ℕ → ℕ
unfolding first_from
cross_partner t n i = first_from (t i) 0 n

-- the first place, below m, of the first failing pair; 0 where there is none
unfoldable pub cross_first : (ℕ → ℕ → Bool) → ℕ → ℕ → ℕ
unfolding first_from cross_partner
cross_first t m n = first_from (λ i. eqb (cross_partner t n i) 0) 0 m

-- its second place
unfoldable pub cross_second : (ℕ → ℕ → Bool) → ℕ → ℕ → ℕ
unfolding cross_partner
cross_second t n zero = 0
cross_second t n (suc i) = cross_partner t n i

-- the places of a pair that may be none: zeros for none
abbrev pub first_of : Option Places → ℕ
first_of None = 0
first_of (Some pair) = pair.first

abbrev pub second_of : Option Places → ℕ
second_of None = 0
second_of (Some pair) = pair.second
