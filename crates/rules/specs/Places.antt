-- Places in a family, the first place that fails a test and the first pair that does.
-- Assumes nothing.
use Rattle.std.specs.Prelude.{◌≡◌, ◌⊎◌, Bool, true, false, [], ℕ, ◌-◌, ◌≤◌, ◌<◌, length, get_or}
use Rattle.rules.specs.Factor.{Column}
use Rattle.rules.specs.Family.{Family}

-- the member at a place, places being counted from 1
abbrev pub at_place : Family → ℕ → Column
at_place S i = get_or S (i - 1) []

-- "the first member that fails": the member at place i fails, and all before it pass
pub record FirstPlace (p : Column → Bool) (S : Family) (i : ℕ) : Type 0 where
  pub least : 1 ≤ i
  pub most : i ≤ length S
  pub fails : p (at_place S i) ≡ false
  pub before : (h : ℕ) → 1 ≤ h → h < i → p (at_place S h) ≡ true

-- "in the order of the places, smaller first place, then smaller second": the pair of h and k is earlier than the pair of i and j
abbrev pub Earlier : ℕ → ℕ → ℕ → ℕ → Type 0
Earlier h k i j = (h < i) ⊎ ((h ≡ i) × (k < j))

-- "the first failing pair": the members at places i and j fail, and every earlier pair passes
pub record FirstPlaces (p : Column → Column → Bool) (S : Family) (i j : ℕ) : Type 0 where
  pub least : 1 ≤ i
  pub order : i < j
  pub most : j ≤ length S
  pub fails : p (at_place S i) (at_place S j) ≡ false
  pub before : (h k : ℕ) → 1 ≤ h → h < k → k ≤ length S → Earlier h k i j → p (at_place S h) (at_place S k) ≡ true

-- "in 13 the first is a plot member": the same of place i in one family and place j in another
pub record FirstCross (p : Column → Column → Bool) (P S : Family) (i j : ℕ) : Type 0 where
  pub least_first : 1 ≤ i
  pub least_second : 1 ≤ j
  pub most_first : i ≤ length P
  pub most_second : j ≤ length S
  pub fails : p (at_place P i) (at_place S j) ≡ false
  pub before : (h k : ℕ) → 1 ≤ h → 1 ≤ k → h ≤ length P → k ≤ length S → Earlier h k i j → p (at_place P h) (at_place S k) ≡ true
