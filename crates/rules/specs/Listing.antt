-- Lists of numbers in ascending order, none twice.
-- Assumes nothing.
use Rattle.std.specs.Prelude.{List, [], ◌∷◌, ℕ, ◌<◌}
use Rattle.rules.specs.Family.{◌∈◌}

-- each number is smaller than all that follow it
pub data Rising : List ℕ → Type 0 where
  no_number : Rising []
  then_larger : {x : ℕ} {xs : List ℕ} → ((y : ℕ) → y ∈ xs → x < y) → Rising xs → Rising (x ∷ xs)

-- the list of just those numbers that have the property P, ascending, none twice
pub record Enumerates (P : ℕ → Type 0) (xs : List ℕ) : Type 0 where
  pub rising : Rising xs
  pub only : (x : ℕ) → x ∈ xs → P x
  pub all : (x : ℕ) → P x → x ∈ xs
