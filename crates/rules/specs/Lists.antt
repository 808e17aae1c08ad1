-- Lists given by their elements, words given by their bits, decimal numbers.
-- Assumes nothing.
use Rattle.std.specs.Prelude.{Bool, true, false, List, [], ◌∷◌, ℕ, zero, suc, ◌+◌, ◌*◌, ◌/◌, ◌%◌, ◌^◌, eqb, ltb}
use Rattle.std.proofs.Math.ListN.{get_or}
use Rattle.rules.specs.Limits.{most_members}

module _ {A : Type 0} where
  -- the list f 0, f 1, .., f (n − 1)
  unfoldable pub tabulate : (ℕ → A) → ℕ → List A
  tabulate f zero = []
  tabulate f (suc n) = f 0 ∷ tabulate (λ k. f (suc k)) n

  -- "numbers given for each member .. are 0 past a family's size": the numbers of up to 32 members, and z for each place past them
  unfoldable pub for_places : A → List A → List A
  unfolding tabulate
  for_places z xs = tabulate (λ i. get_or xs i z) most_members

abbrev pub bit : Bool → ℕ
bit true = 1
bit false = 0

-- the number whose binary digit j, for j below n, is 1 exactly when t j
unfoldable pub word_of : (ℕ → Bool) → ℕ → ℕ
word_of t zero = 0
word_of t (suc n) = bit (t 0) + 2 * word_of (λ j. t (suc j)) n

-- binary digit j of w is 1
unfoldable pub bit_at : ℕ → ℕ → Bool
bit_at w j = eqb (w / 2 ^ j % 2) 1

-- the numbers from i on, below i + n, that pass a test
unfoldable pub passing_from : (ℕ → Bool) → ℕ → ℕ → List ℕ
passing_from t i zero = []
passing_from t i (suc n) = elim (t i) [ true ↦ i ∷ passing_from t (suc i) n | false ↦ passing_from t (suc i) n ]

-- the digits of n before the digits ds; a number below k needs at most k steps
unfoldable pub digits_before : ℕ → ℕ → List ℕ → List ℕ
digits_before zero n ds = ds
digits_before (suc k) n ds = elim (ltb n 10) [ true ↦ (48 + n) ∷ ds | false ↦ digits_before k (n / 10) ((48 + n % 10) ∷ ds) ]

-- a number in decimal, without leading zeros
unfoldable pub decimal_of : ℕ → List ℕ
unfolding digits_before
decimal_of n = digits_before (suc n) n []
