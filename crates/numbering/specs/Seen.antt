-- The labels seen, chained by buckets: class c has a label, and the class before it in its bucket. Class 0 ends a chain.
-- Assumes nothing.
use Rattle.std.specs.Prelude.{◌≡◌, true, false, List, ℕ, zero, suc, ◌+◌, ◌*◌, ◌/◌, ◌%◌, ◌<◌, ◌≤◌, eqb, length, get_or, Option, Some, None}
use Rattle.rules.specs.Limits.{most_plots}

-- class numbers: 1 to 240, and 0 for none
abbrev pub class_numbers : ℕ
class_numbers = most_plots + 1

-- buckets that labels are sorted into
abbrev pub buckets : ℕ
buckets = 512

-- the bucket of a label
unfoldable pub bucket_of : ℕ → ℕ
bucket_of x = x * 2654435769 % 4294967296 / 8388608

-- the class labelled x among c and at most m − 1 classes chained from it, or 0
unfoldable pub look_up : List ℕ → List ℕ → ℕ → ℕ → ℕ → ℕ
look_up labels chain x zero c = 0
look_up labels chain x (suc m) zero = 0
look_up labels chain x (suc m) (suc c) = elim (eqb (get_or labels (suc c) 0) x) [
  | true ↦ suc c
  | false ↦ look_up labels chain x m (get_or chain (suc c) 0)
]

-- a class that was found; 0 is none
abbrev pub found : ℕ → Option ℕ
found zero = None
found (suc c) = Some (suc c)

-- each of the classes 1 to k is chained to an earlier one
abbrev pub Descends : List ℕ → ℕ → Type 0
Descends chain k = (c : ℕ) → 0 < c → c ≤ k → get_or chain c 0 < c

-- room for 240 classes, of which k are chained; each bucket starts at one of them, or is empty
pub record Chained (labels chain last : List ℕ) (k : ℕ) : Type 0 where
  pub labels_room : length labels ≡ class_numbers
  pub chain_room : length chain ≡ class_numbers
  pub last_room : length last ≡ buckets
  pub descends : Descends chain k
  pub heads : (b : ℕ) → get_or last b 0 ≤ k

-- the class labelled x, looked up in its bucket
abbrev pub look : List ℕ → List ℕ → List ℕ → ℕ → ℕ
look labels chain last x = look_up labels chain x class_numbers (get_or last (bucket_of x) 0)
