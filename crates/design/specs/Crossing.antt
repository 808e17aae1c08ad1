-- What is kept while plot members are crossed with treatment members: suprema in a store, and the place of each pair's in a table.
-- Members are counted from 0 here. Assumes nothing.
use Rattle.std.specs.Prelude.{◌≡◌, Bool, true, false, List, [], ◌∷◌, ◌++◌, map, Option, Some, None, ℕ, zero, suc, ◌+◌, ◌*◌, ◌≤◌, ◌<◌, length, get_or}
use Rattle.rules.specs.Limits.{most_plots, most_members}
use Rattle.rules.specs.Factor.{Column, Finer, supremum, orthogonal}
use Rattle.rules.specs.Lists.{bit_at}
use Rattle.rules.specs.Family.{insert_all}
use Rattle.design.specs.State.{column_at, Held, Begun}
use Rattle.design.specs.Treatments.{Member, orthogonal_at}

-- a family buffer has `size` members on n plots, numbered, with these numbers of classes
abbrev pub Counted : ℕ → List ℕ → List ℕ → ℕ → Type 0
Counted n family counts size = (i : ℕ) → i < size → Member n family i (get_or counts i 0)

-- each bit of a word is the place of a member that is finer than or equivalent to member i
abbrev pub FinerBits : ℕ → List ℕ → ℕ → ℕ → Type 0
FinerBits n family word i = (k : ℕ) → bit_at word k ≡ true → (k < most_members) × Finer n (column_at n family k) (column_at n family i)

-- what is known of the members of a family buffer: numbers of classes, and words of finer members
pub record Ordered (n : ℕ) (family counts finer : List ℕ) (size : ℕ) : Type 0 where
  pub some : 1 ≤ n
  pub most : n ≤ most_plots
  pub few : size ≤ most_members
  pub counted : Counted n family counts size
  pub words : (k : ℕ) → FinerBits n family (get_or finer k 0) k

-- a store that suprema are added to; `over` says that there were more than it has room for
pub record Growing (n : ℕ) (store counts : List ℕ) (size : ℕ) (over : Bool) : Type 0 where
  pub held : Held n store counts size
  pub full : over ≡ true → size ≡ most_members

-- the store holds what it held, and perhaps more
pub record Grown (n : ℕ) (store : List ℕ) (size : ℕ) (after : List ℕ) (size' : ℕ) : Type 0 where
  pub more : size ≤ size'
  pub keeps : (k : ℕ) → k < size → column_at n after k ≡ column_at n store k

-- the columns As are placed, or more than 32 of them differ
pub data Placing (n : ℕ) (As : List Column) (store counts : List ℕ) (size : ℕ) (over : Bool) : Type 0 where
  exceeded : over ≡ true → most_members < length (insert_all As []) → Placing n As store counts size over
  begun : over ≡ false → Begun n As store counts size → Placing n As store counts size over

-- what is placed, and the column F
abbrev pub Adds : ℕ → List ℕ → List ℕ → ℕ → Bool → Column → List ℕ → List ℕ → ℕ → Bool → Type 0
Adds n store counts size over F after counts' size' over' = (As : List Column) → Placing n As store counts size over → Placing n (As ++ F ∷ []) after counts' size' over'

-- where a column F stands in the store, if it has a place there
abbrev pub Stands : ℕ → Column → List ℕ → ℕ → Option ℕ → Type 0
Stands n F store size place = (q : ℕ) → place ≡ Some q → (q < size) × (column_at n store q ≡ F)

-- the supremum of F and G, which are orthogonal, stands at place q of the `size` that the store holds
pub record Join (n : ℕ) (F G : Column) (store : List ℕ) (size q : ℕ) : Type 0 where
  pub less : q < size
  pub is : column_at n store q ≡ supremum F G
  pub test : orthogonal n F G ≡ true

-- the place in an entry as it is kept, one more; none in 0
abbrev pub place_in : ℕ → Option ℕ
place_in zero = None
place_in (suc q) = Some q

-- the places in all entries
abbrev pub places_in : List ℕ → List (Option ℕ)
places_in entries = map place_in entries

-- the entry of plot member i and treatment member j in a table
abbrev pub entry_at : List (Option ℕ) → ℕ → ℕ → Option ℕ
entry_at joins i j = get_or joins (most_members * i + j) None

-- an entry for each pair of a plot and a treatment member: the place of their supremum, where it is known
pub record Joins (n : ℕ) (plot first store : List ℕ) (size : ℕ) (joins : List (Option ℕ)) : Type 0 where
  pub cells : length joins ≡ 1024
  pub sound : (i j q : ℕ) → i < most_members → j < most_members → entry_at joins i j ≡ Some q → Join n (column_at n plot i) (column_at n first j) store size q

-- plot member i and treatment member j are orthogonal if their entry has a place, and are not if they are the pair `a`, `b`
pub record Tested (n : ℕ) (plot first : List ℕ) (joins : List (Option ℕ)) (a b i j : ℕ) : Type 0 where
  pub joined : (q : ℕ) → entry_at joins i j ≡ Some q → orthogonal_at n plot first i j ≡ true
  pub apart : i ≡ a → j ≡ b → orthogonal_at n plot first i j ≡ false

-- q is the place in the entry that belongs to a bit of a word: the entries of all bits are `step` apart, and that of bit 0 would stand at `at`
pub record Chosen (joins : List (Option ℕ)) (at step word q : ℕ) : Type 0 where
  pub bit : ℕ
  pub marked : bit_at word bit ≡ true
  pub entry : get_or joins (at + step * bit) None ≡ Some q
