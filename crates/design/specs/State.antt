-- What the steps of closing keep: members in the order of their discovery, their numbers of classes, and a mark for each pair.
-- Members and pairs are counted from 0 here. Assumes nothing.
use Rattle.std.specs.Prelude.{◌≡◌, Bool, true, false, not, ◌||◌, Option, MatchOption, IfSome, List, [], ◌∷◌, ◌++◌, map, ℕ, suc, ◌+◌, ◌*◌, ◌%◌, ◌^◌, ◌≤◌, ◌<◌, eqb, ltb, length, get_or, set, take}
use Rattle.std.specs.Int.Bits.{bit_or}
use Rattle.rules.specs.Limits.{most_plots, most_members, family_bytes}
use Rattle.rules.specs.Factor.{Column, Finer, number, classes, index_of, supremum, orthogonal}
use Rattle.rules.specs.Family.{Family, ◌∈◌, Distinct, before, alike, members_of, insert_all}
use Rattle.rules.specs.Lists.{bit_at}
use Rattle.rules.specs.Closing.{both, only_supremum, too_many, family, close}
use Rattle.rules.specs.Relation.{member_at}
use Rattle.rules.proofs.Orthogonality.{by_counts}
use Rattle.rules.proofs.WorkList.{Found, Combined}
pub use Rattle.factor.specs.Lent.{column_at}

-- ---- members in a store

-- the store has room, and holds `size` members on n plots with their numbers of classes
pub record Held (n : ℕ) (store counts : List ℕ) (size : ℕ) : Type 0 where
  pub some : 1 ≤ n
  pub most : n ≤ most_plots
  pub room : length store ≡ family_bytes
  pub places : length counts ≡ most_members
  pub few : size ≤ most_members
  pub counted : (i : ℕ) → i < size → get_or counts i 0 ≡ classes (column_at n store i)

-- a factor with a classes on n plots is known to be finer than or equivalent to one with b, which is member j
abbrev pub told_finer : ℕ → ℕ → ℕ → ℕ → ℕ → Bool
told_finer n a b word j = eqb b 1 || (eqb a n || bit_at word j)

-- the words once it is noted that member a is finer than or equivalent to member b
abbrev pub noted : List ℕ → ℕ → ℕ → List ℕ
noted above a b = set above a (bit_or (get_or above a 0) (bit_or (get_or above b 0) (1 * 2 ^ b % 2 ^ 32)))

-- what is known of the order of members: bit b of word a says that member a is finer than or equivalent to member b
pub record Known (n : ℕ) (store above : List ℕ) (size : ℕ) : Type 0 where
  pub words : length above ≡ most_members
  pub sound : (a b : ℕ) → bit_at (get_or above a 0) b ≡ true → (a < size) × (b < size) × Finer n (column_at n store a) (column_at n store b)

-- the first place where the column F stands among the members S, `size` of them; or it is none of them
abbrev pub FirstAt : Family → ℕ → Column → Option ℕ → Type 0
FirstAt S size F r = MatchOption r (F ∈ S → ⊥) (λ i. (i < size) × (member_at S i ≡ F) × (i ≡ index_of alike S F))

-- The column F stands at place r among the members S, or after them.
pub data PlacedMember (n : ℕ) (S : Family) (F : Column) (r : ℕ) (store counts : List ℕ) : Type 0 where
  -- it is a member
  old : r < length S → member_at S r ≡ F → Held n store counts (length S) → members_of n store (length S) ≡ S → PlacedMember n S F r store counts
  -- it is new, and stands at the end
  new : r ≡ length S → r < most_members → (F ∈ S → ⊥) → Held n store counts (suc r) → members_of n store (suc r) ≡ S ++ F ∷ [] → PlacedMember n S F r store counts

-- the column F is none of the members S, and there is no room for it: the store is as it was
pub record NoRoom (n : ℕ) (S : Family) (F : Column) (store counts : List ℕ) : Type 0 where
  pub full : length S ≡ most_members
  pub fresh : F ∈ S → ⊥
  pub held : Held n store counts (length S)
  pub members : members_of n store (length S) ≡ S

-- the size once a column stands at a place
abbrev pub grown_to : ℕ → ℕ → ℕ
grown_to size place = elim (eqb place size) [ true ↦ size + 1 | false ↦ size ]

-- ---- the columns that a family starts from

-- the members are the columns As, none twice
pub record Begun (n : ℕ) (As : List Column) (store counts : List ℕ) (size : ℕ) : Type 0 where
  pub held : Held n store counts size
  pub most : size ≤ length As
  pub distinct : Distinct (members_of n store size)
  pub numbered : (F : Column) → F ∈ members_of n store size → number F ≡ F
  pub only : (F : Column) → F ∈ members_of n store size → F ∈ As
  pub given : (F : Column) → F ∈ As → F ∈ members_of n store size

-- ---- closing

-- what two members make
abbrev pub make_of : Bool → Column → Column → List Column
make_of true = both
make_of false = only_supremum

-- What is kept of two members: with infima, whether numbers of classes are as for two that are orthogonal; else whether they are orthogonal.
abbrev pub pair_mark : Bool → ℕ → Column → Column → Bool
pair_mark true n = by_counts
pair_mark false n = orthogonal n

-- the mark of the members b and a < b: an entry that is not 0
abbrev pub marked_row : List ℕ → ℕ → ℕ → Bool
marked_row marks b a = not (eqb (get_or marks (most_members * b + a) 0) 0)

-- the entry of a pair whose supremum stands at place q: 0 where the pair has not the mark
abbrev pub entry_of : Bool → ℕ → ℕ
entry_of true q = suc q
entry_of false q = 0

-- an entry that is not 0 is 1 and the place of the supremum of the two members
abbrev pub Joins : Family → ℕ → ℕ → ℕ → Type 0
Joins S b a entry = (q : ℕ) → entry ≡ suc q → (q < length S) × (member_at S q ≡ supremum (member_at S b) (member_at S a))

-- the mark of two members in either order
abbrev pub marked : List ℕ → ℕ → ℕ → Bool
marked marks i j = elim (ltb i j) [ true ↦ marked_row marks j i | false ↦ marked_row marks i j ]

-- Closing is under way: all pairs b, a < b with b < i are combined, and for b = i those with a < j.
pub record Work (n : ℕ) (infima : Bool) (Gs : List Column) (store counts marks : List ℕ) (size i j : ℕ) : Type 0 where
  pub held : Held n store counts size
  pub cells : length marks ≡ 1024
  pub numbered : (F : Column) → F ∈ members_of n store size → number F ≡ F
  pub found : Found (make_of infima) Gs (members_of n store size)
  pub given : (G : Column) → G ∈ Gs → G ∈ members_of n store size
  pub combined : Combined (make_of infima) Gs (members_of n store size) i j
  pub rows : (b a : ℕ) → a < b → b < i → marked_row marks b a ≡ pair_mark infima n (member_at (members_of n store size) b) (member_at (members_of n store size) a)
  pub row : (a : ℕ) → a < j → marked_row marks i a ≡ pair_mark infima n (member_at (members_of n store size) i) (member_at (members_of n store size) a)
  pub joins : (a : ℕ) → a < j → Joins (members_of n store size) i a (get_or marks (most_members * i + a) 0)

-- the entry names a member, and it is known that member j is finer than or equivalent to it
pub data NamesCoarser (n : ℕ) (counts above : List ℕ) (size j entry : ℕ) : Type 0 where
  names : (q : ℕ) → entry ≡ suc q → q < size → told_finer n (get_or counts j 0) (get_or counts q 0) (get_or above j 0) q ≡ true → NamesCoarser n counts above size j entry

-- The supremum of members i and j follows from what is known: member y is finer than j, and the supremum of i and y is coarser than j. Then
-- r is the entry of i and y.
pub data Follows (n : ℕ) (store marks : List ℕ) (size i j r : ℕ) : Type 0 where
  follows : (y q : ℕ) → y < j → r ≡ get_or marks (most_members * i + y) 0 → r ≡ suc q → q < size → Finer n (column_at n store y) (column_at n store j) → Finer n (column_at n store j) (column_at n store q) → Follows n store marks size i j r

-- what a step leaves, whatever it works towards: a store that has not shrunk, unless the family is too large
abbrev pub Kept : ℕ → List ℕ → List ℕ → ℕ → Option ℕ → Type 0
Kept n store counts size r = IfSome r (λ now. Held n store counts now × (size ≤ now))

-- the same, with what is known of the order of members
abbrev pub Advanced : ℕ → List ℕ → List ℕ → List ℕ → ℕ → Option ℕ → Type 0
Advanced n store counts above size r = IfSome r (λ now. Held n store counts now × (size ≤ now) × Known n store above now)

-- a step to the pair i, j: the new size, or none where the family is too large
abbrev pub Stepped : ℕ → Bool → List Column → List ℕ → List ℕ → List ℕ → Option ℕ → ℕ → ℕ → Type 0
Stepped n infima Gs store counts marks r i j = MatchOption r (close (make_of infima) Gs ≡ too_many) (λ now. Work n infima Gs store counts marks now i j)

-- all pairs are combined: the members are those of the closed family, or it is too large
abbrev pub Closed : ℕ → Bool → List Column → List ℕ → List ℕ → List ℕ → Option ℕ → Type 0
Closed n infima Gs store counts marks r =
    MatchOption r (close (make_of infima) Gs ≡ too_many) (λ now. Work n infima Gs store counts marks now now 0 × (close (make_of infima) Gs ≡ family (insert_all (members_of n store now) [])))

-- what closing under supremum up to the first row that adds a member leaves: the family is closed, or has members more
pub data ClosedOrMore (n : ℕ) (Gs : List Column) (store counts marks : List ℕ) (size r : ℕ) : Type 0 where
  whole : r ≡ size → Work n false Gs store counts marks r r 0 → ClosedOrMore n Gs store counts marks size r
  more : (r ≡ size → ⊥) → (i j : ℕ) → Work n false Gs store counts marks r i j → ClosedOrMore n Gs store counts marks size r

-- the same, or it is too large
abbrev pub Grows : ℕ → List Column → List ℕ → List ℕ → List ℕ → ℕ → Option ℕ → Type 0
Grows n Gs store counts marks size r = MatchOption r (close only_supremum Gs ≡ too_many) (ClosedOrMore n Gs store counts marks size)

-- ---- the order of members

-- the first of the first i places of the order whose member F stands before, or i
pub record RankOf (n : ℕ) (store order : List ℕ) (F : Column) (i r : ℕ) : Type 0 where
  pub most : r ≤ i
  pub passed : (p : ℕ) → p < r → before F (column_at n store (get_or order p 0)) ≡ false
  pub stops : r < i → before F (column_at n store (get_or order r 0)) ≡ true

-- the first of 32 entries are places of members, and put the members in order
pub record Sorted (S : Family) (order : List ℕ) : Type 0 where
  pub entries : length order ≡ most_members
  pub places : (i : ℕ) → i < length S → get_or order i 0 < length S
  pub members : map (λ (i : ℕ). member_at S i) (take (length S) order) ≡ insert_all S []
