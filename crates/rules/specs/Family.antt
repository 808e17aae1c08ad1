-- Families of factors: the order of members, the level table and the family buffer, and question 15.
-- Assumes nothing.
use Rattle.std.specs.Prelude.{◌≡◌, Bool, true, false, ◌&&◌, ℕ, zero, suc, ◌+◌, ◌*◌, ◌≤◌, eqb, ltb, leb, length, take, drop}
use mathlib.Core.List.{List, [], ◌∷◌, ◌++◌, Memᴰ}
use Rattle.rules.specs.Limits.{most_plots, most_members}
use Rattle.rules.specs.Factor.{Column, number, classes}

-- The members of a family, in their order. Places are counted from 1.
abbrev pub Family : Type 0
Family = List Column

infix 20 ◌∈◌
abbrev pub ◌∈◌ : {A : Type 0} → A → List A → Type 0
x ∈ xs = Memᴰ x xs

-- ---- "Members stand by ascending number of classes; ties by the first plot where the columns differ, smaller number first."

-- "equal columns mean equivalent factors"
unfoldable pub alike : Column → Column → Bool
alike [] [] = true
alike [] (y ∷ G) = false
alike (x ∷ F) [] = false
alike (x ∷ F) (y ∷ G) = elim (eqb x y) [ true ↦ alike F G | false ↦ false ]

-- F has the smaller number at the first plot where the columns differ
unfoldable pub smaller : Column → Column → Bool
smaller [] [] = false
smaller [] (y ∷ G) = true
smaller (x ∷ F) [] = false
smaller (x ∷ F) (y ∷ G) = elim (eqb x y) [ true ↦ smaller F G | false ↦ ltb x y ]

-- F stands before G: it has fewer classes, or as many and the smaller number
unfoldable pub before : Column → Column → Bool
unfolding smaller classes
before F G = elim (eqb (classes F) (classes G)) [ true ↦ smaller F G | false ↦ ltb (classes F) (classes G) ]

-- F put in its place, unless it is a member: "Equivalent columns merge."
unfoldable pub insert : Column → Family → Family
unfolding alike before
insert F [] = F ∷ []
insert F (G ∷ S) = elim (alike F G) [ true ↦ G ∷ S | false ↦ elim (before F G) [ true ↦ F ∷ G ∷ S | false ↦ G ∷ insert F S ] ]

unfoldable pub insert_all : List Column → Family → Family
unfolding insert
insert_all [] S = S
insert_all (F ∷ Fs) S = insert_all Fs (insert F S)

-- each member stands before all that follow it
pub data Ascending : Family → Type 0 where
  empty : Ascending []
  cons : {F : Column} {S : Family} → ((G : Column) → G ∈ S → before F G ≡ true) → Ascending S → Ascending (F ∷ S)

-- no two members are equal
pub data Distinct {A : Type 0} : List A → Type 0 where
  none_left : Distinct []
  apart : {x : A} {xs : List A} → (x ∈ xs → ⊥) → Distinct xs → Distinct (x ∷ xs)

-- at most m columns have the property P
abbrev pub AtMost : ℕ → (Column → Type 0) → Type 0
AtMost m P = (S : Family) → Distinct S → ((F : Column) → F ∈ S → P F) → length S ≤ m

-- R lists just the columns with the property P, each before all that follow it (so none twice), and they are at most 32
pub record Lists (P : Column → Type 0) (R : Family) : Type 0 where
  pub ascending : Ascending R
  pub few : length R ≤ most_members
  pub only : (F : Column) → F ∈ R → P F
  pub all : (F : Column) → P F → F ∈ R

-- ---- lent memory

-- "Column c, plot u (both from 0) is number 240 × c + u": the columns c, c + 1, .. of a table on n plots, m of them
unfoldable pub columns_from : ℕ → List ℕ → ℕ → ℕ → List Column
columns_from n table c zero = []
columns_from n table c (suc m) = take n (drop (most_plots * c) table) ∷ columns_from n table (suc c) m

-- "Member i (from 1) has its N level numbers from byte 240 × (i − 1) on": the first m members of a family buffer
unfoldable pub members_of : ℕ → List ℕ → ℕ → Family
unfolding columns_from
members_of n buffer m = columns_from n buffer 0 m

-- The buffer once the members are written, the first of them at place i counted from 0. "Bytes not used are not touched."
unfoldable pub written : List ℕ → ℕ → Family → List ℕ
written buffer i [] = buffer
written buffer i (F ∷ S) = written (take (most_plots * i) buffer ++ F ++ drop (most_plots * i + length F) buffer) (suc i) S

-- ---- question 15

-- each member stands before the next: in order, "no two alike"
unfoldable pub ordered : Family → Bool
unfolding before
ordered [] = true
ordered (F ∷ []) = true
ordered (F ∷ G ∷ S) = elim (before F G) [ true ↦ ordered (G ∷ S) | false ↦ false ]

-- each member is numbered by first appearance
unfoldable pub all_numbered : Family → Bool
unfolding number alike
all_numbered [] = true
all_numbered (F ∷ S) = elim (alike (number F) F) [ true ↦ all_numbered S | false ↦ false ]

-- 15. "Is each family 1 to 32 members in the numbering and order above, no two alike? (It need not be closed.)"
unfoldable pub well_formed : Family → Bool
unfolding ordered all_numbered
well_formed S = ltb 0 (length S) && leb (length S) most_members && all_numbered S && ordered S
