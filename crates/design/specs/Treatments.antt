-- What the steps towards the treatment families keep.
-- Members are counted from 0 here. Assumes nothing.
use Rattle.std.specs.Prelude.{◌≡◌, Option, MatchOption, Bool, true, false, ◌||◌, List, [], ◌∷◌, ◌++◌, map, ℕ, zero, suc, ◌*◌, ◌≤◌, ◌<◌, eqb, ltb, length, get_or}
use Rattle.rules.specs.Limits.{most_plots, most_members, family_bytes}
use Rattle.rules.specs.Factor.{Column, number, classes, infimum, orthogonal}
use Rattle.rules.specs.Family.{members_of}
use Rattle.rules.specs.Closing.{only_supremum, too_many, close, infimum_all}
use Rattle.design.specs.State.{column_at, Begun}

-- the choices of fewer than k columns
unfoldable pub shorter : ℕ → List (List Column) → List (List Column)
shorter k [] = []
shorter k (C ∷ Cs) = elim (ltb (length C) k) [ true ↦ C ∷ shorter k Cs | false ↦ shorter k Cs ]

-- the choices, and those of fewer than k columns with T in front
unfoldable pub extended : ℕ → Column → List (List Column) → List (List Column)
unfolding shorter
extended k T Cs = Cs ++ map (λ (C : List Column). T ∷ C) (shorter k Cs)

-- a column with the infimum X of a choice of so many columns: with that of none it is the column
abbrev pub with_choice : ℕ → Column → Column → Column
with_choice zero T X = T
with_choice (suc l) T X = infimum T X

-- room for how many columns each of 64 choices has, which are at most 6
pub record Room (n : ℕ) (lengths : List ℕ) : Type 0 where
  pub some : 1 ≤ n
  pub most : n ≤ most_plots
  pub cells : length lengths ≡ 64
  pub small : (e : ℕ) → get_or lengths e 0 ≤ 6

-- the infima of the choices Cs are written, with how many columns each has
pub record Infima (n : ℕ) (infima lengths : List ℕ) (total : ℕ) (Cs : List (List Column)) : Type 0 where
  pub room : Room n lengths
  pub count : length Cs ≡ total
  pub few : total ≤ 64
  pub fits : most_plots * total ≤ length infima
  pub columns : members_of n infima total ≡ map (infimum_all n) Cs
  pub sizes : (e : ℕ) → e < total → get_or lengths e 0 ≡ length (get_or Cs e [])

-- the columns Gs are placed, or they are more than 32
abbrev pub AllPlaced : ℕ → List Column → List ℕ → List ℕ → Option ℕ → Type 0
AllPlaced n Gs store counts r = MatchOption r (close only_supremum Gs ≡ too_many) (Begun n Gs store counts)

-- plot member i and treatment member j are orthogonal
abbrev pub orthogonal_at : ℕ → List ℕ → List ℕ → ℕ → ℕ → Bool
orthogonal_at n plot first i j = orthogonal n (column_at n plot i) (column_at n first j)

-- on n plots, a factor with a classes is finer than any with b: the latter has one class, or the former one for each plot
abbrev pub known_finer : ℕ → ℕ → ℕ → Bool
known_finer n a b = eqb b 1 || eqb a n

-- a family buffer has a member on n plots at place i, numbered, with k classes
pub record Member (n : ℕ) (family : List ℕ) (i k : ℕ) : Type 0 where
  pub room : family_bytes ≤ length family
  pub place : i < most_members
  pub numbered : number (column_at n family i) ≡ column_at n family i
  pub count : k ≡ classes (column_at n family i)

-- a family buffer has `size` members on n plots, numbered
pub record Numbered (n : ℕ) (family : List ℕ) (size : ℕ) : Type 0 where
  pub room : family_bytes ≤ length family
  pub few : size ≤ most_members
  pub numbered : (i : ℕ) → i < size → number (column_at n family i) ≡ column_at n family i
