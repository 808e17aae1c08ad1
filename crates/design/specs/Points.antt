-- Points: plots that no column parts, taken together. A family is closed on one plot of each point, and its members are columns of points.
-- Points and members on them are counted from 0, the labels of points from 1. Assumes nothing.
use Rattle.std.specs.Prelude.{◌≡◌, ◌⊎◌, List, map, ℕ, ◌-◌, ◌≤◌, ◌<◌, length}
use Rattle.rules.specs.Limits.{most_plots}
use Rattle.rules.specs.Factor.{Column, at, number, classes, equality}
use Rattle.rules.specs.Family.{Family, ◌∈◌, Distinct, members_of}
use Rattle.design.specs.State.{Held}

-- p has the point of each of n plots, numbered by first appearance; there are m
pub record Points (n m : ℕ) (p : Column) : Type 0 where
  pub on : length p ≡ n
  pub numbered : number p ≡ p
  pub many : classes p ≡ m

-- the labels of the first n plots are those of points in a column's memory
abbrev pub Ranged : ℕ → Column → Type 0
Ranged n p = (length p ≡ n) × ((u : ℕ) → u < n → (0 < at p u) × (at p u ≤ most_plots))

-- a column of points as a column of plots: each plot has the label of its point
unfoldable pub points_on_plots : Column → Column → Column
points_on_plots p F = map (λ (x : ℕ). at F (x - 1)) p

-- the members S but E are gathered: a store has them as columns of points
pub record Gathered (n m : ℕ) (p : Column) (S : Family) (store counts : List ℕ) (r : ℕ) : Type 0 where
  pub held : Held m store counts r
  pub distinct : Distinct (members_of m store r)
  pub numbered : (F : Column) → F ∈ members_of m store r → number F ≡ F
  pub only : (F : Column) → F ∈ members_of m store r → points_on_plots p F ∈ S
  pub given : (G : Column) → G ∈ S → (G ≡ equality n) ⊎ ((F : Column) × (F ∈ members_of m store r) × (points_on_plots p F ≡ G))
