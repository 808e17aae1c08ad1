-- Tables of numbers by first appearance.
-- Assumes nothing.
use Rattle.std.specs.Prelude.{◌≡◌, List, ℕ, ◌<◌, take}
use Rattle.rules.specs.Factor.{Column, at, number, classes}

-- a plot before plot u that has the label y
pub record Earlier (F : Column) (u y : ℕ) : Type 0 where
  pub plot : ℕ
  pub less : plot < u
  pub label : at F plot ≡ y

-- look tells the number of each label that a plot before plot u has, and 0 of the others
pub record Tells (F : Column) (u : ℕ) (look : ℕ → ℕ) : Type 0 where
  pub known : (p : ℕ) → p < u → look (at F p) ≡ at (number F) p
  pub only : (y : ℕ) → 0 < look y → Earlier F u y

-- the table has the number of each label that a plot before plot u has, and 0 for the others; so many labels are numbered
pub record Numbered (F : Column) (u : ℕ) (numbers : List ℕ) (count : ℕ) : Type 0 where
  pub tells : Tells F u (at numbers)
  pub total : count ≡ classes (take u F)
