-- Cells: a cell is what a class of F and a class of G have in common. It is known by the two labels.
-- Assumes nothing.
use Rattle.std.specs.Prelude.{◌≡◌, Bool, true, false, List, ℕ, zero, suc, ◌+◌, ◌*◌, ◌≤◌, ◌<◌, ◌⊎◌, eqb, length, take}
use Rattle.rules.specs.Limits.{most_plots}
use Rattle.rules.specs.Factor.{Column, at, every, classes, class_size, infimum}
use Rattle.factor.specs.Sizes.{labelled}
use Rattle.standing.specs.Joining.{Below, InOrder, spread}

-- one of the first n plots has the labels x and y
pub record Plot (n : ℕ) (F G : Column) (x y : ℕ) : Type 0 where
  pub plot : ℕ
  pub less : plot < n
  pub first : at F plot ≡ x
  pub second : at G plot ≡ y

-- one of the first u plots is in the cell listed at place i, which is the class i + 1 of the infimum
pub record Cell (u : ℕ) (F G X Y : Column) (i : ℕ) : Type 0 where
  pub plot : ℕ
  pub less : plot < u
  pub first : at F plot ≡ at X i
  pub second : at G plot ≡ at Y i
  pub number : at (infimum F G) plot ≡ suc i

-- X and Y have room for 240 labels; the first m are those of the cells of the first u plots, by first appearance
pub record Cover (u : ℕ) (F G X Y : Column) (m : ℕ) : Type 0 where
  pub x_room : length X ≡ most_plots
  pub y_room : length Y ≡ most_plots
  pub few : m ≤ u
  pub total : m ≡ classes (take u (infimum F G))
  pub cell : (i : ℕ) → i < m → Cell u F G X Y i
  pub order : InOrder (take u F) (take m X)

-- the labels X and Y are those of plots of F and G, and each plot has its labels there
pub record Stands (F G X Y : Column) : Type 0 where
  pub plot : (i : ℕ) → i < length X → Plot (length F) F G (at X i) (at Y i)
  pub place : (u : ℕ) → u < length F → Plot (length X) X Y (at F u) (at G u)

-- X and Y are the labels of the cells that have a plot, by first appearance: the cell at place i is the class i + 1 of the infimum
pub record Listed (F G X Y : Column) : Type 0 where
  pub few : length X ≤ length F
  pub even : length Y ≡ length X
  pub stands : Stands F G X Y
  pub number : (i u : ℕ) → i < length X → u < length F → at F u ≡ at X i → at G u ≡ at Y i → at (infimum F G) u ≡ suc i
  pub order : InOrder F X

-- t has for each label how many plots have it
abbrev pub LabelSizes : Column → List ℕ → Type 0
LabelSizes F t = (x : ℕ) → x < 256 → at t x ≡ labelled (length F) F x

-- r has at each plot's entry how many plots have that entry
abbrev pub EntrySizes : List ℕ → Column → List ℕ → Type 0
EntrySizes t F r = (u : ℕ) → u < length F → at r (at t (at F u)) ≡ class_size (length F) (spread t F) u

-- the size of the cell listed at place i: that of the class i + 1 of the infimum
abbrev pub cell_size : List ℕ → ℕ → ℕ
cell_size sizes i = at sizes (i + 1)

-- for each listed cell the sizes of the cell and of its entry make the product that those of its labels make
unfoldable pub even_cells : List ℕ → List ℕ → List ℕ → List ℕ → List ℕ → Column → Column → Bool
unfolding every
even_cells sizes t inK inF inG X Y =
    every (length X) (λ i. eqb (cell_size sizes i * at inK (at t (at X i))) (at inF (at X i) * at inG (at Y i)))

-- the sum of t over those of the first i places where H has the label x
unfoldable pub sum_at : (ℕ → ℕ) → Column → ℕ → ℕ → ℕ
sum_at t H zero x = 0
sum_at t H (suc i) x = sum_at t H i x + elim (eqb x (at H i)) [ true ↦ t i | false ↦ 0 ]

-- two columns of one length; the labels of F are below a, those of G below w
pub record InRanges (a w : ℕ) (F G : Column) : Type 0 where
  pub few : length F ≤ most_plots
  pub even : length G ≡ length F
  pub few_f : a ≤ 256
  pub few_g : w ≤ 256
  pub below_f : Below a F
  pub below_g : Below w G

-- two columns in the one order or in the other
abbrev pub Paired : Column → Column → Column → Column → Type 0
Paired F G X Y = ((F ≡ X) × (G ≡ Y)) ⊎ ((F ≡ Y) × (G ≡ X))

-- the sum of the sizes of the cells that have the label z in H
abbrev pub label_sum : List ℕ → Column → ℕ → ℕ
label_sum sizes H z = sum_at (cell_size sizes) H (length H) z

-- the table has at each label what the sizes of the cells that have it sum up to
abbrev pub Summed : List ℕ → Column → List ℕ → Type 0
Summed sizes H sums = (z : ℕ) → z < 256 → at sums z ≡ label_sum sizes H z
