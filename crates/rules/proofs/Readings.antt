-- Readings beside the plots, whole numbers: N times the crude sums of the members of an orthogonal block structure are shared out among the strata as the degrees of freedom are. No share is below 0, and together they are N times the sum of the squared readings.
-- Assumes nothing.
use mathlib.Core.Path.{◌≡◌, sym, ap, ap₂, ◌∙◌}
use mathlib.Core.Bool.{Bool}
use mathlib.Core.List.{List, [], ◌∷◌}
use Prim.Native.Nat.{ℕ, ◌<◌}
use native.Mathlib.Omega.{arith}
use lib.Dec.{eqb}
use lib.IntN.{ℤ, pos, ◌+ℤ◌, ◌*ℤ◌, *ℤ-zero, *ℤ_comm}
use lib.ListN.{length}
use borrow.Author.Tests.{eqb-true, eqb-false, eq-eqb, ne_eqb}
use Rattle.rules.specs.Factor.{Column, at, same, labels, classes, equality}
use Rattle.rules.specs.Family.{Family}
use Rattle.rules.specs.Structure.{OrthogonalBlockStructure}
use Rattle.rules.specs.Degrees.{remainders, add_up, NoneBelow0}
use Rattle.rules.proofs.Numbering.{by_cases}
use Rattle.rules.proofs.Extremes.{length_equality}
use Rattle.rules.proofs.ClassCount.{at_up, classes_equality}
use Rattle.rules.proofs.WellFormed.{Accepted}
use Rattle.rules.proofs.Ring.{sum_to, sum_same, sum_times, sum_times_true, sum_true_times, sum_one, where_true, true_times, true_same, one_times, distrib_left, times_assoc}
use Rattle.rules.proofs.Shares.{equality_total, nonneg_everywhere, length_remainders}
use Rattle.rules.proofs.Matrices.{applied, squares, squares_form}
use Rattle.rules.proofs.Averages.{average, total, total_same, sum_by_class}
use Rattle.rules.proofs.Parts.{Splits, remainders_nonneg}
use Rattle.rules.proofs.Structures.{structure_splits, structure_weighs, structure_equality}

-- the number of classes as the weight of every plot: with classes of one size that is N over the class size
abbrev pub one_size : Column → ℕ → ℕ
one_size F u = classes F

-- the readings of the class with label g, added up
abbrev pub class_total : ℕ → (ℕ → ℤ) → Column → ℕ → ℤ
class_total n y F g = sum_to n (λ u. where_true (eqb g (at F u)) (y u))

-- N times the crude sum: the number of classes times the squared class totals, added up
abbrev pub crude : ℕ → (ℕ → ℤ) → Column → ℤ
crude n y F = pos (classes F) *ℤ total (labels eqb [] F) (λ g. class_total n y F g *ℤ class_total n y F g)

-- a factor goes out of a total
total_times : (a : ℤ) (s : List ℕ) (f : ℕ → ℤ) → total s (λ g. a *ℤ f g) ≡ a *ℤ total s f
unfolding total
total_times a [] f = sym (*ℤ-zero a)
total_times a (g ∷ s) f = ap (λ (z : ℤ). a *ℤ f g +ℤ z) (total_times a s f) ∙ sym (distrib_left a (f g) (total s f))

-- a factor in the middle goes out of a product
across : (a b c : ℤ) → a *ℤ (b *ℤ c) ≡ b *ℤ (a *ℤ c)
across a b c = sym (times_assoc a b c) ∙ ap (λ (z : ℤ). z *ℤ c) (*ℤ_comm a b) ∙ times_assoc b a c

module _ (n : ℕ) (y : ℕ → ℤ) where
  -- what the averaging matrix makes of the readings: the total of the plot's class, times the number of classes
  applied_average : (F : Column) (u : ℕ) → applied n (average one_size F) y u ≡ pos (classes F) *ℤ class_total n y F (at F u)
  unfolding average
  applied_average F u = sum_same n _ _ (λ v hv. true_times (same F u v) (pos (classes F)) (y v)) ∙ sum_times_true n (pos (classes F)) (λ v. same F u v) y

  -- N times the crude sum is read off the averaging matrix
  pub crude_read : (F : Column) → length F ≡ n → crude n y F ≡ squares n y (average one_size F)
  unfolding squares
  crude_read F l = sym (
      sum_same n _ _ (λ u hu. ap (λ (z : ℤ). y u *ℤ z) (applied_average F u))
      ∙ sum_by_class n F l (λ u. y u *ℤ (c *ℤ T (at F u)))
      ∙ total_same (labels eqb [] F) _ (λ g. c *ℤ (T g *ℤ T g)) (λ g m. each g)
      ∙ total_times c (labels eqb [] F) (λ g. T g *ℤ T g))
    where
      c : ℤ
      c = pos (classes F)

      T : ℕ → ℤ
      T = class_total n y F

      each : (g : ℕ) → sum_to n (λ u. where_true (eqb g (at F u)) (y u *ℤ (c *ℤ T (at F u)))) ≡ c *ℤ (T g *ℤ T g)
      each g =
          sum_same n _ _ (λ u hu. true_same (eqb g (at F u)) _ _ (λ e. ap (λ (h : ℕ). y u *ℤ (c *ℤ T h)) (sym (eqb-true g (at F u) e))))
          ∙ sum_true_times n (c *ℤ T g) (λ u. eqb g (at F u)) y
          ∙ across (T g) c (T g)

  -- of E it is N times the sum of the squared readings
  crude_equality : crude n y (equality n) ≡ pos n *ℤ sum_to n (λ u. y u *ℤ y u)
  unfolding squares equality
  crude_equality =
      crude_read (equality n) (length_equality n)
      ∙ sum_same n _ _ (λ u hu. ap (λ (z : ℤ). y u *ℤ z) (applied_average (equality n) u ∙ ap₂ ◌*ℤ◌ (ap pos (classes_equality n)) (own u hu)) ∙ across (y u) (pos n) (y u))
      ∙ sum_times n (pos n) (λ u. y u *ℤ y u)
    where
      own : (u : ℕ) → u < n → class_total n y (equality n) (at (equality n) u) ≡ y u
      own u hu = sum_same n _ _ (λ v hv. ap (λ (b : Bool). where_true b (y v)) (same_place v hv)) ∙ sum_one n u y hu
        where
          same_place : (v : ℕ) → v < n → eqb (at (equality n) u) (at (equality n) v) ≡ eqb v u
          same_place v hv =
              by_cases (eqb v u)
              (λ e. eq-eqb _ _ (ap (at (equality n)) (sym (eqb-true v u e))) ∙ sym e)
              (λ e. ne_eqb _ _ (λ q. eqb-false v u e (omega (arith, sym (at_up n 1 u hu) ∙ q ∙ at_up n 1 v hv))) ∙ sym e)

  module _ (S : Family) (is : Accepted S) (o : OrthogonalBlockStructure n S) where
    splits : Splits n n one_size S
    splits = structure_splits n S is o n one_size (structure_weighs n S is o)

    -- no stratum's share is below 0
    pub readings_nonneg : 0 < n → NoneBelow0 (remainders (crude n y) n S)
    readings_nonneg some =
        nonneg_everywhere (remainders (crude n y) n S)
        (λ i h. remainders_nonneg n n one_size S splits (squares n y) (squares_form n y) 1 (crude n y) (λ F m. one_times (crude n y F) ∙ crude_read F (o.on_plots F m)) (omega arith) some i
        (omega (arith, length_remainders (crude n y) n S)))

    -- together they are N times the sum of the squared readings
    pub readings_total : add_up (remainders (crude n y) n S) ≡ pos n *ℤ sum_to n (λ u. y u *ℤ y u)
    readings_total = equality_total n S is o.on_plots (crude n y) (structure_equality n S is o) ∙ crude_equality
