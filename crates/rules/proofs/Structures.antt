-- The degrees of freedom of an orthogonal block structure in its order are not below 0 and add up to the number of plots.
-- Assumes nothing.
use mathlib.Core.Path.{◌≡◌, sym, ap, ◌∙◌, subst}
use Prim.Native.Nat.{ℕ, ◌<◌}
use native.Mathlib.Nat.{mul_comm}
use native.Mathlib.Omega.{arith}
use lib.IntN.{pos, ◌*ℤ◌, pos-*ℤ-pos}
use lib.ListN.{length}
use Rattle.rules.specs.Factor.{Column, number, supremum, equality, classes, Orthogonal}
use Rattle.rules.specs.Family.{Family, ◌∈◌}
use Rattle.rules.specs.Structure.{OrthogonalBlockStructure, Contains}
use Rattle.rules.specs.Degrees.{class_number, degrees, NoneBelow0, add_up}
use Rattle.rules.proofs.Supremum.{number_supremum}
use Rattle.rules.proofs.Extremes.{number_equality, length_equality}
use Rattle.rules.proofs.Bounds.{numbered_equal, length_supremum'}
use Rattle.rules.proofs.Orthogonality.{classes_size}
use Rattle.rules.proofs.WellFormed.{Accepted}
use Rattle.rules.proofs.DegreesLaws.{length_degrees, accepted_numbered}
use Rattle.rules.proofs.Shares.{nonneg_everywhere, degrees_total}
use Rattle.rules.proofs.Matrices.{trace, trace_form}
use Rattle.rules.proofs.Averages.{average, Weighs, average_multiply, average_trace}
use Rattle.rules.proofs.Parts.{Splits, Multiply, remainders_nonneg}
use Rattle.rules.proofs.Weights.{up_to, up_to_some, any_size, any_weighs}

-- L times the number of classes is the trace of the averaging matrix
pub classes_read : (n L : ℕ) (weight : Column → ℕ → ℕ) (S : Family) → Splits n L weight S → (F : Column) → F ∈ S → pos L *ℤ class_number F ≡ trace n (average weight F)
unfolding trace
classes_read n L weight S o F m = pos-*ℤ-pos L (classes F) ∙ ap pos (mul_comm L (classes F)) ∙ sym (average_trace n L weight F (o.on F m) (o.weighs F m))

-- in a family that splits no degree of freedom is below 0
pub splits_degrees : (n L : ℕ) (weight : Column → ℕ → ℕ) (S : Family) → Splits n L weight S → 0 < L → NoneBelow0 (degrees n S)
unfolding degrees
splits_degrees n L weight S o some =
    nonneg_everywhere (degrees n S) (λ i h. remainders_nonneg n L weight S o (trace n) (trace_form n) L class_number (classes_read n L weight S o) some some i (omega (arith, length_degrees n S)))

-- orthogonal factors with weights multiply
pub orthogonal_multiply : (n L : ℕ) (weight : Column → ℕ → ℕ) (F G : Column) → length F ≡ n → length G ≡ n → Weighs n L weight F → Weighs n L weight G → Weighs n L weight (supremum F G)
    → Orthogonal n F G → Multiply n L weight F G
orthogonal_multiply n L weight F G l_f l_g hF hG hK o = record { multiply = average_multiply n L weight F G l_f l_g hF hG hK o }

-- ---- orthogonal block structures that question 15 accepts

module _ (n : ℕ) (S : Family) (is : Accepted S) (o : OrthogonalBlockStructure n S) where
  -- a numbered factor that is equivalent to a member is that member
  itself : (F : Column) → length F ≡ n → number F ≡ F → Contains n S F → F ∈ S
  itself F l e c =
      subst (λ (G : Column). G ∈ S) (sym (accepted_numbered S is c.member c.is_member) ∙ numbered_equal n c.member F (o.on_plots c.member c.is_member) l c.equivalent ∙ e) c.is_member

  -- it has the supremum of every two members
  pub structure_supremum : (F G : Column) → F ∈ S → G ∈ S → supremum F G ∈ S
  structure_supremum F G m k =
      itself (supremum F G) (length_supremum' n F G (o.on_plots F m) (o.on_plots G k)) (number_supremum F G (o.on_plots F m ∙ sym (o.on_plots G k))) (o.has_suprema F G m k)

  -- and E
  pub structure_equality : equality n ∈ S
  structure_equality = itself (equality n) (length_equality n) (number_equality n) o.has_equality

  -- it splits, with any weights for its members
  pub structure_splits : (L : ℕ) (weight : Column → ℕ → ℕ) → ((F : Column) → F ∈ S → Weighs n L weight F) → Splits n L weight S
  structure_splits L weight h = record {
    accepted = is;
    on = o.on_plots;
    weighs = h;
    suprema = structure_supremum;
    multiplies = λ F G m k. orthogonal_multiply n L weight F G (o.on_plots F m) (o.on_plots G k) (h F m) (h G k) (h (supremum F G) (structure_supremum F G m k)) (o.orthogonal F G m k);
  }

  -- no degree of freedom is below 0
  pub structure_degrees : NoneBelow0 (degrees n S)
  structure_degrees = splits_degrees n (up_to n) (any_size n) S (structure_splits (up_to n) (any_size n) (λ F m. any_weighs n F)) (up_to_some n)

  -- they add up to the number of plots
  pub structure_total : add_up (degrees n S) ≡ pos n
  structure_total = degrees_total n S is o.on_plots structure_equality

  -- classes have one size, so the number of classes is a weight, with the number of plots for L
  pub structure_weighs : (F : Column) → F ∈ S → Weighs n n (λ G u. classes G) F
  structure_weighs F m u hu = classes_size n F (o.on_plots F m) (o.uniform F m) u hu
