-- Questions 10, 12 and 13 by the cheaper tests of orthogonality.
-- Assumes nothing.
use mathlib.Core.Path.{◌≡◌}
use mathlib.Core.Bool.{true}
use mathlib.Core.List.{List}
use Prim.Native.Nat.{ℕ, ◌<◌}
use native.Mathlib.Omega.{arith}
use lib.ListN.{length}
use Rattle.rules.specs.Factor.{Column, infimum, supremum, uniform, orthogonal}
use Rattle.rules.specs.Family.{Family, ◌∈◌}
use Rattle.rules.specs.Closing.{both, Closing, family, plot_generators, plot_family, by_infimum, by_supremum}
use Rattle.rules.specs.Design.{first_failing, first_pair, first_cross}
use Rattle.rules.proofs.Closing.{Smallest, Closed, listed, too_many_holds, close_right}
use Rattle.rules.proofs.Tests.{uniform_test}
use Rattle.rules.proofs.Verdict.{failing_none}
use Rattle.rules.proofs.Demand3.{member_length, in_R, to_R}
use Rattle.rules.proofs.First.{pair_ext, cross_ext}
use Rattle.rules.proofs.Orthogonality.{by_plots, by_counts, orthogonal_test_plots, orthogonal_test_counts}

-- in any family on n plots the first pair that is not orthogonal is found plot by plot
pub pair_by_plots : (n a : ℕ) (S : Family) → ((F : Column) → F ∈ S → length F ≡ n) → first_pair (orthogonal n) a S ≡ first_pair (by_plots n) a S
pair_by_plots n a S on = pair_ext (orthogonal n) (by_plots n) a S (λ F G m k. orthogonal_test_plots n F G (on F m) (on G k))

-- and so is the first such pair of two families
pub cross_by_plots : (n a : ℕ) (P S : Family) → ((F : Column) → F ∈ P → length F ≡ n) → ((F : Column) → F ∈ S → length F ≡ n) → first_cross (orthogonal n) a P S ≡ first_cross (by_plots n) a P S
cross_by_plots n a P S on_p on_s = cross_ext (orthogonal n) (by_plots n) a P S (λ F G m k. orthogonal_test_plots n F G (on_p F m) (on_s G k))

-- in a closed family all of whose members have classes of one size it is found by the numbers of classes
pub pair_by_counts : (n a : ℕ) (S : Family) → 0 < n → ((F : Column) → F ∈ S → length F ≡ n) → ((F : Column) → F ∈ S → uniform n F ≡ true)
    → ((F G : Column) → F ∈ S → G ∈ S → (infimum F G ∈ S) × (supremum F G ∈ S)) → first_pair (orthogonal n) a S ≡ first_pair by_counts a S
pair_by_counts n a S h on even closed =
    pair_ext (orthogonal n) by_counts a S (λ F G m k. orthogonal_test_counts n F G (on F m) (on G k) h
    ((uniform_test n F).0 (even F m)) ((uniform_test n G).0 (even G k))
    ((uniform_test n (infimum F G)).0 (even (infimum F G) (closed F G m k).0)) ((uniform_test n (supremum F G)).0 (even (supremum F G) (closed F G m k).1)))

-- ---- the plot family

module _ (n : ℕ) (Fs : List Column) (on : (F : Column) → F ∈ Fs → length F ≡ n) (S : Family) (is : plot_family n Fs ≡ family S) where
  -- a plot family that is not too large is the smallest closed set, listed
  pub plot_smallest : Smallest both (plot_generators n Fs) S
  unfolding plot_family
  plot_smallest = go (plot_family n Fs) (close_right both (plot_generators n Fs)) is
    where
      go : (x : Closing) → Closed both (plot_generators n Fs) x → x ≡ family S → Smallest both (plot_generators n Fs) S
      go x (listed {R} s) e = let q : R ≡ S = cc in rw q at s
      go x (too_many_holds m) e = let z : ◌≡◌ {A = ℕ} 0 1 = cc in absurd (omega arith)

  -- it has the infimum and the supremum of every two members
  pub plot_closed : (F G : Column) → F ∈ S → G ∈ S → (infimum F G ∈ S) × (supremum F G ∈ S)
  plot_closed F G m k = (
    to_R n Fs on S plot_smallest (infimum F G) (by_infimum (in_R n Fs on S plot_smallest F m) (in_R n Fs on S plot_smallest G k)),
    to_R n Fs on S plot_smallest (supremum F G) (by_supremum (in_R n Fs on S plot_smallest F m) (in_R n Fs on S plot_smallest G k)),
  )

  -- its members are on the n plots
  pub plot_length : (F : Column) → F ∈ S → length F ≡ n
  plot_length F m = member_length n Fs on F (in_R n Fs on S plot_smallest F m)

  -- question 10, once question 9 is passed: the numbers of classes decide
  pub question_10 : 0 < n → first_failing (uniform n) 1 S ≡ 0 → first_pair (orthogonal n) 1 S ≡ first_pair by_counts 1 S
  question_10 h e = pair_by_counts n 1 S h plot_length (λ F m. failing_none (uniform n) 0 S e F m) plot_closed
