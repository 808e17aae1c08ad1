-- Laws of the factors with one class and with a class for each plot: their order with any factor needs no walk.
-- Assumes nothing.
use mathlib.Core.Path.{◌≡◌, ◌∙◌}
use mathlib.Core.Bool.{true}
use Prim.Native.Nat.{ℕ, ◌≤◌}
use lib.ListN.{length}
use Rattle.rules.specs.Factor.{Column, Finer, finer, number, classes, infimum, supremum, orthogonal}
use Rattle.rules.proofs.Bounds.{infimum_comm, supremum_comm, infimum_finer_is, supremum_coarser_is, nested_orthogonal}
use Rattle.rules.proofs.ClassCount.{finer_universal, equality_finer, one_class, each_class}
use Rattle.rules.proofs.Classes.{finer_test}
use Rattle.rules.proofs.Tests.{orthogonal_test, orthogonal_sym}

module _ (n : ℕ) (F G : Column) (l_f : length F ≡ n) where
  -- a factor with one class is the coarsest
  pub one_class_above : 1 ≤ n → classes F ≡ 1 → Finer n G F
  one_class_above h e u v hu hv s = ((one_class n F l_f h).0 e).from u v hu hv (finer_universal n G u v hu hv s)

  pub one_class_coarsest : 1 ≤ n → classes F ≡ 1 → finer n G F ≡ true
  one_class_coarsest h e = (finer_test n G F).1 (one_class_above h e)

  -- a factor with a class for each plot is the finest
  pub all_classes_below : classes F ≡ n → Finer n F G
  all_classes_below e u v hu hv s = equality_finer n G u v hu hv (((each_class n F l_f).0 e).to u v hu hv s)

  pub all_classes_finest : classes F ≡ n → finer n F G ≡ true
  all_classes_finest e = (finer_test n F G).1 (all_classes_below e)

-- of two numbered factors, the first finer, the infimum is the first, the supremum the second, and they are orthogonal in either order
module _ (n : ℕ) (F G : Column) (l_f : length F ≡ n) (l_g : length G ≡ n) (e : finer n F G ≡ true) where
  pub finer_infimum : number F ≡ F → infimum F G ≡ F
  finer_infimum nF = infimum_finer_is n F G l_f l_g ((finer_test n F G).0 e) ∙ nF

  pub finer_supremum : number G ≡ G → supremum F G ≡ G
  finer_supremum nG = supremum_coarser_is n F G l_f l_g ((finer_test n F G).0 e) ∙ nG

  pub coarser_infimum : number F ≡ F → infimum G F ≡ F
  coarser_infimum nF = infimum_comm n G F l_g l_f ∙ finer_infimum nF

  pub coarser_supremum : number G ≡ G → supremum G F ≡ G
  coarser_supremum nG = supremum_comm n G F l_g l_f ∙ finer_supremum nG

  pub finer_orthogonal : orthogonal n F G ≡ true
  finer_orthogonal = (orthogonal_test n F G).1 (nested_orthogonal n F G l_f l_g ((finer_test n F G).0 e))

  pub coarser_orthogonal : orthogonal n G F ≡ true
  coarser_orthogonal = (orthogonal_test n G F).1 (orthogonal_sym n F G l_f l_g (nested_orthogonal n F G l_f l_g ((finer_test n F G).0 e)))
