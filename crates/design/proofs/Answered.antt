-- Laws of the answers: what each case of the verdict says in numbers.
-- Assumes nothing.
use Rattle.rules.specs.Structure.{Lent, Demand3}
use Rattle.rules.specs.Closing.{Closing, too_many, family, plot_family, InPlotFamily}
use Rattle.rules.specs.Factor.{orthogonal, uniform}
use Rattle.rules.specs.Family.{Family, written, members_of, columns_from, AtMost}
use Rattle.rules.specs.Design.{Answer, Places, first_pair, question9, question10, refused, question8, first_failing, plot_buffer, within_limits, all_nonzero, question7, plot_design, returned}
use Rattle.rules.proofs.Demand3.{demand_3}
use Rattle.rules.proofs.PlotStrata.{plot_trusted}
use Rattle.rules.specs.Asking.{plot_design_by}
use Rattle.rules.specs.Comparison.{pair_passes}
use Rattle.rules.proofs.ComparedPairs.{plot_compares}
use Rattle.rules.proofs.Verdict.{verdict_members}
use mathlib.Core.List.{List}
use mathlib.Core.Path.{◌≡◌, refl, ap, ◌∙◌}
use mathlib.Core.Bool.{true, false}
use Prim.Native.Nat.{ℕ, zero, suc}
use lib.ListN.{length}
use Rattle.refusal.specs.Numbers.{number_of}
use Rattle.refusal.specs.declared.Refusal.{Refusal}
use Rattle.refusal.specs.declared.Refusal.TheVariants as question
use lib.Dec.{eqb}
use Rattle.design.specs.Answers.{PlotNumbers, plot_numbers_of, PlotTrusted}

-- no question has the number 0, which says that all were passed
pub number_some : (q : Refusal) → eqb (number_of q) 0 ≡ false
number_some question.LevelTable = refl
number_some question.TextLength = refl
number_some question.FirstLine = refl
number_some question.LaterLine = refl
number_some question.PlotCount = refl
number_some question.Limits = refl
number_some question.MissingLevel = refl
number_some question.PlotFamilySize = refl
number_some question.ClassSizes = refl
number_some question.PlotPair = refl
number_some question.TreatmentFamilySize = refl
number_some question.TreatmentPair = refl
number_some question.CrossedPair = refl
number_some question.FinalFamilySize = refl
number_some question.Family = refl
number_some question.Stratum = refl
number_some question.Formula = refl
number_some question.FormulaLimits = refl
number_some question.Parent = refl

-- the numbers of a refusal
abbrev pub refusing : ℕ → ℕ → ℕ → ℕ → PlotNumbers
refusing q i j size = record { accepted = false; refusal = q; first = i; second = j; size = size }

pub refusing_is : (q : ℕ) {i j s i' j' s' : ℕ} → i ≡ i' → j ≡ j' → s ≡ s' → refusing q i j s ≡ refusing q i' j' s'
refusing_is q e f g = λ x. refusing q (e x) (f x) (g x)

-- the numbers of an acceptance
abbrev pub accepting : ℕ → PlotNumbers
accepting size = record { accepted = true; refusal = 0; first = 0; second = 0; size = size }

-- a member has classes of several sizes
pub numbers_9 : (n : ℕ) (P : Family) (k : ℕ) → (k ≡ 0 → ⊥) → plot_numbers_of (question9 n P k) ≡ refusing 9 k 0 (length P)
unfolding question9 plot_numbers_of
numbers_9 n P zero h = absurd (h refl)
numbers_9 n P (suc k) h = refl

-- two members are not orthogonal
pub numbers_10 : (P : Family) (p : Places) → (p.first ≡ 0 → ⊥) → plot_numbers_of (question10 P p) ≡ refusing 10 p.first p.second (length P)
unfolding question10 plot_numbers_of
numbers_10 P p h = go p.first refl
  where
    go : (i : ℕ) → p.first ≡ i → plot_numbers_of (question10 P p) ≡ refusing 10 p.first p.second (length P)
    go zero e = absurd (h e)
    go (suc i) e = rw (e, question10) (rw e)

-- all are
pub numbers_0 : (P : Family) (p : Places) → p.first ≡ 0 → plot_numbers_of (question10 P p) ≡ accepting (length P)
unfolding question10 plot_numbers_of
numbers_0 P p e = rw (e, question10)

-- question 9 is passed
pub nine_passed : (n : ℕ) (P : Family) (k : ℕ) → k ≡ 0 → question9 n P k ≡ question10 P (first_pair (orthogonal n) 1 P)
unfolding question9
nine_passed n P k e = rw e

-- ---- questions 8 to 10 of the plot family

module _ (n : ℕ) (x : Closing) where
  -- it is too large
  pub eight_over : x ≡ too_many → question8 n x ≡ refused 8
  unfolding question8
  eight_over e = ap (question8 n) e

  -- it is not
  pub eight_on : (P : Family) → x ≡ family P → question8 n x ≡ question9 n P (first_failing (uniform n) 1 P)
  unfolding question8
  eight_on P e = ap (question8 n) e

  -- then it is written
  pub eight_buffer : (P : Family) (buffer : List ℕ) → x ≡ family P → plot_buffer buffer (question8 n x) ≡ written buffer 0 P
  eight_buffer P buffer e = ap (λ (y : Closing). plot_buffer buffer (question8 n y)) e ∙ ap (written buffer 0) (verdict_members n P)

-- ---- the plot design

module _ (n c : ℕ) (levels : List ℕ) (b : ℕ) where
  -- question 6 says no
  pub design_6 : within_limits n c (length levels) b ≡ false → plot_design n c levels b ≡ refused 6
  unfolding plot_design
  design_6 e = rw (e, plot_design)

  -- question 7 says no
  pub design_7 : within_limits n c (length levels) b ≡ true → all_nonzero (columns_from n levels 0 c) ≡ false → plot_design n c levels b ≡ refused 7
  unfolding plot_design question7
  design_7 e f = rw (e, plot_design) (rw (f, question7))

  -- both say yes
  pub design_8 : within_limits n c (length levels) b ≡ true → all_nonzero (columns_from n levels 0 c) ≡ true → plot_design n c levels b ≡ question8 n (plot_family n (columns_from n levels 0 c))
  unfolding plot_design question7
  design_8 e f = rw (e, plot_design) (rw (f, question7))

-- the promise whole: demand 3 and C-13 of the numbers answered and the bytes left, and that pairs fail by the comparison, are its last parts
module _ (n c : ℕ) (levels buffer after : List ℕ) (numbers : PlotNumbers) where
  abbrev made : Answer
  made = plot_design n c levels (length buffer)

  abbrev Demanded : Type 0
  Demanded =
      Lent n c levels buffer → AtMost 32 (InPlotFamily n (columns_from n levels 0 c)) → Demand3 n (columns_from n levels 0 c) numbers.refusal (members_of n after numbers.size)

  abbrev Compared : Type 0
  Compared = numbers ≡ plot_numbers_of (plot_design_by (pair_passes n) n c levels (length buffer))

  pub promised : numbers ≡ plot_numbers_of made → after ≡ plot_buffer buffer made
      → (numbers ≡ plot_numbers_of made) × (after ≡ plot_buffer buffer made) × Demanded × PlotTrusted n numbers after × Compared
  unfolding returned plot_numbers_of
  promised e f =
      (e, f, λ lent few. rw (e, f) (demand_3 n c levels buffer lent few), rw (e, f) (plot_trusted n c levels buffer), e ∙ ap plot_numbers_of (plot_compares n c levels (length buffer)))
