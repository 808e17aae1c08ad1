-- `member_uniform` meets its contract: the largest number is that of the classes.
use mathlib.Core.Path.{◌≡◌, sym, ap, ◌∙◌}
use Prim.Native.Nat.{ℕ}
use native.Mathlib.Omega.{arith}
use borrow.Author.Tests.{eqb-true}
use lib.ListN.{length}
use Rattle.rules.specs.Factor.{Column, classes, uniform}
use Rattle.rules.proofs.Uniform.{uniform_one, uniform_each}
use Rattle.design.specs.State.{column_at}
use Rattle.factor.specs.Labels.{largest}
use Rattle.factor.specs.Lent.{plots_of}
use Rattle.factor.proofs.Lent.{length_part}
use Rattle.factor.proofs.LargestLabel.{largest_classes}
use Rattle.design.proofs.Asked.{uniform_part}
use Rattle.design.proofs.questions.member_uniform.Goals as goal
use Rattle.design.proofs.questions.member_uniform.Goals.{After-largest-k, then-k-eq1, else-k-eq1}

-- what is known of the member
module _ (c : After-largest-k) where
  abbrev n : ℕ
  n = c.args.n

  abbrev F : Column
  F = column_at n c.args.family.now c.args.i

  long : length F ≡ n
  long = length_part n c.args.i c.args.family.now (omega (arith, c.requires))

  counted : c.largest-k.result ≡ classes F
  counted = c.largest-k.ensures ∙ ap largest c.member-column.ensures ∙ largest_classes F c.requires.4

pub returns-then-k-n : goal.returns-then-k-n
returns-then-k-n c =
    let l = (goal.at.returns-then-k-n c).After-largest-k in
    elim c.if-k-eq1.branch [
      | then-k-eq1 w ↦ c.if-k-n.true ∙ sym (uniform_one (n l) (F l) (long l) l.requires.0 (sym (counted l) ∙ w.if-k-eq1.true))
      | else-k-eq1 w ↦ c.if-k-n.true ∙ sym (uniform_each (n l) (F l) (long l) (sym (counted l) ∙ eqb-true _ _ (sym w.value-is ∙ c.if-k-n.true)))
    ]

pub returns-else-k-n : goal.returns-else-k-n
returns-else-k-n c =
    let l = (goal.at.returns-else-k-n c).After-largest-k in
    c.uniform.ensures ∙ ap (λ (X : Column). uniform (length (plots_of X)) (plots_of X)) l.member-column.ensures ∙ uniform_part (n l) (F l) c.requires.1 (long l)
