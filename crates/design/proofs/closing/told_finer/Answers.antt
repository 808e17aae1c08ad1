-- `told_finer` meets its contract.
use mathlib.Core.Path.{refl, sym, ◌∙◌}
use lib.Bits.{and_mask}
use borrow.Author.Tests.{eq-eqb, ne_eqb}
use Rattle.rules.specs.Lists.{bit_at}
use Rattle.rules.proofs.Members.{clash}
use Rattle.design.proofs.closing.told_finer.Goals as goal
use Rattle.design.proofs.closing.told_finer.Goals.{then-b-eq1, else-b-eq1}

pub returns-else-a-n : goal.returns-else-a-n
unfolding bit_at
returns-else-a-n c = elim c.if-b-eq1.branch [
  | then-b-eq1 w ↦ clash (eq-eqb _ _ w.if-b-eq1.true) (sym w.value-is ∙ c.if-a-n.false)
  | else-b-eq1 w ↦ rw (ne_eqb _ _ w.if-b-eq1.false, sym w.value-is ∙ c.if-a-n.false, and_mask _ 1) refl
]
