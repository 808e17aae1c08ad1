-- `counted_finer` meets its contract: the numbers of classes tell, or the columns decide.
use Rattle.std.proofs.Common.{sym, ap, ⊎_elim, ◌∙◌, not}
use borrow.Author.Tests.{eq-eqb}
use Rattle.strata.specs.Family.{column}
use Rattle.strata.proofs.Extreme.{counted_each, counted_one, counted_apart}
use Rattle.strata.proofs.order.counted_finer.Goals as goal
use Rattle.strata.proofs.order.counted_finer.Goals.{then-member-family, else-member-family}

pub returns-then-before-eq1 : goal.returns-then-before-eq1
returns-then-before-eq1 c =
    let a = c.args in
    let f = a.family.now in
    elim c.if-member-family.branch [
      | then-member-family w ↦ w.t-5-is ∙ eq-eqb _ _ w.if-member-family.true ∙ sym (counted_each f a.member c.requires.0 (column f a.before.place) w.if-member-family.true)
      | else-member-family w ↦ w.t-5-is ∙ ⊎_elim (λ e. absurd (w.if-member-family.false e)) (λ p. eq-eqb _ _ p.1 ∙ sym (counted_one f a.before c.requires.1 (column f a.member.place) p.1)) c.if-before-eq1.either
    ]

pub returns-else-member-before : goal.returns-else-member-before
returns-else-member-before c =
    let a = c.args in
    ap not (eq-eqb _ _ c.if-member-before.false) ∙ sym (counted_apart a.family.now a.member c.requires.0 a.before c.requires.1 c.requires.2 c.if-member-before.false)
