-- `grammar::may_follow`: either operator, or the one that is named.
use Rattle.std.proofs.Common.{ap, sym, ◌∙◌, eq-eqb, ne_eqb}
use Rattle.rules.specs.Sheet.{has}
use Rattle.block_formula.specs.Text.{allowed}
use Rattle.block_formula.proofs.GrammarLaws.{any_follows, one_follows}
use Rattle.block_formula.proofs.grammar.may_follow.Goals as goal

pub returns-in-Some : goal.returns-in-Some
returns-in-Some c = sym (ap (λ o. has c.args.x (allowed o)) c.in-Some.is ∙ one_follows c.args.x c.in-Some.operator)

pub returns-then-x-eq47 : goal.returns-then-x-eq47
returns-then-x-eq47 c = sym (ap (λ o. has c.args.x (allowed o)) c.in-None.is ∙ any_follows c.args.x ∙ rw (eq-eqb c.args.x 47 c.if-x-eq47.true))

pub returns-else-x-eq47 : goal.returns-else-x-eq47
returns-else-x-eq47 c = sym (ap (λ o. has c.args.x (allowed o)) c.in-None.is ∙ any_follows c.args.x ∙ rw (ne_eqb c.args.x 47 c.if-x-eq47.false))
