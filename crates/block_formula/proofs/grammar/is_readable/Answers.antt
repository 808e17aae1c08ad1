-- `grammar::is_readable`: the formula at the start of the text ends with the text.
use Rattle.std.proofs.Common.{◌≡◌, length, sym, ◌∙◌, arith, rules}
use Rattle.std.proofs.lemmas.Grind.{common_steps}
use Rattle.rules.specs.Limits.{most_formula}
use Rattle.rules.specs.Sheet.{within}
use Rattle.block_formula.proofs.GrammarLaws.{readable_long, readable_rest}
use Rattle.block_formula.proofs.grammar.is_readable.Goals as goal
use Rattle.block_formula.proofs.grammar.is_readable.Goals.{After-contains}

in_range : (c : After-contains) → within 1 most_formula (length c.args.text.now) ≡ c.contains.result
in_range c = let e = c.contains.ensures.value in let f = c.new.ensures in grind (arith, common_steps)

pub returns-then-contains : goal.returns-then-contains
returns-then-contains c = let e = c.is_some_and.ensures in let f = c.after_formula.ensures in
    sym (readable_rest c.args.text.now (in_range (goal.at.returns-then-contains c).After-contains ∙ c.if-contains.true) c.is_some_and.result (rw (sym f) (search rules)))

pub returns-else-contains : goal.returns-else-contains
returns-else-contains c = c.if-contains.false ∙ sym (readable_long c.args.text.now (in_range (goal.at.returns-else-contains c).After-contains ∙ c.if-contains.false))
