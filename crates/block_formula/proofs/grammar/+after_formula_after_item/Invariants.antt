-- `grammar::after_formula` and `grammar::after_item`, which call each other: a bracket or an item takes a step, so the steps left fall.
use Prim.Native.Nat.{◌+◌, ◌*◌}
use Rattle.block_formula.proofs.grammar.+after_formula_after_item.Given as goal

abbrev pub decreases-after_formula : goal.decreases-after_formula
decreases-after_formula l = 2 * l.steps

abbrev pub decreases-after_item : goal.decreases-after_item
decreases-after_item l = 2 * l.steps + 1
