-- `nesting::later_nested`: the loop's invariant: the answer is that of name `left` in the walk on from here; no more brackets are open than bytes were passed.
use Rattle.std.proofs.Common.{◌≡◌, ◌≤◌, false, drop, get_or}
use Rattle.block_formula.specs.Text.{later_nested}
use Rattle.block_formula.proofs.nesting.later_nested.Given as goal

abbrev pub invariant-loop-x : goal.invariant-loop-x
invariant-loop-x l = (l.depth ≤ l.x-index) × (get_or (later_nested l.depth l.nests (drop l.x-index l.text)) l.left false ≡ get_or (later_nested 0 false l.text) l.later false)
