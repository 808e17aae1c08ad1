-- `nesting::after_name`: the loop's invariant: what stands after the name looked for stands after as many names as are left.
use Rattle.std.proofs.Common.{◌≡◌, drop}
use Rattle.block_formula.specs.Text.{after_name}
use Rattle.block_formula.proofs.nesting.after_name.Given as goal

abbrev pub invariant-loop-i : goal.invariant-loop-i
invariant-loop-i l = after_name l.left (drop l.i l.text) ≡ after_name l.j l.text
