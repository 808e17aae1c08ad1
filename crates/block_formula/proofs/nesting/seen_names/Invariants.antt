-- `nesting::seen_names`: the loop's invariant: the marks before `j` are those of the names that name `i` sees.
use Rattle.std.proofs.Common.{◌≡◌, ◌<◌, ℕ, false, get_or}
use Rattle.block_formula.specs.Text.{sees}
use Rattle.block_formula.proofs.nesting.seen_names.Given as goal

abbrev pub invariant-loop-j : goal.invariant-loop-j
invariant-loop-j l = (k : ℕ) → k < l.j → get_or l.mark-items k false ≡ sees l.text l.i k
