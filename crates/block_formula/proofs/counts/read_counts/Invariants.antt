-- `counts::read_counts`: each `=` has a count after it. The loop's invariant: so many are listed, and those after this place are left.
use Rattle.std.proofs.Common.{◌≡◌, ◌≤◌, ◌++◌, length, drop, take}
use Rattle.block_formula.specs.Text.{counts_in}
use Rattle.block_formula.proofs.counts.read_counts.Given as goal

abbrev pub invariant-loop-i : goal.invariant-loop-i
invariant-loop-i l = (l.n ≤ l.i) × (length l.counts ≡ length l.initial.counts) × (take l.n l.counts ++ counts_in (drop l.i l.text) ≡ counts_in l.text)
