-- `counts::count`: the digits are read one after the other. The loop's invariant: those left, after the number so far, write the whole number.
use Rattle.std.proofs.Common.{◌≡◌, ◌≤◌, drop}
use Rattle.rules.specs.Sheet.{decimal, decimal_from}
use Rattle.block_formula.proofs.counts.count.Given as goal

abbrev pub invariant-loop-x : goal.invariant-loop-x
invariant-loop-x l = (l.count ≤ 240) × (decimal_from l.count (drop l.x-index l.digits) ≡ decimal l.digits)
