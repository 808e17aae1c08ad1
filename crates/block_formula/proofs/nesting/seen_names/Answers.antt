-- `nesting::seen_names`: the mark of each name is whether name `i` sees it.
use Rattle.std.proofs.Common.{arith}
use Rattle.block_formula.proofs.NestingLaws.{seen_all}
use Rattle.block_formula.proofs.nesting.seen_names.Goals as goal

pub returns : goal.returns
returns c = seen_all c.args.text.now c.args.i c.loop-j.mark-items (omega arith) (λ k h. c.loop-j.invariant k (omega arith))
