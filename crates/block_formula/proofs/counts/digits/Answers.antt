-- `counts::digits`: the first byte that is no digit ends them.
use Rattle.std.proofs.Common.{sym}
use Rattle.block_formula.proofs.CountLaws.{digits_some, digits_none}
use Rattle.block_formula.proofs.counts.digits.Goals as goal

pub returns-in-Some : goal.returns-in-Some
returns-in-Some c = digits_some c.args.text.now c.in-Some.end (sym c.in-Some.ensures)

pub returns-in-None : goal.returns-in-None
returns-in-None c = digits_none c.args.text.now (sym c.in-None.ensures)
