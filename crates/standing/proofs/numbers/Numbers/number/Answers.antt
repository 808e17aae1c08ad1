-- `Numbers::number` meets its contract, for a key that was met and for a new one.
use native.Mathlib.Omega.{arith}
use Rattle.standing.proofs.NumberTable.{numbered_known, numbered_new}
use Rattle.standing.proofs.numbers.Numbers.number.Goals as goal

pub returns-then-number-eq0-clause-numbered : goal.returns-then-number-eq0-clause-numbered
returns-then-number-eq0-clause-numbered g c =
    let s = c.args.self.now in
    λ F u h here numbered. numbered_new F u h c.args.key here s.numbers s.count numbered c.if-number-eq0.true (omega (arith, c.requires.inside))

pub returns-else-number-eq0-clause-numbered : goal.returns-else-number-eq0-clause-numbered
returns-else-number-eq0-clause-numbered g c =
    let s = c.args.self.now in
    λ F u h here numbered. numbered_known F u h c.args.key here s.numbers s.count numbered c.if-number-eq0.false
