-- `grown` meets its contract.
use mathlib.Core.Path.{sym}
use Rattle.design.proofs.Placing.{grown_new, grown_old}
use Rattle.design.proofs.store.grown.Goals as goal

pub returns-then-place-size : goal.returns-then-place-size
returns-then-place-size c = sym (grown_new c.args.size c.args.place c.if-place-size.true)

pub returns : goal.returns
returns c = sym (grown_old c.args.size c.args.place c.if-place-size.false)
