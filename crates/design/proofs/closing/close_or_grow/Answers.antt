use native.Mathlib.Omega.{arith}
use Rattle.design.specs.State.{more}
use Rattle.design.proofs.KnownOrder.{known_none}
use Rattle.design.proofs.closing.close_or_grow.Goals as goal

pub loop-i-init : goal.loop-i-init
loop-i-init c = (omega arith, c.requires, λ Gs w. w, known_none c.args.n c.args.store.now c.args.size)

pub returns-then-now-size-clause-grows : goal.returns-then-now-size-clause-grows
returns-then-now-size-clause-grows c = λ Gs w. more c.if-now-size.true _ _ (c.in_ok-now.ensures.step Gs (c.loop-i.invariant.2 Gs w))
