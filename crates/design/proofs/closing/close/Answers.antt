use mathlib.Core.Path.{◌≡◌, refl}
use native.Mathlib.Omega.{arith}
use Rattle.design.proofs.Work.{work_at, work_done}
use Rattle.design.proofs.KnownOrder.{known_none}
use Rattle.design.proofs.closing.close.Goals as goal

pub loop-i-init : goal.loop-i-init
loop-i-init c = (c.requires.1, c.requires.0, omega arith, λ Gs w. w, known_none c.args.n c.args.store.now c.args.size)

pub returns-clause-closes : goal.returns-clause-closes
returns-clause-closes c =
    let e : c.loop-i.i ≡ c.loop-i.now = omega (arith, c.loop-i.invariant.0, c.loop-i-test.false) in
    λ Gs w. let d = work_at e refl (c.loop-i.invariant.3 Gs w) in (d, work_done d)
