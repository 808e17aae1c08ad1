use mathlib.Core.Path.{◌≡◌, refl, sym, ap, ◌∙◌}
use native.Mathlib.Omega.{arith}
use lib.ListN.{length, length-set}
use Rattle.std.specs.Prelude.{Some}
use Rattle.factor.proofs.Agreeing.{agrees_none, agrees_new, agrees_old, agrees_not, agrees_all}
use Rattle.factor.proofs.nesting.agrees.Goals as goal
use Rattle.factor.proofs.nesting.agrees.Goals.{in-None, in-Some+else-z-y}

pub loop-u-init : goal.loop-u-init
loop-u-init c = (refl, agrees_none c.args.f.now c.args.g.now)

pub returns-then-z-y : goal.returns-then-z-y
returns-then-z-y c =
    let f = c.args.f.now in
    let g = c.args.g.now in
    sym (agrees_not f g c.loop-u.u c.loop-u.table c.loop-u.invariant.1 (length f) c.in-Some.z (omega arith) c.in-Some.is (λ e. c.if-z-y.true (sym e)))

pub loop-u-preserved : goal.loop-u-preserved
loop-u-preserved c =
    let f = c.args.f.now in
    let g = c.args.g.now in
    let u = c.loop-u.u in
    let table = c.loop-u.table in
    elim c.match-table-x.branch [
      | in-None w ↦ (
        ap length w.table-is ∙ simp length-set c.loop-u.invariant.0,
        rw w.table-is (agrees_new f g u table c.loop-u.invariant.1 (omega (arith, c.type_inv.f u)) w.in-None.is),
      )
      | in-Some+else-z-y w ↦ (
        ap length w.table-is ∙ c.loop-u.invariant.0,
        rw w.table-is (agrees_old f g u table c.loop-u.invariant.1 (w.in-Some.is ∙ ap Some w.if-z-y.false)),
      )
    ]

pub returns : goal.returns
returns c =
    let f = c.args.f.now in
    let e : c.loop-u.u ≡ length f = omega arith in
    sym (agrees_all (length f) f c.args.g.now c.loop-u.table (rw e at c.loop-u.invariant.1))
