use mathlib.Core.Path.{◌≡◌, sym, ap, ◌∙◌}
use Prim.Native.Nat.{ℕ, ◌<◌}
use native.Mathlib.Omega.{arith}
use lib.ListN.{length, get_or}
use borrow.Author.Tests.{eq-eqb, ne_eqb}
use Rattle.rules.specs.Factor.{at, classes}
use Rattle.naming.proofs.Apart.{placed_none, placed_all, placed_again, placed_next}
use Rattle.naming.proofs.extremes.each_apart.Goals as goal

pub loop-u-init : goal.loop-u-init
loop-u-init c = placed_none c.args.column.now

pub returns-then-places-x-ne0 : goal.returns-then-places-x-ne0
returns-then-places-x-ne0 c =
    let F = c.args.column.now in
    let places = c.loop-u.places in
    sym (ne_eqb (classes F) (length F) (placed_again F c.loop-u.u places c.loop-u.invariant (omega arith) (λ z. c.if-places-x-ne0.true (ap (λ (x : ℕ). get_or places x 0) c.from-x.ensures ∙ z))))

pub loop-u-preserved : goal.loop-u-preserved
loop-u-preserved c =
    let F = c.args.column.now in
    let u = c.loop-u.u in
    let places = c.loop-u.places in
    let free : get_or places (at F u) 0 ≡ 0 = ap (λ (x : ℕ). get_or places x 0) (sym c.from-x.ensures) ∙ c.if-places-x-ne0.false in
    let small : at F u < 256 = omega (arith, c.type_inv.column u) in
    rw c.from-x.ensures (placed_next F u places c.loop-u.invariant free small)

pub returns : goal.returns
returns c =
    let F = c.args.column.now in
    sym (eq-eqb (classes F) (length F) (placed_all F c.loop-u.u c.loop-u.places c.loop-u.invariant (omega arith)))
