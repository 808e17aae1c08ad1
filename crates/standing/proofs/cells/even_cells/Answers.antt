use mathlib.Core.Path.{◌≡◌, refl, sym, ap, ◌∙◌}
use Prim.Native.Nat.{ℕ}
use native.Mathlib.Omega.{arith}
use lib.ListN.{length}
use borrow.Author.Tests.{eq-eqb, ne_eqb}
use Rattle.rules.specs.Factor.{every}
use Rattle.rules.proofs.Walks.{every_more, every_fails}
use Rattle.standing.specs.Cells.{even_cells}
use Rattle.standing.proofs.cells.even_cells.Invariants.{even}
use Rattle.standing.proofs.cells.even_cells.Goals as goal

pub loop-i-init : goal.loop-i-init
unfolding every
loop-i-init c = refl

pub returns-then-left-right : goal.returns-then-left-right
unfolding even_cells
returns-then-left-right c =
    let s = c.args in
    let X = c.first-f.result.now in
    let Y = c.second-g.result.now in
    let test = even s.sizes.now s.joins.now.entries s.in_k.now s.in_f.now s.in_g.now X Y in
    rw (← c.first-f.ensures, ← c.second-g.ensures)
    (sym (every_fails (length X) test c.loop-i.i (omega arith) (ne_eqb _ _ (λ e. c.if-left-right.true (c.product-left.ensures ∙ e ∙ sym c.product-right.ensures)))))

pub loop-i-preserved : goal.loop-i-preserved
loop-i-preserved c =
    let s = c.args in
    let test = even s.sizes.now s.joins.now.entries s.in_k.now s.in_f.now s.in_g.now c.first-f.result.now c.second-g.result.now in
    every_more c.loop-i.i test c.loop-i.invariant (eq-eqb _ _ (sym c.product-left.ensures ∙ c.if-left-right.false ∙ c.product-right.ensures))

pub returns : goal.returns
unfolding even_cells
returns c =
    let s = c.args in
    let X = c.first-f.result.now in
    let test = even s.sizes.now s.joins.now.entries s.in_k.now s.in_f.now s.in_g.now X c.second-g.result.now in
    let e : length X ≡ c.loop-i.i = omega arith in
    rw (← c.first-f.ensures, ← c.second-g.ensures) (sym (ap (λ (n : ℕ). every n test) e ∙ c.loop-i.invariant))
