use mathlib.Core.Path.{◌≡◌, ◌∙◌, ap}
use mathlib.Core.List.{List}
use Prim.Native.Nat.{ℕ, ◌-◌, ◌<◌}
use native.Mathlib.Omega.{arith}
use lib.ListN.{length, get_or, set}
use Rattle.design.proofs.Order.{shifted, shift_start, shift_turn, shift_end}
use Rattle.design.proofs.sorting.insert.Goals as goal

pub loop-k-init : goal.loop-k-init
loop-k-init c = (omega arith, omega arith, shift_start c.args.order.now c.args.i)

pub loop-k-preserved : goal.loop-k-preserved
loop-k-preserved c =
    let s = c.args in
    let o = s.order.now in
    let k = c.loop-k.k in
    let l : s.i < length o = omega arith in
    (omega arith, omega arith, ap (λ (x : List ℕ). set x k (get_or x (k - 1) 0)) c.loop-k.invariant.2 ∙ shift_turn o s.i l k (omega arith) (omega arith))

pub returns : goal.returns
returns c =
    let s = c.args in
    let o = s.order.now in
    let l : s.i < length o = omega arith in
    let e : c.loop-k.k ≡ s.p = omega arith in
    ap (λ (x : List ℕ). set x s.p s.i) (c.loop-k.invariant.2 ∙ ap (shifted o s.i) e) ∙ shift_end o s.i l s.p s.i (omega arith)
