use mathlib.Core.Path.{◌≡◌, sym, subst}
use mathlib.Core.List.{List}
use Prim.Native.Nat.{ℕ, ◌+◌}
use native.Mathlib.Omega.{arith}
use lib.ListN.{replicate, length-replicate}
use Rattle.design.proofs.Order.{SortedTo, sorted_start, sorted_turn, sorted_end, held_less}
use Rattle.design.proofs.sorting.sort.Goals as goal

pub loop-i-init : goal.loop-i-init
loop-i-init c =
    let s = c.args in
    let l : List ℕ = replicate 32 0 in
    (omega arith, sorted_start s.n s.store.now s.size l (length-replicate {A = ℕ} 32 0))

pub rank-p-requires : goal.rank-p-requires
rank-p-requires c =
    let held = c.requires.0 in
    let s = c.args in
    (omega (arith, held.few), held_less s.n s.store.now s.counts.now s.size (c.loop-i.i + 1) (omega arith) held, c.loop-i.invariant.1.below)

pub insert-requires : goal.insert-requires
insert-requires c =
    let held = c.requires.0 in
    (c.loop-i.invariant.1.entries, c.rank-p.ensures.most, omega (arith, held.few))

pub loop-i-preserved : goal.loop-i-preserved
loop-i-preserved c =
    let held = c.requires.0 in
    let s = c.args in
    let o = c.loop-i.order in
    let r = c.rank-p.result in
    let w = sorted_turn s.n held.most s.store.now s.size held.few c.requires.1 o c.loop-i.i r (omega arith) c.loop-i.invariant.1 c.rank-p.ensures in
    (omega arith, subst (λ (x : List ℕ). SortedTo s.n s.store.now s.size x (c.loop-i.i + 1)) (sym c.insert.ensures) w)

pub returns : goal.returns
returns c =
    let s = c.args in
    let small = c.requires.0.most in
    let e : c.loop-i.i ≡ s.size = omega arith in
    sorted_end s.n small s.store.now s.size c.loop-i.order (rw e at c.loop-i.invariant.1)
