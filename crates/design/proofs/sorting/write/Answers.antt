use mathlib.Core.Path.{◌≡◌, refl, ap, ◌∙◌}
use mathlib.Core.List.{List}
use Prim.Native.Nat.{ℕ, ◌*◌, ◌<◌}
use native.Mathlib.Omega.{arith}
use lib.ListN.{length, get_or, take}
use lib.Seq.{paste, length-paste, get_or-take, length-take-le}
use Rattle.rules.specs.Family.{written}
use Rattle.design.specs.State.{column_at}
use Rattle.factor.proofs.Lent.{length_part}
use Rattle.design.proofs.Order.{write_turn}
use Rattle.design.proofs.sorting.write.Goals as goal
use Rattle.design.proofs.sorting.write.Goals.{Start}

-- there are entries for all members
taken : (c : Start) → length (take c.args.size c.args.order.now) ≡ c.args.size
taken c = length-take-le c.args.size c.args.order.now (omega arith)

pub loop-p-init : goal.loop-p-init
unfolding written
loop-p-init c = (refl, refl)

pub copy_member-requires : goal.copy_member-requires
copy_member-requires c =
    let s = (goal.at.copy_member-requires c).Start in
    let p = c.loop-p.p in
    let l : p < c.args.size = omega (arith, taken s) in
    rw (get_or-take c.args.size c.args.order.now p 0 l) (c.requires.0, c.requires.1, c.requires.5 p l, omega arith, omega arith)

pub loop-p-preserved : goal.loop-p-preserved
loop-p-preserved c =
    let a = c.args in
    let p = c.loop-p.p in
    let l : p < a.size = omega (arith, taken (goal.at.loop-p-preserved c).Start) in
    let F = column_at a.n a.store.now (get_or a.order.now p 0) in
    let small = c.requires.5 p l in
    let len : length F ≡ a.n = length_part a.n (get_or a.order.now p 0) a.store.now (omega arith) in
    let e = c.copy_member.ensures ∙ ap (λ (i : ℕ). paste c.loop-p.family (240 * p) (column_at a.n a.store.now i) a.n) (get_or-take a.size a.order.now p 0 l) in (
      ap length e ∙ length-paste c.loop-p.family (240 * p) F a.n (omega arith) (omega arith) ∙ c.loop-p.invariant.0,
      e ∙ ap (λ (x : List ℕ). paste x (240 * p) F a.n) c.loop-p.invariant.1 ∙ write_turn a.n a.store.now a.order.now a.family.now p (omega arith) len,
    )

pub shape_of-family : goal.shape_of-family
shape_of-family c = c.loop-p.invariant.0

pub returns : goal.returns
returns c =
    let e : c.loop-p.p ≡ c.args.size = omega (arith, taken (goal.at.returns c).Start) in
    rw e at c.loop-p.invariant.1
