use mathlib.Core.Path.{◌≡◌, sym, ap, ◌∙◌}
use Prim.Native.Nat.{ℕ, ◌≤◌, ◌<◌}
use native.Mathlib.Nat.{lt_irrefl}
use native.Mathlib.Omega.{arith}
use borrow.Author.Count.{below_more}
use lib.ListN.{get_or, take, length}
use lib.Seq.{get_or-take, length-take-le}
use Rattle.rules.specs.Family.{before}
use Rattle.design.specs.State.{column_at}
use Rattle.design.proofs.sorting.rank.Goals as goal
use Rattle.design.proofs.sorting.rank.Goals.{Start}

-- there are entries for the first i members
taken : (c : Start) → length (take c.args.i c.args.order.now) ≡ c.args.i
taken c = length-take-le c.args.i c.args.order.now (omega arith)

-- the entry at place p of them
entry : (c : Start) (p : ℕ) → p < c.args.i → get_or (take c.args.i c.args.order.now) p 0 ≡ get_or c.args.order.now p 0
entry c p l = get_or-take c.args.i c.args.order.now p 0 l

pub member_before-requires : goal.member_before-requires
member_before-requires c =
    let s = (goal.at.member_before-requires c).Start in
    let held = c.requires.1 in
    let p = c.loop-p.p in
    let l : p < c.args.i = omega (arith, taken s) in
    let k = c.requires.2 p l in
    rw (entry s p l) (held.most, held.room, c.requires.0, omega (arith, k), held.counted c.args.i (omega arith), held.counted (get_or c.args.order.now p 0) (omega (arith, k)))

pub returns-then-member_before : goal.returns-then-member_before
returns-then-member_before c =
    let s = (goal.at.returns-then-member_before c).Start in
    let p = c.loop-p.p in
    let l : p < c.args.i = omega (arith, taken s) in
    let F = column_at c.args.n c.args.store.now c.args.i in
    record { most = omega arith; passed = c.loop-p.invariant; stops = λ _. ap (λ (k : ℕ). before F (column_at c.args.n c.args.store.now k)) (sym (entry s p l)) ∙ sym c.member_before.ensures ∙ c.if-member_before.true }

pub loop-p-preserved : goal.loop-p-preserved
loop-p-preserved c =
    let s = (goal.at.loop-p-preserved c).Start in
    let p = c.loop-p.p in
    let l : p < c.args.i = omega (arith, taken s) in
    let F = column_at c.args.n c.args.store.now c.args.i in
    below_more _ _ c.loop-p.invariant (ap (λ (k : ℕ). before F (column_at c.args.n c.args.store.now k)) (sym (entry s p l)) ∙ sym c.member_before.ensures ∙ c.if-member_before.false)

pub returns : goal.returns
returns c =
    let s = (goal.at.returns c).Start in
    let e : c.args.i ≤ c.loop-p.p = omega (arith, taken s) in
    record { most = omega arith; passed = λ q h. c.loop-p.invariant q (omega arith); stops = λ l. absurd (lt_irrefl _ l) }
