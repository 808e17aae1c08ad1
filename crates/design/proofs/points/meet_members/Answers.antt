use mathlib.Core.Path.{◌≡◌, sym, ap, ap₂, ◌∙◌}
use Prim.Native.Nat.{ℕ, ◌<◌}
use native.Mathlib.Omega.{arith}
use lib.ListN.{length, get_or, take}
use lib.Seq.{get_or-take, length-take-le}
use Rattle.rules.specs.Factor.{Column, classes, infimum}
use Rattle.design.specs.State.{column_at}
use Rattle.design.proofs.Common.{column_length}
use Rattle.design.proofs.Gathering.{met_none, met_same, met_more}
use Rattle.design.proofs.points.meet_members.Invariants.{Parts}
use Rattle.design.proofs.points.meet_members.Goals as goal
use Rattle.design.proofs.points.meet_members.Goals.{Start, else-k-n, then-k-n}

-- there is a count for each member
taken : (c : Start) → length (take c.args.size c.args.counts.now) ≡ c.args.size
taken c = length-take-le c.args.size c.args.counts.now (omega (arith, c.requires.0.few))

-- the count of member i
count : (c : Start) (i : ℕ) → i < c.args.size → get_or (take c.args.size c.args.counts.now) i 0 ≡ get_or c.args.counts.now i 0
count c i l = get_or-take c.args.size c.args.counts.now i 0 l

pub loop-i-init : goal.loop-i-init
loop-i-init c =
    let a = c.args in
    met_none a.n c.requires.0.some (take a.n a.points.now) (column_at a.n a.store.now) (Parts a.n a.counts.now) c.requires.1

pub meet-m-requires : goal.meet-m-requires
meet-m-requires c =
    let h = c.requires.0 in
    let s = (goal.at.meet-m-requires c).Start in
    let k : c.loop-i.i < c.args.size = omega (arith, taken s) in
    let l = column_length c.args.n c.args.store.now c.loop-i.i h.most h.room (omega (arith, h.few)) in
    omega (arith, h.most, ap length c.member.ensures ∙ l)

pub loop-i-preserved : goal.loop-i-preserved
loop-i-preserved c =
    let a = c.args in
    let n = a.n in
    let i = c.loop-i.i in
    let h = c.requires.0 in
    let store = a.store.now in
    let counts = a.counts.now in
    let s = (goal.at.loop-i-preserved c).Start in
    let k : i < a.size = omega (arith, taken s) in
    let p = take n c.loop-i.points in
    let l = column_length n store i h.most h.room (omega (arith, h.few)) in
    let met : (X : Column) → X ≡ column_at n store i → length (column_at n store i) ≡ n → infimum X (take (length X) c.loop-i.points) ≡ infimum (column_at n store i) p =
    λ X e w. ap₂ (λ (Y : Column) (q : ℕ). infimum Y (take q c.loop-i.points)) e (ap length e ∙ w) in
    elim c.if-k-n.branch [ then-k-n v ↦ met_more n c.loop-i.m p (column_at n store) (Parts n counts) i c.loop-i.invariant c.if-k-n.m (take n c.if-k-n.points) (v.m-is ∙ v.meet-m.ensures.answer ∙ ap classes (met _ v.member.ensures l)) (ap (take n) v.points-is ∙ sym (ap (λ (q : ℕ). take q v.meet-m.new.points) (ap length v.member.ensures ∙ l)) ∙ v.meet-m.ensures.met ∙ met _ v.member.ensures l) l | else-k-n v ↦ met_same n c.loop-i.m p (column_at n store) (Parts n counts) i c.loop-i.invariant c.if-k-n.m (take n c.if-k-n.points) v.m-is (ap (take n) v.points-is) (λ d. d (sym (count s i k) ∙ v.if-k-n.false)) ]

pub returns : goal.returns
returns c =
    let e : c.loop-i.i ≡ c.args.size = omega (arith, taken (goal.at.returns c).Start) in
    record {
      points = c.loop-i.invariant.0;
      coarser = rw e at c.loop-i.invariant.1;
    }
