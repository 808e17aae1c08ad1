use mathlib.Core.Path.{◌≡◌, refl, sym, ap, ◌∙◌}
use Prim.Native.Nat.{ℕ, ◌≤◌, ◌<◌}
use native.Mathlib.Omega.{arith}
use lib.ListN.{length, get_or, take}
use lib.Seq.{take_all, length-take-le, get_or-take}
use Rattle.rules.specs.Factor.{Column, classes, equality}
use Rattle.rules.specs.Family.{members_of}
use Rattle.rules.proofs.ClassCount.{each_class_is}
use Rattle.design.specs.State.{column_at}
use Rattle.design.specs.Points.{points_on_plots}
use Rattle.design.proofs.Start.{held_on, placed_on, after_placed}
use Rattle.design.proofs.Work.{size_members, held_length, column_in_lem, members_more}
use Rattle.design.proofs.PointLaws.{points_most, ranged, plots_part, classes_plots}
use Rattle.design.proofs.Lifting.{gathered_none, gathered_same, gathered_more}
use Rattle.design.proofs.points.gather_all.Goals as goal
use Rattle.design.proofs.points.gather_all.Goals.{Start, else-k-n, then-k-n}

-- there are as many points as plots at most
few-points : (c : Start) → c.args.m ≤ 240
few-points c = omega (arith, points_most c.requires.1, c.requires.0.most)

module _ (c : Start) (r : Column) (h : length r ≡ 240) where
  -- the member as a column of points
  length_of : length (take c.args.m r) ≡ c.args.m
  length_of = length-take-le c.args.m r (rw h (few-points c))

  module _ (i : ℕ) (e : points_on_plots (take c.args.n c.args.points.now) r ≡ column_at c.args.n c.args.store.now i) where
    is_member : points_on_plots (take c.args.n c.args.points.now) (take c.args.m r) ≡ column_at c.args.n c.args.store.now i
    is_member = plots_part c.requires.1 r ∙ e

-- there is a count for each member
taken : (c : Start) → length (take c.args.size c.args.counts.now) ≡ c.args.size
taken c = length-take-le c.args.size c.args.counts.now (omega (arith, c.requires.0.few))

-- the count of member i
count : (c : Start) (i : ℕ) → i < c.args.size → get_or (take c.args.size c.args.counts.now) i 0 ≡ get_or c.args.counts.now i 0
count c i l = get_or-take c.args.size c.args.counts.now i 0 l

pub loop-i-init : goal.loop-i-init
loop-i-init c =
    (omega arith, gathered_none c.requires.1 c.requires.0.some c.requires.0.most c.args.own.now c.args.own_counts.now c.requires.5 c.requires.6)

pub gathered-column-requires : goal.gathered-column-requires
gathered-column-requires c =
    let h = c.requires.0 in
    let s = (goal.at.gathered-column-requires c).Start in
    let l : c.loop-i.i < c.args.size = omega (arith, taken s) in
    (h.most, h.room, omega (arith, h.few), ranged c.requires.1 h.most, c.requires.4 c.loop-i.i l (λ e. c.if-k-n.true (count s c.loop-i.i l ∙ e)))

pub slice_bounds-column-end : goal.slice_bounds-column-end
slice_bounds-column-end c = rw c.gathered-column.ensures.0 (few-points (goal.at.slice_bounds-column-end c).Start)

pub slice_bounds-place-end : goal.slice_bounds-place-end
slice_bounds-place-end c = sym (length_of (goal.at.slice_bounds-place-end c).Start c.gathered-column.result c.gathered-column.ensures.0)

pub place-p-requires : goal.place-p-requires
place-p-requires c =
    let s = (goal.at.place-p-requires c).Start in
    let r = c.gathered-column.result in
    let F = take c.args.m r in
    let k : length F ≡ c.args.m = length_of s r c.gathered-column.ensures.0 in
    let i = c.loop-i.i in
    let l : i < c.args.size = omega (arith, taken s) in (
      held_on c.args.m c.loop-i.own c.loop-i.own_counts c.loop-i.some F F refl k c.loop-i.invariant.1.held,
      count s i l ∙ c.requires.0.counted i l ∙ ap classes (sym (is_member s r c.gathered-column.ensures.0 i c.gathered-column.ensures.1)) ∙ classes_plots c.requires.1 F k,
      omega (arith, c.requires.0.few),
    )

pub grown-some-requires : goal.grown-some-requires
grown-some-requires c = c.loop-i.invariant.1.held.few

pub loop-i-preserved : goal.loop-i-preserved
loop-i-preserved c =
    let h = c.requires.0 in
    let i = c.loop-i.i in
    let l : i < c.args.size = omega (arith, taken (goal.at.loop-i-preserved c).Start) in
    let less : c.loop-i.some < 32 = omega (arith, h.few) in
    elim c.if-k-n.branch [
      | then-k-n v ↦
          let s = (goal.at.loop-i-preserved c).Start in
          let m = c.args.m in
          let r = v.gathered-column.result in
          let F = take m r in
          let G = column_at c.args.n c.args.store.now i in
          let k : length F ≡ m = length_of s r v.gathered-column.ensures.0 in
          let f : points_on_plots (take c.args.n c.args.points.now) F ≡ G = is_member s r v.gathered-column.ensures.0 i v.gathered-column.ensures.1 in
          let p = placed_on m c.loop-i.own c.loop-i.some F F v.place-p.result v.place-p.new.store v.place-p.new.counts refl k v.place-p.ensures in
          let g = gathered_more c.requires.1 c.loop-i.invariant.1 less F G k f (c.requires.3 G (column_in_lem h i l)) v.place-p.result v.place-p.new.store v.place-p.new.counts p in
          let most = (after_placed m c.loop-i.own c.loop-i.own_counts c.loop-i.some c.loop-i.invariant.1.held less F v.place-p.result v.place-p.new.store v.place-p.new.counts p).most in
          (rw (v.some-is ∙ v.grown-some.ensures) (omega (arith, most)), rw (members_more h i l, v.own-is, v.own_counts-is, v.some-is ∙ v.grown-some.ensures) g)
      | else-k-n v ↦ let F = column_at c.args.n c.args.store.now i in
          let e : F ≡ equality c.args.n = (each_class_is c.args.n F (held_length h i l) (c.requires.3 F (column_in_lem h i l))).0 (sym (h.counted i l) ∙ sym (count (goal.at.loop-i-preserved c).Start i l) ∙ v.if-k-n.false) in
          (rw v.some-is (omega arith), rw (members_more h i l, v.own-is, v.own_counts-is, v.some-is) (gathered_same c.loop-i.invariant.1 F e))
    ]

pub shape_of-own : goal.shape_of-own
shape_of-own c = c.loop-i.invariant.1.held.room ∙ sym c.requires.5

pub returns : goal.returns
returns c =
    let S = members_of c.args.n c.args.store.now c.args.size in
    let e : take c.loop-i.i S ≡ S = take_all c.loop-i.i S (omega (arith, size_members c.requires.0, taken (goal.at.returns c).Start)) in
    rw e at c.loop-i.invariant.1
