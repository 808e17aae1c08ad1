-- `close_points` meets its contract: the family is closed on the points, and its members and E are written as columns of plots.
use mathlib.Core.Path.{◌≡◌, refl, sym, ap, ◌∙◌}
use mathlib.Core.Bool.{true}
use mathlib.Core.List.{List}
use Prim.Native.Nat.{ℕ}
use native.Mathlib.Omega.{arith}
use lib.ListN.{length, take, length-take}
use Rattle.rules.specs.Factor.{Column, classes, equality}
use Rattle.rules.specs.Family.{members_of}
use Rattle.rules.proofs.ClassCount.{classes_equality}
use Rattle.rules.proofs.Extremes.{length_equality}
use Rattle.design.specs.State.{Held, PlacedMember, grown_to, Begun, Work}
use Rattle.design.specs.Points.{Gathered}
use Rattle.design.proofs.Start.{held_on, placed_on, no_room_on}
use Rattle.design.proofs.Work.{size_members, work_begun, work_self, Stood, stood, stood_as}
use Rattle.design.proofs.PointLaws.{ranged}
use Rattle.design.proofs.Lifting.{Generates, points_over, spread_held, equality_over, with_equality, gathered_begun, gathered_generates}
use Rattle.design.proofs.points.close_points.Goals as goal
use Rattle.design.proofs.points.close_points.Goals.{After-equality-column, After-gather_all-some, After-spread_all, In_ok-p, In_ok-size}

-- the points
abbrev points : After-gather_all-some → Column
points c = take c.args.n c.args.points.now

-- the columns of points that the family starts from
abbrev columns : After-gather_all-some → List Column
columns c = members_of c.args.m c.gather_all-some.new.own c.gather_all-some.result

gathered : (c : After-gather_all-some) → Gathered c.args.n c.args.m (points c) (members_of c.args.n c.args.store.now c.args.start) c.gather_all-some.new.own c.gather_all-some.new.own_counts c.gather_all-some.result
gathered c = c.gather_all-some.ensures

-- any columns of plots that it starts from are these and E
generates : (c : After-gather_all-some) (Gs : List Column) → Begun c.args.n Gs c.args.store.now c.args.counts.now c.args.start → Generates c.args.n c.args.m (points c) (columns c) Gs
generates c Gs b = let s = c in gathered_generates s.args.store.now s.args.counts.now s.args.start (gathered c) s.requires.1 b

-- closing begins with them
begins : (c : After-gather_all-some) → Work c.args.m true (columns c) c.gather_all-some.new.own c.gather_all-some.new.own_counts c.args.marks.now c.gather_all-some.result 0 0
begins c = let s = c in work_begun true (gathered_begun s.args.store.now s.args.counts.now s.args.start (gathered c)) s.requires.5

-- it is closed on the points
work : (c : In_ok-size) → let q = (goal.at.In_ok-size c).After-gather_all-some in Work q.args.m true (columns q) c.close.new.store c.close.new.counts c.close.new.marks c.in_ok-size.size c.in_ok-size.size 0
work c = let q = (goal.at.In_ok-size c).After-gather_all-some in (c.in_ok-size.ensures.closes (columns q) (begins q)).0

-- the store with its members as columns of plots
abbrev spread : After-spread_all → List ℕ
spread c = c.spread_all.new.store

-- any columns that the family starts from generate it; its own are such
own : (c : After-gather_all-some) → Generates c.args.n c.args.m (points c) (columns c) (members_of c.args.n c.args.store.now c.args.start)
own c = generates c (members_of c.args.n c.args.store.now c.args.start) c.requires.0

held : (c : After-spread_all) → Held c.args.n (spread c) c.close.new.counts c.in_ok-size.size
held c = let q = (goal.at.After-spread_all c).After-gather_all-some in let s = c in spread_held s.requires.2 (own q) (work (goal.at.After-spread_all c).In_ok-size) s.requires.3 s.requires.0.held.most (spread c) c.spread_all.ensures.room c.spread_all.ensures.members

-- E is on n plots
length-is : (c : After-equality-column) → let n = c.args.n in length (take n c.equality-column.result) ≡ n
length-is c = let n = c.args.n in ap length c.equality-column.ensures ∙ length_equality n

placed : (c : In_ok-p) → let t = (goal.at.In_ok-p c).After-spread_all in PlacedMember c.args.n (members_of c.args.n (spread t) c.in_ok-size.size) (equality c.args.n) c.in_ok-p.p c.try_place.new.store c.try_place.new.counts
placed c =
    let t = (goal.at.In_ok-p c).After-spread_all in
    let n = c.args.n in
    placed_on n (spread t) c.in_ok-size.size (take n c.equality-column.result) (equality n) c.in_ok-p.p c.try_place.new.store c.try_place.new.counts c.equality-column.ensures (length_equality n) c.in_ok-p.ensures

stands : (c : In_ok-p) (size : ℕ) → let t = (goal.at.In_ok-p c).After-spread_all in size ≡ grown_to c.in_ok-size.size c.in_ok-p.p
    → Stood c.args.n (members_of c.args.n (spread t) c.in_ok-size.size) (equality c.args.n) c.in_ok-p.p c.try_place.new.store c.try_place.new.counts size
stands c size e = let t = (goal.at.In_ok-p c).After-spread_all in stood_as e (stood c.in_ok-size.size (size_members (held t)) (placed c))

-- with E, the members before it are combined with each other
worked : (c : In_ok-p) (size : ℕ) → let q = (goal.at.In_ok-p c).After-gather_all-some in size ≡ grown_to c.in_ok-size.size c.in_ok-p.p
    → (Gs : List Column) → Generates c.args.n c.args.m (points q) (columns q) Gs → Work c.args.n true Gs c.try_place.new.store c.try_place.new.counts c.close.new.marks size c.in_ok-size.size 0
worked c size e Gs g =
    let t = (goal.at.In_ok-p c).After-spread_all in
    with_equality c.requires.2 g (work (goal.at.In_ok-p c).In_ok-size) c.requires.3 c.requires.0.held.most (spread t) c.spread_all.ensures.room c.spread_all.ensures.members (stands c size e)

pub close-requires : goal.close-requires
close-requires c = ((begins (goal.at.close-requires c).After-gather_all-some).held, omega arith)

pub returns-in_err-size : goal.returns-in_err-size
returns-in_err-size c = let q = (goal.at.returns-in_err-size c).After-gather_all-some in λ Gs b. rw c.from_residual.ensures (points_over q.requires.2 (generates q Gs b) (c.in_err-size.ensures.closes (columns q) (begins q)), refl)

pub spread_all-requires : goal.spread_all-requires
spread_all-requires c =
    let w = work (goal.at.spread_all-requires c).In_ok-size in
    (c.requires.0.held.most, w.held.room, c.requires.0.held.room, w.held.few, ranged c.requires.2 c.requires.0.held.most)

pub slice_bounds-column-end : goal.slice_bounds-column-end
slice_bounds-column-end c =
    let e = (goal.at.slice_bounds-column-end c).After-equality-column in
    let n = e.args.n in
    omega (arith, length-is e, length-take n e.equality-column.result)

pub slice_bounds-try_place-end : goal.slice_bounds-try_place-end
slice_bounds-try_place-end c = sym (length-is (goal.at.slice_bounds-try_place-end c).After-equality-column)

pub overflow_cast-n : goal.overflow_cast-n
overflow_cast-n c = omega (arith, c.requires.0.held.most)

pub try_place-requires : goal.try_place-requires
try_place-requires c =
    let t = (goal.at.try_place-requires c).After-spread_all in
    let n = c.args.n in (
      held_on n (spread t) c.close.new.counts c.in_ok-size.size (take n c.equality-column.result) (equality n) c.equality-column.ensures (length_equality n) (held t),
      sym (ap classes c.equality-column.ensures ∙ classes_equality n),
    )

pub returns-in_err-p : goal.returns-in_err-p
returns-in_err-p c =
    let t = (goal.at.returns-in_err-p c).After-spread_all in
    let q = (goal.at.returns-in_err-p c).After-gather_all-some in
    let n = c.args.n in
    let room = no_room_on n (spread t) c.in_ok-size.size (take n c.equality-column.result) (equality n) _ _ c.equality-column.ensures (length_equality n) c.in_err-p.ensures in
    λ Gs b. rw c.from_residual-in_err-p.ensures (equality_over c.requires.2 (generates q Gs b) (work (goal.at.returns-in_err-p c).In_ok-size) c.requires.3 c.requires.0.held.most (spread t) c.spread_all.ensures.room c.spread_all.ensures.members room, refl)

pub grown-requires : goal.grown-requires
grown-requires c = (work (goal.at.grown-requires c).In_ok-size).held.few

pub close_family-requires : goal.close_family-requires
close_family-requires c =
    let y = (goal.at.close_family-requires c).In_ok-p in
    let t = (goal.at.close_family-requires c).After-spread_all in
    let q = (goal.at.close_family-requires c).After-gather_all-some in
    let w = worked y c.grown.result c.grown.ensures (members_of c.args.n c.args.store.now c.args.start) (own q) in
    (work_self w, omega (arith, (stands y c.grown.result c.grown.ensures).more, size_members (held t)), c.requires.6)

pub returns : goal.returns
returns c =
    let y = (goal.at.returns c).In_ok-p in
    let q = (goal.at.returns c).After-gather_all-some in
    let g = c.grown in
    λ Gs b. c.close_family.ensures Gs (worked y g.result g.ensures Gs (generates q Gs b))
