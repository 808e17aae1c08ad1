-- `first_points` meets its contract: the family is closed on the points, and its members are written as columns of plots.
use mathlib.Core.Path.{◌≡◌, refl, subst}
use mathlib.Core.Bool.{false}
use mathlib.Core.List.{List, append-nil, map}
use Prim.Native.Nat.{ℕ, ◌≤◌, zero-le}
use native.Mathlib.Nat.{le_refl}
use native.Mathlib.Omega.{arith}
use lib.ListN.{length, take, replicate, length-replicate}
use Rattle.rules.specs.Factor.{Column}
use Rattle.rules.specs.Family.{◌∈◌, columns_from, members_of}
use Rattle.rules.specs.Closing.{only_supremum, treatment_generators, too_many, close}
use Rattle.rules.proofs.Demand3.{column_length}
use Rattle.design.specs.State.{Work}
use Rattle.design.specs.Points.{points_on_plots}
use Rattle.design.specs.Treatments.{AllPlaced}
use Rattle.design.proofs.Choosing.{all_on, all_over}
use Rattle.design.proofs.Start.{held_none, begun_none}
use Rattle.design.proofs.Work.{work_begun, work_self}
use Rattle.design.proofs.PointLaws.{points_some, points_most, ranged}
use Rattle.design.proofs.PointChoices.{generators_plots, columns_plots, generators_on}
use Rattle.design.proofs.Lifting.{suprema_over, spread_work}
use Rattle.design.proofs.replicates.first_points.Goals as goal
use Rattle.design.proofs.replicates.first_points.Goals.{After-place_choices, After-spread_all, In_ok-size, In_ok-start, Start}

-- there are as many points as plots at most
few-points : (c : Start) → c.args.m ≤ 240
few-points c = omega (arith, points_most c.requires.9, c.requires.1)

-- the points
abbrev points : After-place_choices → Column
points c = take c.args.n c.args.points.now

-- the treatment columns as columns of points
abbrev columns : After-place_choices → List Column
columns c = columns_from c.args.m c.gather_levels.new.own 0 c.args.d

columns-on : (c : After-place_choices) (F : Column) → F ∈ columns c → length F ≡ c.args.m
columns-on c =
    let g = c in
    let s = (goal.at.After-place_choices c).Start in
    let l = g.gather_levels.ensures.room in
    column_length s.args.m g.gather_levels.new.own s.args.d 0 (few-points s) (omega arith) (omega (arith, s.requires.2))

-- the infima of their choices
abbrev generators : After-place_choices → List Column
generators c = treatment_generators c.args.m c.args.k (columns c)

generators-are : (c : After-place_choices) (F : Column) → F ∈ generators c → length F ≡ c.args.m
generators-are c = generators_on c.args.m c.args.k (columns c) (columns-on c)

-- on the plots these are the infima that the family starts from
abbrev family : After-place_choices → List Column
family c = let s = c in treatment_generators s.args.n s.args.k (columns_from s.args.n s.args.levels.now 6 s.args.d)

on_plots_lem : (c : After-place_choices) → family c ≡ map (points_on_plots (points c)) (generators c)
on_plots_lem c =
    let g = c in
    let s = (goal.at.After-place_choices c).Start in
    generators_plots s.requires.9 s.args.k (columns_from s.args.n s.args.levels.now 6 s.args.d) (columns c)
    (columns_plots s.requires.9 s.args.levels.now g.gather_levels.new.own s.args.d (few-points s) g.gather_levels.ensures.columns) (columns-on c)

-- they are placed beside no other member
placed : (c : After-place_choices) → AllPlaced c.args.m (generators c) c.place_choices.new.store c.place_choices.new.counts c.place_choices.result
unfolding members_of columns_from
placed c = subst (λ (S : List Column). AllPlaced c.args.m S c.place_choices.new.store c.place_choices.new.counts c.place_choices.result) (append-nil (generators c)) c.place_choices.ensures

-- too many on the points are too many on the plots
over : (c : After-place_choices) → close only_supremum (generators c) ≡ too_many → close only_supremum (family c) ≡ too_many
over c e = rw (on_plots_lem c) (suprema_over c.requires.9 (generators-are c) e)

-- closing begins with them
begins : (c : In_ok-start) → Work c.args.m false (generators (goal.at.In_ok-start c).After-place_choices) c.place_choices.new.store c.place_choices.new.counts c.args.marks.now c.in_ok-start.start 0 0
begins c = let a = (goal.at.In_ok-start c).After-place_choices in work_begun false (all_on c.in_ok-start.was (placed a)) a.requires.8

work : (c : In_ok-size) → Work c.args.m false (generators (goal.at.In_ok-size c).After-place_choices) c.close.new.store c.close.new.counts c.close.new.marks c.in_ok-size.size c.in_ok-size.size 0
work c = (c.in_ok-size.ensures.closes (generators (goal.at.In_ok-size c).After-place_choices) (begins (goal.at.In_ok-size c).In_ok-start)).0

-- the family is closed on the plots
worked : (c : After-spread_all) → let q = c in Work q.args.n false (family (goal.at.After-spread_all c).After-place_choices) c.spread_all.new.store q.close.new.counts q.close.new.marks q.in_ok-size.size q.in_ok-size.size 0
worked c =
    let q = c in
    let a = (goal.at.After-spread_all c).After-place_choices in
    let s = c in
    rw (on_plots_lem a) (spread_work s.requires.9 s.requires.10 (work (goal.at.After-spread_all c).In_ok-size) s.requires.0 s.requires.1 c.spread_all.new.store c.spread_all.ensures.room c.spread_all.ensures.members (generators-are a))

pub gather_levels-requires : goal.gather_levels-requires
gather_levels-requires c = (c.requires.1, c.requires.2, c.requires.5, refl, ranged c.requires.9 c.requires.1, c.requires.11)

pub place_choices-requires : goal.place_choices-requires
unfolding members_of columns_from
place_choices-requires c =
    let s = (goal.at.place_choices-requires c).Start in
    let l = c.gather_levels.ensures.room in
    let m = s.args.m in
    let store : List ℕ = replicate 7680 0 in
    let zeros : List ℕ = replicate 32 0 in
    (s.requires.2, s.requires.3, s.requires.4, zero-le, omega arith, begun_none m store zeros (held_none m store zeros (points_some s.requires.9 s.requires.0) (few-points s) (length-replicate {A = ℕ} 7680 0) (length-replicate {A = ℕ} 32 0)))

pub returns-in_err-start : goal.returns-in_err-start
returns-in_err-start c = let a = (goal.at.returns-in_err-start c).After-place_choices in rw c.from_residual.ensures (over a (all_over _ _ _ _ c.in_err-start.was (placed a)), refl)

pub close-requires : goal.close-requires
close-requires c = ((begins (goal.at.close-requires c).In_ok-start).held, zero-le)

pub returns-in_err-size : goal.returns-in_err-size
returns-in_err-size c =
    let a = (goal.at.returns-in_err-size c).After-place_choices in
    rw c.from_residual-in_err-size.ensures (over a (c.in_err-size.ensures.closes (generators a) (begins (goal.at.returns-in_err-size c).In_ok-start)), refl)

pub spread_all-requires : goal.spread_all-requires
spread_all-requires c =
    let w = work (goal.at.spread_all-requires c).In_ok-size in
    (c.requires.1, w.held.room, c.requires.7, w.held.few, ranged c.requires.9 c.requires.1)

pub close_family-requires : goal.close_family-requires
close_family-requires c = let t = (goal.at.close_family-requires c).After-spread_all in (work_self (worked t), le_refl _, t.requires.6)

pub returns : goal.returns
returns c = c.close_family.ensures (family (goal.at.returns c).After-place_choices) (worked (goal.at.returns c).After-spread_all)
