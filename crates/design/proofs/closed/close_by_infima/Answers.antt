-- `close_by_infima` meets its contract: the infima are the family where no two have another supremum, and otherwise all that was found is closed.
use mathlib.Core.Path.{◌≡◌, refl, sym, ◌∙◌}
use mathlib.Core.Bool.{true, false}
use mathlib.Core.List.{List}
use Prim.Native.Nat.{ℕ, ◌≤◌, ◌<◌, zero-le}
use native.Mathlib.Omega.{arith}
use lib.ListN.{length, get_or}
use Rattle.rules.specs.Factor.{Column}
use Rattle.rules.specs.Family.{◌∈◌, columns_from, members_of}
use Rattle.rules.proofs.Buffer.{length_columns}
use Rattle.rules.proofs.Demand3.{column_length}
use Rattle.rules.proofs.PlotInfima.{plot_infima, infima_many}
use Rattle.design.specs.State.{Begun, Work, ClosedOrMore}
use Rattle.design.proofs.Work.{size_members, work_begun, work_done, grows_whole, grows_own}
use Rattle.design.proofs.Judge.{family_listed, plot_whole, plot_grown}
use Rattle.design.proofs.closed.close_by_infima.Goals as goal
use Rattle.design.proofs.closed.close_by_infima.Goals.{After-place_plot_infima, After-sort-order, In_ok-size, In_ok-start, Then-size-start}

-- the plot columns, which are on n plots
abbrev columns : After-place_plot_infima → List Column
columns c = let a = c.args in columns_from a.n a.levels.now 0 a.columns

on : (c : After-place_plot_infima) (F : Column) → F ∈ columns c → length F ≡ c.args.n
on c = let s = c in column_length s.args.n s.args.levels.now s.args.columns 0 s.requires.1 s.requires.3 (omega (arith, s.requires.2))

-- their infima and E are placed
begun : (c : In_ok-start) → let p = (goal.at.In_ok-start c).After-place_plot_infima in Begun c.args.n (plot_infima c.args.n (columns p)) c.place_plot_infima.new.store c.place_plot_infima.new.counts c.in_ok-start.start
begun c = c.in_ok-start.ensures

-- what suprema add to them
grows : (c : In_ok-size)
    → let p = (goal.at.In_ok-size c).After-place_plot_infima in
    ClosedOrMore p.args.n (plot_infima p.args.n (columns p)) c.close_or_grow.new.store c.close_or_grow.new.counts c.close_or_grow.new.marks c.in_ok-start.start c.in_ok-size.size
grows c = c.in_ok-size.ensures.grows (plot_infima c.args.n (columns (goal.at.In_ok-size c).After-place_plot_infima)) (work_begun false (begun (goal.at.In_ok-size c).In_ok-start) c.requires.7)

whole : (c : Then-size-start)
    → let p = (goal.at.Then-size-start c).After-place_plot_infima in
    Work p.args.n false (plot_infima p.args.n (columns p)) c.close_or_grow.new.store c.close_or_grow.new.counts c.close_or_grow.new.marks c.in_ok-size.size c.in_ok-size.size 0
whole c = grows_whole c.if-size-start.true (grows (goal.at.Then-size-start c).In_ok-size)

-- the entries of the order are places
places : (c : After-sort-order) (q : ℕ) → q < c.in_ok-size.size → get_or c.sort-order.result q 0 < 32
places c q h =
    let w = whole (goal.at.After-sort-order c).Then-size-start in
    let l = size_members w.held in
    omega (arith, c.sort-order.ensures.places q (rw l h), l, w.held.few)

pub returns-in_err-start : goal.returns-in_err-start
returns-in_err-start c =
    let p = (goal.at.returns-in_err-start c).After-place_plot_infima in
    rw c.from_residual.ensures (infima_many p.args.n (columns p) (on p) c.in_err-start.ensures, refl)

pub close_or_grow-requires : goal.close_or_grow-requires
close_or_grow-requires c = (begun (goal.at.close_or_grow-requires c).In_ok-start).held

pub returns-in_err-size : goal.returns-in_err-size
returns-in_err-size c =
    let p = (goal.at.returns-in_err-size c).After-place_plot_infima in
    let many = c.in_err-size.ensures.grows (plot_infima c.args.n (columns p)) (work_begun false (begun (goal.at.returns-in_err-size c).In_ok-start) c.requires.7) in
    rw c.from_residual-in_err-size.ensures (infima_many p.args.n (columns p) (on p) many, refl)

pub sort-order-requires : goal.sort-order-requires
sort-order-requires c = let w = whole (goal.at.sort-order-requires c).Then-size-start in (w.held, w.found.distinct)

pub write-requires : goal.write-requires
write-requires c =
    let t = (goal.at.write-requires c).After-sort-order in
    let h = (goal.at.write-requires c).Then-size-start in
    let w = whole h in
    (w.held.most, w.held.room, w.held.few, h.requires.4, t.sort-order.ensures.entries, places t)

pub returns-then-size-start : goal.returns-then-size-start
returns-then-size-start c =
    let h = (goal.at.returns-then-size-start c).Then-size-start in
    let p = (goal.at.returns-then-size-start c).After-place_plot_infima in
    let n = p.args.n in
    let b = begun (goal.at.returns-then-size-start c).In_ok-start in
    let w = whole h in
    let few : length (columns p) ≤ 6 = omega (arith, length_columns n p.args.levels.now 0 p.args.columns, p.requires.2) in
    plot_whole (on p) few (members_of n c.place_plot_infima.new.store c.in_ok-start.start) b.distinct b.only (h.if-size-start.true ∙ sym (size_members b.held))
    (family_listed w c.sort-order.ensures (plot_infima n (columns p)) (work_done w) c.write.ensures)

pub close_family-requires : goal.close_family-requires
close_family-requires c =
    let o = grows_own (grows (goal.at.close_family-requires c).In_ok-size) in
    (work_begun true o.begun o.cells, zero-le, c.requires.4)

pub returns : goal.returns
returns c =
    let p = (goal.at.returns c).After-place_plot_infima in
    let o = grows_own (grows (goal.at.returns c).In_ok-size) in
    let Ms = members_of p.args.n c.close_or_grow.new.store c.in_ok-size.size in
    plot_grown (on p) Ms o.only o.given _ _ _ _ (c.close_family.ensures Ms (work_begun true o.begun o.cells))
