-- `walk_pair` meets its contract: the column that is added is the supremum.
use mathlib.Core.Path.{◌≡◌, sym, ◌∙◌}
use mathlib.Core.List.{List}
use Prim.Native.Nat.{ℕ, ◌≤◌}
use native.Mathlib.Omega.{arith}
use lib.ListN.{take, replicate}
use Rattle.rules.specs.Factor.{classes}
use Rattle.standing.proofs.Nesting.{orthogonal_parts}
use Rattle.design.specs.Sides.{test_of, plot_of, treatment_of, supremum_of}
use Rattle.design.proofs.Joins.{stands_few}
use Rattle.design.proofs.Suprema.{take_made, classes_made}
use Rattle.design.proofs.Sides.{plot_room, treatment_room, length_plot, length_treatment, asked_made, kept_made, adds_made}
use Rattle.design.proofs.crossing.walk_pair.Goals as goal
use Rattle.design.proofs.crossing.walk_pair.Goals.{After-crossing_of-crossing}

-- what is added is the supremum
taken : (c : After-crossing_of-crossing) → take c.args.sides.now.plot.plots c.crossing_of-crossing.new.above ≡ supremum_of c.args.sides.now c.args.i c.args.j
taken c =
    let s = c.args.sides.now in
    let zeros : List ℕ = replicate 240 0 in
    take_made s.plot.plots (plot_of s c.args.i) (treatment_of s c.args.j) _ _ s.plot.ordered.most c.member-f.ensures c.member-g.ensures (length_plot s c.requires.0 c.requires.1) (length_treatment s c.requires.0 c.requires.1) zeros _ c.crossing_of-crossing.ensures.above

-- its number of classes
counted : (c : After-crossing_of-crossing) → (c.crossing_of-crossing.result.supremum ≡ classes (supremum_of c.args.sides.now c.args.i c.args.j)) × (c.crossing_of-crossing.result.supremum ≤ 240)
counted c =
    let s = c.args.sides.now in
    classes_made s.plot.plots (plot_of s c.args.i) (treatment_of s c.args.j) _ _ s.plot.ordered.most c.member-f.ensures c.member-g.ensures (length_plot s c.requires.0 c.requires.1) (length_treatment s c.requires.0 c.requires.1) _ c.crossing_of-crossing.ensures.supremum

-- the test is that of the members
tested : (c : After-crossing_of-crossing) → c.crossing_of-crossing.result.orthogonal ≡ test_of c.args.sides.now c.args.i c.args.j
tested c =
    let s = c.args.sides.now in
    c.crossing_of-crossing.ensures.orthogonal
    ∙ orthogonal_parts s.plot.plots s.plot.bytes.now s.treatment.bytes.now c.args.i c.args.j s.plot.ordered.most (plot_room s c.requires.0 c.requires.1) (treatment_room s c.requires.0 c.requires.1) _ _ c.member-f.ensures c.member-g.ensures

pub overflow_cast-crossing : goal.overflow_cast-crossing
overflow_cast-crossing c = omega (arith, (counted (goal.at.overflow_cast-crossing c).After-crossing_of-crossing).1)

pub add-requires : goal.add-requires
add-requires c = let w = (goal.at.add-requires c).After-crossing_of-crossing in
    asked_made c.args.sides.now c.requires.0 c.requires.1 (taken w) c.requires.2 (counted w).0

pub put-requires : goal.put-requires
put-requires c = let s = c.args.sides.now in
    (omega (arith, s.plot.ordered.few, s.treatment.ordered.few), stands_few c.add.ensures.growing c.add.ensures.stands)

pub returns-then-crossing-clause-test : goal.returns-then-crossing-clause-test
returns-then-crossing-clause-test c = tested (goal.at.returns-then-crossing-clause-test c).After-crossing_of-crossing

pub returns-then-crossing-clause-kept : goal.returns-then-crossing-clause-kept
returns-then-crossing-clause-kept c = let w = (goal.at.returns-then-crossing-clause-kept c).After-crossing_of-crossing in
    let e = c.add.ensures in
    rw c.put.ensures (kept_made c.args.sides.now c.requires.0 c.requires.1 (taken w) c.requires.2 (sym (tested w) ∙ c.if-crossing.true) e.growing e.grown e.stands)

pub returns-then-crossing-clause-places : goal.returns-then-crossing-clause-places
returns-then-crossing-clause-places c = let w = (goal.at.returns-then-crossing-clause-places c).After-crossing_of-crossing in
    λ _. adds_made c.args.sides.now c.requires.0 c.requires.1 (taken w) c.args.found.now c.add.new.self c.add.ensures.adds

pub returns-else-crossing-clause-test : goal.returns-else-crossing-clause-test
returns-else-crossing-clause-test c = tested (goal.at.returns-else-crossing-clause-test c).After-crossing_of-crossing
