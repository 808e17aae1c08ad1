-- `cross_pair` meets its contract: the coarser of two nested members, or as `join_pair` has it.
use mathlib.Core.Path.{◌≡◌, sym, ap, ◌∙◌}
use mathlib.Core.Bool.{true}
use native.Mathlib.Omega.{arith}
use Rattle.rules.specs.Factor.{classes}
use Rattle.design.specs.Sides.{test_of, plot_of, treatment_of, supremum_of}
use Rattle.design.proofs.Joins.{stands_few}
use Rattle.design.proofs.Sides.{plot_member, treatment_member, asked_made, kept_made, adds_made, treatment_made, plot_made}
use Rattle.design.proofs.crossing.cross_pair.Goals as goal
use Rattle.design.proofs.crossing.cross_pair.Goals.{Then-known_finer, Then-known_finer-2}

-- the treatment member is the coarser one
treatment : (c : Then-known_finer) → let s = c.args.sides.now in (true ≡ test_of s c.args.i c.args.j) × (treatment_of s c.args.j ≡ supremum_of s c.args.i c.args.j)
treatment c = treatment_made c.args.sides.now c.requires.0 c.requires.1 (sym c.known_finer.ensures ∙ c.if-known_finer.true)

-- the plot member is
plot : (c : Then-known_finer-2) → let s = c.args.sides.now in (true ≡ test_of s c.args.i c.args.j) × (plot_of s c.args.i ≡ supremum_of s c.args.i c.args.j)
plot c = plot_made c.args.sides.now c.requires.0 c.requires.1 (sym c.known_finer-2.ensures ∙ c.if-known_finer-2.true)

pub add-requires : goal.add-requires
add-requires c = let w = treatment (goal.at.add-requires c).Then-known_finer in
    let s = c.args.sides.now in
    asked_made s c.requires.0 c.requires.1 (c.member.ensures ∙ w.1) c.requires.2 ((treatment_member s c.requires.1).count ∙ ap classes w.1)

pub put-requires : goal.put-requires
put-requires c = let s = c.args.sides.now in
    (omega (arith, s.plot.ordered.few, s.treatment.ordered.few), stands_few c.add.ensures.growing c.add.ensures.stands)

pub returns-then-known_finer-clause-test : goal.returns-then-known_finer-clause-test
returns-then-known_finer-clause-test c = (treatment (goal.at.returns-then-known_finer-clause-test c).Then-known_finer).0

pub returns-then-known_finer-clause-kept : goal.returns-then-known_finer-clause-kept
returns-then-known_finer-clause-kept c = let w = treatment (goal.at.returns-then-known_finer-clause-kept c).Then-known_finer in
    let e = c.add.ensures in
    rw c.put.ensures (kept_made c.args.sides.now c.requires.0 c.requires.1 (c.member.ensures ∙ w.1) c.requires.2 (sym w.0) e.growing e.grown e.stands)

pub returns-then-known_finer-clause-places : goal.returns-then-known_finer-clause-places
returns-then-known_finer-clause-places c = let w = treatment (goal.at.returns-then-known_finer-clause-places c).Then-known_finer in
    λ _. adds_made c.args.sides.now c.requires.0 c.requires.1 (c.member.ensures ∙ w.1) c.args.found.now c.add.new.self c.add.ensures.adds

pub add-requires-then-known_finer-2 : goal.add-requires-then-known_finer-2
add-requires-then-known_finer-2 c = let w = plot (goal.at.add-requires-then-known_finer-2 c).Then-known_finer-2 in
    let s = c.args.sides.now in
    asked_made s c.requires.0 c.requires.1 (c.member-then-known_finer-2.ensures ∙ w.1) c.requires.2 ((plot_member s c.requires.0).count ∙ ap classes w.1)

pub put-requires-then-known_finer-2 : goal.put-requires-then-known_finer-2
put-requires-then-known_finer-2 c = let s = c.args.sides.now in
    let e = c.add-then-known_finer-2.ensures in
    (omega (arith, s.plot.ordered.few, s.treatment.ordered.few), stands_few e.growing e.stands)

pub returns-then-known_finer-2-clause-test : goal.returns-then-known_finer-2-clause-test
returns-then-known_finer-2-clause-test c = (plot (goal.at.returns-then-known_finer-2-clause-test c).Then-known_finer-2).0

pub returns-then-known_finer-2-clause-kept : goal.returns-then-known_finer-2-clause-kept
returns-then-known_finer-2-clause-kept c = let w = plot (goal.at.returns-then-known_finer-2-clause-kept c).Then-known_finer-2 in
    let e = c.add-then-known_finer-2.ensures in
    rw c.put-then-known_finer-2.ensures (kept_made c.args.sides.now c.requires.0 c.requires.1 (c.member-then-known_finer-2.ensures ∙ w.1) c.requires.2 (sym w.0) e.growing e.grown e.stands)

pub returns-then-known_finer-2-clause-places : goal.returns-then-known_finer-2-clause-places
returns-then-known_finer-2-clause-places c = let w = plot (goal.at.returns-then-known_finer-2-clause-places c).Then-known_finer-2 in
    λ _. adds_made c.args.sides.now c.requires.0 c.requires.1 (c.member-then-known_finer-2.ensures ∙ w.1) c.args.found.now c.add-then-known_finer-2.new.self c.add-then-known_finer-2.ensures.adds
