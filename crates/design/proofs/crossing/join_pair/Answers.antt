-- `join_pair` meets its contract: the supremum that follows is in the store.
use mathlib.Core.Path.{◌≡◌, sym, subst}
use Prim.Native.Nat.{ℕ, ◌<◌}
use native.Mathlib.Omega.{arith}
use Rattle.std.proofs.Common.{Some}
use Rattle.design.specs.Crossing.{Join}
use Rattle.design.specs.Sides.{plot_of, treatment_of}
use Rattle.design.proofs.Joins.{joins_more, joined_adds}
use Rattle.design.proofs.Sides.{plot_member, treatment_member, number_made}
use Rattle.design.proofs.crossing.join_pair.Goals as goal
use Rattle.design.proofs.crossing.join_pair.Goals.{In-Some}

-- the place of the supremum
joined : (c : In-Some) → let s = c.args.sides.now in Join s.plot.plots (plot_of s c.args.i) (treatment_of s c.args.j) c.args.found.now.bytes c.args.found.now.size c.in-Some.place
joined c = c.following.ensures c.in-Some.place c.in-Some.is

pub put-requires : goal.put-requires
put-requires c = let s = c.args.sides.now in
    let w = joined (goal.at.put-requires c).In-Some in
    let place = c.in-Some.place in
    let few : place < 32 = omega (arith, w.less, c.requires.2.growing.held.few) in
    (omega (arith, s.plot.ordered.few, s.treatment.ordered.few), λ q e. let h : place ≡ q = cc in subst (λ (k : ℕ). k < 32) h few)

pub returns-clause-test : goal.returns-clause-test
returns-clause-test c = sym (joined (goal.at.returns-clause-test c).In-Some).test

pub returns-clause-kept : goal.returns-clause-kept
returns-clause-kept c = let w = joined (goal.at.returns-clause-kept c).In-Some in
    let s = c.args.sides.now in
    let place = c.in-Some.place in rw c.put.ensures record {
      growing = c.requires.2.growing;
      table = joins_more c.args.i c.args.j (Some place) (plot_member s c.requires.0).place (treatment_member s c.requires.1).place
          (λ q e. let h : place ≡ q = cc in subst (λ (k : ℕ). Join s.plot.plots (plot_of s c.args.i) (treatment_of s c.args.j) c.args.found.now.bytes c.args.found.now.size k) h w) c.requires.2.table;
    }

pub returns-clause-places : goal.returns-clause-places
returns-clause-places c = let s = c.args.sides.now in
    λ _. joined_adds c.requires.2.growing (plot_of s c.args.i) (treatment_of s c.args.j) c.in-Some.place (number_made s c.requires.0 c.requires.1) (joined (goal.at.returns-clause-places c).In-Some)
