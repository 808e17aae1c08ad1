-- `first_whole` meets its contract: the infima are placed, and the family is closed.
use mathlib.Core.Path.{refl, subst}
use mathlib.Core.Bool.{false}
use mathlib.Core.List.{List, append-nil}
use Prim.Native.Nat.{ℕ, zero-le}
use native.Mathlib.Omega.{arith}
use lib.ListN.{replicate, length-replicate}
use Rattle.rules.specs.Factor.{Column}
use Rattle.rules.specs.Family.{columns_from, members_of}
use Rattle.rules.specs.Closing.{treatment_generators}
use Rattle.design.specs.Treatments.{AllPlaced}
use Rattle.design.proofs.Choosing.{all_on, all_over, begun_own}
use Rattle.design.proofs.Start.{held_none, begun_none}
use Rattle.design.proofs.Work.{work_begun}
use Rattle.design.proofs.treatments.first_whole.Goals as goal
use Rattle.design.proofs.treatments.first_whole.Goals.{After-place_choices}

-- the infima of the choices
abbrev generators : After-place_choices → List Column
generators c = let a = c.args in treatment_generators a.n a.k (columns_from a.n a.levels.now 6 a.d)

-- they are placed beside no other member
placed : (c : After-place_choices) → AllPlaced c.args.n (generators c) c.place_choices.new.store c.place_choices.new.counts c.place_choices.result
unfolding members_of columns_from
placed c = subst (λ (S : List Column). AllPlaced c.args.n S c.place_choices.new.store c.place_choices.new.counts c.place_choices.result) (append-nil (generators c)) c.place_choices.ensures

pub place_choices-requires : goal.place_choices-requires
unfolding members_of columns_from
place_choices-requires c =
    let n = c.args.n in
    let store = c.args.store.now in
    let zeros : List ℕ = replicate 32 0 in
    (c.requires.2, c.requires.3, c.requires.4, omega arith, c.requires.5, begun_none n store zeros (held_none n store zeros c.requires.0 c.requires.1 c.requires.7 (length-replicate {A = ℕ} 32 0)))

pub returns-in_err-start : goal.returns-in_err-start
returns-in_err-start c = rw c.from_residual.ensures (all_over _ _ _ _ c.in_err-start.was (placed (goal.at.returns-in_err-start c).After-place_choices), refl)

pub close_family-requires : goal.close_family-requires
close_family-requires c =
    let p = (goal.at.close_family-requires c).After-place_choices in
    (work_begun false (begun_own (all_on c.in_ok-start.was (placed p))) p.requires.8, zero-le, p.requires.6)

pub returns : goal.returns
returns c =
    let p = (goal.at.returns c).After-place_choices in
    c.close_family.ensures (generators p) (work_begun false (all_on c.in_ok-start.was (placed p)) p.requires.8)
