-- `place_plot_infima` meets its contract: E is the first member, and the infima are placed after it.
use Rattle.std.specs.Prelude.{Option}
use mathlib.Core.Path.{sym, ap, ◌∙◌, subst}
use mathlib.Core.List.{List, [], ◌∷◌, ◌++◌}
use Prim.Native.Nat.{ℕ}
use native.Mathlib.Omega.{arith}
use lib.ListN.{length, take}
use Rattle.rules.specs.Factor.{Column, equality, classes}
use Rattle.rules.specs.Family.{columns_from, members_of}
use Rattle.rules.specs.Closing.{treatment_generators}
use Rattle.rules.proofs.Extremes.{number_equality, length_equality}
use Rattle.rules.proofs.ClassCount.{classes_equality}
use Rattle.design.specs.State.{Held, Begun}
use Rattle.design.specs.Treatments.{AllPlaced}
use Rattle.design.proofs.Choosing.{begun_own}
use Rattle.design.proofs.Start.{held_none, begun_none, begun_more, first_placed, placed_on, held_on, only_one}
use Rattle.design.proofs.closed.place_plot_infima.Goals as goal
use Rattle.design.proofs.closed.place_plot_infima.Goals.{After-place, Start}

-- the store holds no member at first
empty-held : (c : Start) → Held c.args.n c.args.store.now c.args.counts.now 0
empty-held c = held_none c.args.n c.args.store.now c.args.counts.now c.requires.0 c.requires.1 c.requires.4 c.requires.5

-- E is the one member
begun-one : (c : After-place) → Begun c.args.n (equality c.args.n ∷ []) c.place.new.store c.place.new.counts 1
begun-one c =
    let s = (goal.at.After-place c).Start in
    let n = s.args.n in
    let store = s.args.store.now in
    let counts = s.args.counts.now in
    let e = c in
    let q = placed_on n store 0 (take n e.equality-column.result) (equality n) c.place.result c.place.new.store c.place.new.counts e.equality-column.ensures (length_equality n) c.place.ensures in
    subst (λ (k : ℕ). Begun n (equality n ∷ []) c.place.new.store c.place.new.counts k) (first_placed n store counts (empty-held s) (equality n) c.place.result c.place.new.store c.place.new.counts q)
    (begun_more n [] store counts 0 (begun_none n store counts (empty-held s)) (omega arith) (equality n) (number_equality n) c.place.result c.place.new.store c.place.new.counts q)

-- what is placed beside it
beside-one : (c : After-place) (after counts : List ℕ) (r : Option ℕ) → let a = c.args in let Gs = treatment_generators a.n 6 (columns_from a.n a.levels.now 0 a.c) in
    AllPlaced a.n (Gs ++ members_of a.n c.place.new.store 1) after counts r → AllPlaced a.n (Gs ++ equality a.n ∷ []) after counts r
beside-one c after counts r q =
    let a = c.args in
    subst (λ (S : List Column). AllPlaced a.n (treatment_generators a.n 6 (columns_from a.n a.levels.now 0 a.c) ++ S) after counts r) (only_one (begun-one c)) q

pub slice_bounds-place-end : goal.slice_bounds-place-end
slice_bounds-place-end c =
    sym (ap length c.equality-column.ensures ∙ length_equality c.args.n)

pub place-requires : goal.place-requires
place-requires c =
    let s = (goal.at.place-requires c).Start in
    let n = s.args.n in (
      held_on n s.args.store.now s.args.counts.now 0 (take n c.equality-column.result) (equality n) c.equality-column.ensures (length_equality n) (empty-held s),
      sym (ap classes c.equality-column.ensures ∙ classes_equality n),
      omega arith,
    )

pub place_choices-requires : goal.place_choices-requires
place_choices-requires c =
    let p = (goal.at.place_choices-requires c).After-place in
    (c.requires.2, omega arith, omega arith, omega arith, c.requires.3, begun_own (begun-one p))

pub returns : goal.returns
returns c =
    let p = (goal.at.returns c).After-place in
    beside-one p _ _ _ c.place_choices.ensures
