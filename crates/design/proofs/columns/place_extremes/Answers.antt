-- `place_extremes` meets its contract: U is the first member, and E is placed after it.
use mathlib.Core.Path.{sym, ap, ◌∙◌, subst}
use mathlib.Core.List.{List, [], ◌∷◌}
use Prim.Native.Nat.{ℕ}
use native.Mathlib.Omega.{arith}
use lib.ListN.{length, take, replicate}
use Rattle.rules.specs.Factor.{universal, equality, classes}
use Rattle.rules.proofs.Extremes.{number_universal, length_universal, number_equality, length_equality}
use Rattle.rules.proofs.ClassCount.{classes_universal, classes_equality}
use Rattle.design.specs.State.{Held, Begun}
use Rattle.design.proofs.Start.{held_none, begun_none, begun_more, first_placed, placed_on, held_on, take_ones}
use Rattle.design.proofs.columns.place_extremes.Goals as goal
use Rattle.design.proofs.columns.place_extremes.Goals.{After-place, Start}

-- the store holds no member at first
empty-held : (c : Start) → Held c.args.n c.args.store.now c.args.counts.now 0
empty-held c = held_none c.args.n c.args.store.now c.args.counts.now c.requires.0 c.requires.1 c.requires.2 c.requires.3

-- U is the one member
begun-one : (c : After-place) → Begun c.args.n (universal c.args.n ∷ []) c.place.new.store c.place.new.counts 1
begun-one c =
    let s = (goal.at.After-place c).Start in
    let n = s.args.n in
    let store = s.args.store.now in
    let counts = s.args.counts.now in
    let ones : List ℕ = replicate 240 1 in
    let q = placed_on n store 0 (take n ones) (universal n) c.place.result c.place.new.store c.place.new.counts (take_ones n s.requires.1) (length_universal n) c.place.ensures in
    subst (λ (k : ℕ). Begun n (universal n ∷ []) c.place.new.store c.place.new.counts k) (first_placed n store counts (empty-held s) (universal n) c.place.result c.place.new.store c.place.new.counts q)
    (begun_more n [] store counts 0 (begun_none n store counts (empty-held s)) (omega arith) (universal n) (number_universal n) c.place.result c.place.new.store c.place.new.counts q)

pub slice_bounds-place-end : goal.slice_bounds-place-end
slice_bounds-place-end c =
    sym (ap length (take_ones c.args.n c.requires.1) ∙ length_universal c.args.n)

pub place-requires : goal.place-requires
place-requires c =
    let s = (goal.at.place-requires c).Start in
    let n = s.args.n in
    let ones : List ℕ = replicate 240 1 in (
      held_on n s.args.store.now s.args.counts.now 0 (take n ones) (universal n) (take_ones n s.requires.1) (length_universal n) (empty-held s),
      sym (ap classes (take_ones n s.requires.1) ∙ classes_universal n s.requires.0),
      omega arith,
    )

pub slice_bounds-place-end-2 : goal.slice_bounds-place-end-2
slice_bounds-place-end-2 c =
    sym (ap length c.equality-column.ensures ∙ length_equality c.args.n)

pub place-p-requires : goal.place-p-requires
place-p-requires c =
    let p = (goal.at.place-p-requires c).After-place in
    let n = p.args.n in (
      held_on n p.place.new.store p.place.new.counts 1 (take n c.equality-column.result) (equality n) c.equality-column.ensures (length_equality n) (begun-one p).held,
      sym (ap classes c.equality-column.ensures ∙ classes_equality n),
      omega arith,
    )

pub returns : goal.returns
returns c =
    let p = (goal.at.returns c).After-place in
    let n = p.args.n in
    let r = placed_on n p.place.new.store 1 (take n c.equality-column.result) (equality n) c.place-p.result c.place-p.new.store c.place-p.new.counts c.equality-column.ensures (length_equality n) c.place-p.ensures in
    subst (λ (k : ℕ). Begun n (universal n ∷ equality n ∷ []) c.place-p.new.store c.place-p.new.counts k) (sym c.grown.ensures)
    (begun_more n (universal n ∷ []) p.place.new.store p.place.new.counts 1 (begun-one p) (omega arith) (equality n) (number_equality n) c.place-p.result c.place-p.new.store c.place-p.new.counts r)
