-- `combine_supremum` meets its contract: the supremum is placed, and the mark is stored.
use mathlib.Core.Path.{◌≡◌, sym, ap, ap₂, ◌∙◌}
use mathlib.Core.List.{List}
use Prim.Native.Nat.{ℕ, ◌≤◌, ◌<◌}
use native.Mathlib.Omega.{arith}
use lib.ListN.{length, take, replicate, length-take}
use Rattle.rules.specs.Factor.{Column, classes, supremum, orthogonal}
use Rattle.rules.specs.Family.{members_of}
use Rattle.rules.proofs.Bounds.{length_supremum'}
use Rattle.rules.proofs.ClassCount.{classes_most}
use Rattle.design.specs.State.{column_at, PlacedMember, grown_to}
use Rattle.factor.proofs.Lent.{take_overlay}
use Rattle.design.proofs.Start.{held_on, placed_on, no_room_on}
use Rattle.design.proofs.Work.{size_members, held_length, Stood, stood, kept_at, pair_here, work_supremum, over_supremum, work_join}
use Rattle.design.proofs.KnownOrder.{known_grown, known_supremum}
use Rattle.design.proofs.closing.combine_supremum.Goals as goal
use Rattle.design.proofs.closing.combine_supremum.Goals.{After-member_crossing-crossing, In_ok-q}

-- the members
abbrev A : After-member_crossing-crossing → Column
A c = let s = c in column_at s.args.n s.args.store.now s.args.i

abbrev B : After-member_crossing-crossing → Column
B c = let s = c in column_at s.args.n s.args.store.now s.args.j

module _ (c : After-member_crossing-crossing) where
  -- the array once the supremum is written
  abbrev array : List ℕ
  array = c.member_crossing-crossing.new.column

  -- the supremum has n plots
  on_plots_lem : length (supremum (A c) (B c)) ≡ c.args.n
  on_plots_lem = let s = c in length_supremum' s.args.n (A c) (B c) (held_length s.requires.0 s.args.i s.requires.1) (held_length s.requires.0 s.args.j (omega (arith, s.requires.1, s.requires.2)))

  -- it stands at the front of the array
  front : take c.args.n array ≡ supremum (A c) (B c)
  front =
      let l : List ℕ = replicate 240 0 in
      ap (take c.args.n) c.member_crossing-crossing.ensures.above ∙ take_overlay l (supremum (A c) (B c)) c.args.n on_plots_lem

  -- as many bytes as there are plots
  front_length : length (take c.args.n array) ≡ c.args.n
  front_length = ap length front ∙ on_plots_lem

-- it was placed
placed : (c : In_ok-q)
    → let a = c.args in
    PlacedMember a.n (members_of a.n a.store.now a.size) (supremum (A (goal.at.In_ok-q c).After-member_crossing-crossing) (B (goal.at.In_ok-q c).After-member_crossing-crossing)) c.in_ok-q.q c.try_place.new.store c.try_place.new.counts
placed c =
    let m = (goal.at.In_ok-q c).After-member_crossing-crossing in
    placed_on _ m.args.store.now m.args.size _ _ _ _ _ (front m) (on_plots_lem m) c.in_ok-q.ensures

-- it stands in the store
here : (c : In_ok-q)
    → let p = c in
    let a = p.args in
    Stood a.n (members_of a.n a.store.now a.size) (supremum (A (goal.at.In_ok-q c).After-member_crossing-crossing) (B (goal.at.In_ok-q c).After-member_crossing-crossing)) p.in_ok-q.q p.try_place.new.store p.try_place.new.counts (grown_to a.size p.in_ok-q.q)
here c =
    let p = c in
    let s = c in
    stood s.args.size (size_members s.requires.0) (placed c)

pub slice_bounds-column-end : goal.slice_bounds-column-end
slice_bounds-column-end c =
    let m = (goal.at.slice_bounds-column-end c).After-member_crossing-crossing in
    omega (arith, length-take m.args.n (array m), front_length m)

pub slice_bounds-try_place-end : goal.slice_bounds-try_place-end
slice_bounds-try_place-end c = sym (front_length (goal.at.slice_bounds-try_place-end c).After-member_crossing-crossing)

pub overflow_cast-crossing : goal.overflow_cast-crossing
overflow_cast-crossing c =
    let m = (goal.at.overflow_cast-crossing c).After-member_crossing-crossing in
    omega (arith, m.member_crossing-crossing.ensures.supremum, classes_most (supremum (A m) (B m)), on_plots_lem m, m.requires.0.most)

pub try_place-requires : goal.try_place-requires
try_place-requires c =
    let m = (goal.at.try_place-requires c).After-member_crossing-crossing in
    (held_on _ _ _ _ _ _ (front m) (on_plots_lem m) m.requires.0, m.member_crossing-crossing.ensures.supremum ∙ ap classes (sym (front m)))

pub returns-in_err-q-clause-step : goal.returns-in_err-q-clause-step
returns-in_err-q-clause-step c =
    let m = (goal.at.returns-in_err-q-clause-step c).After-member_crossing-crossing in
    λ Gs w. rw c.from_residual.ensures (over_supremum w c.requires.1 c.requires.2 (no_room_on _ c.args.store.now c.args.size _ _ _ _ (front m) (on_plots_lem m) c.in_err-q.ensures))

pub entry-requires : goal.entry-requires
entry-requires c = let x = here (goal.at.entry-requires c).In_ok-q in omega (arith, x.here, x.held.few)

pub overflow_mul-marks : goal.overflow_mul-marks
overflow_mul-marks c = omega (arith, c.requires.1, c.requires.0.few)

pub overflow_add-marks : goal.overflow_add-marks
overflow_add-marks c = omega (arith, c.requires.1, c.requires.2, c.requires.0.few)

pub bounds-marks-i : goal.bounds-marks-i
bounds-marks-i c = omega (arith, c.requires.1, c.requires.2, c.requires.0.few)

pub note_supremum-requires : goal.note_supremum-requires
note_supremum-requires c =
    let e = (goal.at.note_supremum-requires c).In_ok-q in
    let x = here e in
    (c.requires.3.words, omega (arith, c.requires.0.few, c.requires.1), omega (arith, c.requires.0.few, c.requires.1, c.requires.2), omega (arith, x.here, x.held.few))

pub grown-requires : goal.grown-requires
grown-requires c = c.requires.0.few

pub returns : goal.returns
returns c =
    let e = (goal.at.returns c).In_ok-q in
    let a = c.args in
    let x = here e in
    let more : a.size ≤ grown_to a.size c.in_ok-q.q = omega (arith, x.more, size_members c.requires.0) in
    let i-in : a.i < grown_to a.size c.in_ok-q.q = omega (arith, c.requires.1, more) in
    let j-in : a.j < a.size = omega (arith, c.requires.1, c.requires.2) in
    let j-now : a.j < grown_to a.size c.in_ok-q.q = omega (arith, j-in, more) in
    let high = pair_here c.requires.0 c.requires.1 j-in x in
    let mark = c.member_crossing-crossing.ensures.orthogonal ∙ sym (ap₂ (orthogonal a.n) (kept_at c.requires.0 x a.i c.requires.1) (kept_at c.requires.0 x a.j j-in)) in
    let known = known_supremum x.held i-in j-now high (known_grown c.requires.0 x c.requires.3) in record {
      kept = rw (c.grown.ensures, c.note_supremum.ensures) (x.held, more, known);
      step = λ Gs w. (rw (c.grown.ensures, c.entry.ensures) (work_join c.member_crossing-crossing.result.orthogonal i-in c.requires.2 high mark (work_supremum w c.requires.1 c.requires.2 x)));
    }
