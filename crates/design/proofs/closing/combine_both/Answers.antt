-- `combine_both` meets its contract: the infimum and the supremum are placed, and the mark is stored.
use mathlib.Core.Path.{◌≡◌, sym, ap, ap₂, ◌∙◌}
use mathlib.Core.List.{List}
use Prim.Native.Nat.{ℕ, ◌*◌, ◌≤◌, ◌<◌}
use native.Mathlib.Omega.{arith}
use lib.Dec.{eqb}
use lib.ListN.{length, take, replicate, length-take}
use Rattle.rules.specs.Factor.{Column, classes, infimum, supremum}
use Rattle.rules.specs.Family.{members_of}
use Rattle.rules.proofs.Bounds.{length_infimum', length_supremum'}
use Rattle.rules.proofs.ClassCount.{classes_most}
use Rattle.rules.proofs.Orthogonality.{by_counts}
use Rattle.design.specs.State.{column_at, noted, PlacedMember, grown_to}
use Rattle.factor.proofs.Lent.{take_overlay}
use Rattle.design.proofs.Start.{held_on, placed_on, no_room_on}
use Rattle.design.proofs.Work.{size_members, held_length, Stood, stood, stood_as, column_kept, kept_at, pair_here, pair_keeps, work_infimum, over_infimum, work_supremum, over_supremum, work_both}
use Rattle.design.proofs.KnownOrder.{noted_words, known_grown, known_supremum, known_infimum}
use Rattle.design.proofs.closing.combine_both.Goals as goal
use Rattle.design.proofs.closing.combine_both.Goals.{After-grown-more, After-member_bounds-bounds, After-same_product-mark, In_ok-p, In_ok-q}

-- what an operation makes of the two members
abbrev made : (Column → Column → Column) → After-member_bounds-bounds → Column
made op m = let s = m in op (column_at s.args.n s.args.store.now s.args.i) (column_at s.args.n s.args.store.now s.args.j)

module _ (c : After-member_bounds-bounds) where
  abbrev n : ℕ
  n = c.args.n

  -- the arrays once both are written
  abbrev below : List ℕ
  below = c.member_bounds-bounds.new.below

  abbrev above : List ℕ
  above = c.member_bounds-bounds.new.above

  -- both members have n plots
  i_plots : length (column_at n c.args.store.now c.args.i) ≡ n
  i_plots = held_length c.requires.0 c.args.i c.requires.1

  j_plots : length (column_at n c.args.store.now c.args.j) ≡ n
  j_plots = held_length c.requires.0 c.args.j (omega (arith, c.requires.1, c.requires.2))

  -- so have the infimum and the supremum
  below_plots : length (made infimum c) ≡ n
  below_plots = length_infimum' n _ _ i_plots j_plots

  above_plots : length (made supremum c) ≡ n
  above_plots = length_supremum' n _ _ i_plots j_plots

  -- they stand at the front of the arrays
  below_front : take n below ≡ made infimum c
  below_front =
      let l : List ℕ = replicate 240 0 in
      ap (take n) c.member_bounds-bounds.ensures.below ∙ take_overlay l (made infimum c) n below_plots

  above_front : take n above ≡ made supremum c
  above_front =
      let l : List ℕ = replicate 240 0 in
      ap (take n) c.member_bounds-bounds.ensures.above ∙ take_overlay l (made supremum c) n above_plots

  -- as many bytes as there are plots
  below_length : length (take n below) ≡ n
  below_length = ap length below_front ∙ below_plots

  above_length : length (take n above) ≡ n
  above_length = ap length above_front ∙ above_plots

-- the mark says whether the numbers of classes make one product
mark-is : (c : After-same_product-mark)
    → let a = c.args in
    c.same_product-mark.result ≡ by_counts (column_at a.n a.store.now a.i) (column_at a.n a.store.now a.j)
mark-is c =
    let m = c in
    let s = c in
    let b = m.member_bounds-bounds.ensures in
    c.same_product-mark.ensures ∙ ap₂ eqb (ap₂ ◌*◌ b.infimum b.supremum) (ap₂ ◌*◌ (s.requires.0.counted s.args.i s.requires.1) (s.requires.0.counted s.args.j (omega (arith, s.requires.1, s.requires.2))))

-- the infimum was placed
placed : (c : In_ok-p)
    → let a = c.args in
    PlacedMember a.n (members_of a.n a.store.now a.size) (made infimum (goal.at.In_ok-p c).After-member_bounds-bounds) c.in_ok-p.p c.try_place.new.store c.try_place.new.counts
placed c =
    let m = (goal.at.In_ok-p c).After-member_bounds-bounds in
    placed_on _ m.args.store.now m.args.size _ _ _ _ _ (below_front m) (below_plots m) c.in_ok-p.ensures

-- it stands in the store
here : (c : After-grown-more)
    → let p = (goal.at.After-grown-more c).In_ok-p in
    let a = p.args in
    Stood a.n (members_of a.n a.store.now a.size) (made infimum (goal.at.After-grown-more c).After-member_bounds-bounds) p.in_ok-p.p p.try_place.new.store p.try_place.new.counts c.grown-more.result
here c =
    let p = (goal.at.After-grown-more c).In_ok-p in
    let s = c in
    stood_as c.grown-more.ensures (stood s.args.size (size_members s.requires.0) (placed p))

-- a member of the pair is within the new size
i-in : (c : After-grown-more) → c.args.i < c.grown-more.result
i-in c = let s = c in omega (arith, (here c).more, size_members s.requires.0, s.requires.1)

-- and the other
j-in : (c : After-grown-more) → c.args.j < c.grown-more.result
j-in c = let s = c in omega (arith, i-in c, s.requires.2)

-- the supremum of the two as they stand now
abbrev joined : After-grown-more → Column
joined c =
    let a = c.args in
    supremum (column_at a.n c.try_place.new.store a.i) (column_at a.n c.try_place.new.store a.j)

-- it is the one that was written
joined_is : (c : After-grown-more) → take c.args.n (above (goal.at.After-grown-more c).After-member_bounds-bounds) ≡ joined c
joined_is c =
    let m = (goal.at.After-grown-more c).After-member_bounds-bounds in
    let s = m in
    above_front m ∙ sym (ap₂ supremum (column_kept s.requires.0 (here c) s.args.i s.requires.1) (column_kept s.requires.0 (here c) s.args.j (omega (arith, s.requires.1, s.requires.2))))

joined-plots : (c : After-grown-more) → length (joined c) ≡ c.args.n
joined-plots c = sym (ap length (joined_is c)) ∙ above_length (goal.at.After-grown-more c).After-member_bounds-bounds

-- the supremum was placed
placed-2 : (c : In_ok-q)
    → let g = (goal.at.In_ok-q c).After-grown-more in
    let a = g.args in
    PlacedMember a.n (members_of a.n g.try_place.new.store g.grown-more.result) (joined g) c.in_ok-q.q c.try_place-2.new.store c.try_place-2.new.counts
placed-2 c =
    let g = (goal.at.In_ok-q c).After-grown-more in
    placed_on _ g.try_place.new.store g.grown-more.result _ _ _ _ _ (joined_is g) (joined-plots g) c.in_ok-q.ensures

-- it stands in the store
here-2 : (c : In_ok-q)
    → let g = (goal.at.In_ok-q c).After-grown-more in
    let a = g.args in
    Stood a.n (members_of a.n g.try_place.new.store g.grown-more.result) (joined g) c.in_ok-q.q c.try_place-2.new.store c.try_place-2.new.counts (grown_to g.grown-more.result c.in_ok-q.q)
here-2 c =
    let g = (goal.at.In_ok-q c).After-grown-more in
    stood g.grown-more.result (size_members (here g).held) (placed-2 c)

pub same_product-mark-requires : goal.same_product-mark-requires
same_product-mark-requires c =
    let m = (goal.at.same_product-mark-requires c).After-member_bounds-bounds in
    let b = m.member_bounds-bounds.ensures in
    (omega (arith, b.infimum, classes_most (made infimum m), below_plots m, m.requires.0.most), omega (arith, b.supremum, classes_most (made supremum m), above_plots m, m.requires.0.most))

pub slice_bounds-infimum-end : goal.slice_bounds-infimum-end
slice_bounds-infimum-end c =
    let m = (goal.at.slice_bounds-infimum-end c).After-member_bounds-bounds in
    omega (arith, length-take (n m) (below m), below_length m)

pub slice_bounds-try_place-end : goal.slice_bounds-try_place-end
slice_bounds-try_place-end c = sym (below_length (goal.at.slice_bounds-try_place-end c).After-member_bounds-bounds)

pub overflow_cast-bounds : goal.overflow_cast-bounds
overflow_cast-bounds c =
    let m = (goal.at.overflow_cast-bounds c).After-member_bounds-bounds in
    omega (arith, m.member_bounds-bounds.ensures.infimum, classes_most (made infimum m), below_plots m, m.requires.0.most)

pub try_place-requires : goal.try_place-requires
try_place-requires c =
    let m = (goal.at.try_place-requires c).After-member_bounds-bounds in
    (held_on _ _ _ _ _ _ (below_front m) (below_plots m) m.requires.0, m.member_bounds-bounds.ensures.infimum ∙ ap classes (sym (below_front m)))

pub returns-in_err-p-clause-step : goal.returns-in_err-p-clause-step
returns-in_err-p-clause-step c =
    let m = (goal.at.returns-in_err-p-clause-step c).After-member_bounds-bounds in
    λ Gs w. rw c.from_residual.ensures (over_infimum w c.requires.1 c.requires.2 (no_room_on _ c.args.store.now c.args.size _ _ _ _ (below_front m) (below_plots m) c.in_err-p.ensures))

pub slice_bounds-supremum-end : goal.slice_bounds-supremum-end
slice_bounds-supremum-end c =
    let m = (goal.at.slice_bounds-supremum-end c).After-member_bounds-bounds in
    omega (arith, length-take (n m) (above m), above_length m)

pub slice_bounds-try_place-end-2 : goal.slice_bounds-try_place-end-2
slice_bounds-try_place-end-2 c = sym (above_length (goal.at.slice_bounds-try_place-end-2 c).After-member_bounds-bounds)

pub overflow_cast-bounds-2 : goal.overflow_cast-bounds-2
overflow_cast-bounds-2 c =
    let m = (goal.at.overflow_cast-bounds-2 c).After-member_bounds-bounds in
    omega (arith, m.member_bounds-bounds.ensures.supremum, classes_most (made supremum m), above_plots m, m.requires.0.most)

pub try_place-requires-2 : goal.try_place-requires-2
try_place-requires-2 c =
    let g = (goal.at.try_place-requires-2 c).After-grown-more in
    let m = (goal.at.try_place-requires-2 c).After-member_bounds-bounds in
    (held_on _ _ _ _ _ _ (joined_is g) (joined-plots g) (here g).held, m.member_bounds-bounds.ensures.supremum ∙ ap classes (sym (above_front m)))

pub returns-in_err-q-clause-step : goal.returns-in_err-q-clause-step
returns-in_err-q-clause-step c =
    let g = (goal.at.returns-in_err-q-clause-step c).After-grown-more in
    λ Gs w. rw c.from_residual-in_err-q.ensures (over_supremum (work_infimum w c.requires.1 c.requires.2 (here g)) (i-in g) c.requires.2 (no_room_on _ g.try_place.new.store g.grown-more.result _ _ _ _ (joined_is g) (joined-plots g) c.in_err-q.ensures))

pub entry-requires : goal.entry-requires
entry-requires c = let y = here-2 (goal.at.entry-requires c).In_ok-q in omega (arith, y.here, y.held.few)

pub overflow_mul-marks : goal.overflow_mul-marks
overflow_mul-marks c =
    let s = c in
    omega (arith, s.requires.1, s.requires.0.few)

pub overflow_add-marks : goal.overflow_add-marks
overflow_add-marks c =
    let s = c in
    omega (arith, s.requires.1, s.requires.2, s.requires.0.few)

pub bounds-marks-i : goal.bounds-marks-i
bounds-marks-i c =
    let s = c in
    omega (arith, s.requires.1, s.requires.2, s.requires.0.few)

-- the members of the pair, and of its infimum and supremum, have words
pub note_supremum-requires : goal.note_supremum-requires
note_supremum-requires c =
    let y = here-2 (goal.at.note_supremum-requires c).In_ok-q in
    let s = c in
    (s.requires.3.words, omega (arith, s.requires.0.few, s.requires.1), omega (arith, s.requires.0.few, s.requires.1, s.requires.2), omega (arith, y.here, y.held.few))

pub note_infimum-requires : goal.note_infimum-requires
note_infimum-requires c =
    let g = (goal.at.note_infimum-requires c).After-grown-more in
    let a = c.args in
    let q = c.in_ok-q.q in (
      ap length c.note_supremum.ensures ∙ noted_words (noted a.above.now a.i q) a.j q (noted_words a.above.now a.i q c.requires.3.words),
      omega (arith, c.requires.0.few, c.requires.1),
      omega (arith, c.requires.0.few, c.requires.1, c.requires.2),
      omega (arith, (here g).here, (here g).held.few),
    )

pub grown-requires : goal.grown-requires
grown-requires c = (here (goal.at.grown-requires c).After-grown-more).held.few

pub returns : goal.returns
returns c =
    let e = (goal.at.returns c).In_ok-q in
    let a = c.args in
    let x = here (goal.at.returns c).After-grown-more in
    let y = here-2 e in
    let size = grown_to c.grown-more.result c.in_ok-q.q in
    let more : a.size ≤ size = omega (arith, x.more, size_members c.requires.0, y.more, size_members x.held) in
    let i-now : a.i < size = omega (arith, c.requires.1, more) in
    let j-now : a.j < size = omega (arith, c.requires.2, i-now) in
    let j-first : a.j < a.size = omega (arith, c.requires.1, c.requires.2) in
    let i-there : a.i < length (members_of a.n c.try_place.new.store c.grown-more.result) = omega (arith, i-in (goal.at.returns c).After-grown-more, size_members x.held) in
    let j-there : a.j < length (members_of a.n c.try_place.new.store c.grown-more.result) = omega (arith, j-in (goal.at.returns c).After-grown-more, size_members x.held) in
    let low = pair_keeps i-there j-there y (pair_here c.requires.0 c.requires.1 j-first x) in
    let high = pair_here x.held (i-in (goal.at.returns c).After-grown-more) (j-in (goal.at.returns c).After-grown-more) y in
    let mark = mark-is (goal.at.returns c).After-same_product-mark ∙ sym (ap₂ by_counts (y.keeps a.i i-there ∙ kept_at c.requires.0 x a.i c.requires.1) (y.keeps a.j j-there ∙ kept_at c.requires.0 x a.j j-first)) in
    let known = known_infimum y.held i-now j-now low (known_supremum y.held i-now j-now high (known_grown x.held y (known_grown c.requires.0 x c.requires.3))) in
    let words = c.note_infimum.ensures ∙ ap (λ (l : List ℕ). noted (noted l c.in_ok-p.p a.i) c.in_ok-p.p a.j) c.note_supremum.ensures in record {
      kept = rw (c.grown.ensures, words) (y.held, more, known);
      step = λ Gs w. (rw (c.grown.ensures, c.entry.ensures) (work_both c.same_product-mark.result i-now c.requires.2 low high mark (work_supremum (work_infimum w c.requires.1 c.requires.2 x) (i-in (goal.at.returns c).After-grown-more) c.requires.2 y)));
    }
