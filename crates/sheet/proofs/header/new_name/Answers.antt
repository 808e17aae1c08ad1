use Prim.Native.Nat.{◌+◌, ◌<◌, ◌≤◌}
use mathlib.Core.Path.{◌≡◌, refl, sym, ap₂, ◌∙◌}
use native.Mathlib.Omega.{arith}
use lib.ListN.{length}
use lib.Seq.{slice}
use Rattle.rules.specs.Sheet.{same_bytes, name_of}
use Rattle.sheet.proofs.Stops.{part_slice}
use Rattle.sheet.proofs.HeaderLaws.{inside, room, name_part, rest_ended, rest_columns, new_here, new_last, new_on}
use Rattle.sheet.proofs.header.new_name.Goals as goal
use Rattle.sheet.proofs.header.new_name.Goals.{After-end_of-e, After-same_bytes}

-- the field at hand: it ends inside the text, and has room for its kind
held : (c : After-end_of-e) → (c.end_of-e.result < length c.args.text.now) × (c.loop-start.at + 2 ≤ c.end_of-e.result)
held c =
    let t = c.args.text.now in (
      inside t c.loop-start.at c.end_of-e.result c.end_of-e.ensures c.loop-start.invariant.0,
      room t c.loop-start.at c.end_of-e.result c.end_of-e.ensures c.loop-start.invariant.0 c.loop-start.invariant.1,
    )

-- what comparing the bytes says of the names
compared : (c : After-same_bytes) → c.loop-start.at + 2 ≤ c.end_of-e.result → c.same_bytes.result
    ≡ same_bytes (name_of (slice c.args.start c.args.stop c.args.text.now))
    (name_of (slice c.loop-start.at c.end_of-e.result c.args.text.now))
compared c k =
    let a = c.args in
    let t = a.text.now in
    c.same_bytes.ensures
    ∙ ap₂ same_bytes (part_slice (a.start + 2) a.stop t (omega arith) ∙ sym (name_part t a.start a.stop)) (part_slice (c.loop-start.at + 2) c.end_of-e.result t k ∙ sym (name_part t c.loop-start.at c.end_of-e.result))

pub loop-start-init : goal.loop-start-init
loop-start-init c =
    (c.requires.2.0, c.requires.2.1, refl)

pub overflow_add-at-in-loop-start : goal.overflow_add-at-in-loop-start
overflow_add-at-in-loop-start c = let k = held (goal.at.overflow_add-at-in-loop-start c).After-end_of-e in omega arith

pub slice_bounds-same_bytes-count-in-loop-start : goal.slice_bounds-same_bytes-count-in-loop-start
slice_bounds-same_bytes-count-in-loop-start c = let k = held (goal.at.slice_bounds-same_bytes-count-in-loop-start c).After-end_of-e in omega arith

pub slice_bounds-same_bytes-start-in-loop-start : goal.slice_bounds-same_bytes-start-in-loop-start
slice_bounds-same_bytes-start-in-loop-start c = let k = held (goal.at.slice_bounds-same_bytes-start-in-loop-start c).After-end_of-e in omega arith

pub slice_bounds-same_bytes-end-in-loop-start : goal.slice_bounds-same_bytes-end-in-loop-start
slice_bounds-same_bytes-end-in-loop-start c = let k = held (goal.at.slice_bounds-same_bytes-end-in-loop-start c).After-end_of-e in omega arith

pub returns-then-same_bytes : goal.returns-then-same_bytes
returns-then-same_bytes c =
    let a = c.args in
    let t = a.text.now in
    sym (new_here t c.loop-start.at c.end_of-e.result c.end_of-e.ensures c.loop-start.invariant.0 c.loop-start.invariant.1 (slice a.start a.stop t) (sym (compared (goal.at.returns-then-same_bytes c).After-same_bytes (held (goal.at.returns-then-same_bytes c).After-end_of-e).1) ∙ c.if-same_bytes.true)) ∙ c.loop-start.invariant.2

pub bounds-text-e : goal.bounds-text-e
bounds-text-e c = let k = held (goal.at.bounds-text-e c).After-end_of-e in omega arith

pub returns-then-text-e-eq10 : goal.returns-then-text-e-eq10
returns-then-text-e-eq10 c =
    let a = c.args in
    let t = a.text.now in
    sym (new_last t c.loop-start.at c.end_of-e.result c.end_of-e.ensures c.loop-start.invariant.0 c.loop-start.invariant.1 (slice a.start a.stop t) c.if-text-e-eq10.true (sym (compared (goal.at.returns-then-text-e-eq10 c).After-same_bytes (held (goal.at.returns-then-text-e-eq10 c).After-end_of-e).1) ∙ c.if-same_bytes.false)) ∙ c.loop-start.invariant.2

pub overflow_add-at-in-loop-start-2 : goal.overflow_add-at-in-loop-start-2
overflow_add-at-in-loop-start-2 c = let k = held (goal.at.overflow_add-at-in-loop-start-2 c).After-end_of-e in omega arith

pub loop-start-smaller : goal.loop-start-smaller
loop-start-smaller c = let k = held (goal.at.loop-start-smaller c).After-end_of-e in omega arith

pub loop-start-preserved : goal.loop-start-preserved
loop-start-preserved c =
    let a = c.args in
    let t = a.text.now in
    let e = c.end_of-e.result in
    let n = new_on t c.loop-start.at e c.end_of-e.ensures c.loop-start.invariant.0 c.loop-start.invariant.1 (slice a.start a.stop t) c.if-text-e-eq10.false (sym (compared (goal.at.loop-start-preserved c).After-same_bytes (held (goal.at.loop-start-preserved c).After-end_of-e).1) ∙ c.if-same_bytes.false) in (
      rest_ended t c.loop-start.at e c.end_of-e.ensures c.loop-start.invariant.0 c.loop-start.invariant.1 c.if-text-e-eq10.false,
      rest_columns t c.loop-start.at e c.end_of-e.ensures c.loop-start.invariant.0 c.loop-start.invariant.1 c.if-text-e-eq10.false,
      sym n ∙ c.loop-start.invariant.2,
    )
