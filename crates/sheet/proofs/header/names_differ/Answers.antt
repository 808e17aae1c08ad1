use Prim.Native.Nat.{◌+◌, ◌<◌, ◌≤◌}
use mathlib.Core.Path.{refl, sym, ◌∙◌}
use native.Mathlib.Omega.{arith}
use lib.ListN.{length}
use Rattle.sheet.proofs.HeaderLaws.{inside, room, rest_ended, rest_columns, differ_last, differ_no, differ_on}
use Rattle.sheet.proofs.header.names_differ.Goals as goal
use Rattle.sheet.proofs.header.names_differ.Goals.{After-end_of-e}

-- the field at hand: it ends inside the text, and has room for its kind
held : (c : After-end_of-e) → (c.end_of-e.result < length c.args.text.now) × (c.loop-at.at + 2 ≤ c.end_of-e.result)
held c =
    let t = c.args.text.now in (
      inside t c.loop-at.at c.end_of-e.result c.end_of-e.ensures c.loop-at.invariant.0,
      room t c.loop-at.at c.end_of-e.result c.end_of-e.ensures c.loop-at.invariant.0 c.loop-at.invariant.1,
    )

pub loop-at-init : goal.loop-at-init
loop-at-init c =
    (c.requires.0, c.requires.1, refl)

pub bounds-text-e : goal.bounds-text-e
bounds-text-e c = let k = held (goal.at.bounds-text-e c).After-end_of-e in omega arith

pub returns-then-text-e-eq10 : goal.returns-then-text-e-eq10
returns-then-text-e-eq10 c =
    let t = c.args.text.now in
    sym (differ_last t c.loop-at.at c.end_of-e.result c.end_of-e.ensures c.loop-at.invariant.0 c.loop-at.invariant.1 c.if-text-e-eq10.true) ∙ c.loop-at.invariant.2

pub new_name-requires : goal.new_name-requires
new_name-requires c =
    let d = (goal.at.new_name-requires c).After-end_of-e in
    let t = d.args.text.now in
    let k = held d in
    (omega arith, omega arith, (rest_ended t d.loop-at.at d.end_of-e.result d.end_of-e.ensures d.loop-at.invariant.0 d.loop-at.invariant.1 c.if-text-e-eq10.false, rest_columns t d.loop-at.at d.end_of-e.result d.end_of-e.ensures d.loop-at.invariant.0 d.loop-at.invariant.1 c.if-text-e-eq10.false))

pub returns-then-not-new_name : goal.returns-then-not-new_name
returns-then-not-new_name c =
    let t = c.args.text.now in
    sym (differ_no t c.loop-at.at c.end_of-e.result c.end_of-e.ensures c.loop-at.invariant.0 c.loop-at.invariant.1 c.if-text-e-eq10.false (sym c.new_name.ensures ∙ c.if-not-new_name.true)) ∙ c.loop-at.invariant.2

pub overflow_add-at : goal.overflow_add-at
overflow_add-at c = let k = held (goal.at.overflow_add-at c).After-end_of-e in omega arith

pub loop-at-smaller : goal.loop-at-smaller
loop-at-smaller c = let k = held (goal.at.loop-at-smaller c).After-end_of-e in omega arith

pub loop-at-preserved : goal.loop-at-preserved
loop-at-preserved c =
    let t = c.args.text.now in
    let e = c.end_of-e.result in
    let n = differ_on t c.loop-at.at e c.end_of-e.ensures c.loop-at.invariant.0 c.loop-at.invariant.1 c.if-text-e-eq10.false (sym c.new_name.ensures ∙ c.if-not-new_name.false) in (
      rest_ended t c.loop-at.at e c.end_of-e.ensures c.loop-at.invariant.0 c.loop-at.invariant.1 c.if-text-e-eq10.false,
      rest_columns t c.loop-at.at e c.end_of-e.ensures c.loop-at.invariant.0 c.loop-at.invariant.1 c.if-text-e-eq10.false,
      sym n ∙ c.loop-at.invariant.2,
    )
