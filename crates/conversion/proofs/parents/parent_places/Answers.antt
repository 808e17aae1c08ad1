use Rattle.std.proofs.Common.{ℕ, suc, ◌+◌, ◌-◌, ◌≤◌, ◌<◌, ◌≡◌, List, [], ◌∷◌, ◌++◌, append_assoc, add-one, Option, arith, sym, ap, ◌∙◌, false, length, take, drop, set, length-set}
use Rattle.std.proofs.Math.Seq.{take-suc-set}
use Rattle.std.proofs.lemmas.Result.{err_from_is_err_and}
use Rattle.rules.specs.Sheet.{Field, newline, up_to, has, header}
use Rattle.rules.specs.Parents.{slash, parent_place, parents_left}
use Rattle.rules.proofs.Sheet.{fields_some}
use Rattle.sheet.specs.Walk.{field_of}
use Rattle.sheet.proofs.Stops.{field_cut, field_next}
use Rattle.sheet.proofs.HeaderLaws.{inside, line_last, line_on, tab_here}
use Rattle.conversion.specs.Plain.{parent_of, parents_of}
use Rattle.conversion.proofs.FirstLine.{by_field, left_found, left_over, left_all}
use Rattle.conversion.proofs.parents.parent_places.Goals as goal
use Rattle.conversion.proofs.parents.parent_places.Goals.{After-end_of-e}

-- the field at hand ends inside the text, and there is room for its parent
ends : (c : After-end_of-e) → c.end_of-e.result < length c.args.old.now
ends c = inside c.args.old.now c.loop-parents.at c.end_of-e.result c.end_of-e.ensures c.loop-parents.invariant.0

room : (c : After-end_of-e) → c.loop-parents.i < length (header c.args.old.now)
unfolding header
room c =
    let some = fields_some (up_to newline (drop c.loop-parents.at c.args.old.now)) in
    omega (arith, some, c.loop-parents.invariant.2)

-- the field, as it was handed on
cut : (c : After-end_of-e) → take (c.end_of-e.result - c.loop-parents.at) (drop c.loop-parents.at c.args.old.now) ≡ field_of (drop c.loop-parents.at c.args.old.now)
cut c = field_cut c.args.old.now c.loop-parents.at c.end_of-e.result c.end_of-e.ensures

pub slice_bounds-parent_of-end : goal.slice_bounds-parent_of-end
slice_bounds-parent_of-end c = omega (arith, ends (goal.at.slice_bounds-parent_of-end c).After-end_of-e)

pub parent_of-requires : goal.parent_of-requires
parent_of-requires c =
    let r = room (goal.at.parent_of-requires c).After-end_of-e in
    (c.requires.size, omega (arith, r, c.requires.few), omega (arith, r, c.requires.alike))

pub returns-in_err-parents : goal.returns-in_err-parents
returns-in_err-parents c =
    let d = (goal.at.returns-in_err-parents c).After-end_of-e in
    let o = c.args.old.now in
    let ps = header c.args.plain.now in
    let l = c.loop-parents in
    let e = c.end_of-e.result in
    let f = field_of (drop l.at o) in
    let q = c.in_err-parents.ensures in
    let p = err_from_is_err_and c.from_residual.result c.from_residual.ensures.1 in
    let slashed = sym (ap (has slash) (cut d)) ∙ q.1 in
    let over : l.i ≤ parent_place ps f = omega (arith, q.2, ap (parent_place ps) (cut d)) in
    let no : parents_left ps l.i (header (drop l.at o)) ≡ false =
    by_field o l.at e d.end_of-e.ensures (λ (fs : List Field). parents_left ps l.i fs ≡ false) (left_over ps l.i f [] slashed over) (left_over ps l.i f (header (drop (e + 1) o)) slashed over) in
    rw (p.1, p.2) (q.0, sym l.invariant.3 ∙ no)

pub bounds-parents-i : goal.bounds-parents-i
bounds-parents-i c = omega (arith, room (goal.at.bounds-parents-i c).After-end_of-e, c.requires.few)

pub bounds-old-e : goal.bounds-old-e
bounds-old-e c = ends (goal.at.bounds-old-e c).After-end_of-e

pub returns-then-old-e-eq10 : goal.returns-then-old-e-eq10
returns-then-old-e-eq10 c =
    let d = (goal.at.returns-then-old-e-eq10 c).After-end_of-e in
    let o = c.args.old.now in
    let ps = header c.args.plain.now in
    let l = c.loop-parents in
    let f = field_of (drop l.at o) in
    let x = c.in_ok-parents.field-0 in
    let is : x ≡ parent_of ps f = c.in_ok-parents.ensures.0 ∙ ap (parent_of ps) (cut d) in
    let line = line_last o l.at c.end_of-e.result d.end_of-e.ensures (ends d) c.if-old-e-eq10.true in
    let size : length (header o) ≡ suc l.i = omega (arith, l.invariant.2, ap length line) in
    let r : l.i < length l.parents = omega (arith, room d, c.requires.few, l.invariant.1) in (
      sym l.invariant.3 ∙ ap (parents_left ps l.i) line ∙ left_found ps l.i f [] x is c.in_ok-parents.ensures.1 ∙ left_all ps (l.i + 1),
      ap (λ (k : ℕ). take k (set l.parents l.i x)) size ∙ take-suc-set l.parents l.i x r ∙ ap (λ (y : Option ℕ). take l.i l.parents ++ y ∷ []) is
          ∙ ap (λ (fs : List Field). take l.i l.parents ++ parents_of ps fs) (sym line) ∙ l.invariant.4,
    )

pub overflow_add-at : goal.overflow_add-at
overflow_add-at c = omega (arith, ends (goal.at.overflow_add-at c).After-end_of-e)

pub loop-parents-smaller : goal.loop-parents-smaller
loop-parents-smaller c = omega (arith, ends (goal.at.loop-parents-smaller c).After-end_of-e)

pub loop-parents-preserved : goal.loop-parents-preserved
loop-parents-preserved c =
    let d = (goal.at.loop-parents-preserved c).After-end_of-e in
    let o = c.args.old.now in
    let ps = header c.args.plain.now in
    let l = c.loop-parents in
    let e = c.end_of-e.result in
    let f = field_of (drop l.at o) in
    let x = c.in_ok-parents.field-0 in
    let is : x ≡ parent_of ps f = c.in_ok-parents.ensures.0 ∙ ap (parent_of ps) (cut d) in
    let line = line_on o l.at e d.end_of-e.ensures (ends d) c.if-old-e-eq10.false in
    let k = tab_here o l.at e d.end_of-e.ensures (ends d) c.if-old-e-eq10.false in
    let rest = header (drop (e + 1) o) in
    let r : l.i < length l.parents = omega (arith, room d, c.requires.few, l.invariant.1) in (
      ap (has newline) (sym (field_next o l.at e d.end_of-e.ensures)) ∙ sym k.ends ∙ l.invariant.0,
      length-set l.parents l.i x ∙ l.invariant.1,
      omega (arith, l.invariant.2, ap length line),
      sym (ap (parents_left ps l.i) line ∙ left_found ps l.i f rest x is c.in_ok-parents.ensures.1) ∙ l.invariant.3,
      ap (λ (k : ℕ). take k (set l.parents l.i x) ++ parents_of ps rest) (add-one l.i) ∙ ap (λ (r : List (Option ℕ)). r ++ parents_of ps rest) (take-suc-set l.parents l.i x r)
          ∙ append_assoc (take l.i l.parents) (x ∷ []) (parents_of ps rest) ∙ ap (λ (y : Option ℕ). take l.i l.parents ++ y ∷ parents_of ps rest) is
          ∙ ap (λ (fs : List Field). take l.i l.parents ++ parents_of ps fs) (sym line) ∙ l.invariant.4,
    )
