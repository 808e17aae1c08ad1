use Prim.Native.Nat.{ℕ, ◌+◌, ◌-◌, ◌<◌}
use mathlib.Core.Path.{refl, sym, ap, ◌∙◌}
use mathlib.Core.List.{List, [], ◌∷◌, ◌++◌}
use native.Mathlib.Omega.{arith}
use lib.ListN.{length, take, drop}
use Rattle.rules.specs.Sheet.{newline, has}
use Rattle.rules.specs.Parents.{without_parent}
use Rattle.decimal.specs.Writing.{Wrote}
use Rattle.decimal.proofs.Writing.{rest_then, wrote_as, wrote_length}
use Rattle.sheet.specs.Walk.{field_of}
use Rattle.sheet.proofs.Stops.{field_cut, field_next}
use Rattle.sheet.proofs.HeaderLaws.{inside, tab_here}
use Rattle.conversion.specs.Plain.{plain_text}
use Rattle.sheet.proofs.FirstByte.{rest_taken}
use Rattle.conversion.proofs.FirstLine.{plain_last, plain_on}
use Rattle.conversion.proofs.first_line.write_plain.Goals as goal
use Rattle.conversion.proofs.first_line.write_plain.Goals.{After-end_of-e, After-write_field-next}

-- the field at hand ends inside the text
ends : (c : After-end_of-e) → c.end_of-e.result < length c.args.text.now
ends c = inside c.args.text.now c.loop-out.at c.end_of-e.result c.end_of-e.ensures c.loop-out.invariant.0

-- it is written without its slash part
field-written : (c : After-write_field-next) → Wrote c.loop-out.out c.loop-out.next (without_parent (field_of (drop c.loop-out.at c.args.text.now))) c.write_field-next.new.out c.write_field-next.result
field-written c =
    let d = c in
    let l = d.loop-out in
    wrote_as l.out l.next (ap without_parent (field_cut d.args.text.now l.at d.end_of-e.result d.end_of-e.ensures)) c.write_field-next.ensures

-- the rest of the text is written as it stands
rest-written : (t before after : List ℕ) (e next place : ℕ) → Wrote before next (take (length t - e) (drop e t)) after place → Wrote before next (drop e t) after place
rest-written t before after e next place w = wrote_as before next (rest_taken e t) w

pub loop-out-init : goal.loop-out-init
loop-out-init c = (c.requires, refl, (refl, refl))

pub slice_bounds-write_field-count : goal.slice_bounds-write_field-count
slice_bounds-write_field-count c = omega (arith, ends (c))

pub slice_bounds-write_field-end : goal.slice_bounds-write_field-end
slice_bounds-write_field-end c = omega (arith, ends (goal.at.slice_bounds-write_field-end c).After-end_of-e)

pub bounds-text-e : goal.bounds-text-e
bounds-text-e c = omega (arith, ends (goal.at.bounds-text-e c).After-end_of-e)

pub slice_bounds-write_bytes-count : goal.slice_bounds-write_bytes-count
slice_bounds-write_bytes-count c = omega (arith, ends (goal.at.slice_bounds-write_bytes-count c).After-end_of-e)

pub shape_of-out-then-text-e-eq10 : goal.shape_of-out-then-text-e-eq10
shape_of-out-then-text-e-eq10 c =
    let f = (goal.at.shape_of-out-then-text-e-eq10 c).After-write_field-next in
    let l = c.loop-out in
    let t = c.args.text.now in
    wrote_length f.write_field-next.new.out f.write_field-next.result (drop c.end_of-e.result t) (rest-written c.args.text.now c.write_field-next.new.out c.write_bytes.new.out c.end_of-e.result c.write_field-next.result c.write_bytes.result (c.write_bytes.ensures.answer, c.write_bytes.ensures.bytes)) ∙ wrote_length l.out l.next (without_parent (field_of (drop l.at t))) (field-written f) ∙ l.invariant.1

pub returns-then-text-e-eq10 : goal.returns-then-text-e-eq10
returns-then-text-e-eq10 c =
    let f = (goal.at.returns-then-text-e-eq10 c).After-write_field-next in
    let d = (goal.at.returns-then-text-e-eq10 c).After-end_of-e in
    let l = d.loop-out in
    let a = d.args in
    let t = a.text.now in
    let e = d.end_of-e.result in
    let left = rest_then a.out.now 0 (plain_text t) l.out l.next (without_parent (field_of (drop l.at t))) (drop e t) (plain_last t l.at e d.end_of-e.ensures (ends d) c.if-text-e-eq10.true) (field-written f) l.invariant.2 in
    let w = rest-written c.args.text.now c.write_field-next.new.out c.write_bytes.new.out c.end_of-e.result c.write_field-next.result c.write_bytes.result (c.write_bytes.ensures.answer, c.write_bytes.ensures.bytes) in
    (w.0 ∙ left.0, w.1 ∙ left.1)

pub overflow_add-at : goal.overflow_add-at
overflow_add-at c = omega (arith, ends (goal.at.overflow_add-at c).After-end_of-e)

pub loop-out-smaller : goal.loop-out-smaller
loop-out-smaller c = omega (arith, ends (goal.at.loop-out-smaller c).After-end_of-e)

pub loop-out-preserved : goal.loop-out-preserved
loop-out-preserved c =
    let f = (goal.at.loop-out-preserved c).After-write_field-next in
    let d = (goal.at.loop-out-preserved c).After-end_of-e in
    let l = d.loop-out in
    let a = d.args in
    let t = a.text.now in
    let e = d.end_of-e.result in
    let k = tab_here t l.at e d.end_of-e.ensures (ends d) c.if-text-e-eq10.false in
    let own = without_parent (field_of (drop l.at t)) in
    let rest = plain_text (drop (e + 1) t) in
    let w = c.write_byte-next in
    let left = rest_then a.out.now 0 (plain_text t) l.out l.next own (9 ∷ [] ++ rest) (plain_on t l.at e d.end_of-e.ensures (ends d) c.if-text-e-eq10.false) (field-written f) l.invariant.2 in (
      ap (has newline) (sym (field_next t l.at e d.end_of-e.ensures)) ∙ sym k.ends ∙ l.invariant.0,
      wrote_length f.write_field-next.new.out f.write_field-next.result (9 ∷ []) (w.ensures.answer, w.ensures.bytes) ∙ wrote_length l.out l.next own (field-written f) ∙ l.invariant.1,
      rest_then a.out.now 0 (plain_text t) f.write_field-next.new.out f.write_field-next.result (9 ∷ []) rest refl (w.ensures.answer, w.ensures.bytes) left,
    )
