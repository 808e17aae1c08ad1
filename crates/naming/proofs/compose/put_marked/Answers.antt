-- `put_marked` meets its contract: the part lent is the name, and no column has no name.
use mathlib.Core.Path.{sym, ap, ◌∙◌}
use mathlib.Core.List.{[]}
use lib.ListN.{get_or}
use Rattle.decimal.proofs.Writing.{written_nil, place_nil}
use Rattle.decimal.specs.Writing.{written, place_after}
use Rattle.rules.specs.Sheet.{column_names, header}
use Rattle.sheet.proofs.NameLaws.{Part, span_some, span_none}
use Rattle.naming.proofs.Listing.{slice_part}
use Rattle.naming.proofs.compose.put_marked.Goals as goal
use Rattle.naming.proofs.compose.put_marked.Goals.{In-Some}

-- the span is the name
part : (c : In-Some) → Part c.args.text.now c.in-Some.span (get_or (column_names c.args.mark (header c.args.text.now)) c.args.c [])
part c = let a = c.args in span_some a.text.now a.mark a.c c.in-Some.span (sym c.in-Some.ensures)

pub slice_bounds-write_bytes-count : goal.slice_bounds-write_bytes-count
slice_bounds-write_bytes-count c = (part ((goal.at.slice_bounds-write_bytes-count c).In-Some)).ordered

pub slice_bounds-write_bytes-start : goal.slice_bounds-write_bytes-start
slice_bounds-write_bytes-start c = (part ((goal.at.slice_bounds-write_bytes-start c).In-Some)).ordered

pub slice_bounds-write_bytes-end : goal.slice_bounds-write_bytes-end
slice_bounds-write_bytes-end c = (part ((goal.at.slice_bounds-write_bytes-end c).In-Some)).inside

pub returns-in-Some : goal.returns-in-Some
returns-in-Some c =
    let k = (goal.at.returns-in-Some c).In-Some in
    let a = k.args in
    let r = k.in-Some.span in
    let p = part k in
    let w = c.write_bytes.ensures in
    let q = slice_part r.start r.end a.text.now p.ordered p.inside ∙ p.is in
    (w.answer ∙ ap (place_after a.out.now a.at) q, w.bytes ∙ ap (written a.out.now a.at) q)

pub returns-in-None : goal.returns-in-None
returns-in-None c =
    let a = c.args in
    let q = span_none a.text.now a.mark a.c (sym c.in-None.ensures) in
    (sym (ap (place_after a.out.now a.at) q ∙ place_nil a.out.now a.at), sym (ap (written a.out.now a.at) q ∙ written_nil a.out.now a.at))
