-- `names::name`: the bytes where the reader of first lines finds the name.
use Rattle.std.proofs.Common.{[], get_or, sym, ◌∙◌}
use Rattle.rules.specs.Sheet.{plot_mark, header, column_names}
use Rattle.sheet.proofs.Stops.{part_slice}
use Rattle.sheet.proofs.NameLaws.{Part, span_some, span_none}
use Rattle.block_formula.proofs.names.name.Goals as goal
use Rattle.block_formula.proofs.names.name.Goals.{In-Some}

-- the span is the name
part : (c : In-Some) → Part c.args.line.now c.in-Some.span (get_or (column_names plot_mark (header c.args.line.now)) c.args.i [])
part c = span_some c.args.line.now plot_mark c.args.i c.in-Some.span (sym c.in-Some.ensures)

pub slice_bounds-result-count : goal.slice_bounds-result-count
slice_bounds-result-count c = (part (goal.at.slice_bounds-result-count c).In-Some).ordered

pub slice_bounds-result-start : goal.slice_bounds-result-start
slice_bounds-result-start c = (part (goal.at.slice_bounds-result-start c).In-Some).ordered

pub slice_bounds-result-end : goal.slice_bounds-result-end
slice_bounds-result-end c = (part (goal.at.slice_bounds-result-end c).In-Some).inside

pub returns-in-Some : goal.returns-in-Some
returns-in-Some c =
    let p = part (goal.at.returns-in-Some c).In-Some in
    let r = c.in-Some.span in
    part_slice r.start r.end c.args.line.now p.ordered ∙ p.is

pub returns-in-None : goal.returns-in-None
returns-in-None c = sym (span_none c.args.line.now plot_mark c.args.i (sym c.in-None.ensures))
