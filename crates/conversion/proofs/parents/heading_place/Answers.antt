use Rattle.std.proofs.Common.{◌≡◌, ◌≤◌, sym, ap, ◌∙◌, arith, length, drop}
use Rattle.rules.specs.Sheet.{Field, newline, up_to, same_bytes, header}
use Rattle.rules.specs.SheetText.{plot_heading}
use Rattle.rules.proofs.Sheet.{fields_some}
use Rattle.sheet.specs.Walk.{field_of}
use Rattle.sheet.proofs.Stops.{field_cut}
use Rattle.sheet.proofs.HeaderLaws.{end_here, line_last, line_on}
use Rattle.sheet.proofs.NameLaws.{end_inside}
use Rattle.conversion.proofs.FirstLine.{place_here, place_end, place_last, place_on}
use Rattle.conversion.proofs.Headings.{heading_found, heading_missing}
use Rattle.conversion.proofs.parents.heading_place.Goals as goal
use Rattle.conversion.proofs.parents.heading_place.Goals.{After-is_heading, After-end_of-e, then-text-e-via-then-text-e, then-text-e-via-else-text-e+then-text-e-eq10}

-- what was asked of the part handed on, of the field
said : (c : After-is_heading) → same_bytes (field_of (drop c.loop-at.at c.args.text.now)) (plot_heading c.args.name.now) ≡ c.is_heading.result
said c = sym (ap (λ (f : Field). same_bytes f (plot_heading c.args.name.now)) (field_cut c.args.text.now c.loop-at.at c.end_of-e.result c.end_of-e.ensures)) ∙ sym c.is_heading.ensures

-- a field is left
some : (c : After-end_of-e) → 1 ≤ length (header (drop c.loop-at.at c.args.text.now))
unfolding header
some c = fields_some (up_to newline (drop c.loop-at.at c.args.text.now))

pub slice_bounds-is_heading-end : goal.slice_bounds-is_heading-end
slice_bounds-is_heading-end c = omega (arith, end_inside c.args.text.now c.loop-at.at c.end_of-e.result c.end_of-e.ensures (omega arith))

pub returns-then-is_heading : goal.returns-then-is_heading
returns-then-is_heading c =
    let t = c.args.text.now in
    let q = said (goal.at.returns-then-is_heading c).After-is_heading ∙ c.if-is_heading.true in
    let k = place_here t c.loop-at.at c.end_of-e.result c.end_of-e.ensures (plot_heading c.args.name.now) q in
    heading_found (header t) c.args.name.now c.loop-at.i (omega (arith, k, c.loop-at.invariant.2)) (omega (arith, some (goal.at.returns-then-is_heading c).After-end_of-e, c.loop-at.invariant.3))

pub returns-then-text-e : goal.returns-then-text-e
unfolding header
returns-then-text-e c =
    let t = c.args.text.now in
    let at = c.loop-at.at in
    let e = c.end_of-e.result in
    let d = c.end_of-e.ensures in
    let x = plot_heading c.args.name.now in
    let q = said (goal.at.returns-then-text-e c).After-is_heading ∙ c.if-is_heading.false in
    elim c.then-text-e.branch [
      | then-text-e-via-then-text-e w ↦ let p = place_end t at e d x (omega arith) q in
          let l : length (header (drop at t)) ≡ 1 = ap length (end_here t at e d (omega arith)).parts in
          heading_missing (header t) c.args.name.now (omega (arith, p, l, c.loop-at.invariant.2, c.loop-at.invariant.3))
      | then-text-e-via-else-text-e+then-text-e-eq10 w ↦ let p = place_last t at e d x (omega arith) q w.if-text-e-eq10.true in
          let l : length (header (drop at t)) ≡ 1 = ap length (line_last t at e d (omega arith) w.if-text-e-eq10.true) in
          heading_missing (header t) c.args.name.now (omega (arith, p, l, c.loop-at.invariant.2, c.loop-at.invariant.3))
    ]

pub loop-at-preserved : goal.loop-at-preserved
loop-at-preserved c =
    let t = c.args.text.now in
    let q = said (goal.at.loop-at-preserved c).After-is_heading ∙ c.if-is_heading.false in
    let k = place_on t c.loop-at.at c.end_of-e.result c.end_of-e.ensures (plot_heading c.args.name.now) (omega arith) q c.if-text-e-eq10.false in
    let l = ap length (line_on t c.loop-at.at c.end_of-e.result c.end_of-e.ensures (omega arith) c.if-text-e-eq10.false) in
    (omega arith, omega arith, omega (arith, k, c.loop-at.invariant.2), omega (arith, l, c.loop-at.invariant.3))
