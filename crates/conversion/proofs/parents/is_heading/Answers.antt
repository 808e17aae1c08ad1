-- `parents::is_heading`: the mark of a plot column, a colon and the name.
use Rattle.std.proofs.Common.{List, ℕ, sym, ap, ◌∙◌}
use Rattle.rules.specs.Sheet.{same_bytes}
use Rattle.sheet.proofs.FirstByte.{rest_taken}
use Rattle.conversion.proofs.Headings.{equal_bytes, heading_yes, heading_no}
use Rattle.conversion.proofs.parents.is_heading.Goals as goal

pub returns-then-starts_with : goal.returns-then-starts_with
returns-then-starts_with c =
    let f = c.args.field.now in
    let x = c.args.name.now in
    c.eq.ensures ∙ equal_bytes _ _ ∙ ap (λ (g : List ℕ). same_bytes g x) (rest_taken 2 f) ∙ sym (heading_yes f x (sym c.starts_with.ensures.value ∙ c.if-starts_with.true))

pub returns-else-starts_with : goal.returns-else-starts_with
returns-else-starts_with c = c.if-starts_with.false ∙ sym (heading_no c.args.field.now c.args.name.now (sym c.starts_with.ensures.value ∙ c.if-starts_with.false))
