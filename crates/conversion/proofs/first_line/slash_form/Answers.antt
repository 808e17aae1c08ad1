-- `first_line::slash_form`: a slash part is a plot column's, and has the form of a name.
use Rattle.std.proofs.Common.{sym, ap, ◌∙◌}
use Rattle.rules.specs.Sheet.{is_name}
use Rattle.conversion.proofs.Slashes.{told_slash, told_no_slash, form_none, form_kind, form_name}
use Rattle.conversion.proofs.first_line.slash_form.Goals as goal

pub returns-in_default : goal.returns-in_default
returns-in_default c = sym (form_none c.args.field.now (told_no_slash c.args.field.now c.in_default.ensures))

pub returns-then-starts_with : goal.returns-then-starts_with
returns-then-starts_with c =
    let f = c.args.field.now in
    let told = told_slash f c.in-Some.name.now c.in-Some.ensures in
    c.is_name.ensures ∙ ap is_name told.1 ∙ sym (form_name f told.0 (sym c.starts_with.ensures.value ∙ c.if-starts_with.true))

pub returns-else-starts_with : goal.returns-else-starts_with
returns-else-starts_with c =
    let f = c.args.field.now in
    let told = told_slash f c.in-Some.name.now c.in-Some.ensures in
    c.if-starts_with.false ∙ sym (form_kind f told.0 (sym c.starts_with.ensures.value ∙ c.if-starts_with.false))
