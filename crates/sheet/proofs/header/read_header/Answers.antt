-- `sheet::header::read_header` meets its contract.
use mathlib.Core.Path.{sym, ◌∙◌}
use Rattle.sheet.proofs.HeaderLaws.{headed_no, headed_yes, told, refuse_marks, refuse_names, accept, found, found_line, not_found}
use Rattle.sheet.proofs.header.read_header.Goals as goal

pub returns-in_err-header : goal.returns-in_err-header
returns-in_err-header c =
    let t = c.args.text.now in
    c.from_residual.ensures ∙ sym (headed_no t (refuse_marks t (not_found t c.in_err-header.ensures)))

pub names_differ-requires : goal.names_differ-requires
names_differ-requires c =
    let t = c.args.text.now in
    let m = told t (found t c.in_ok-header.header c.in_ok-header.ensures) in (m.ended, m.columns)

pub returns-then-not-names_differ : goal.returns-then-not-names_differ
returns-then-not-names_differ c =
    let t = c.args.text.now in
    sym (headed_no t (refuse_names t (sym c.names_differ.ensures ∙ c.if-not-names_differ.true)))

pub returns : goal.returns
returns c =
    let t = c.args.text.now in
    let m = found t c.in_ok-header.header c.in_ok-header.ensures in
    c.in_ok-header.ensures ∙ found_line t m ∙ sym (headed_yes t (accept t m (sym c.names_differ.ensures ∙ c.if-not-names_differ.false)))
