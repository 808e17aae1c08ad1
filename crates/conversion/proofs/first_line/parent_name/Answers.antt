-- `first_line::parent_name`: what stands after the first slash.
use Rattle.std.proofs.Common.{◌+◌, sym, ap, ◌∙◌, Some}
use Rattle.sheet.proofs.FirstByte.{rest_taken}
use Rattle.conversion.proofs.Slashes.{parent_named, no_parent_named}
use Rattle.conversion.proofs.first_line.parent_name.Goals as goal

pub returns-in_err-place : goal.returns-in_err-place
returns-in_err-place c = rw c.from_residual.ensures (no_parent_named c.args.field.now (sym c.in_err-place.ensures))

pub returns : goal.returns
returns c = ap Some (rest_taken (c.in_ok-place.place + 1) c.args.field.now) ∙ parent_named c.args.field.now c.in_ok-place.place (sym c.in_ok-place.ensures)
