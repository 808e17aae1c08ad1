-- `first_line::write_field`: the bytes before the first slash.
use Rattle.std.proofs.Common.{ap, ◌∙◌, take, ℕ}
use Rattle.decimal.proofs.Writing.{wrote_as}
use Rattle.conversion.proofs.Slashes.{before_place}
use Rattle.conversion.proofs.first_line.write_field.Goals as goal

pub returns : goal.returns
returns c =
    let f = c.args.field.now in
    wrote_as c.args.out.now c.args.at (ap (λ (m : ℕ). take m f) c.unwrap_or-end.ensures ∙ before_place f c.slash_place.result c.slash_place.ensures) (c.write_bytes.ensures.answer, c.write_bytes.ensures.bytes)
