-- `put_next` meets its contract: the comma, unless it is the first name, and the name.
use mathlib.Core.Bool.{Bool}
use mathlib.Core.List.{[], ◌∷◌}
use mathlib.Core.Path.{sym, ap, ◌∙◌}
use lib.ListN.{get_or}
use Rattle.decimal.specs.Writing.{written, place_after}
use Rattle.naming.proofs.Listing.{then_place, then_bytes}
use Rattle.naming.specs.Columns.{look_names}
use Rattle.naming.specs.Listing.{separated}
use Rattle.naming.proofs.compose.Looked.put_next.Goals as goal

pub returns-then-first : goal.returns-then-first
returns-then-first c =
    let a = c.args in
    let out = a.out.now in
    let name = get_or (look_names a.self.now.look a.self.now.text.now) a.c [] in
    let e = c.if-first.true in
    let w = c.put_column.ensures in
    (w.0 ∙ ap (λ (f : Bool). place_after out a.at (separated f name)) (sym e), w.1 ∙ ap (λ (f : Bool). written out a.at (separated f name)) (sym e))

pub returns : goal.returns
returns c =
    let a = c.args in
    let out = a.out.now in
    let name = get_or (look_names a.self.now.look a.self.now.text.now) a.c [] in
    let e = c.if-first.false in
    let k = c.write_byte-next in
    let w = c.put_column-2.ensures in (
      w.0 ∙ then_place out a.at (44 ∷ []) name k.new.out k.result k.ensures.bytes k.ensures.answer ∙ ap (λ (f : Bool). place_after out a.at (separated f name)) (sym e),
      w.1 ∙ then_bytes out a.at (44 ∷ []) name k.new.out k.result k.ensures.bytes k.ensures.answer ∙ ap (λ (f : Bool). written out a.at (separated f name)) (sym e),
    )
