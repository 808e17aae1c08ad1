-- `put_place` meets its contract: one text after another.
use mathlib.Core.List.{List, [], ◌∷◌}
use mathlib.Core.Path.{◌∙◌}
use Prim.Native.Nat.{ℕ}
use Rattle.rules.specs.Lists.{decimal_of}
use Rattle.naming.proofs.Listing.{then_place, then_bytes}
use Rattle.naming.proofs.compose.put_place.Goals as goal

pub returns : goal.returns
returns c =
    let k = c.write_byte-at in
    let a = c.args in
    let out = a.out.now in
    let w = c.write_decimal.ensures in
    let mark : List ℕ = 35 ∷ [] in (
      w.answer ∙ then_place out 0 mark (decimal_of a.place) k.new.out k.result k.ensures.bytes k.ensures.answer,
      w.bytes ∙ then_bytes out 0 mark (decimal_of a.place) k.new.out k.result k.ensures.bytes k.ensures.answer,
    )
