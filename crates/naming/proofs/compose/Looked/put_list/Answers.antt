-- `put_list` meets its contract: one text after another.
use mathlib.Core.List.{List, [], ◌∷◌, ◌++◌}
use mathlib.Core.Path.{◌≡◌, ap, ◌∙◌}
use Prim.Native.Nat.{ℕ}
use Rattle.rules.specs.Names.{with_commas}
use Rattle.decimal.specs.Writing.{written, place_after}
use Rattle.naming.proofs.Listing.{then_place, then_bytes}
use Rattle.naming.specs.Columns.{look_names}
use Rattle.naming.specs.Members.{letter_of, listed_in}
use Rattle.naming.proofs.compose.Looked.put_list.Goals as goal

pub returns : goal.returns
returns c =
    let a = c.args in
    let out = a.out.now in
    let letter : List ℕ = letter_of a.side ∷ [] in
    let bracket : List ℕ = 40 ∷ [] in
    let closed : List ℕ = 41 ∷ [] in
    let names = with_commas (look_names a.self.now.look a.self.now.text.now) (listed_in a.self.now.look a.side a.self.now.table.now a.there.now) in
    let x = c.write_byte-bracket in
    let k = c.write_byte-from in
    let l = c.put_listed-to in
    let w = c.write_byte in
    let is = c.letter.ensures in
    let first : x.new.out ≡ written out 0 letter = x.ensures.bytes ∙ ap (λ (b : ℕ). written out 0 (b ∷ [])) is in
    let at : x.result ≡ place_after out 0 letter = x.ensures.answer ∙ ap (λ (b : ℕ). place_after out 0 (b ∷ [])) is in
    let opened : k.new.out ≡ written out 0 (letter ++ bracket) = k.ensures.bytes ∙ then_bytes out 0 letter bracket x.new.out x.result first at in
    let from : k.result ≡ place_after out 0 (letter ++ bracket) = k.ensures.answer ∙ then_place out 0 letter bracket x.new.out x.result first at in
    let bytes : l.new.out ≡ written out 0 (letter ++ bracket ++ names) = l.ensures.1 ∙ then_bytes out 0 (letter ++ bracket) names k.new.out k.result opened from in
    let to : l.result ≡ place_after out 0 (letter ++ bracket ++ names) = l.ensures.0 ∙ then_place out 0 (letter ++ bracket) names k.new.out k.result opened from in (
      w.ensures.answer ∙ then_place out 0 (letter ++ bracket ++ names) closed l.new.out l.result bytes to,
      w.ensures.bytes ∙ then_bytes out 0 (letter ++ bracket ++ names) closed l.new.out l.result bytes to,
    )
