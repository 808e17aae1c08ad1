-- `put_column` meets its contract: the name of a plot column, or of one of the kind.
use mathlib.Core.Path.{ap, ◌∙◌}
use Rattle.decimal.specs.Writing.{written, place_after}
use Rattle.naming.proofs.Listing.{name_before, name_after}
use Rattle.naming.proofs.compose.Looked.put_column.Goals as goal

pub returns-then-c-self : goal.returns-then-c-self
returns-then-c-self c =
    let a = c.args in
    let out = a.out.now in
    let q = name_before a.self.now.look a.self.now.text.now a.c c.if-c-self.true in
    let w = c.put_marked.ensures in
    (w.0 ∙ ap (place_after out a.at) q, w.1 ∙ ap (written out a.at) q)

pub returns : goal.returns
returns c =
    let a = c.args in
    let out = a.out.now in
    let q = name_after a.self.now.look a.self.now.text.now a.c c.if-c-self.false in
    let w = c.put_marked-2.ensures in
    (w.0 ∙ ap (place_after out a.at) q, w.1 ∙ ap (written out a.at) q)
