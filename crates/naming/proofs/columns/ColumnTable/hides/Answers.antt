-- `hides` meets its contract: whether each of the two columns lies on the side of the other.
use mathlib.Core.Path.{sym, ◌∙◌}
use Rattle.naming.proofs.SideWalks.{side_told, hides_further, hides_nearer, hides_alike}
use Rattle.naming.specs.Columns.{side_of}
use Rattle.naming.specs.Tables.{columns_in}
use Rattle.naming.proofs.columns.ColumnTable.hides.Goals as goal

pub returns-then-not-towards : goal.returns-then-not-towards
returns-then-not-towards c =
    let t = c.args.self.now in
    let f = c.column-nearer.ensures in
    let g = c.column-farther.ensures in
    let there = side_told t.plots _ c.args.side c.towards.ensures f.plots f.is g.is in
    let back = side_told t.plots _ c.args.side c.towards-then-towards.ensures g.plots g.is f.is in
    rw c.if-not-towards.true (sym (hides_nearer (side_of t.plots c.args.side) (columns_in t) c.args.j c.args.i (there ∙ c.if-towards.true) (back ∙ c.if-not-towards.true)))

pub returns-else-not-towards : goal.returns-else-not-towards
returns-else-not-towards c =
    let t = c.args.self.now in
    let f = c.column-nearer.ensures in
    let g = c.column-farther.ensures in
    let there = side_told t.plots _ c.args.side c.towards.ensures f.plots f.is g.is in
    let back = side_told t.plots _ c.args.side c.towards-then-towards.ensures g.plots g.is f.is in
    sym (hides_alike (side_of t.plots c.args.side) (columns_in t) c.args.j c.args.i (there ∙ c.if-towards.true) (back ∙ c.if-not-towards.false))

pub returns-else-towards : goal.returns-else-towards
returns-else-towards c =
    let t = c.args.self.now in
    let f = c.column-nearer.ensures in
    let g = c.column-farther.ensures in
    let there = side_told t.plots _ c.args.side c.towards.ensures f.plots f.is g.is in
    rw c.if-towards.false (sym (hides_further (side_of t.plots c.args.side) (columns_in t) c.args.j c.args.i (there ∙ c.if-towards.false)))
