-- `supremum_listed` meets its contract: the listed cells stand for all plots.
use mathlib.Core.Path.{ap, ◌∙◌}
use Rattle.factor.specs.Lent.{overlay}
use Rattle.standing.specs.Cells.{Listed}
use Rattle.standing.proofs.Joining.{joins_supremum, number_spread, classes_spread}
use Rattle.standing.proofs.pair.supremum_listed.Goals as goal
use Rattle.standing.proofs.pair.supremum_listed.Goals.{After-second-y}

-- the labels of the cells, as they are lent
listed : (c : After-second-y) → Listed c.args.columns.f.now c.args.columns.g.now c.first-x.result.now c.second-y.result.now
listed c = rw (c.first-x.ensures, c.second-y.ensures) c.requires

pub returns : goal.returns
returns c =
    let k = c.args.columns in
    let l = listed (goal.at.returns c).After-second-y in
    let t = c.join_labels-joins.result.entries in
    let e = joins_supremum k.f.now k.g.now k.in_ranges.even c.first-x.result.now c.second-y.result.now t l.stands c.join_labels-joins.ensures.entries in
    record {
      supremum = c.number_joins.ensures.answer ∙ classes_spread k.f.now k.g.now k.in_ranges.even t e;
      above = c.number_joins.ensures.numbers ∙ ap (overlay c.args.above.now) (number_spread k.f.now k.g.now k.in_ranges.even t e);
    }
