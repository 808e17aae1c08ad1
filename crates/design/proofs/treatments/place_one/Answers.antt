-- `place_one` meets its contract: what is placed is the column of the buffer.
use mathlib.Core.Path.{◌≡◌, sym, ap, ◌∙◌}
use native.Mathlib.Omega.{arith}
use lib.ListN.{length}
use Rattle.rules.specs.Factor.{Column, classes}
use Rattle.design.specs.State.{column_at}
use Rattle.factor.specs.Labels.{largest}
use Rattle.factor.proofs.Lent.{length_part}
use Rattle.factor.proofs.LargestLabel.{largest_classes}
use Rattle.design.proofs.Start.{tried_on, held_on}
use Rattle.design.proofs.treatments.place_one.Goals as goal
use Rattle.design.proofs.treatments.place_one.Goals.{After-largest-k}

-- the column of the buffer, and as it is lent
abbrev column : After-largest-k → Column
column c = column_at c.args.n c.args.infima.now c.args.e

abbrev lent : After-largest-k → Column
lent c = c.member-column.result.now

is : (c : After-largest-k) → lent c ≡ column c
is c = c.member-column.ensures

-- it is on n plots
length-is : (c : After-largest-k) → length (column c) ≡ c.args.n
length-is c =
    let s = c in
    length_part s.args.n s.args.e s.args.infima.now (omega (arith, s.requires.0.most))

pub try_place-requires : goal.try_place-requires
try_place-requires c =
    let w = (goal.at.try_place-requires c).After-largest-k in (
      held_on c.args.n c.args.store.now c.args.counts.now c.args.size (lent w) (column w) (is w) (length-is w) c.requires.0,
      w.largest-k.ensures ∙ ap largest (is w) ∙ largest_classes (column w) c.requires.3 ∙ ap classes (sym (is w)),
    )

pub returns : goal.returns
returns c =
    let w = (goal.at.returns c).After-largest-k in
    tried_on c.args.n c.args.store.now c.args.size (lent w) (column w) c.try_place.result c.try_place.new.store c.try_place.new.counts (is w) (length-is w) c.try_place.ensures
