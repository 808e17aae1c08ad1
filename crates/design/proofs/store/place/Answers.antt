-- `place` meets its contract: a column that is found is a member, and a new one is put after the last.
use mathlib.Core.Path.{refl}
use lib.ListN.{length}
use Rattle.design.proofs.Placing.{placed_old, placed_new}
use Rattle.design.proofs.store.place.Goals as goal

pub returns-in-Some : goal.returns-in-Some
returns-in-Some c =
    let F = c.args.column.now in
    placed_old (length F) c.args.store.now c.args.counts.now c.args.size c.requires.0 F refl c.in-Some.i c.in-Some.ensures.0 c.in-Some.ensures.1

pub returns : goal.returns
returns c =
    let F = c.args.column.now in
    placed_new (length F) c.args.store.now c.args.counts.now c.args.size c.requires.0 F refl c.requires.2 c.in_default.ensures c.put.new.store c.put.ensures c.args.count c.requires.1
