-- `try_place` meets its contract: where the store is full, the column is found or is new.
use mathlib.Core.Path.{◌≡◌, refl}
use native.Mathlib.Omega.{arith}
use lib.ListN.{length}
use Rattle.design.proofs.Placing.{found_first, placed_found}
use Rattle.design.proofs.store.try_place.Goals as goal

pub returns : goal.returns
returns c =
    let F = c.args.column.now in
    let all : c.args.size ≡ 32 = omega (arith, c.requires.0.few) in
    placed_found (length F) c.args.store.now c.args.counts.now c.args.size c.requires.0 F refl c.find.result all (found_first _ _ F c.find.result c.find.ensures)
