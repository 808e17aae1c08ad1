-- `cross` meets its contract.
use mathlib.Core.Path.{◌≡◌}
use lib.ListN.{length}
use Rattle.std.proofs.Common.{rules}
use Rattle.design.proofs.Sides.{crossing_begun}
use Rattle.design.proofs.crossing.cross.Goals as goal

pub cross_members-requires : goal.cross_members-requires
cross_members-requires c =
    let bytes : length c.args.found.now.bytes ≡ 7680 = search rules in
    let counts : length c.args.found.now.counts ≡ 32 = search rules in
    crossing_begun _ _ bytes counts c.requires.4 c.requires.5
