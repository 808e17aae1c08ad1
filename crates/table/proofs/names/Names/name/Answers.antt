-- `name`: the bytes at the member's place.
use native.Mathlib.Omega.{arith}
use lib.ListN.{get_or}
use mathlib.Core.Path.{◌≡◌}
use Prim.Native.Nat.{◌+◌, ◌-◌, ◌*◌}
use Rattle.table.specs.Names.{name_in}
use Rattle.table.proofs.names.Names.name.Goals as goal

pub returns : goal.returns
unfolding name_in
returns c =
    let k = get_or c.args.self.now.lengths c.args.j 0 in
    let e : 160 * c.args.j + k - 160 * c.args.j ≡ k = omega arith in
    rw e
