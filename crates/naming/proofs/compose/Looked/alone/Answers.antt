-- `alone` meets its contract: the columns of the kind are the last of the table.
use Prim.Native.Nat.{◌*◌}
use Rattle.naming.proofs.Tables.{alone_numbered, rest_part}
use Rattle.naming.proofs.compose.Looked.alone.Goals as goal

pub invariant_of-result : goal.invariant_of-result
invariant_of-result c =
    let s = c.args.self.now in
    record { numbered = rw (rest_part (240 * s.look.before) s.table.now) (alone_numbered s.look s.table.now s.numbered) }
