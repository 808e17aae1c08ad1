use Prim.Native.Nat.{◌+◌, ◌*◌, ◌<◌}
use native.Mathlib.Numerals.{add-one}
use native.Mathlib.Omega.{arith}
use lib.ListN.{length, length-set}
use lib.Seq.{paste-suc}
use Rattle.design.proofs.store.put.Goals as goal

pub loop-u-preserved : goal.loop-u-preserved
loop-u-preserved c =
    let s = c.args in
    let d = s.store.now in
    let u = c.loop-u.u in
    let h : 240 * s.i + u < length d = omega arith in
    let k : u < length s.column.now = omega arith in
    (simp length-set c.loop-u.invariant.0, rw (c.loop-u.invariant.1, add-one) (paste-suc d (240 * s.i) s.column.now u 0 h k))
