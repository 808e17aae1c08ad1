-- `put` meets its contract: each turn copies one of the list.
use mathlib.Core.Path.{◌≡◌, ◌∙◌, ap}
use Prim.Native.Nat.{◌+◌, ◌<◌}
use native.Mathlib.Omega.{arith}
use native.Mathlib.Numerals.{add-one}
use lib.ListN.{length, length-set, get_or, set}
use lib.Seq.{paste, paste-suc}
use Rattle.rachdoum.proofs.gather.put.Goals as goal

pub loop-i-preserved : goal.loop-i-preserved
loop-i-preserved g c =
    let a = c.args in
    let d = a.out.now in
    let i = c.loop-i.i in
    let h : a.at + i < length d = omega arith in
    let k : i < length a.from.now = omega arith in
    let z = c.index-from-i.result in
    let item : z ≡ get_or a.from.now i z = c.index-from-i.is in
    (simp length-set c.loop-i.invariant.0, rw (c.loop-i.invariant.1, add-one) (ap (set (paste d a.at a.from.now i) (a.at + i)) item ∙ paste-suc d a.at a.from.now i z h k))
