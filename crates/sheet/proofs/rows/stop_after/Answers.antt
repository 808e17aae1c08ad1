-- `sheet::rows::stop_after` meets its contract.
use Prim.Native.Nat.{suc, ◌+◌, ◌-◌}
use mathlib.Core.Path.{◌≡◌}
use native.Mathlib.Omega.{arith}
use Rattle.sheet.proofs.rows.stop_after.Goals as goal

pub returns-then-i-n : goal.returns-then-i-n
returns-then-i-n c =
    let s = c.args in
    let m : s.n - (s.i + 1) ≡ suc (s.n - (s.i + 2)) = omega arith in
    rw m

pub returns : goal.returns
returns c =
    let s = c.args in
    let m : s.n - (s.i + 1) ≡ 0 = omega arith in
    rw m
