-- `times` meets its contract: the product is within range.
use Prim.Native.Nat.{◌≤◌}
use native.Mathlib.Nat.{mul-le-mul}
use native.Mathlib.Omega.{arith}
use Rattle.design.proofs.closed.times.Goals as goal

pub overflow_mul-result : goal.overflow_mul-result
overflow_mul-result c =
    let b : c.args.b ≤ 255 = omega arith in
    omega (arith, mul-le-mul c.requires b)
