-- `same_product` meets its contract.
use Prim.Native.Nat.{◌≤◌}
use native.Mathlib.Nat.{mul-le-mul}
use native.Mathlib.Omega.{arith}
use Rattle.design.proofs.closing.same_product.Goals as goal

pub overflow_mul-result : goal.overflow_mul-result
overflow_mul-result c = omega (arith, mul-le-mul c.requires.0 c.requires.1)

pub overflow_mul-result-2 : goal.overflow_mul-result-2
overflow_mul-result-2 c =
    let a : c.args.a ≤ 255 = omega arith in
    let b : c.args.b ≤ 255 = omega arith in
    omega (arith, mul-le-mul a b)
