-- `product` meets its contract.
use Prim.Native.Nat.{◌≤◌}
use native.Mathlib.Nat.{mul-le-mul}
use native.Mathlib.Omega.{arith}
use Rattle.standing.proofs.cells.product.Goals as goal

pub overflow_mul-result : goal.overflow_mul-result
overflow_mul-result c =
    let hx : c.args.x ≤ 255 = omega arith in
    let hy : c.args.y ≤ 255 = omega arith in
    omega (arith, mul-le-mul hx hy)
