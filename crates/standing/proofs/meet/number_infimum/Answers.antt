-- `number_infimum` meets its contract: a table has room for few cells, and many are numbered like levels.
use native.Mathlib.Nat.{mul-le-mul}
use native.Mathlib.Omega.{arith}
use Rattle.standing.proofs.meet.number_infimum.Goals as goal

pub overflow_mul-cells : goal.overflow_mul-cells
overflow_mul-cells c = let r = c.args.columns.in_ranges in omega (arith, mul-le-mul r.few_f r.few_g)
