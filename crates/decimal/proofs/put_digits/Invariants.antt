-- `put_digits`: the digits of the rest before those already put are all the digits.
use mathlib.Core.Path.{◌≡◌}
use Prim.Native.Nat.{◌^◌, ◌<◌, ◌≤◌}
use lib.ListN.{length, drop}
use Rattle.rules.specs.Lists.{decimal_of}
use Rattle.decimal.proofs.Digits.{digits}
use Rattle.decimal.proofs.put_digits.Given as goal

abbrev pub invariant-loop-rest : goal.invariant-loop-rest
invariant-loop-rest l = (1 ≤ l.first) × (l.first ≤ 20) × (length l.digits ≡ 20) × (l.rest < 10 ^ l.first) × (digits l.rest (drop l.first l.digits) ≡ decimal_of l.n)

abbrev pub decreases-loop-rest : goal.decreases-loop-rest
decreases-loop-rest l = l.rest
