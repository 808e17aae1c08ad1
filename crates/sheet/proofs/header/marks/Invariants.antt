-- `sheet::header::marks` meets its contract. The loop's invariant: the fields from `at` on, after those counted, give the whole answer.
use Prim.Native.Nat.{◌+◌, ◌-◌, ◌≤◌}
use mathlib.Core.Path.{◌≡◌}
use mathlib.Core.List.{[]}
use lib.ListN.{length, take, drop}
use Rattle.sheet.specs.Answers.{marked}
use Rattle.sheet.proofs.HeaderLaws.{Filled}
use Rattle.sheet.proofs.header.marks.Given as goal

abbrev pub invariant-loop-e : goal.invariant-loop-e
invariant-loop-e l =
    (l.p ≤ 6) × (l.t ≤ 6) × (l.at ≤ length l.text) × (length l.columns ≡ 12) × Filled l.columns (l.p + l.t) × (marked l.at l.p l.t (take (l.p + l.t) l.columns) (drop l.at l.text) ≡ marked 0 0 0 [] l.text)

abbrev pub decreases-loop-e : goal.decreases-loop-e
decreases-loop-e l = length l.text - l.at
