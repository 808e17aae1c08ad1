-- `sheet::rows::judge` meets its contract. The loop's invariant: the lines from `at` on, after those counted, give the whole answer.
use Prim.Native.Nat.{◌-◌, ◌≤◌}
use mathlib.Core.Path.{◌≡◌}
use lib.ListN.{length, drop}
use Rattle.rules.specs.Sheet.{lines}
use Rattle.sheet.specs.Answers.{judged}
use Rattle.sheet.proofs.rows.judge.Given as goal

abbrev pub invariant-loop-at : goal.invariant-loop-at
invariant-loop-at l = (l.count ≤ l.at) × (judged l.count l.n (lines (drop l.at l.text)) ≡ judged 0 l.n (lines (drop l.start l.text)))

abbrev pub decreases-loop-at : goal.decreases-loop-at
decreases-loop-at l = length l.text - l.at
