-- `first_line::slashes_formed`. The loop's invariant: the line has the form exactly when it has it from `at` on.
use Prim.Native.Nat.{◌-◌, ◌≤◌}
use mathlib.Core.Path.{◌≡◌}
use mathlib.Core.Bool.{◌&&◌}
use lib.ListN.{length, drop}
use Rattle.rules.specs.Sheet.{newline, has, all, header}
use Rattle.rules.specs.Parents.{slash_form}
use Rattle.conversion.proofs.first_line.slashes_formed.Given as goal

abbrev pub invariant-loop-at : goal.invariant-loop-at
invariant-loop-at l =
    (l.at ≤ length l.text) × (has newline (drop l.at l.text) && all slash_form (header (drop l.at l.text)) ≡ has newline l.text && all slash_form (header l.text))

abbrev pub decreases-loop-at : goal.decreases-loop-at
decreases-loop-at l = length l.text - l.at
