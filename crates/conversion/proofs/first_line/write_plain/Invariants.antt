-- `first_line::write_plain`: what is still to be written is the rest of the plain text.
use Prim.Native.Nat.{◌-◌}
use mathlib.Core.Path.{◌≡◌}
use mathlib.Core.Bool.{true}
use lib.ListN.{length, drop}
use Rattle.rules.specs.Sheet.{newline, has}
use Rattle.decimal.proofs.Writing.{Rest}
use Rattle.conversion.specs.Plain.{plain_text}
use Rattle.conversion.proofs.first_line.write_plain.Given as goal

abbrev pub invariant-loop-out : goal.invariant-loop-out
invariant-loop-out l =
    (has newline (drop l.at l.text) ≡ true) × (length l.out ≡ length l.initial.out) × Rest l.out l.next (plain_text (drop l.at l.text)) l.initial.out 0 (plain_text l.text)

abbrev pub decreases-loop-out : goal.decreases-loop-out
decreases-loop-out l = length l.text - l.at
