-- `field::place_of`: the walk ends at the first such byte. The loop's invariant: it stands as far from here as is left.
use Prim.Native.Nat.{◌+◌}
use mathlib.Core.Path.{◌≡◌}
use lib.ListN.{length, drop}
use Rattle.rules.specs.Sheet.{up_to}
use Rattle.sheet.proofs.field.place_of.Given as goal

abbrev pub invariant-loop-i : goal.invariant-loop-i
invariant-loop-i l = l.i + length (up_to l.byte (drop l.i l.text)) ≡ length (up_to l.byte l.text)
