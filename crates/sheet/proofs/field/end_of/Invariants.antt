-- `sheet::field::end_of` meets its contract. The loop's invariant: the end of the field is the same from every place passed.
use Prim.Native.Nat.{◌+◌}
use mathlib.Core.Path.{◌≡◌}
use lib.ListN.{length, drop}
use Rattle.sheet.specs.Walk.{field_of}
use Rattle.sheet.proofs.field.end_of.Given as goal

abbrev pub invariant-loop-i : goal.invariant-loop-i
invariant-loop-i l = l.i + length (field_of (drop l.i l.rest)) ≡ length (field_of l.rest)
