-- `sheet::field::level_then` meets its contract. The loop's invariant: the number so far, and what is left of the field, give the whole.
use Prim.Native.Nat.{◌+◌}
use lib.ListN.{drop}
use Rattle.sheet.proofs.LevelLaws.{Passed}
use Rattle.sheet.proofs.field.level_then.Given as goal

abbrev pub invariant-loop-i : goal.invariant-loop-i
invariant-loop-i l = Passed (drop l.start l.text) (l.i + 1) l.level
