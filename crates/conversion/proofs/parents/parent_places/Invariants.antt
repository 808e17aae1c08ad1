-- `parents::parent_places`. The loop's invariant: the answer hangs on the fields left, and the places of the parents of those passed are written.
use Rattle.std.proofs.Common.{◌≡◌, ◌+◌, ◌-◌, ◌++◌, true, length, take, drop}
use Rattle.rules.specs.Sheet.{newline, has, header}
use Rattle.rules.specs.Parents.{parents_left}
use Rattle.conversion.specs.Plain.{parents_of}
use Rattle.conversion.proofs.parents.parent_places.Given as goal

abbrev pub invariant-loop-parents : goal.invariant-loop-parents
invariant-loop-parents l =
    (has newline (drop l.at l.old) ≡ true) × (length l.parents ≡ 12) × (l.i + length (header (drop l.at l.old)) ≡ length (header l.old))
    × (parents_left (header l.plain) l.i (header (drop l.at l.old)) ≡ parents_left (header l.plain) 0 (header l.old)) × (take l.i l.parents ++ parents_of (header l.plain) (header (drop l.at l.old)) ≡ parents_of (header l.plain) (header l.old))

abbrev pub decreases-loop-parents : goal.decreases-loop-parents
decreases-loop-parents l = length l.old - l.at
