-- `sheet::header::new_name` meets its contract. The loop's invariant: the name is new exactly when it is new among the fields from `at` on.
use Prim.Native.Nat.{◌+◌, ◌-◌}
use mathlib.Core.Path.{◌≡◌}
use mathlib.Core.Bool.{true}
use lib.ListN.{length, drop}
use lib.Seq.{slice}
use Rattle.rules.specs.Sheet.{has, all, is_column, new_name, header}
use Rattle.sheet.proofs.header.new_name.Given as goal

abbrev pub invariant-loop-start : goal.invariant-loop-start
invariant-loop-start l =
    (has 10 (drop l.at l.text) ≡ true) × (all is_column (header (drop l.at l.text)) ≡ true) × (new_name (slice l.start l.stop l.text) (header (drop l.at l.text)) ≡ new_name (slice l.start l.stop l.text) (header (drop (l.stop + 1) l.text)))

abbrev pub decreases-loop-start : goal.decreases-loop-start
decreases-loop-start l = length l.text - l.at
