-- `names::write_headings`: what is still to be written is what the bytes left add.
use mathlib.Core.Path.{◌≡◌}
use mathlib.Core.Bool.{false}
use lib.ListN.{length, drop}
use Rattle.decimal.proofs.Writing.{Rest}
use Rattle.block_formula.specs.Text.{headings_from}
use Rattle.block_formula.proofs.names.write_headings.Given as goal

abbrev pub invariant-loop-x : goal.invariant-loop-x
invariant-loop-x l =
    (length l.out ≡ length l.initial.out) × Rest l.out l.next (headings_from l.counting (drop l.x-index l.text)) l.initial.out l.initial.next (headings_from false l.text)
