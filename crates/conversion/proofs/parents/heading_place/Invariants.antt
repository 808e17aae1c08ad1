-- `parents::heading_place`. The loop's invariant: the place is as many fields further as have been passed.
use Rattle.std.proofs.Common.{◌≡◌, ◌+◌, ◌-◌, ◌≤◌, length, drop}
use Rattle.rules.specs.Factor.{index_of}
use Rattle.rules.specs.Sheet.{same_bytes, header}
use Rattle.rules.specs.SheetText.{plot_heading}
use Rattle.conversion.proofs.parents.heading_place.Given as goal

abbrev pub invariant-loop-at : goal.invariant-loop-at
invariant-loop-at l =
    (l.i ≤ l.at) × (l.at ≤ length l.text) × (l.i + index_of same_bytes (header (drop l.at l.text)) (plot_heading l.name) ≡ index_of same_bytes (header l.text) (plot_heading l.name))
    × (l.i + length (header (drop l.at l.text)) ≡ length (header l.text))

abbrev pub decreases-loop-at : goal.decreases-loop-at
decreases-loop-at l = length l.text - l.at
