-- `first_crossed` meets its contract: the first pair is that of what is left to search.
use Rattle.std.proofs.Common.{◌≡◌, ◌-◌, None}
use Rattle.design.specs.Search.{first_from, cross_partner, cross_first}
use Rattle.design.specs.Sides.{test_of}
use Rattle.design.proofs.Search.{cross_alone}
use Rattle.design.proofs.apart.first_crossed.Given as goal

abbrev pub invariant-loop-j : goal.invariant-loop-j
invariant-loop-j l = (l.found ≡ None) × (cross_partner (test_of l.sides) l.sides.treatment.size l.i ≡ first_from (test_of l.sides l.i) l.j (l.sides.treatment.size - l.j))

abbrev pub invariant-pairs : goal.invariant-pairs
invariant-pairs l =
    (l.found ≡ None) × (cross_first (test_of l.sides) l.sides.plot.size l.sides.treatment.size ≡ first_from (cross_alone (test_of l.sides) l.sides.treatment.size) l.i (l.sides.plot.size - l.i))
