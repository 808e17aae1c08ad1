-- `number_listed` meets its contract: the table tells the number of each cell seen, the array is filled with the numbers, and the list is that of the plots passed.
use mathlib.Core.Path.{◌≡◌}
use Prim.Native.Nat.{◌≤◌}
use lib.ListN.{length}
use Rattle.rules.specs.Factor.{number}
use Rattle.factor.proofs.Fill.{filled}
use Rattle.standing.specs.Cells.{Cover}
use Rattle.standing.specs.Numbers.{Numbered}
use Rattle.standing.proofs.Codes.{codes_of}
use Rattle.standing.proofs.meet.number_listed.Given as goal

abbrev pub invariant-loop-u : goal.invariant-loop-u
invariant-loop-u g l =
    let codes = codes_of l.columns.past_g l.columns.f.now l.columns.g.now in
    (length l.out ≡ 240) × (l.numbers.count ≤ l.u) × Numbered codes l.u l.numbers.numbers l.numbers.count × (l.out ≡ filled l.initial.out (number codes) l.u)
    × Cover l.u l.columns.f.now l.columns.g.now l.cells.f l.cells.g l.cells.count
