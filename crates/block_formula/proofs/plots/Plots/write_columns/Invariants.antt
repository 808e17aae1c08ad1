-- `Plots::write_columns`. The loop's invariant: the table's first columns are those of the names passed.
use Rattle.std.proofs.Common.{◌≡◌, length, take}
use Rattle.rules.specs.Family.{members_of}
use Rattle.block_formula.specs.Plots.{columns_in}
use Rattle.block_formula.proofs.plots.Plots.write_columns.Given as goal

abbrev pub invariant-loop-i : goal.invariant-loop-i
invariant-loop-i l =
    (length l.levels ≡ length l.initial.levels) × (members_of l.self.plots l.levels l.i ≡ take l.i (columns_in l.text l.self.counts.now l.self.plots))
