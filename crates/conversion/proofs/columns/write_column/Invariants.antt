-- `columns::write_column`: one level after another is copied.
use Rattle.std.proofs.Common.{◌≡◌, ◌*◌, length}
use Rattle.std.proofs.Math.Seq.{paste}
use Rattle.conversion.proofs.columns.write_column.Given as goal

abbrev pub invariant-loop-u : goal.invariant-loop-u
invariant-loop-u l = (length l.levels ≡ length l.initial.levels) × (l.levels ≡ paste l.initial.levels (240 * l.c) l.numbers l.u)
