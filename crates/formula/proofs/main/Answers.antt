-- The text printed is within its buffer.
use Rattle.std.proofs.Common.{sym, length-take-le}
use Rattle.decimal.proofs.Writing.{wrote_within}
use Rattle.formula.proofs.main.Goals as goal

pub slice_bounds-out-end : goal.slice_bounds-out-end
slice_bounds-out-end c = wrote_within _ _ c.print-size.ensures

pub slice_bounds-write_all-end : goal.slice_bounds-write_all-end
slice_bounds-write_all-end c = sym (length-take-le _ _ (wrote_within _ _ c.print-size.ensures))
