-- `put_plots`: two words, the number, the end of the line.
use mathlib.Core.List.{[], ◌∷◌, ◌++◌}
use Rattle.rules.specs.Lists.{decimal_of}
use Rattle.decimal.proofs.Writing.{wrote_as, wrote_then}
use Rattle.table.proofs.RowLaws.{start_plots, plots_bytes}
use Rattle.table.proofs.rows.put_plots.Goals as goal

pub returns : goal.returns
returns c =
    let a = c.args in
    let o = a.out.now in
    let d = decimal_of a.plots in
    let two = wrote_then o a.at start_plots d (c.write_bytes-number.ensures.answer, c.write_bytes-number.ensures.bytes) (c.write_decimal-end.ensures.answer, c.write_decimal-end.ensures.bytes) in
    wrote_as o a.at (plots_bytes a.plots) (wrote_then o a.at (start_plots ++ d) (10 ∷ []) two (c.write_byte.ensures.answer, c.write_byte.ensures.bytes))
