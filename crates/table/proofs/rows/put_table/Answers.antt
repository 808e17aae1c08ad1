-- `put_table`: the first line, the strata, the last line.
use mathlib.Core.List.{[], ◌∷◌, ◌++◌}
use Rattle.rules.specs.Lists.{decimal_of}
use Rattle.rules.specs.Table.{row_bytes, rows_bytes, word_all, word_total}
use Rattle.decimal.proofs.Writing.{wrote_as, wrote_then}
use Rattle.table.specs.Skeletons.{strata_in}
use Rattle.table.proofs.RowLaws.{start_table, table_bytes_lem}
use Rattle.table.proofs.rows.put_table.Goals as goal

pub returns : goal.returns
returns c =
    let a = c.args in
    let t = a.table.now in
    let o = a.out.now in
    let rows = strata_in t in
    let last = row_bytes (word_all ∷ word_total ∷ decimal_of t.plots ∷ []) in
    let two = wrote_then o 0 start_table (rows_bytes rows) (c.write_bytes-second.ensures.answer, c.write_bytes-second.ensures.bytes) c.put_strata-last.ensures in
    wrote_as o 0 (table_bytes_lem t.plots rows) (wrote_then o 0 (start_table ++ rows_bytes rows) last two c.put_plots.ensures)
