-- The sample sheet of specs/Sample and its whole output, by computation. Assumes nothing.
use Rattle.std.specs.Prelude.{◌≡◌, refl}
use Rattle.rules.specs.Sample.{sample_sheet, sample_table}
use Rattle.rules.specs.Table.{table_text}

-- the program prints that
pub sample_table_lem : table_text sample_sheet ≡ sample_table
unfolding table_text
sample_table_lem = refl
