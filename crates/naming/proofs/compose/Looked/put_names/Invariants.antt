-- `put_names` meets its contract: the names of the members before the present one are written.
use mathlib.Core.Path.{◌≡◌}
use lib.ListN.{length}
use Rattle.naming.specs.Members.{each_held, names_written, lengths_written}
use Rattle.naming.proofs.compose.Looked.put_names.Given as goal

abbrev pub invariant-loop-i : goal.invariant-loop-i
invariant-loop-i l =
    record {
      names_long : length l.names ≡ length l.initial.names;
      lengths_long : length l.lengths ≡ length l.initial.lengths;
      names : l.names ≡ names_written (each_held l.self.look l.self.text.now l.self.table.now l.family) l.initial.names l.i;
      lengths : l.lengths ≡ lengths_written (each_held l.self.look l.self.text.now l.self.table.now l.family) l.initial.lengths l.i;
    }
