-- `put_listed` meets its contract: what the columns from i on add gives the whole list.
use mathlib.Core.Bool.{false}
use mathlib.Core.Path.{◌≡◌}
use lib.ListN.{length, get_or}
use Rattle.naming.proofs.Listing.{Lists}
use Rattle.naming.specs.Columns.{looked_in, look_names, side_of, listed_by}
use Rattle.naming.proofs.compose.Looked.put_listed.Given as goal

abbrev pub invariant-loop-i : goal.invariant-loop-i
invariant-loop-i l =
    (length l.out ≡ length l.initial.out)
    × Lists (look_names l.self.look l.self.text.now) (listed_by (λ j. get_or l.there j false) (side_of l.self.look.plots l.side) (looked_in l.self.look l.self.table.now)) l.columns.count l.initial.out l.at l.out l.end l.first l.i
