-- `on_side` meets its contract: what is told of the columns before i.
use mathlib.Core.Bool.{false}
use mathlib.Core.Path.{◌≡◌}
use Prim.Native.Nat.{ℕ, ◌<◌}
use lib.ListN.{length, get_or}
use Rattle.rules.specs.Names.{on_side}
use Rattle.naming.specs.Columns.{side_of}
use Rattle.naming.specs.Tables.{columns_in}
use Rattle.naming.proofs.columns.ColumnTable.on_side.Given as goal

abbrev pub invariant-loop-i : goal.invariant-loop-i
invariant-loop-i l = (length l.there ≡ 12) × ((k : ℕ) → k < l.i → get_or l.there k false ≡ on_side (side_of l.self.plots l.side) l.member (columns_in l.self) k)
