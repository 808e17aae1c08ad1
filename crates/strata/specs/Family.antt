-- What the struct of a family that 15 accepts stands for.
-- Assumes nothing.
use Rattle.std.specs.Prelude.{◌≡◌, ℕ, ◌<◌}
use Rattle.rules.specs.Factor.{Column, classes}
use Rattle.rules.specs.Family.{Family as Members, members_of}
use Rattle.families.specs.Lent.{column_at}
use Rattle.strata.specs.declared.family.Family.{Family}
use Rattle.strata.specs.declared.family.Counted.{Counted}

abbrev pub members : Family → Members
members f = members_of f.plots f.bytes.now f.size

-- member i, counted from 0
abbrev pub column : Family → ℕ → Column
column f i = column_at f.plots f.bytes.now i

-- a member of the family, with its number of classes
pub record IsCounted (f : Family) (m : Counted) : Type 0 where
  pub within : m.place < f.size
  pub counted : m.classes ≡ classes (column f m.place)
