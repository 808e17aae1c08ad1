-- What a table is written from, read as the rules' lines.
-- Assumes nothing.
use Rattle.std.specs.Prelude.{List, [], ◌∷◌, ℕ, ◌+◌, ℤ, pos, get_or, take}
use Rattle.rules.specs.Table.{Row, source_rows, stratum_rows, strata_rows}
use Rattle.table.specs.Names.{name_in, names_in}
use Rattle.table.specs.declared.names.Name.{Name}
use Rattle.table.specs.declared.names.Names.{Names}
use Rattle.table.specs.declared.skeletons.Skeleton.{Skeleton}

-- the bytes of a name
abbrev pub spelled : Name → List ℕ
spelled m = take m.size m.bytes

-- the names of a family's members
abbrev pub names_of : Names → List (List ℕ)
names_of m = names_in m.bytes m.lengths m.size

-- the places of the treatment members' strata, and their degrees of freedom
abbrev pub places_of : Skeleton → List ℕ
places_of t = take t.sources.now.size t.found.now.strata.places

abbrev pub degrees_of : Skeleton → List ℤ
degrees_of t = take t.sources.now.size t.found.now.degrees

-- the line of treatment member j, from 0, if it stands in the stratum at a place
abbrev pub source_at : List ℕ → ℕ → Skeleton → ℕ → List Row
source_at name place t j =
    source_rows name place (name_in t.sources.now.bytes t.sources.now.lengths j ∷ []) (get_or t.found.now.strata.places j 0 ∷ []) (get_or t.found.now.degrees j (pos 0) ∷ [])

-- the lines of the treatment members in the stratum at a place
abbrev pub sources_in : List ℕ → ℕ → Skeleton → List Row
sources_in name place t = source_rows name place (names_of t.sources.now) (places_of t) (degrees_of t)

-- the lines of the stratum of plot member i, from 0
abbrev pub stratum_at : Skeleton → ℕ → List Row
stratum_at t i =
    stratum_rows (name_in t.strata.now.bytes t.strata.now.lengths i) (i + 1) (names_of t.sources.now) (places_of t) (degrees_of t) (get_or t.found.now.totals i (pos 0)) (get_or t.found.now.strata.residuals i (pos 0))

-- the lines of all strata
abbrev pub strata_in : Skeleton → List Row
strata_in t =
    strata_rows 1 (names_of t.strata.now) (take t.strata.now.size t.found.now.totals) (take t.strata.now.size t.found.now.strata.residuals) (names_of t.sources.now) (places_of t) (degrees_of t)
