-- What crossing plot with treatment members answers.
-- Assumes nothing.
use Rattle.std.specs.Prelude.{◌≡◌, List, [], ℕ, Result, Ok, Err, ◌<◌, length}
use Rattle.rules.specs.Limits.{most_members}
use Rattle.rules.specs.Factor.{Column}
use Rattle.rules.specs.Family.{members_of, insert_all}
use Rattle.rules.specs.Closing.{only_supremum, products}
use Rattle.design.specs.State.{Begun}
use Rattle.design.specs.Search.{cross_first, cross_second}
use Rattle.design.specs.Treatments.{orthogonal_at}
use Rattle.design.specs.declared.crossing.Suprema.{Suprema}
use Rattle.design.specs.declared.crossing.Crossed.{Crossed}
use Rattle.design.specs.declared.crossing.Crossed.TheVariants.{Apart, TooMany}

-- the suprema of plot and treatment members, with double entries
abbrev pub suprema_of : ℕ → List ℕ → ℕ → List ℕ → ℕ → List Column
suprema_of n plot size treatment size' = products only_supremum (members_of n plot size) (members_of n treatment size')

-- all pairs are orthogonal, and `found` has the suprema; or a pair is not, and this is the first; or the suprema are more than 32
abbrev pub Crosses : ℕ → List ℕ → ℕ → List ℕ → ℕ → Suprema → Result (Unit {0}) Crossed → Type 0
Crosses n plot size treatment size' found (Ok _) = (cross_first (orthogonal_at n plot treatment) size size' ≡ 0) × Begun n (suprema_of n plot size treatment size') found.bytes found.counts found.size
Crosses n plot size treatment size' found (Err (Apart pair)) = (pair.first ≡ cross_first (orthogonal_at n plot treatment) size size') × (pair.second ≡ cross_second (orthogonal_at n plot treatment) size' pair.first) × (pair.first ≡ 0 → ⊥)
Crosses n plot size treatment size' found (Err TooMany) = (cross_first (orthogonal_at n plot treatment) size size' ≡ 0) × (most_members < length (insert_all (suprema_of n plot size treatment size') []))
