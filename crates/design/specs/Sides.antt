-- The plot and the treatment members of a design, as they are crossed.
-- Assumes nothing.
use Rattle.std.specs.Prelude.{Bool, List, ℕ, Option}
use Rattle.rules.specs.Factor.{Column, supremum}
use Rattle.rules.specs.Family.{Family, members_of}
use Rattle.design.specs.State.{column_at}
use Rattle.design.specs.Treatments.{orthogonal_at}
use Rattle.design.specs.Crossing.{Growing, Placing, Joins, Tested}
use Rattle.design.specs.declared.nesting.Members.{Members}
use Rattle.design.specs.declared.nesting.Sides.{Sides}
use Rattle.design.specs.declared.crossing.Suprema.{Suprema}

-- the member at place i
abbrev pub member_of : Members → ℕ → Column
member_of m i = column_at m.plots m.bytes.now i

-- all members
abbrev pub family_of : Members → Family
family_of m = members_of m.plots m.bytes.now m.size

-- whether plot member i and treatment member j are orthogonal
abbrev pub test_of : Sides → ℕ → ℕ → Bool
test_of s i j = orthogonal_at s.plot.plots s.plot.bytes.now s.treatment.bytes.now i j

-- plot member i and treatment member j
abbrev pub plot_of : Sides → ℕ → Column
plot_of s i = column_at s.plot.plots s.plot.bytes.now i

abbrev pub treatment_of : Sides → ℕ → Column
treatment_of s j = column_at s.plot.plots s.treatment.bytes.now j

-- their supremum
abbrev pub supremum_of : Sides → ℕ → ℕ → Column
supremum_of s i j = supremum (plot_of s i) (treatment_of s j)

-- the plot members, and the treatment members
abbrev pub plot_members : Sides → Family
plot_members s = members_of s.plot.plots s.plot.bytes.now s.plot.size

abbrev pub treatment_members : Sides → Family
treatment_members s = members_of s.plot.plots s.treatment.bytes.now s.treatment.size

-- the suprema found so far, and the table of their places
pub record Crossing (s : Sides) (found : Suprema) (joins : List (Option ℕ)) : Type 0 where
  pub growing : Growing s.plot.plots found.bytes found.counts found.size found.over
  pub table : Joins s.plot.plots s.plot.bytes.now s.treatment.bytes.now found.bytes found.size joins

-- the suprema found are those of the columns As
abbrev pub Placed : Sides → List Column → Suprema → Type 0
Placed s As found = Placing s.plot.plots As found.bytes found.counts found.size found.over

-- what the table tells of a pair of members, where plot member a and treatment member b are not orthogonal
abbrev pub TestedOf : Sides → List (Option ℕ) → ℕ → ℕ → ℕ → ℕ → Type 0
TestedOf s joins a b i j = Tested s.plot.plots s.plot.bytes.now s.treatment.bytes.now joins a b i j
