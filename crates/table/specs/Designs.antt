-- The lines of a design whose families stand in lent buffers.
-- Assumes nothing.
use Rattle.std.specs.Prelude.{true, List, [], ◌∷◌, map, ◌≡◌, ℕ, ◌≤◌, length}
use Rattle.rules.specs.Limits.{most_plots, most_members, most_interaction, table_cells, family_bytes}
use Rattle.rules.specs.Family.{Family, members_of, well_formed}
use Rattle.rules.specs.Design.{full_design}
use Rattle.rules.specs.Sheet.{question3}
use Rattle.rules.specs.Degrees.{degrees}
use Rattle.rules.specs.Strata.{stratum, residuals, all_have_stratum}
use Rattle.rules.specs.Naming.{Kind, plot, treatment}
use Rattle.rules.specs.Table.{Row, rows_bytes, design_rows, accepted_rows, refused_row, first_kind, second_kind, strata_rows}
use Rattle.naming.specs.Answers.{CountedIn}
use Rattle.naming.specs.declared.Source.{Source}
use Rattle.refusal.specs.Numbers.{number_of}
use Rattle.design.specs.declared.Sizes.{Sizes}
use Rattle.design.specs.declared.FullRefusal.{FullRefusal}
use Rattle.table.specs.Names.{Nameable, placed_name, table_of}

-- two families on 1 to 240 plots, which question 15 accepts; every treatment member has a stratum
pub record Accepted (n : ℕ) (plots : List ℕ) (plot_size : ℕ) (treatments : List ℕ) (treatment_size : ℕ) : Type 0 where
  pub some : 1 ≤ n
  pub few : n ≤ most_plots
  pub plot_room : family_bytes ≤ length plots
  pub treatment_room : family_bytes ≤ length treatments
  pub plot_few : plot_size ≤ most_members
  pub treatment_few : treatment_size ≤ most_members
  pub plot_formed : well_formed (members_of n plots plot_size) ≡ true
  pub treatment_formed : well_formed (members_of n treatments treatment_size) ≡ true
  pub strata : all_have_stratum n (members_of n plots plot_size) (members_of n treatments treatment_size) ≡ true

-- the buffer of the family of a kind
abbrev pub buffer_for : Kind → List ℕ → List ℕ → List ℕ
buffer_for plot plots treatments = plots
buffer_for treatment plots treatments = treatments

-- the line of a refusal by question q at the places i and j of the families in the buffers
unfoldable pub placed_row : List ℕ → ℕ → List ℕ → List ℕ → List ℕ → ℕ → ℕ → ℕ → Row
unfolding refused_row placed_name first_kind second_kind
placed_row text n levels plots treatments q i j =
    refused_row q (placed_name (first_kind q) text n levels (buffer_for (first_kind q) plots treatments) i)
    (placed_name (second_kind q) text n levels (buffer_for (second_kind q) plots treatments) j)

-- the lines of an accepted design, by the names of its plot and treatment members
unfoldable pub named_rows : ℕ → Family → Family → List (List ℕ) → List (List ℕ) → List Row
unfolding table_of strata_rows degrees residuals stratum
named_rows n P R ps ts = table_of n (strata_rows 1 ps (degrees n P) (residuals n P R) ts (map (stratum n P) R) (degrees n R))

-- ---- what the functions ask and write

-- a sheet that was read
abbrev pub WasRead : Source → Type 0
WasRead s = (question3 s.text.now ≡ true) × (1 ≤ s.counts.plots) × (s.counts.plots ≤ most_plots) × (table_cells ≤ length s.levels.now) × CountedIn s.text.now s.counts

-- members of either family can be named
abbrev pub BothNameable : Source → List ℕ → List ℕ → Type 0
BothNameable s plots treatments =
    Nameable s.text.now s.levels.now plots s.counts.plots × Nameable s.text.now s.levels.now treatments s.counts.plots × CountedIn s.text.now s.counts

-- an accepted design of a sheet that was read
abbrev pub AcceptedSheet : Source → Sizes → List ℕ → List ℕ → Type 0
AcceptedSheet s sizes plots treatments =
    (question3 s.text.now ≡ true) × (table_cells ≤ length s.levels.now) × Accepted s.counts.plots plots sizes.plot treatments sizes.treatment × CountedIn s.text.now s.counts

-- the text of a sheet that was read
abbrev pub design_text : Source → List ℕ
design_text s =
    rows_bytes (design_rows s.text.now s.counts.plots s.levels.now (full_design s.counts.plots s.counts.plot_columns s.counts.treatment_columns most_interaction s.levels.now family_bytes family_bytes))

-- the line of a refusal
abbrev pub refusal_text : Source → FullRefusal → List ℕ → List ℕ → List ℕ
refusal_text s r plots treatments = rows_bytes (placed_row s.text.now s.counts.plots s.levels.now plots treatments (number_of r.question) r.first r.second ∷ [])

-- the table of an accepted design, by its families
abbrev pub accepted_text : Source → Sizes → List ℕ → List ℕ → List ℕ
accepted_text s sizes plots treatments =
    rows_bytes (accepted_rows s.text.now s.counts.plots s.levels.now (members_of s.counts.plots plots sizes.plot) (members_of s.counts.plots treatments sizes.treatment))
