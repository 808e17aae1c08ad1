-- The columns that a member looks at, and their names: as many of one as of the other, in one order, and where each column stands in the level table.
-- Assumes nothing.
use mathlib.Core.Path.{◌≡◌, refl, sym, ap, ap₂, ◌∙◌}
use mathlib.Core.Logic.{⊎_elim}
use mathlib.Core.Bool.{true}
use mathlib.Core.List.Memᴰ
use mathlib.Core.List.{List, [], ◌++◌}
use Prim.Native.Nat.{ℕ, ◌+◌, ◌*◌, ◌≤◌, ◌<◌}
use native.Mathlib.Nat.{zero-add}
use native.Mathlib.Omega.{arith}
use lib.ListN.{length, get_or, take, drop, length-append, get_or-append}
use lib.Seq.{get_or-append-add}
use Rattle.rules.specs.Factor.{Column}
use Rattle.rules.specs.Sheet.{header, count_kind, plot_mark, treatment_mark, question3}
use Rattle.rules.specs.Naming.{Kind, plot, treatment, mark_of, first_column, kind_names, kind_columns, looked_at, looked_names}
use Rattle.rules.proofs.Sheet.{header_form}
use Rattle.rules.proofs.Buffer.{length_columns, column_at_lem}
use Rattle.rules.proofs.Demand3.{column_length}
use Rattle.rules.proofs.NameBytes.{length_kind_names}
use Rattle.rules.proofs.NameSides.{On}

-- ---- the columns of a kind

module _ (kind : Kind) (text : List ℕ) (n : ℕ) (levels : List ℕ) where
  abbrev counted : ℕ
  counted = count_kind (mark_of kind) (header text)

  pub length_kind : length (kind_columns kind text n levels) ≡ counted
  unfolding kind_columns
  length_kind = length_columns n levels (first_column kind) counted

  -- as many names as columns
  pub kind_count : length (kind_names kind (header text)) ≡ length (kind_columns kind text n levels)
  kind_count = length_kind_names kind (header text) ∙ sym length_kind

  -- all on n plots
  pub kind_on : question3 text ≡ true → n ≤ 240 → 2880 ≤ length levels → On n (kind_columns kind text n levels)
  unfolding kind_columns
  kind_on q few table = column_length n levels counted (first_column kind) few table (fits kind)
    where
      fits : (k : Kind) → first_column k + count_kind (mark_of k) (header text) ≤ 12
      fits plot = omega (arith, (header_form text q).plots)
      fits treatment = omega (arith, (header_form text q).treatments)

  -- column j of the kind, from 0
  kind_at : (j : ℕ) → j < counted → get_or (kind_columns kind text n levels) j [] ≡ take n (drop (240 * (first_column kind + j)) levels)
  unfolding kind_columns
  kind_at j h = column_at_lem n levels (first_column kind) counted j h

-- ---- the columns looked at

module _ (text : List ℕ) (n : ℕ) (levels : List ℕ) where
  abbrev plots : ℕ
  plots = count_kind plot_mark (header text)

  abbrev treatments : ℕ
  treatments = count_kind treatment_mark (header text)

  abbrev columns : Kind → List Column
  columns kind = kind_columns kind text n levels

  abbrev names : Kind → List (List ℕ)
  names kind = kind_names kind (header text)

  -- number j of those looked at, from 0, is this column, with this name
  abbrev pub Looked : Kind → ℕ → Column → List ℕ → Type 0
  Looked kind j C name = (get_or (looked_at kind text n levels) j [] ≡ C) × (get_or (looked_names kind (header text)) j [] ≡ name)

  -- the first are the plot columns: column j of the level table
  pub looked_plot : (kind : Kind) (j : ℕ) → j < plots → Looked kind j (take n (drop (240 * j) levels)) (get_or (kind_names plot (header text)) j [])
  unfolding looked_at looked_names
  looked_plot plot j h = (kind_at plot text n levels j h ∙ rw zero-add, refl)
  looked_plot treatment j h = (
    get_or-append (columns plot) (columns treatment) [] j (rw (length_kind plot text n levels) h) ∙ kind_at plot text n levels j h ∙ rw zero-add,
    get_or-append (names plot) (names treatment) [] j (rw (length_kind_names plot (header text)) h),
  )

  -- "and then treatment columns": column 6 + j of the level table
  pub looked_treatment : (j : ℕ) → j < treatments → Looked treatment (plots + j) (take n (drop (240 * (6 + j)) levels)) (get_or (kind_names treatment (header text)) j [])
  unfolding looked_at looked_names
  looked_treatment j h = (
    ap (λ (k : ℕ). get_or (columns plot ++ columns treatment) (k + j) []) (sym (length_kind plot text n levels)) ∙ get_or-append-add (columns plot) (columns treatment) j [] ∙ kind_at treatment text n levels j h,
    ap (λ (k : ℕ). get_or (names plot ++ names treatment) (k + j) []) (sym (length_kind_names plot (header text))) ∙ get_or-append-add (names plot) (names treatment) j [],
  )

  pub length_looked : (length (looked_at plot text n levels) ≡ plots) × (length (looked_at treatment text n levels) ≡ plots + treatments)
  unfolding looked_at
  length_looked = (length_kind plot text n levels, length-append (columns plot) (columns treatment) ∙ ap₂ (λ (a b : ℕ). a + b) (length_kind plot text n levels) (length_kind treatment text n levels))

  -- as many names as columns
  pub looked_count : (kind : Kind) → length (looked_names kind (header text)) ≡ length (looked_at kind text n levels)
  unfolding looked_names
  looked_count plot = length_kind_names plot (header text) ∙ sym length_looked.0
  looked_count treatment =
      length-append (names plot) (names treatment) ∙ ap₂ (λ (a b : ℕ). a + b) (length_kind_names plot (header text)) (length_kind_names treatment (header text)) ∙ sym length_looked.1

  -- all on n plots
  pub looked_on : (kind : Kind) → question3 text ≡ true → n ≤ 240 → 2880 ≤ length levels → On n (looked_at kind text n levels)
  unfolding looked_at
  looked_on plot q few table C m = kind_on plot text n levels q few table C m
  looked_on treatment q few table C m = ⊎_elim (kind_on plot text n levels q few table C) (kind_on treatment text n levels q few table C) (Memᴰ.append_cases (columns plot) m)
