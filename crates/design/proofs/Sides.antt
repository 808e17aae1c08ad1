-- Laws of the plot and the treatment members that are crossed.
-- Assumes nothing.
use mathlib.Core.Path.{◌≡◌, sym, ap, ◌∙◌, subst}
use mathlib.Core.Bool.{true, false}
use mathlib.Core.List.{List, [], ◌∷◌, ◌++◌}
use Rattle.std.proofs.Common.{Option, Result}
use Prim.Native.Nat.{ℕ, ◌*◌, ◌+◌, ◌≤◌, ◌<◌}
use lib.ListN.{length, get_or, set, replicate}
use Rattle.rules.specs.Factor.{Column, number, classes}
use Rattle.rules.proofs.Supremum.{length_supremum, number_supremum}
use Rattle.factor.proofs.Lent.{length_part}
use Rattle.rules.proofs.Members.{clash}
use Rattle.design.specs.State.{Held}
use Rattle.design.specs.Treatments.{known_finer, Member}
use Rattle.design.specs.Crossing.{FinerBits, Growing, Grown, Stands, Adds, begun, places_in}
use Rattle.design.specs.Crossed.{Crosses}
use Rattle.design.specs.Sides.{Crossing, Placed, test_of, plot_of, treatment_of, supremum_of}
use Rattle.design.specs.declared.nesting.Sides.{Sides}
use Rattle.design.specs.declared.crossing.Suprema.{Suprema}
use Rattle.design.specs.declared.crossing.Crossed.{Crossed}
use Rattle.design.proofs.Suprema.{member_in_buffer, treatment_coarser, plot_coarser}
use Rattle.design.proofs.Joins.{growing_on, growing_off, grown_off, stands_off, adds_off, joins_begun, joins_entered}
use Rattle.design.proofs.Start.{held_none, begun_none}

module _ (s : Sides) where
  -- a plot member, and a treatment member
  pub plot_member : {i : ℕ} → i < s.plot.size → Member s.plot.plots s.plot.bytes.now i (get_or s.plot.counts i 0)
  plot_member {i} h = s.plot.ordered.counted i h

  pub treatment_member : {j : ℕ} → j < s.treatment.size → Member s.plot.plots s.treatment.bytes.now j (get_or s.treatment.counts j 0)
  treatment_member {j} h = subst (λ (n : ℕ). Member n s.treatment.bytes.now j (get_or s.treatment.counts j 0)) (sym s.same_plots) (s.treatment.ordered.counted j h)

  -- those that are finer
  pub plot_words : (i : ℕ) → FinerBits s.plot.plots s.plot.bytes.now (get_or s.plot.finer i 0) i
  plot_words i = s.plot.ordered.words i

  pub treatment_words : (j : ℕ) → FinerBits s.plot.plots s.treatment.bytes.now (get_or s.treatment.finer j 0) j
  treatment_words j = subst (λ (n : ℕ). FinerBits n s.treatment.bytes.now (get_or s.treatment.finer j 0) j) (sym s.same_plots) (s.treatment.ordered.words j)

  module _ {i j : ℕ} (hi : i < s.plot.size) (hj : j < s.treatment.size) where
    -- they lie in their buffers
    pub plot_room : 240 * i + s.plot.plots ≤ length s.plot.bytes.now
    plot_room = member_in_buffer s.plot.plots i _ s.plot.bytes.now s.plot.ordered.most (plot_member hi)

    pub treatment_room : 240 * j + s.plot.plots ≤ length s.treatment.bytes.now
    treatment_room = member_in_buffer s.plot.plots j _ s.treatment.bytes.now s.plot.ordered.most (treatment_member hj)

    -- they are on as many plots
    pub length_plot : length (plot_of s i) ≡ s.plot.plots
    length_plot = length_part s.plot.plots i s.plot.bytes.now plot_room

    pub length_treatment : length (treatment_of s j) ≡ s.plot.plots
    length_treatment = length_part s.plot.plots j s.treatment.bytes.now treatment_room

    -- their supremum is numbered
    pub number_made : number (supremum_of s i j) ≡ supremum_of s i j
    number_made = number_supremum (plot_of s i) (treatment_of s j) (rw (length_plot, length_treatment))

    length_made : length (supremum_of s i j) ≡ s.plot.plots
    length_made = length_supremum (plot_of s i) (treatment_of s j) (rw (length_plot, length_treatment)) ∙ length_plot

    -- the supremum, as it is lent, may be added
    module _ {X : Column} (x : X ≡ supremum_of s i j) where
      pub asked_made : {found : Suprema} {joins : List (Option ℕ)} {k : ℕ} → Crossing s found joins → k ≡ classes (supremum_of s i j) → Growing (length X) found.bytes found.counts found.size found.over × (k ≡ classes X) × (number X ≡ X)
      asked_made g c = (growing_on x length_made g.growing, c ∙ ap classes (sym x), ap number x ∙ number_made ∙ sym x)

      -- once it is
      pub kept_made : {found after : Suprema} {joins : List (Option ℕ)} {place : Option ℕ} → Crossing s found joins → test_of s i j ≡ true → Growing (length X) after.bytes after.counts after.size after.over → Grown (length X) found.bytes found.size after.bytes after.size → Stands (length X) X after.bytes after.size place
          → Crossing s after (set joins (32 * i + j) place)
      kept_made {after = after} {place = place} g o growing grown stands = record {
        growing = growing_off x length_made growing;
        table = joins_entered i j place (plot_member hi).place (treatment_member hj).place (grown_off x length_made grown) (stands_off x length_made after.bytes after.size place stands) o g.table;
      }

      pub adds_made : (found after : Suprema) → Adds (length X) found.bytes found.counts found.size found.over X after.bytes after.counts after.size after.over → (As : List Column) → Placed s As found → Placed s (As ++ supremum_of s i j ∷ []) after
      adds_made found after = adds_off x length_made found.bytes found.counts found.size found.over after.bytes after.counts after.size after.over

    -- of two nested members it is the coarser one
    pub treatment_made : known_finer s.plot.plots (get_or s.plot.counts i 0) (get_or s.treatment.counts j 0) ≡ true → (true ≡ test_of s i j) × (treatment_of s j ≡ supremum_of s i j)
    treatment_made = treatment_coarser s.plot.plots i j _ _ s.plot.bytes.now s.treatment.bytes.now s.plot.ordered.some s.plot.ordered.most (plot_member hi) (treatment_member hj)

    pub plot_made : known_finer s.plot.plots (get_or s.treatment.counts j 0) (get_or s.plot.counts i 0) ≡ true → (true ≡ test_of s i j) × (plot_of s i ≡ supremum_of s i j)
    plot_made = plot_coarser s.plot.plots i j _ _ s.plot.bytes.now s.treatment.bytes.now s.plot.ordered.some s.plot.ordered.most (plot_member hi) (treatment_member hj)

-- the same answer, of what is equal
pub crosses_same : {n n' m m' k k' : ℕ} {plot plot' first first' : List ℕ} (found : Suprema) (r : Result (Unit {0}) Crossed) → n ≡ n' → plot ≡ plot' → m ≡ m' → first ≡ first' → k ≡ k' → Crosses n plot m first k found r → Crosses n' plot' m' first' k' found r
crosses_same found r a b c d e h = rw (← a, ← b, ← c, ← d, ← e) h

-- nothing is found yet
pub crossing_begun : (s : Sides) (found : Suprema) → length found.bytes ≡ 7680 → length found.counts ≡ 32 → found.size ≡ 0 → found.over ≡ false → Crossing s found (places_in (replicate 1024 0)) × Placed s [] found
crossing_begun s found bytes counts none fits =
    let held : Held s.plot.plots found.bytes found.counts found.size = rw none (held_none s.plot.plots found.bytes found.counts s.plot.ordered.some s.plot.ordered.most bytes counts) in (
      record {
        growing = record { held = held; full = λ e. clash e fits };
        table = joins_begun s.plot.plots s.plot.bytes.now s.treatment.bytes.now found.bytes found.size;
      },
      begun fits (rw none (begun_none s.plot.plots found.bytes found.counts (rw none at held))),
    )
