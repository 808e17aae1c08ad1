-- What questions 9, 10 and 12 need to know of a family that is written: where its members were found, and the marks of pairs.
-- Assumes nothing.
use Rattle.std.specs.Prelude.{◌≡◌, Bool, true, Option, MatchOption, List, ℕ, ◌≤◌, ◌<◌, length, get_or}
use Rattle.rules.specs.Limits.{most_plots, most_members}
use Rattle.rules.specs.Factor.{Column, uniform, orthogonal}
use Rattle.rules.specs.Family.{Family, members_of, written}
use Rattle.rules.specs.Closing.{too_many, family, close, plot_generators, plot_family}
use Rattle.rules.specs.Design.{first_failing, first_pair}
use Rattle.design.specs.declared.questions.Places as found
use Rattle.design.specs.declared.closed.ClosedFamily.{ClosedFamily}
use Rattle.design.specs.State.{make_of, pair_mark, marked}
use Rattle.design.specs.Search.{first_pair_of}
use Rattle.design.specs.Treatments.{Numbered}

-- the first pair in the order without a mark
unfoldable pub apart_at : List ℕ → List ℕ → ℕ → found.Places
unfolding first_pair_of
apart_at order marks size = first_pair_of (λ i j. marked marks (get_or order i 0) (get_or order j 0)) size

-- the entries of the order are places, and that is the first pair of members S that the test tells apart
pub record MarksTell (test : Column → Column → Bool) (S : Family) (order marks : List ℕ) (size : ℕ) : Type 0 where
  pub places : (i : ℕ) → i < size → get_or order i 0 < most_members
  pub first : (apart_at order marks size).first ≡ (first_pair test 1 S).first
  pub second : (apart_at order marks size).second ≡ (first_pair test 1 S).second

-- the closed family of the columns Gs is written, with the marks of its pairs
pub data Listed (n : ℕ) (infima : Bool) (Gs : List Column) (before after marks order : List ℕ) (r : ℕ) : Type 0 where
  listed : (S : Family) → close (make_of infima) Gs ≡ family S → r ≡ length S → r ≤ most_members → after ≡ written before 0 S → MarksTell (pair_mark infima n) S order marks r → Listed n infima Gs before after marks order r

-- the same, or it is too large and nothing is written
abbrev pub Listing : ℕ → Bool → List Column → List ℕ → List ℕ → List ℕ → Option ClosedFamily → Type 0
Listing n infima Gs before after marks r = MatchOption r ((close (make_of infima) Gs ≡ too_many) × (after ≡ before)) (λ c. Listed n infima Gs before after marks c.order c.size)

-- the plot family is closed and written, with marks by numbers of classes, or with marks that tell which members are orthogonal
pub data PlotListed (n : ℕ) (Fs : List Column) (before after marks order : List ℕ) (r : ℕ) : Type 0 where
  by_counts_holds : Listed n true (plot_generators n Fs) before after marks order r → PlotListed n Fs before after marks order r
  by_tests : (S : Family) → plot_family n Fs ≡ family S → r ≡ length S → r ≤ most_members → after ≡ written before 0 S → MarksTell (orthogonal n) S order marks r → PlotListed n Fs before after marks order r

-- the same, or it is too large and nothing is written
abbrev pub PlotListing : ℕ → List Column → List ℕ → List ℕ → List ℕ → Option ClosedFamily → Type 0
PlotListing n Fs before after marks r = MatchOption r ((plot_family n Fs ≡ too_many) × (after ≡ before)) (λ c. PlotListed n Fs before after marks c.order c.size)

-- the plot family in memory: where all members have classes of one size, the marks tell those that are orthogonal
pub record Judging (n size : ℕ) (plot order marks : List ℕ) : Type 0 where
  pub some : 1 ≤ n
  pub most : n ≤ most_plots
  pub members : Numbered n plot size
  pub places : (i : ℕ) → i < size → get_or order i 0 < most_members
  pub tells : first_failing (uniform n) 1 (members_of n plot size) ≡ 0 → MarksTell (orthogonal n) (members_of n plot size) order marks size
