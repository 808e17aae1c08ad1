-- The two steps that follow questions 6 and 7: families are closed in memory, and the remaining questions are asked of what it holds.
-- Assumes nothing.
use Rattle.std.specs.Prelude.{Option, None, Some, IfSome, List, ℕ, zero, suc, ◌≤◌, length}
use Rattle.rules.specs.Limits.{most_plots, family_bytes}
use Rattle.rules.specs.Family.{members_of}
use Rattle.rules.specs.Closing.{Closing, too_many, family}
use Rattle.rules.specs.Design.{Answer, question11}
use Rattle.design.specs.declared.closed.ClosedFamily.{ClosedFamily}
use Rattle.design.specs.Judging.{Judging}

-- the closed family that memory holds; where none is answered it has too many members
abbrev pub closed_in : ℕ → List ℕ → Option ClosedFamily → Closing
closed_in n memory None = too_many
closed_in n memory (Some c) = family (members_of n memory c.size)

-- a plot family that is not too large is held with what questions 9 and 10 need to know of it
pub record Ready (n : ℕ) (plot marks : List ℕ) (r : Option ClosedFamily) : Type 0 where
  pub most : n ≤ most_plots
  pub room : family_bytes ≤ length plot
  pub judging : IfSome r (λ c. Judging n c.size plot c.order marks)

-- questions 8 to 14: an accepted plot family goes on to the first treatment family
unfoldable pub goes_on : ℕ → Closing → Answer → Answer
unfolding question11
goes_on n Y a = elim a.refusal [
  | zero ↦ question11 n a.plot Y
  | suc q ↦ a
]
