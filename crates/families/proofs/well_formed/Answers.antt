-- `well_formed` meets its contract: the limits are asked, then question 15.
use mathlib.Core.Path.{sym, ◌∙◌}
use native.Mathlib.Omega.{arith}
use lib.ListN.{length}
use borrow.Author.Tests.{lt-leb, le-leb}
use Rattle.std.proofs.Common.{inl, inr}
use Rattle.families.specs.Lent.{formed_in}
use Rattle.families.proofs.Lent.{formed_in_lem}
use Rattle.families.proofs.well_formed.Goals as goal
use Rattle.families.proofs.well_formed.Goals.{then-plots-le-PLOTS, else-plots-le-PLOTS}

pub returns-then-family-ge-FAMILY : goal.returns-then-family-ge-FAMILY
returns-then-family-ge-FAMILY c = let s = c.args in c.formed.ensures ∙ sym (formed_in_lem s.plots s.family.now s.size (omega arith) (omega arith))

pub returns-else-family-ge-FAMILY : goal.returns-else-family-ge-FAMILY
unfolding formed_in
returns-else-family-ge-FAMILY c =
    let s = c.args in
    elim c.if-plots-le-PLOTS.branch [
      | then-plots-le-PLOTS w ↦ elim c.if-family-ge-FAMILY.either [ inl h ↦ rw (w.t-5-is, le-leb s.plots 240 h.0, lt-leb 7680 (length s.family.now) h.1) | inr h ↦ absurd (omega arith) ]
      | else-plots-le-PLOTS w ↦ rw (w.t-5-is, lt-leb s.plots 240 w.if-plots-le-PLOTS.false)
    ]
