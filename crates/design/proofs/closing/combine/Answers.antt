-- `combine` meets its contract: where the order is known the mark is, and other pairs are combined.
use native.Mathlib.Nat.{le_refl}
use native.Mathlib.Omega.{arith}
use Rattle.design.proofs.Work.{work_left, work_right, step_as}
use Rattle.design.proofs.closing.combine.Goals as goal

pub found_finer-requires : goal.found_finer-requires
found_finer-requires c =
    (c.requires.0, c.requires.1, omega (arith, c.requires.1, c.requires.2), c.requires.3)

pub returns-then-found_finer : goal.returns-then-found_finer
returns-then-found_finer c =
    record {
      kept = (c.requires.0, le_refl _, c.found_finer.ensures.known);
      step = λ Gs w. rw c.entry.ensures (work_left w c.requires.1 c.requires.2 (c.found_finer.ensures.finer c.if-found_finer.true));
    }

pub found_finer-requires-2 : goal.found_finer-requires-2
found_finer-requires-2 c =
    (c.requires.0, omega (arith, c.requires.1, c.requires.2), c.requires.1, c.found_finer.ensures.known)

pub returns-then-found_finer-2 : goal.returns-then-found_finer-2
returns-then-found_finer-2 c =
    record {
      kept = (c.requires.0, le_refl _, c.found_finer-2.ensures.known);
      step = λ Gs w. (rw c.entry-then-found_finer-2.ensures (work_right w c.requires.1 c.requires.2 (c.found_finer-2.ensures.finer c.if-found_finer-2.true)));
    }

pub returns-then-infima : goal.returns-then-infima
returns-then-infima c =
    record {
      kept = c.combine_both.ensures.kept;
      step = λ Gs w. step_as _ _ _ _ _ _ c.if-infima.true (c.combine_both.ensures.step Gs) w;
    }

pub returns : goal.returns
returns c =
    record {
      kept = c.combine_join.ensures.kept;
      step = λ Gs w. step_as _ _ _ _ _ _ c.if-infima.false (c.combine_join.ensures.step Gs) w;
    }
