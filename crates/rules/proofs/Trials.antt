-- The small trials of specs/Trials, by computation: one list. Assumes nothing.
use Rattle.std.specs.Prelude.{◌≡◌, refl, map}
use Rattle.rules.specs.Trials.{trials, observed}

-- each trial has the outcome stated
pub trials_hold : map observed trials ≡ trials
unfolding observed trials
trials_hold = refl
