-- The further trials of specs/FurtherTrials, by computation: one list. Assumes nothing.
use Rattle.std.specs.Prelude.{◌≡◌, refl, map}
use Rattle.rules.specs.FurtherTrials.{further_trials, seen}

-- each trial has the outcome stated
pub further_trials_hold : map seen further_trials ≡ further_trials
unfolding seen further_trials
further_trials_hold = refl
