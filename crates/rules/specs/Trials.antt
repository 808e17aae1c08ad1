-- The small trials with known outcome that are proved about the rules: one list. Places are from 1, and k is 6.
-- The claim stands in proofs/Trials. Assumes nothing.
use Rattle.std.specs.Prelude.{List, [], ◌∷◌, ◌++◌, map, ℕ, zero, suc, ◌-◌, ℤ, pos, length, get_or, replicate}
use Rattle.rules.specs.Limits.{most_plots, most_columns, most_interaction, family_bytes}
use Rattle.rules.specs.Factor.{Column, classes, orthogonal}
use Rattle.rules.specs.Design.{Answer, Places, first_pair, plot_design, full_design}
use Rattle.rules.specs.Degrees.{degrees}
use Rattle.rules.specs.Strata.{stratum, residuals}
use Rattle.rules.specs.Names.{name_of, bytes_of}

pub data Trial : Type 0 where
  -- plots and plot columns; the number of the refusal and its two places
  refuses : ℕ → List Column → ℕ → ℕ → ℕ → Trial
  -- plots and plot columns; the two places of the first pair of the plot family that is not orthogonal, though a question before 10 refuses
  pair_fails : ℕ → List Column → ℕ → ℕ → Trial
  -- plots and plot columns; the members' numbers of classes and degrees of freedom
  accepts : ℕ → List Column → List ℕ → List ℤ → Trial
  -- plots and plot columns, the columns' names, a place, and the name of the member there
  names : ℕ → List Column → List (List ℕ) → ℕ → List ℕ → Trial
  -- plots, plot columns and treatment columns; the final treatment family's numbers of classes, the places of its strata, the residuals of all strata
  treats : ℕ → List Column → List Column → List ℕ → List ℕ → List ℤ → Trial

-- ---- the trials

-- "Plots 1,1,2,2,3,3,4,4 and 1,2,1,2,3,4,3,4"
abbrev pairs_of_eight : Column
pairs_of_eight = 1 ∷ 1 ∷ 2 ∷ 2 ∷ 3 ∷ 3 ∷ 4 ∷ 4 ∷ []

abbrev crossed_in_halves : Column
crossed_in_halves = 1 ∷ 2 ∷ 1 ∷ 2 ∷ 3 ∷ 4 ∷ 3 ∷ 4 ∷ []

-- `Hut`, `Pier`, `U`, `E` and `S(Hut,Pier)`
abbrev hut : List ℕ
hut = 72 ∷ 117 ∷ 116 ∷ []

abbrev pier : List ℕ
pier = 80 ∷ 105 ∷ 101 ∷ 114 ∷ []

abbrev letter_u : List ℕ
letter_u = 85 ∷ []

abbrev letter_e : List ℕ
letter_e = 69 ∷ []

abbrev supremum_of_two : List ℕ
supremum_of_two = 83 ∷ 40 ∷ hut ++ 44 ∷ pier ++ 41 ∷ []

unfoldable pub trials : List Trial
trials =
    -- "N = 1, no columns: one member U, degrees of freedom 1."
    accepts 1 [] (1 ∷ []) (pos 1 ∷ [])
    ∷ names 1 [] [] 1 letter_u
    -- "N = 2, no columns: U, E; 1 and 1."
    ∷ accepts 2 [] (1 ∷ 2 ∷ []) (pos 1 ∷ pos 1 ∷ [])
    ∷ names 2 [] [] 1 letter_u
    ∷ names 2 [] [] 2 letter_e
    -- "Plot 1,1,2: refusal 9, place 2."
    ∷ refuses 3 ((1 ∷ 1 ∷ 2 ∷ []) ∷ []) 9 2 0
    -- "Plots 1,1,2,2 and 1,2,1,2 and 1,2,2,1: five members; 1,1,1,1,0."
    ∷ accepts 4 ((1 ∷ 1 ∷ 2 ∷ 2 ∷ []) ∷ (1 ∷ 2 ∷ 1 ∷ 2 ∷ []) ∷ (1 ∷ 2 ∷ 2 ∷ 1 ∷ []) ∷ []) (1 ∷ 2 ∷ 2 ∷ 2 ∷ 4 ∷ []) (pos 1 ∷ pos 1 ∷ pos 1 ∷ pos 1 ∷ pos 0 ∷ [])
    -- "Plots 1,1,2,2,3,3 and 1,2,1,3,2,3: refusal 10, places 2 and 3."
    ∷ refuses 6 ((1 ∷ 1 ∷ 2 ∷ 2 ∷ 3 ∷ 3 ∷ []) ∷ (1 ∷ 2 ∷ 1 ∷ 3 ∷ 2 ∷ 3 ∷ []) ∷ []) 10 2 3
    -- "Plots 1,1,1,2,2,2 and 1,1,2,1,2,2: refusal 9, place 4, though 10 fails also."
    ∷ pair_fails 6 ((1 ∷ 1 ∷ 1 ∷ 2 ∷ 2 ∷ 2 ∷ []) ∷ (1 ∷ 1 ∷ 2 ∷ 1 ∷ 2 ∷ 2 ∷ []) ∷ []) 2 3
    ∷ refuses 6 ((1 ∷ 1 ∷ 1 ∷ 2 ∷ 2 ∷ 2 ∷ []) ∷ (1 ∷ 1 ∷ 2 ∷ 1 ∷ 2 ∷ 2 ∷ []) ∷ []) 9 4 0
    -- "members of 1,2,4,4,8 classes; 1,1,2,2,2"; "01's seventh case now prints `S(` and its two columns `)`"
    ∷ accepts 8 (pairs_of_eight ∷ crossed_in_halves ∷ []) (1 ∷ 2 ∷ 4 ∷ 4 ∷ 8 ∷ []) (pos 1 ∷ pos 1 ∷ pos 2 ∷ pos 2 ∷ pos 2 ∷ [])
    ∷ names 8 (pairs_of_eight ∷ crossed_in_halves ∷ []) (hut ∷ pier ∷ []) 2 supremum_of_two
    -- "Plot 1,1,2,2,3,3,4,4, treatment 1,2,1,2,3,4,3,4: final treatment family of 1,2,4 classes, strata U, the plot column, E; residuals 0,2,2."
    ∷ treats 8 (pairs_of_eight ∷ []) (crossed_in_halves ∷ []) (1 ∷ 2 ∷ 4 ∷ []) (1 ∷ 2 ∷ 3 ∷ []) (pos 0 ∷ pos 2 ∷ pos 2 ∷ [])
    ∷ names 8 (pairs_of_eight ∷ []) (hut ∷ []) 1 letter_u
    ∷ names 8 (pairs_of_eight ∷ []) (hut ∷ []) 2 hut
    ∷ names 8 (pairs_of_eight ∷ []) (hut ∷ []) 3 letter_e
    ∷ []

-- ---- what the rules give them

-- a column of the level table, and m columns; the cells that no plot uses hold 0
padded : Column → Column
padded F = F ++ replicate (most_plots - length F) 0

columns : ℕ → List Column → List ℕ
unfolding padded
columns zero Fs = []
columns (suc m) [] = replicate most_plots 0 ++ columns m []
columns (suc m) (F ∷ Fs) = padded F ++ columns m Fs

-- the level table with these plot and treatment columns
table : List Column → List Column → List ℕ
unfolding columns
table Fs Ts = columns most_columns Fs ++ columns most_columns Ts

plot_trial : ℕ → List Column → Answer
unfolding plot_design table
plot_trial n Fs = plot_design n (length Fs) (table Fs []) family_bytes

full_trial : ℕ → List Column → List Column → Answer
unfolding full_design table
full_trial n Fs Ts = full_design n (length Fs) (length Ts) most_interaction (table Fs Ts) family_bytes family_bytes

plot_outcome : ℕ → List Column → Answer → Trial
unfolding classes degrees
plot_outcome n Fs a = elim a.refusal [
  | zero ↦ accepts n Fs (map classes a.plot) (degrees n a.plot)
  | suc q ↦ refuses n Fs (suc q) a.places.first a.places.second
]

pair_outcome : ℕ → List Column → Places → Trial
pair_outcome n Fs p = pair_fails n Fs p.first p.second

full_outcome : ℕ → List Column → List Column → Answer → Trial
unfolding classes stratum residuals
full_outcome n Fs Ts a = elim a.refusal [
  | zero ↦ treats n Fs Ts (map classes a.treatment) (map (stratum n a.plot) a.treatment) (residuals n a.plot a.treatment)
  | suc q ↦ refuses n Fs (suc q) a.places.first a.places.second
]

-- the trial with the outcome that the rules give it
unfoldable pub observed : Trial → Trial
unfolding plot_outcome pair_outcome full_outcome plot_trial full_trial first_pair orthogonal name_of bytes_of
observed (refuses n Fs q i j) = plot_outcome n Fs (plot_trial n Fs)
observed (accepts n Fs cs ds) = plot_outcome n Fs (plot_trial n Fs)
observed (names n Fs ns i name) = names n Fs ns i (bytes_of ns ns (name_of n Fs Fs i (get_or (plot_trial n Fs).plot (i - 1) [])))
observed (treats n Fs Ts cs ss ds) = full_outcome n Fs Ts (full_trial n Fs Ts)
observed (pair_fails n Fs i j) = pair_outcome n Fs (first_pair (orthogonal n) 1 (plot_trial n Fs).plot)
