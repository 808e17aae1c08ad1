-- Old sheets with known outcome, by computation: one list. The claim stands at the end of the file.
-- Assumes nothing.
use mathlib.Core.Path.{◌≡◌, refl}
use mathlib.Core.List.{List, [], ◌∷◌, map}
use Prim.Native.Nat.{ℕ}
use lib.ListN.{replicate}
use Rattle.rules.specs.Sheet.{reading_to, reading, refused}
use Rattle.rules.specs.SheetText.{SheetTrial, gives, observed_by}
use Rattle.rules.specs.Parents.{conversion}

-- `p:Hut` and `p:Pier/Hut`, levels 1 1, 1 2, 2 1, 2 2
abbrev anew_in_each_hut : List ℕ
anew_in_each_hut = 112 ∷ 58 ∷ 72 ∷ 117 ∷ 116 ∷ 9 ∷ 112 ∷ 58 ∷ 80 ∷ 105 ∷ 101 ∷ 114 ∷ 47 ∷ 72 ∷ 117 ∷ 116 ∷ 10 ∷ 49 ∷ 9 ∷ 49 ∷ 10 ∷ 49 ∷ 9 ∷ 50 ∷ 10 ∷ 50 ∷ 9 ∷ 49 ∷ 10 ∷ 50 ∷ 9 ∷ 50 ∷ 10 ∷ []

unfoldable pub old_trials : List SheetTrial
old_trials =
    -- piers numbered anew in each hut: p:Hut→p:Pier/Hut|1→1|1→2|2→1|2→2| gives p:Hut→p:Pier|1→1|1→2|2→3|2→4|
    gives anew_in_each_hut 32768 0 (112 ∷ 58 ∷ 72 ∷ 117 ∷ 116 ∷ 9 ∷ 112 ∷ 58 ∷ 80 ∷ 105 ∷ 101 ∷ 114 ∷ 10 ∷ 49 ∷ 9 ∷ 49 ∷ 10 ∷ 49 ∷ 9 ∷ 50 ∷ 10 ∷ 50 ∷ 9 ∷ 51 ∷ 10 ∷ 50 ∷ 9 ∷ 52 ∷ 10 ∷ [])
    -- a chain, with a treatment column between: p:Hut→t:Gain→p:Pier/Hut→p:Slot/Pier|7→1→1→1|7→2→1→2|9→1→1→1|9→2→1→1|9→2→2→1| gives p:Hut→t:Gain→p:Pier→p:Slot|7→1→1→1|7→2→1→2|9→1→2→3|9→2→2→3|9→2→3→4|
    ∷ gives (112 ∷ 58 ∷ 72 ∷ 117 ∷ 116 ∷ 9 ∷ 116 ∷ 58 ∷ 71 ∷ 97 ∷ 105 ∷ 110 ∷ 9 ∷ 112 ∷ 58 ∷ 80 ∷ 105 ∷ 101 ∷ 114 ∷ 47 ∷ 72 ∷ 117 ∷ 116 ∷ 9 ∷ 112 ∷ 58 ∷ 83 ∷ 108 ∷ 111 ∷ 116 ∷ 47 ∷ 80 ∷ 105 ∷ 101 ∷ 114 ∷ 10 ∷ 55 ∷ 9 ∷ 49 ∷ 9 ∷ 49 ∷ 9 ∷ 49 ∷ 10 ∷ 55 ∷ 9 ∷ 50 ∷ 9 ∷ 49 ∷ 9 ∷ 50 ∷ 10 ∷ 57 ∷ 9 ∷ 49 ∷ 9 ∷ 49 ∷ 9 ∷ 49 ∷ 10 ∷ 57 ∷ 9 ∷ 50 ∷ 9 ∷ 49 ∷ 9 ∷ 49 ∷ 10 ∷ 57 ∷ 9 ∷ 50 ∷ 9 ∷ 50 ∷ 9 ∷ 49 ∷ 10 ∷ []) 32768 0 (112 ∷ 58 ∷ 72 ∷ 117 ∷ 116 ∷ 9 ∷ 116 ∷ 58 ∷ 71 ∷ 97 ∷ 105 ∷ 110 ∷ 9 ∷ 112 ∷ 58 ∷ 80 ∷ 105 ∷ 101 ∷ 114 ∷ 9 ∷ 112 ∷ 58 ∷ 83 ∷ 108 ∷ 111 ∷ 116 ∷ 10 ∷ 55 ∷ 9 ∷ 49 ∷ 9 ∷ 49 ∷ 9 ∷ 49 ∷ 10 ∷ 55 ∷ 9 ∷ 50 ∷ 9 ∷ 49 ∷ 9 ∷ 50 ∷ 10 ∷ 57 ∷ 9 ∷ 49 ∷ 9 ∷ 50 ∷ 9 ∷ 51 ∷ 10 ∷ 57 ∷ 9 ∷ 50 ∷ 9 ∷ 50 ∷ 9 ∷ 51 ∷ 10 ∷ 57 ∷ 9 ∷ 50 ∷ 9 ∷ 51 ∷ 9 ∷ 52 ∷ 10 ∷ [])
    -- two columns within one: p:Hut→p:Pier/Hut→p:Week/Hut|1→5→3|1→5→4|2→5→3| gives p:Hut→p:Pier→p:Week|1→1→1|1→1→2|2→2→3|
    ∷ gives (112 ∷ 58 ∷ 72 ∷ 117 ∷ 116 ∷ 9 ∷ 112 ∷ 58 ∷ 80 ∷ 105 ∷ 101 ∷ 114 ∷ 47 ∷ 72 ∷ 117 ∷ 116 ∷ 9 ∷ 112 ∷ 58 ∷ 87 ∷ 101 ∷ 101 ∷ 107 ∷ 47 ∷ 72 ∷ 117 ∷ 116 ∷ 10 ∷ 49 ∷ 9 ∷ 53 ∷ 9 ∷ 51 ∷ 10 ∷ 49 ∷ 9 ∷ 53 ∷ 9 ∷ 52 ∷ 10 ∷ 50 ∷ 9 ∷ 53 ∷ 9 ∷ 51 ∷ 10 ∷ []) 32768 0 (112 ∷ 58 ∷ 72 ∷ 117 ∷ 116 ∷ 9 ∷ 112 ∷ 58 ∷ 80 ∷ 105 ∷ 101 ∷ 114 ∷ 9 ∷ 112 ∷ 58 ∷ 87 ∷ 101 ∷ 101 ∷ 107 ∷ 10 ∷ 49 ∷ 9 ∷ 49 ∷ 9 ∷ 49 ∷ 10 ∷ 49 ∷ 9 ∷ 49 ∷ 9 ∷ 50 ∷ 10 ∷ 50 ∷ 9 ∷ 50 ∷ 9 ∷ 51 ∷ 10 ∷ [])
    -- numbers by first appearance; copied columns keep their labels: p:Hut→p:Pier/Hut|65535→9|7→8|65535→9| gives p:Hut→p:Pier|65535→1|7→2|65535→1|
    ∷ gives (112 ∷ 58 ∷ 72 ∷ 117 ∷ 116 ∷ 9 ∷ 112 ∷ 58 ∷ 80 ∷ 105 ∷ 101 ∷ 114 ∷ 47 ∷ 72 ∷ 117 ∷ 116 ∷ 10 ∷ 54 ∷ 53 ∷ 53 ∷ 51 ∷ 53 ∷ 9 ∷ 57 ∷ 10 ∷ 55 ∷ 9 ∷ 56 ∷ 10 ∷ 54 ∷ 53 ∷ 53 ∷ 51 ∷ 53 ∷ 9 ∷ 57 ∷ 10 ∷ []) 32768 0 (112 ∷ 58 ∷ 72 ∷ 117 ∷ 116 ∷ 9 ∷ 112 ∷ 58 ∷ 80 ∷ 105 ∷ 101 ∷ 114 ∷ 10 ∷ 54 ∷ 53 ∷ 53 ∷ 51 ∷ 53 ∷ 9 ∷ 49 ∷ 10 ∷ 55 ∷ 9 ∷ 50 ∷ 10 ∷ 54 ∷ 53 ∷ 53 ∷ 51 ∷ 53 ∷ 9 ∷ 49 ∷ 10 ∷ [])
    -- a column that needs no parent is numbered too: p:Hut→p:Pier/Hut|1→4|1→3|2→2|2→1| gives p:Hut→p:Pier|1→1|1→2|2→3|2→4|
    ∷ gives (112 ∷ 58 ∷ 72 ∷ 117 ∷ 116 ∷ 9 ∷ 112 ∷ 58 ∷ 80 ∷ 105 ∷ 101 ∷ 114 ∷ 47 ∷ 72 ∷ 117 ∷ 116 ∷ 10 ∷ 49 ∷ 9 ∷ 52 ∷ 10 ∷ 49 ∷ 9 ∷ 51 ∷ 10 ∷ 50 ∷ 9 ∷ 50 ∷ 10 ∷ 50 ∷ 9 ∷ 49 ∷ 10 ∷ []) 32768 0 (112 ∷ 58 ∷ 72 ∷ 117 ∷ 116 ∷ 9 ∷ 112 ∷ 58 ∷ 80 ∷ 105 ∷ 101 ∷ 114 ∷ 10 ∷ 49 ∷ 9 ∷ 49 ∷ 10 ∷ 49 ∷ 9 ∷ 50 ∷ 10 ∷ 50 ∷ 9 ∷ 51 ∷ 10 ∷ 50 ∷ 9 ∷ 52 ∷ 10 ∷ [])
    -- a sheet without a slash: p:Hut→t:Gain|1→1|1→2|2→1|2→2| gives p:Hut→t:Gain|1→1|1→2|2→1|2→2|
    ∷ gives (112 ∷ 58 ∷ 72 ∷ 117 ∷ 116 ∷ 9 ∷ 116 ∷ 58 ∷ 71 ∷ 97 ∷ 105 ∷ 110 ∷ 10 ∷ 49 ∷ 9 ∷ 49 ∷ 10 ∷ 49 ∷ 9 ∷ 50 ∷ 10 ∷ 50 ∷ 9 ∷ 49 ∷ 10 ∷ 50 ∷ 9 ∷ 50 ∷ 10 ∷ []) 32768 0 (112 ∷ 58 ∷ 72 ∷ 117 ∷ 116 ∷ 9 ∷ 116 ∷ 58 ∷ 71 ∷ 97 ∷ 105 ∷ 110 ∷ 10 ∷ 49 ∷ 9 ∷ 49 ∷ 10 ∷ 49 ∷ 9 ∷ 50 ∷ 10 ∷ 50 ∷ 9 ∷ 49 ∷ 10 ∷ 50 ∷ 9 ∷ 50 ∷ 10 ∷ [])
    -- no such column: p:Hut→p:Pier/Hat|1→1| refused by 23
    ∷ gives (112 ∷ 58 ∷ 72 ∷ 117 ∷ 116 ∷ 9 ∷ 112 ∷ 58 ∷ 80 ∷ 105 ∷ 101 ∷ 114 ∷ 47 ∷ 72 ∷ 97 ∷ 116 ∷ 10 ∷ 49 ∷ 9 ∷ 49 ∷ 10 ∷ []) 32768 23 []
    -- its own parent: p:Hut→p:Pier/Pier|1→1| refused by 23
    ∷ gives (112 ∷ 58 ∷ 72 ∷ 117 ∷ 116 ∷ 9 ∷ 112 ∷ 58 ∷ 80 ∷ 105 ∷ 101 ∷ 114 ∷ 47 ∷ 80 ∷ 105 ∷ 101 ∷ 114 ∷ 10 ∷ 49 ∷ 9 ∷ 49 ∷ 10 ∷ []) 32768 23 []
    -- a parent further right: p:Pier/Hut→p:Hut|1→1| refused by 23
    ∷ gives (112 ∷ 58 ∷ 80 ∷ 105 ∷ 101 ∷ 114 ∷ 47 ∷ 72 ∷ 117 ∷ 116 ∷ 9 ∷ 112 ∷ 58 ∷ 72 ∷ 117 ∷ 116 ∷ 10 ∷ 49 ∷ 9 ∷ 49 ∷ 10 ∷ []) 32768 23 []
    -- a treatment column: t:Gain→p:Pier/Gain|1→1| refused by 23
    ∷ gives (116 ∷ 58 ∷ 71 ∷ 97 ∷ 105 ∷ 110 ∷ 9 ∷ 112 ∷ 58 ∷ 80 ∷ 105 ∷ 101 ∷ 114 ∷ 47 ∷ 71 ∷ 97 ∷ 105 ∷ 110 ∷ 10 ∷ 49 ∷ 9 ∷ 49 ∷ 10 ∷ []) 32768 23 []
    -- a slash on a treatment column: p:Hut→t:Gain/Hut|1→1| refused by 3
    ∷ gives (112 ∷ 58 ∷ 72 ∷ 117 ∷ 116 ∷ 9 ∷ 116 ∷ 58 ∷ 71 ∷ 97 ∷ 105 ∷ 110 ∷ 47 ∷ 72 ∷ 117 ∷ 116 ∷ 10 ∷ 49 ∷ 9 ∷ 49 ∷ 10 ∷ []) 32768 3 []
    -- two slashes: p:Hut→p:Pier/Hut/Hut|1→1| refused by 3
    ∷ gives (112 ∷ 58 ∷ 72 ∷ 117 ∷ 116 ∷ 9 ∷ 112 ∷ 58 ∷ 80 ∷ 105 ∷ 101 ∷ 114 ∷ 47 ∷ 72 ∷ 117 ∷ 116 ∷ 47 ∷ 72 ∷ 117 ∷ 116 ∷ 10 ∷ 49 ∷ 9 ∷ 49 ∷ 10 ∷ []) 32768 3 []
    -- a parent out of a name's form: p:Hut→p:Pier/H|1→1| refused by 3
    ∷ gives (112 ∷ 58 ∷ 72 ∷ 117 ∷ 116 ∷ 9 ∷ 112 ∷ 58 ∷ 80 ∷ 105 ∷ 101 ∷ 114 ∷ 47 ∷ 72 ∷ 10 ∷ 49 ∷ 9 ∷ 49 ∷ 10 ∷ []) 32768 3 []
    -- names alike before the slash: p:Hut→p:Hut/Hut|1→1| refused by 3
    ∷ gives (112 ∷ 58 ∷ 72 ∷ 117 ∷ 116 ∷ 9 ∷ 112 ∷ 58 ∷ 72 ∷ 117 ∷ 116 ∷ 47 ∷ 72 ∷ 117 ∷ 116 ∷ 10 ∷ 49 ∷ 9 ∷ 49 ∷ 10 ∷ []) 32768 3 []
    -- 4 comes before 23: p:Hut→p:Pier/Hat|1→0| refused by 4
    ∷ gives (112 ∷ 58 ∷ 72 ∷ 117 ∷ 116 ∷ 9 ∷ 112 ∷ 58 ∷ 80 ∷ 105 ∷ 101 ∷ 114 ∷ 47 ∷ 72 ∷ 97 ∷ 116 ∷ 10 ∷ 49 ∷ 9 ∷ 48 ∷ 10 ∷ []) 32768 4 []
    -- 5 too: p:Hut→p:Pier/Hat| refused by 5
    ∷ gives (112 ∷ 58 ∷ 72 ∷ 117 ∷ 116 ∷ 9 ∷ 112 ∷ 58 ∷ 80 ∷ 105 ∷ 101 ∷ 114 ∷ 47 ∷ 72 ∷ 97 ∷ 116 ∷ 10 ∷ []) 32768 5 []
    -- 2: no text refused by 2
    ∷ gives [] 32768 2 []
    -- 6 is asked first: no text refused by 6
    ∷ gives [] 32767 6 []
    ∷ []

-- each old sheet has the outcome stated
pub old_trials_hold : map (observed_by conversion) old_trials ≡ old_trials
unfolding conversion old_trials
old_trials_hold = refl

-- the reader "goes on refusing a slash with 3"
slash_refused : reading anew_in_each_hut (replicate 2880 0) ≡ refused 3
unfolding reading_to
slash_refused = refl
