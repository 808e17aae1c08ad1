-- The sample sheet and its whole output.
-- Assumes nothing.
use Rattle.std.specs.Prelude.{List, [], ◌∷◌, ℕ}

-- the sheet (→ is a tab)
abbrev pub sample_sheet : List ℕ
sample_sheet =
    -- p:Hut→t:Gain
    112 ∷ 58 ∷ 72 ∷ 117 ∷ 116 ∷ 9 ∷ 116 ∷ 58 ∷ 71 ∷ 97 ∷ 105 ∷ 110 ∷ 10 ∷
    -- 1→1
    49 ∷ 9 ∷ 49 ∷ 10 ∷
    -- 1→2
    49 ∷ 9 ∷ 50 ∷ 10 ∷
    -- 2→1
    50 ∷ 9 ∷ 49 ∷ 10 ∷
    -- 2→2
    50 ∷ 9 ∷ 50 ∷ 10 ∷ []

-- its whole output
abbrev pub sample_table : List ℕ
sample_table =
    -- stratum→source→df
    115 ∷ 116 ∷ 114 ∷ 97 ∷ 116 ∷ 117 ∷ 109 ∷ 9 ∷ 115 ∷ 111 ∷ 117 ∷ 114 ∷ 99 ∷ 101 ∷ 9 ∷ 100 ∷ 102 ∷ 10 ∷
    -- U→U→1
    85 ∷ 9 ∷ 85 ∷ 9 ∷ 49 ∷ 10 ∷
    -- U→=total→1
    85 ∷ 9 ∷ 61 ∷ 116 ∷ 111 ∷ 116 ∷ 97 ∷ 108 ∷ 9 ∷ 49 ∷ 10 ∷
    -- Hut→=total→1
    72 ∷ 117 ∷ 116 ∷ 9 ∷ 61 ∷ 116 ∷ 111 ∷ 116 ∷ 97 ∷ 108 ∷ 9 ∷ 49 ∷ 10 ∷
    -- E→Gain→1
    69 ∷ 9 ∷ 71 ∷ 97 ∷ 105 ∷ 110 ∷ 9 ∷ 49 ∷ 10 ∷
    -- E→=residual→1
    69 ∷ 9 ∷ 61 ∷ 114 ∷ 101 ∷ 115 ∷ 105 ∷ 100 ∷ 117 ∷ 97 ∷ 108 ∷ 9 ∷ 49 ∷ 10 ∷
    -- E→=total→2
    69 ∷ 9 ∷ 61 ∷ 116 ∷ 111 ∷ 116 ∷ 97 ∷ 108 ∷ 9 ∷ 50 ∷ 10 ∷
    -- =all→=total→4
    61 ∷ 97 ∷ 108 ∷ 108 ∷ 9 ∷ 61 ∷ 116 ∷ 111 ∷ 116 ∷ 97 ∷ 108 ∷ 9 ∷ 52 ∷ 10 ∷ []
