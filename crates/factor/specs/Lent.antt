-- What a function over lent columns looks at and leaves. An input column is a slice, one label a plot; an output column is an array of 240 bytes.
-- Assumes nothing.
use Rattle.std.specs.Prelude.{List, ◌++◌, ℕ, ◌*◌, min, length, take, drop, replicate}
use Rattle.rules.specs.Limits.{most_plots}
use Rattle.rules.specs.Factor.{Column, equality}

-- the n elements from place 240 × i on, or as many as are there
abbrev pub part_at : {A : Type 0} → ℕ → List A → ℕ → List A
part_at n buffer i = take n (drop (most_plots * i) buffer)

-- the column at place i, from 0, of a level table or a family buffer on n plots: as much of it as is there
abbrev pub column_at : ℕ → List ℕ → ℕ → Column
column_at n buffer i = take n (drop (most_plots * i) buffer)

-- the plots of a column: at most the first 240
abbrev pub plots_of : Column → Column
plots_of F = take most_plots F

-- how many plots two columns have in common
abbrev pub common : Column → Column → ℕ
common F G = min most_plots (min (length F) (length G))

-- an operation on two columns over those plots
abbrev pub on_common : {A : Type 0} → (Column → Column → A) → Column → Column → A
on_common op F G = op (take (common F G) F) (take (common F G) G)

-- a test of two columns over those plots
abbrev pub test_common : {A : Type 0} → (ℕ → Column → Column → A) → Column → Column → A
test_common test F G = on_common (test (common F G)) F G

-- what an output array holds: the numbers, then what was there
abbrev pub overlay : List ℕ → Column → List ℕ
overlay out X = X ++ drop (length X) out

-- the equality factor on n plots, on 240 at most, in such an array; the bytes past them are 0
abbrev pub equality_in : ℕ → List ℕ
equality_in n = overlay (replicate most_plots 0) (equality (min most_plots n))
