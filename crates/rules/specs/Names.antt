-- The name of a member, up to its bytes.
-- Columns are counted from 0 here, in sheet order. Assumes nothing.
use Rattle.std.specs.Prelude.{Bool, true, false, not, ◌&&◌, ◌||◌, List, [], ◌∷◌, ◌++◌, ℕ, zero, suc, eqb, ltb, length, get_or}
use Rattle.rules.specs.Factor.{Column, every, finer, number, classes, infimum, supremum, universal, equality}
use Rattle.rules.specs.Family.{alike}
use Rattle.rules.specs.Lists.{passing_from, decimal_of}

-- "A member is named by the first rule that fits"
pub data Name : Type 0 where
  name_U : Name
  name_E : Name
  name_column : ℕ → Name
  name_infimum : List ℕ → Name
  name_supremum : List ℕ → Name
  name_place : ℕ → Name

-- "the lowest column of its own kind equivalent to it": its number, from i on, and 1; 0 where there is none
unfoldable pub equivalent_column : Column → ℕ → List Column → ℕ
unfolding alike number
equivalent_column F i [] = 0
equivalent_column F i (C ∷ Cs) = elim (alike (number C) F) [ true ↦ suc i | false ↦ equivalent_column F (suc i) Cs ]

-- ---- the two sides of a member

-- G lies towards this side of F, what two columns make there, and what none of them make
pub record Side : Type 0 where
  pub towards : Column → Column → Bool
  pub join : Column → Column → Column
  pub none : Column

-- the columns coarser than it, with their infimum
abbrev pub coarser_side : ℕ → Side
coarser_side n = record { towards = λ F G. finer n F G; join = infimum; none = universal n }

-- the columns finer than or equivalent to it, with their supremum
abbrev pub finer_side : ℕ → Side
finer_side n = record { towards = λ F G. finer n G F; join = supremum; none = equality n }

-- "the infimum of all columns of its kind coarser than it", "the supremum of all columns finer than or equivalent to it"
unfoldable pub join_of : Side → Column → List Column → Column
join_of s F [] = s.none
join_of s F (C ∷ Cs) = elim (s.towards F C) [ true ↦ s.join C (join_of s F Cs) | false ↦ join_of s F Cs ]

-- column i lies on this side of F
unfoldable pub on_side : Side → Column → List Column → ℕ → Bool
on_side s F Cs i = s.towards F (get_or Cs i [])

-- column j is strictly nearer than column i, or equivalent and lower
unfoldable pub hides : Side → List Column → ℕ → ℕ → Bool
hides s Cs j i = s.towards (get_or Cs j []) (get_or Cs i []) && (not (s.towards (get_or Cs i []) (get_or Cs j [])) || ltb j i)

-- "only those with no strictly finer one among them (of equivalents the lowest)", "only those with no strictly coarser one among them, of equivalents the first"
unfoldable pub listed : Side → Column → List Column → ℕ → Bool
unfolding on_side every hides
listed s F Cs i = on_side s F Cs i && every (length Cs) (λ j. not (on_side s F Cs j && hides s Cs j i))

unfoldable pub shown : Side → Column → List Column → List ℕ
unfolding passing_from listed
shown s F Cs = passing_from (listed s F Cs) 0 (length Cs)

-- ---- the rules in turn

-- "before `#`, a member that equals the supremum of all columns finer than or equivalent to it, at least one": of none it would be E, which is named already
unfoldable pub name_by_supremum : ℕ → List Column → ℕ → Column → Name
unfolding alike join_of shown finer supremum equality
name_by_supremum n Ls place F = elim (alike (join_of (finer_side n) F Ls) F) [ true ↦ name_supremum (shown (finer_side n) F Ls) | false ↦ name_place place ]

-- "`I(` names `)` when it equals the infimum of all columns of its kind coarser than it"
unfoldable pub name_by_infimum : ℕ → List Column → List Column → ℕ → Column → Name
unfolding alike join_of shown finer infimum universal name_by_supremum
name_by_infimum n Cs Ls place F = elim (alike (join_of (coarser_side n) F Cs) F) [ true ↦ name_infimum (shown (coarser_side n) F Cs) | false ↦ name_by_supremum n Ls place F ]

unfoldable pub name_by_column : ℕ → List Column → List Column → ℕ → Column → ℕ → Name
unfolding name_by_infimum
name_by_column n Cs Ls place F zero = name_by_infimum n Cs Ls place F
name_by_column n Cs Ls place F (suc c) = name_column c

-- the name of the member F at a place, from 1, by the columns Cs of its kind and the columns Ls that it looks at
unfoldable pub name_of : ℕ → List Column → List Column → ℕ → Column → Name
unfolding name_by_column classes equivalent_column
name_of n Cs Ls place F = elim (eqb (classes F) 1) [
  | true ↦ name_U
  | false ↦ elim (eqb (classes F) n) [ true ↦ name_E | false ↦ name_by_column n Cs Ls place F (equivalent_column F 0 Cs) ]
]

-- ---- its bytes

-- the names of the columns in the list, "in column order, with commas"
unfoldable pub with_commas : List (List ℕ) → List ℕ → List ℕ
with_commas names [] = []
with_commas names (c ∷ []) = get_or names c []
with_commas names (c ∷ d ∷ cs) = get_or names c [] ++ 44 ∷ with_commas names (d ∷ cs)

-- "`U` for one class; `E` for N classes; the lowest column ..; `I(` names `)` ..; [`S(` names `)`;] else `#` and its place in decimal":
-- by the names of the columns of its kind, and of those that it looks at
unfoldable pub bytes_of : List (List ℕ) → List (List ℕ) → Name → List ℕ
unfolding with_commas decimal_of
bytes_of names looked name_U = 85 ∷ []
bytes_of names looked name_E = 69 ∷ []
bytes_of names looked (name_column c) = get_or names c []
bytes_of names looked (name_infimum cs) = 73 ∷ 40 ∷ with_commas names cs ++ 41 ∷ []
bytes_of names looked (name_supremum cs) = 83 ∷ 40 ∷ with_commas looked cs ++ 41 ∷ []
bytes_of names looked (name_place i) = 35 ∷ decimal_of i
