-- Tables over labels for the supremum.
-- Assumes nothing.
use Rattle.std.specs.Prelude.{◌≡◌, List, [], map, ◌++◌, ℕ, ◌≤◌, ◌<◌, eqb, length, take, drop}
use Rattle.rules.specs.Factor.{Column, at, Same, labels, number, relabel}

-- every label of F is below top, or none is below low
abbrev pub Below : ℕ → Column → Type 0
Below top F = (u : ℕ) → u < length F → at F u < top

abbrev pub NotBelow : ℕ → Column → Type 0
NotBelow low F = (u : ℕ) → u < length F → low ≤ at F u

-- each label from low on and below top is its own entry, or each label of F
abbrev pub OwnWithin : ℕ → ℕ → List ℕ → Type 0
OwnWithin low top t = (x : ℕ) → low ≤ x → x < top → at t x ≡ x

abbrev pub Own : Column → List ℕ → Type 0
Own F t = (u : ℕ) → u < length F → at t (at F u) ≡ at F u

-- the table t whose entries of the labels below top are relabelled: those that are a become b
unfoldable pub relabelled : ℕ → ℕ → ℕ → List ℕ → List ℕ
unfolding relabel
relabelled top a b t = take top (relabel a b t) ++ drop top t

-- the labels below top have one entry
abbrev pub OneEntry : ℕ → List ℕ → Type 0
OneEntry top t = (x y : ℕ) → x < top → y < top → at t x ≡ at t y

-- the entry of each plot's label
unfoldable pub spread : List ℕ → Column → Column
spread t F = map (at t) F

-- all plots have one entry
abbrev pub OneClass : List ℕ → Column → Type 0
OneClass t F = (u v : ℕ) → u < length F → v < length F → Same (spread t F) u v

-- the values that h gives to labels of F are one where plots share a class of G
abbrev pub Links : Column → Column → (ℕ → ℕ) → Type 0
Links F G h = (u v : ℕ) → u < length F → v < length F → Same G u v → h (at F u) ≡ h (at F v)

-- the entries in t are one where plots share a class of G, and for no other labels of F than this makes one
pub record EntriesJoin (F G : Column) (t : List ℕ) : Type 0 where
  pub links : Links F G (at t)
  pub least : (h : ℕ → ℕ) → Links F G h → (u v : ℕ) → u < length F → v < length F → at t (at F u) ≡ at t (at F v) → h (at F u) ≡ h (at F v)

-- each label of F is a label of X
pub record Place (X : Column) (x : ℕ) : Type 0 where
  pub at_place : ℕ
  pub less : at_place < length X
  pub label : at X at_place ≡ x

abbrev pub Among : Column → Column → Type 0
Among F X = (u : ℕ) → u < length F → Place X (at F u)

-- whatever the entries of the labels, F and X have the same ones, first met in the same order
abbrev pub InOrder : Column → Column → Type 0
InOrder F X = (t : List ℕ) → labels eqb [] (spread t F) ≡ labels eqb [] (spread t X)

-- r has for each of the first i labels of X the number of its entry
abbrev pub LabelsNumbered : List ℕ → Column → ℕ → List ℕ → Type 0
LabelsNumbered t X i r = (j : ℕ) → j < i → at r (at X j) ≡ at (number (spread t X)) j
