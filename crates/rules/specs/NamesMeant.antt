-- What each rule of naming asks, said of factors: which name fits a member. By the laws in proofs/NamesMeant it is the name given, and no other fits.
-- Assumes nothing.
use Rattle.std.specs.Prelude.{◌≡◌, ◌↔◌, List, [], ℕ, ◌-◌, ◌≤◌, ◌<◌, length, get_or}
use Rattle.rules.specs.Factor.{Column, Same, Finer, Equivalent, classes}
use Rattle.rules.specs.Family.{◌∈◌, members_of}
use Rattle.rules.specs.Relation.{member_at}
use Rattle.rules.specs.Sheet.{header}
use Rattle.rules.specs.Naming.{Kind, kind_names, looked_names, kind_columns, looked_at, naming}
use Rattle.rules.specs.Listing.{Enumerates}
use Rattle.rules.specs.Names.{Name, name_U, name_E, name_column, name_infimum, name_supremum, name_place, bytes_of}

-- "the infimum of all columns of its kind coarser than it": two plots share a class of F exactly when they share one in each of these columns
abbrev pub IsInfimum : ℕ → List Column → Column → Type 0
IsInfimum n Cs F = (u v : ℕ) → u < n → v < n → Same F u v ↔ ((C : Column) → C ∈ Cs → Finer n F C → Same C u v)

-- a chain of plots from u, each step within a class of one of the columns finer than or equivalent to F
pub data ChainBelow (n : ℕ) (Ls : List Column) (F : Column) (u : ℕ) : ℕ → Type 0 where
  start : ChainBelow n Ls F u u
  along : {w v : ℕ} → ChainBelow n Ls F u w → v < n → (C : Column) → C ∈ Ls → Finer n C F → Same C w v → ChainBelow n Ls F u v

-- "the supremum of all columns finer than or equivalent to it": two plots share a class of F exactly when such a chain joins them
abbrev pub IsSupremum : ℕ → List Column → Column → Type 0
IsSupremum n Ls F = (u v : ℕ) → u < n → v < n → Same F u v ↔ ChainBelow n Ls F u v

-- none of these columns is equivalent to F
abbrev pub NoneIs : ℕ → List Column → Column → Type 0
NoneIs n Cs F = (j : ℕ) → j < length Cs → Equivalent n F (get_or Cs j []) → ⊥

-- column c, from 0, is one of those coarser than F, "with no strictly finer one among them (of equivalents the lowest)"
pub record ListedAbove (n : ℕ) (Cs : List Column) (F : Column) (c : ℕ) : Type 0 where
  pub less : c < length Cs
  pub above : Finer n F (get_or Cs c [])
  pub none_finer : (j : ℕ) → j < length Cs → Finer n F (get_or Cs j []) → Finer n (get_or Cs j []) (get_or Cs c []) → Finer n (get_or Cs c []) (get_or Cs j [])
  pub lowest : (j : ℕ) → j < length Cs → Equivalent n (get_or Cs j []) (get_or Cs c []) → c ≤ j

-- column c, from 0, is one of those finer than or equivalent to F, "with no strictly coarser one among them, of equivalents the first"
pub record ListedBelow (n : ℕ) (Ls : List Column) (F : Column) (c : ℕ) : Type 0 where
  pub less : c < length Ls
  pub below : Finer n (get_or Ls c []) F
  pub none_coarser : (j : ℕ) → j < length Ls → Finer n (get_or Ls j []) F → Finer n (get_or Ls c []) (get_or Ls j []) → Finer n (get_or Ls j []) (get_or Ls c [])
  pub first : (j : ℕ) → j < length Ls → Equivalent n (get_or Ls j []) (get_or Ls c []) → c ≤ j

-- "A member is named by the first rule that fits": the member F at a place, by the columns Cs of its kind and the columns Ls that it looks at
pub data Rule (n : ℕ) (Cs Ls : List Column) (place : ℕ) (F : Column) : Name → Type 0 where
  -- "`U` for one class"
  rule_U : classes F ≡ 1 → Rule n Cs Ls place F name_U
  -- "`E` for N classes"
  rule_E : (classes F ≡ 1 → ⊥) → classes F ≡ n → Rule n Cs Ls place F name_E
  -- "the lowest column of its own kind equivalent to it"
  rule_column : (classes F ≡ 1 → ⊥) → (classes F ≡ n → ⊥) → (c : ℕ) → c < length Cs → Equivalent n F (get_or Cs c []) → ((j : ℕ) → j < c → Equivalent n F (get_or Cs j []) → ⊥)
      → Rule n Cs Ls place F (name_column c)
  -- "`I(` names `)` when it equals the infimum of all columns of its kind coarser than it, naming in column order .. only those with no strictly finer one among them"
  rule_infimum : (classes F ≡ 1 → ⊥) → (classes F ≡ n → ⊥) → NoneIs n Cs F → IsInfimum n Cs F → (cs : List ℕ) → Enumerates (ListedAbove n Cs F) cs → Rule n Cs Ls place F (name_infimum cs)
  -- "a member that equals the supremum of all columns finer than or equivalent to it, at least one, is written `S(` names `)`, listing only those with no strictly coarser one among them"
  rule_supremum : (classes F ≡ 1 → ⊥) → (classes F ≡ n → ⊥) → NoneIs n Cs F → (IsInfimum n Cs F → ⊥) → IsSupremum n Ls F → (cs : List ℕ) → Enumerates (ListedBelow n Ls F) cs
      → Rule n Cs Ls place F (name_supremum cs)
  -- "else `#` and its place"
  rule_place : (classes F ≡ 1 → ⊥) → (classes F ≡ n → ⊥) → NoneIs n Cs F → (IsInfimum n Cs F → ⊥) → (IsSupremum n Ls F → ⊥) → Rule n Cs Ls place F (name_place place)

-- ---- the name answered

-- the bytes answered are those of the name that fits the member at the place asked about
pub record NamedByRule (kind : Kind) (text levels buffer : List ℕ) (n size place nameLength : ℕ) : Type 0 where
  pub fitting : Name
  pub rule : Rule n (kind_columns kind text n levels) (looked_at kind text n levels) place (member_at (members_of n buffer size) (place - 1)) fitting
  pub bytes : (naming kind text levels buffer n size place nameLength).name ≡ bytes_of (kind_names kind (header text)) (looked_names kind (header text)) fitting
