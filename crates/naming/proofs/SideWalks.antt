-- Laws of the columns on one side of a member: what the walks over them find.
-- Assumes nothing.
use mathlib.Core.Path.{◌≡◌, refl, sym, ap, ap₂, ◌∙◌}
use mathlib.Core.Bool.{Bool, true, false, not, ◌&&◌}
use mathlib.Core.List.{List, [], ◌∷◌}
use Prim.Native.Nat.{ℕ, zero, suc, ◌+◌, ◌≤◌, ◌<◌}
use native.Mathlib.Nat.{add-zero, zero-add}
use native.Mathlib.Numerals.{add-one}
use native.Mathlib.Omega.{arith}
use lib.Dec.{eqb, ltb}
use lib.ListN.{length, get_or, drop, drop_of_length-le}
use lib.Seq.{drop-cons}
use borrow.Author.Tests.{le-ltb, eqb-true}
use Rattle.rules.specs.Factor.{Column, every, number}
use Rattle.rules.specs.Lists.{passing_from}
use Rattle.rules.specs.Names.{Side as RuleSide, join_of, on_side, hides, listed, shown}
use Rattle.std.specs.List.{list_all, range_with_len}
use Rattle.rules.proofs.Sheet.{and_false}
use Rattle.rules.proofs.Bits.{every_suc, every_ext}
use Rattle.rules.proofs.Bounds.{numbered_equal}
use Rattle.rules.proofs.NameSame.{passing_same}
use Rattle.rules.proofs.NameSides.{SideLaws, coarser_laws, finer_laws}
use Rattle.rules.proofs.Numbering.{by_cases}
use Rattle.rules.proofs.Supremum.{equivalent_refl}
use Rattle.naming.specs.declared.sides.Side.{Side}
use Rattle.naming.specs.declared.sides.Side.TheVariants.{Coarser, Finer}
use Rattle.naming.specs.Columns.{side_of, listed_by, join_by}

-- what both sides have in common
pub side_laws : (n : ℕ) (side : Side) → SideLaws n (side_of n side)
side_laws n Coarser = coarser_laws n
side_laws n Finer = finer_laws n

-- a column lies on its own side
pub towards_itself : (n : ℕ) (side : Side) (C : Column) → (side_of n side).towards C C ≡ true
towards_itself n side C = (side_laws n side).alike_there C C equivalent_refl

-- what two columns make does not hang on the number of plots
pub join_of_lem : (n : ℕ) (side : Side) → (side_of 0 side).join ≡ (side_of n side).join
join_of_lem n Coarser = refl
join_of_lem n Finer = refl

-- a numbered column, joined with what no column makes
pub join_alone : (n : ℕ) (s : RuleSide) (laws : SideLaws n s) (C : Column) → length C ≡ n → number C ≡ C → s.join C s.none ≡ C
join_alone n s laws C l e =
    let J = s.join C s.none in
    let on = laws.join_on C s.none l laws.none_on in
    let same = laws.same J C (laws.join_first C s.none l laws.none_on) (laws.join_best C s.none C l laws.none_on (laws.alike_there C C equivalent_refl) (laws.none_last C)) in
    sym (laws.join_numbered C s.none l laws.none_on) ∙ numbered_equal n J C on l same ∙ e

-- ---- what the columns that pass make, from c on

module _ (t : ℕ → Bool) (s : RuleSide) (Cs : List Column) where
  pub by_none : (c : ℕ) → length Cs ≤ c → join_by t s c (drop c Cs) ≡ s.none
  unfolding join_by
  by_none c h = ap (join_by t s c) (drop_of_length-le Cs h)

  pub by_here : (c : ℕ) → c < length Cs → t c ≡ true → join_by t s c (drop c Cs) ≡ s.join (get_or Cs c []) (join_by t s (suc c) (drop (suc c) Cs))
  unfolding join_by
  by_here c h e = ap (join_by t s c) (drop-cons Cs c [] h) ∙ rw (e, join_by)

  pub by_past : (c : ℕ) → c < length Cs → t c ≡ false → join_by t s c (drop c Cs) ≡ join_by t s (suc c) (drop (suc c) Cs)
  unfolding join_by
  by_past c h e = ap (join_by t s c) (drop-cons Cs c [] h) ∙ rw (e, join_by)

-- of the columns on this side of a member
join_by_lem : (t : ℕ → Bool) (s : RuleSide) (F : Column) (i : ℕ) (Cs : List Column) → ((j : ℕ) → j < length Cs → t (i + j) ≡ s.towards F (get_or Cs j [])) → join_by t s i Cs ≡ join_of s F Cs
unfolding join_by join_of
join_by_lem t s F i [] h = refl
join_by_lem t s F i (C ∷ Cs) h =
    let here : t i ≡ s.towards F C = sym (ap t (add-zero i)) ∙ h 0 (omega arith) in
    let more : join_by t s (suc i) Cs ≡ join_of s F Cs = join_by_lem t s F (suc i) Cs (λ j l. ap t (across i j) ∙ h (suc j) (omega arith)) in
    by_cases (s.towards F C) (λ e. rw (here, e, join_by, join_of) (ap (s.join C) more)) (λ e. rw (here, e, join_by, join_of) more)
  where
    across : (i j : ℕ) → suc i + j ≡ i + suc j
    across i j = omega arith

-- ---- the listed columns

-- column j does not keep column i from the list
abbrev pub allows : (ℕ → Bool) → RuleSide → List Column → ℕ → ℕ → Bool
allows t s Cs i j = not (t j && hides s Cs j i)

-- of the columns on this side of a member
listed_by_lem : (t : ℕ → Bool) (s : RuleSide) (F : Column) (Cs : List Column) → ((j : ℕ) → j < length Cs → t j ≡ on_side s F Cs j) → (i : ℕ) → i < length Cs → listed_by t s Cs i ≡ listed s F Cs i
unfolding listed_by listed
listed_by_lem t s F Cs h i l =
    ap₂ ◌&&◌ (h i l)
    (every_ext (λ j. not (t j && hides s Cs j i)) (λ j. not (on_side s F Cs j && hides s Cs j i)) (length Cs) (λ j k. ap (λ (b : Bool). not (b && hides s Cs j i)) (h j k)))

module _ (t : ℕ → Bool) (s : RuleSide) (Cs : List Column) (i : ℕ) where
  pub listed_not : t i ≡ false → listed_by t s Cs i ≡ false
  unfolding listed_by
  listed_not e = rw e

  pub listed_if : t i ≡ true → listed_by t s Cs i ≡ every (length Cs) (allows t s Cs i)
  unfolding listed_by
  listed_if e = rw e

-- ---- whether a column is nearer, or equivalent and lower

-- what a test of two columns tells
pub side_told : (n m : ℕ) (side : Side) {F G C D : Column} {r : Bool} → r ≡ (side_of m side).towards F G → m ≡ n → F ≡ C → G ≡ D → (side_of n side).towards C D ≡ r
side_told n m side {F = F} {G = G} e k f g = sym (e ∙ ap (λ (x : ℕ). (side_of x side).towards F G) k ∙ ap₂ ((side_of n side).towards) f g)

module _ (s : RuleSide) (Cs : List Column) (j i : ℕ) where
  pub hides_further : s.towards (get_or Cs j []) (get_or Cs i []) ≡ false → hides s Cs j i ≡ false
  unfolding hides
  hides_further e = rw e

  pub hides_nearer : s.towards (get_or Cs j []) (get_or Cs i []) ≡ true → s.towards (get_or Cs i []) (get_or Cs j []) ≡ false → hides s Cs j i ≡ true
  unfolding hides
  hides_nearer e f = rw (e, f)

  pub hides_alike : s.towards (get_or Cs j []) (get_or Cs i []) ≡ true → s.towards (get_or Cs i []) (get_or Cs j []) ≡ true → hides s Cs j i ≡ ltb j i
  unfolding hides
  hides_alike e f = rw (e, f)

-- so none hides itself, and a walk that passes by column i finds as much
module _ (n : ℕ) (side : Side) (Cs : List Column) (i : ℕ) where
  pub hides_itself : hides (side_of n side) Cs i i ≡ false
  hides_itself = let e = towards_itself n side (get_or Cs i []) in hides_alike (side_of n side) Cs i i e e ∙ le-ltb i i (omega arith)

  pub skips_itself : (t : ℕ → Bool) (j : ℕ) → not (t j && not (eqb j i) && hides (side_of n side) Cs j i) ≡ allows t (side_of n side) Cs i j
  skips_itself t j =
      by_cases (eqb j i)
      (λ e.
      let none : hides (side_of n side) Cs j i ≡ false = ap (λ (k : ℕ). hides (side_of n side) Cs k i) (eqb-true j i e) ∙ hides_itself in
      rw none (ap not (and_false (t j && not (eqb j i)) ∙ sym (and_false (t j)))))
      (λ e. by_cases (t j) (λ d. rw (e, d)) (λ d. rw (e, d)))

-- ---- a test of each number of a range

every_from : (p : ℕ → Bool) (c m : ℕ) → list_all p (range_with_len c m) && every c p ≡ every (c + m) p
every_from p c zero = ap (λ (k : ℕ). every k p) (sym (add-zero c))
every_from p c (suc m) =
    let L = list_all p (range_with_len (c + 1) m) in
    let more : every (c + 1) p ≡ p c && every c p = rw add-one (every_suc c p) in
    let on : c + 1 + m ≡ c + suc m = omega arith in
    by_cases (p c)
    (λ e. rw e (ap (λ (b : Bool). L && b) (sym (more ∙ ap (λ (b : Bool). b && every c p) e)) ∙ every_from p (c + 1) m ∙ ap (λ (k : ℕ). every k p) on))
    (λ e. rw e (sym (and_false L) ∙ ap (λ (b : Bool). L && b) (sym (more ∙ ap (λ (b : Bool). b && every c p) e)) ∙ every_from p (c + 1) m ∙ ap (λ (k : ℕ). every k p) on))

pub every_range : (p : ℕ → Bool) (m : ℕ) → list_all p (range_with_len 0 m) ≡ every m p
unfolding every
every_range p m =
    let L = list_all p (range_with_len 0 m) in
    by_cases L (λ e. e ∙ sym (ap (λ (b : Bool). b && true) e) ∙ whole) (λ e. e ∙ sym (ap (λ (b : Bool). b && true) e) ∙ whole)
  where
    whole : list_all p (range_with_len 0 m) && true ≡ every m p
    whole = every_from p 0 m ∙ ap (λ (k : ℕ). every k p) (zero-add m)

-- ---- what is told of each column: whether it is on this side of a member

module _ (t : ℕ → Bool) (s : RuleSide) (F : Column) (Cs : List Column) (told : (j : ℕ) → j < length Cs → t j ≡ on_side s F Cs j) where
  -- what the columns there make
  pub told_join : join_by t s 0 Cs ≡ join_of s F Cs
  unfolding on_side
  told_join = join_by_lem t s F 0 Cs (λ j h. ap t (zero-add j) ∙ told j h)

  -- the columns listed of those there
  pub told_listed : passing_from (listed_by t s Cs) 0 (length Cs) ≡ shown s F Cs
  unfolding shown
  told_listed = passing_same (listed_by t s Cs) (listed s F Cs) 0 (length Cs) (λ k l r. listed_by_lem t s F Cs told k (omega arith))
