-- A name depends on the factors only, not on the labels of the columns; and only names with `#` change where more columns are looked at.
-- Assumes nothing.
use mathlib.Core.Path.{◌≡◌, refl, sym, ap, ap₂, ◌∙◌}
use mathlib.Core.Logic.{◌⊎◌, inl, inr}
use mathlib.Core.Bool.{Bool, true, false, not, ◌&&◌, ◌||◌}
use mathlib.Core.List.Memᴰ
use mathlib.Core.List.{List, [], ◌∷◌, map}
use Prim.Native.Nat.{ℕ, zero, suc, ◌+◌, ◌≤◌, ◌<◌}
use native.Mathlib.Nat.{suc_inj, suc-ne-zero}
use native.Mathlib.Omega.{arith}
use lib.Dec.{eqb, ltb}
use lib.ListN.{length, get_or, length-map}
use borrow.Author.Tests.{eqb-false}
use Rattle.rules.specs.Factor.{Column, Equivalent, every, number, classes, equality}
use Rattle.rules.specs.Family.{alike}
use Rattle.rules.specs.Lists.{passing_from}
use Rattle.rules.specs.Names.{name_infimum, name_supremum, name_place, Side, coarser_side, finer_side, equivalent_column, join_of, on_side, hides, listed, shown, name_by_supremum, name_by_infimum, name_by_column, name_of}
use Rattle.rules.proofs.Lists.{get_d_map}
use Rattle.rules.proofs.Numbering.{by_cases, length_number}
use Rattle.rules.proofs.Members.{alike_sound}
use Rattle.rules.proofs.Bits.{every_ext}
use Rattle.rules.proofs.Supremum.{equivalent_sym, number_equivalent}
use Rattle.rules.proofs.Bounds.{numbered_equal}
use Rattle.rules.proofs.ClassCount.{classes_equality}
use Rattle.rules.proofs.Orthogonality.{same_test}
use Rattle.rules.proofs.WellFormed.{member_at_lem}
use Rattle.rules.proofs.NameSides.{On, SideLaws, coarser_laws, finer_laws, length_join, number_join, join_towards, join_best_of}

-- columns of the same factors, one for one, on n plots
pub record SameFactors (n : ℕ) (Cs Ds : List Column) : Type 0 where
  pub as_many : length Cs ≡ length Ds
  pub on : On n Cs
  pub on' : On n Ds
  pub same : (i : ℕ) → i < length Cs → Equivalent n (get_or Cs i []) (get_or Ds i [])

-- tests that agree pass the same numbers
pub passing_same : (s t : ℕ → Bool) (i m : ℕ) → ((k : ℕ) → i ≤ k → k < i + m → s k ≡ t k) → passing_from s i m ≡ passing_from t i m
unfolding passing_from
passing_same s t i zero h = refl
passing_same s t i (suc m) h =
    let rest = passing_same s t (suc i) m (λ k a b. h k (omega arith) (omega arith)) in
    let here = h i (omega arith) (omega arith) in
    by_cases (t i)
    (λ e. rw (here, e, passing_from) (ap (λ (r : List ℕ). i ∷ r) rest))
    (λ e. rw (here, e, passing_from) rest)

module _ (n : ℕ) (s : Side) (laws : SideLaws n s) (F : Column) (Cs Ds : List Column) (f : SameFactors n Cs Ds) where
  there : (i : ℕ) → i < length Cs → s.towards (get_or Cs i []) (get_or Ds i []) ≡ true
  there i h = laws.alike_there (get_or Cs i []) (get_or Ds i []) (f.same i h)

  back : (i : ℕ) → i < length Cs → s.towards (get_or Ds i []) (get_or Cs i []) ≡ true
  back i h = laws.alike_there (get_or Ds i []) (get_or Cs i []) (equivalent_sym (f.same i h))

  -- they make the same
  pub same_join : join_of s F Cs ≡ join_of s F Ds
  same_join =
      let one = join_best_of n s laws F Ds f.on' (join_of s F Cs) (λ i l t. let h : i < length Cs = omega (arith, f.as_many) in
      laws.further (join_of s F Cs) (get_or Cs i []) (get_or Ds i []) (join_towards n s laws F Cs f.on (get_or Cs i []) (member_at_lem Cs i h) (laws.further F (get_or Ds i []) (get_or Cs i []) t (back i h))) (there i h)) in
      let two = join_best_of n s laws F Cs f.on (join_of s F Ds) (λ i h t. let l : i < length Ds = omega (arith, f.as_many) in
      laws.further (join_of s F Ds) (get_or Ds i []) (get_or Cs i []) (join_towards n s laws F Ds f.on' (get_or Ds i []) (member_at_lem Ds i l) (laws.further F (get_or Cs i []) (get_or Ds i []) t (there i h))) (back i h)) in
      sym (number_join n s laws F Cs f.on)
      ∙ numbered_equal n (join_of s F Cs) (join_of s F Ds) (length_join n s laws F Cs f.on) (length_join n s laws F Ds f.on') (laws.same (join_of s F Cs) (join_of s F Ds) one two)
      ∙ number_join n s laws F Ds f.on'

  same_on : (i : ℕ) → i < length Cs → on_side s F Cs i ≡ on_side s F Ds i
  unfolding on_side
  same_on i h = same_test _ _ (λ t. laws.further F (get_or Cs i []) (get_or Ds i []) t (there i h)) (λ t. laws.further F (get_or Ds i []) (get_or Cs i []) t (back i h))

  same_pair : (j i : ℕ) → j < length Cs → i < length Cs → s.towards (get_or Cs j []) (get_or Cs i []) ≡ s.towards (get_or Ds j []) (get_or Ds i [])
  same_pair j i hj hi =
      same_test _ _
      (λ t. laws.further (get_or Ds j []) (get_or Cs j []) (get_or Ds i []) (back j hj) (laws.further (get_or Cs j []) (get_or Cs i []) (get_or Ds i []) t (there i hi)))
      (λ t. laws.further (get_or Cs j []) (get_or Ds j []) (get_or Cs i []) (there j hj) (laws.further (get_or Ds j []) (get_or Ds i []) (get_or Cs i []) t (back i hi)))

  same_listed : (i : ℕ) → i < length Cs → listed s F Cs i ≡ listed s F Ds i
  unfolding listed hides
  same_listed i h =
      ap₂ ◌&&◌ (same_on i h)
      (every_ext (λ j. not (on_side s F Cs j && hides s Cs j i)) (λ j. not (on_side s F Ds j && hides s Ds j i)) (length Cs)
      (λ j l. ap not (ap₂ ◌&&◌ (same_on j l) (ap₂ (λ (a b : Bool). a && (not b || ltb j i)) (same_pair j i l h) (same_pair i j h l))))
      ∙ ap (λ (k : ℕ). every k (λ j. not (on_side s F Ds j && hides s Ds j i))) f.as_many)

  -- and the same are listed
  pub same_shown : shown s F Cs ≡ shown s F Ds
  unfolding shown
  same_shown = passing_same (listed s F Cs) (listed s F Ds) 0 (length Cs) (λ k a b. same_listed k (omega arith)) ∙ ap (passing_from (listed s F Ds) 0) f.as_many

same_column : (n : ℕ) (F : Column) (i : ℕ) (Cs Ds : List Column) → length Cs ≡ length Ds → ((k : ℕ) → k < length Cs → number (get_or Cs k []) ≡ number (get_or Ds k []))
    → equivalent_column F i Cs ≡ equivalent_column F i Ds
unfolding equivalent_column
same_column n F i [] [] l h = refl
same_column n F i [] (D ∷ Ds) l h = absurd (suc-ne-zero _ (sym l))
same_column n F i (C ∷ Cs) [] l h = absurd (suc-ne-zero _ l)
same_column n F i (C ∷ Cs) (D ∷ Ds) l h =
    let rest = same_column n F (suc i) Cs Ds (suc_inj l) (λ k b. h (suc k) (omega arith)) in
    by_cases (alike (number D) F)
    (λ e. rw (h 0 (omega arith), e, equivalent_column))
    (λ e. rw (h 0 (omega arith), e, equivalent_column) rest)

same_supremum : (n : ℕ) (Ls Ms : List Column) (place : ℕ) (F : Column) → SameFactors n Ls Ms → name_by_supremum n Ls place F ≡ name_by_supremum n Ms place F
unfolding name_by_supremum
same_supremum n Ls Ms place F g =
    let j = ap (λ (X : Column). alike X F) (same_join n (finer_side n) (finer_laws n) F Ls Ms g) in
    by_cases (alike (join_of (finer_side n) F Ms) F)
    (λ e. rw (j ∙ e, e, name_by_supremum) (ap name_supremum (same_shown n (finer_side n) (finer_laws n) F Ls Ms g)))
    (λ e. rw (j ∙ e, e, name_by_supremum))

same_by_column : (n : ℕ) (Cs Ds Ls Ms : List Column) (place : ℕ) (F : Column) → SameFactors n Cs Ds → SameFactors n Ls Ms → (x : ℕ) → name_by_column n Cs Ls place F x ≡ name_by_column n Ds Ms place F x
unfolding name_by_column name_by_infimum
same_by_column n Cs Ds Ls Ms place F f g (suc c) = refl
same_by_column n Cs Ds Ls Ms place F f g zero =
    let j = ap (λ (X : Column). alike X F) (same_join n (coarser_side n) (coarser_laws n) F Cs Ds f) in
    by_cases (alike (join_of (coarser_side n) F Ds) F)
    (λ e. rw (j ∙ e, e, name_by_infimum) (ap name_infimum (same_shown n (coarser_side n) (coarser_laws n) F Cs Ds f)))
    (λ e. rw (j ∙ e, e, name_by_infimum) (same_supremum n Ls Ms place F g))

-- names depend on the factors only: so a program may number the columns first
pub same_name : (n : ℕ) (Cs Ds Ls Ms : List Column) (place : ℕ) (F : Column) → SameFactors n Cs Ds → SameFactors n Ls Ms → name_of n Cs Ls place F ≡ name_of n Ds Ms place F
unfolding name_of
same_name n Cs Ds Ls Ms place F f g =
    by_cases (eqb (classes F) 1)
    (λ e. rw (e, name_of))
    (λ e. by_cases (eqb (classes F) n)
    (λ d. rw (e, d, name_of))
    (λ d. rw (e, d, name_of) (ap (name_by_column n Cs Ls place F) (same_column n F 0 Cs Ds f.as_many same_number) ∙ same_by_column n Cs Ds Ls Ms place F f g (equivalent_column F 0 Ds))))
  where
    same_number : (k : ℕ) → k < length Cs → number (get_or Cs k []) ≡ number (get_or Ds k [])
    same_number k h = numbered_equal n (get_or Cs k []) (get_or Ds k []) (f.on (get_or Cs k []) (member_at_lem Cs k h)) (f.on' (get_or Ds k []) (member_at_lem Ds k (omega (arith, f.as_many)))) (f.same k h)

-- ---- what changes

-- looking at no column no supremum is found: names are 01's. Looking at columns changes only `#`, into `S(`.
pub only_hash : (n : ℕ) (Cs Ls : List Column) (place : ℕ) (F : Column)
    → (name_of n Cs Ls place F ≡ name_of n Cs [] place F) ⊎ ((name_of n Cs [] place F ≡ name_place place) × (name_of n Cs Ls place F ≡ name_supremum (shown (finer_side n) F Ls)))
unfolding name_of name_by_column name_by_infimum name_by_supremum join_of
only_hash n Cs Ls place F =
    by_cases (eqb (classes F) 1)
    (λ e. inl (rw (e, name_of)))
    (λ e. by_cases (eqb (classes F) n)
    (λ d. inl (rw (e, d, name_of)))
    (λ d. rw (e, d, name_of) (go (no_supremum (eqb-false (classes F) n d)) (equivalent_column F 0 Cs))))
  where
    no_supremum : (classes F ≡ n → ⊥) → alike (equality n) F ≡ false
    no_supremum d = by_cases (alike (equality n) F) (λ a. absurd (d (ap classes (sym (alike_sound (equality n) F a)) ∙ classes_equality n))) (λ a. a)

    go : alike (equality n) F ≡ false → (x : ℕ) → (name_by_column n Cs Ls place F x ≡ name_by_column n Cs [] place F x)
        ⊎ ((name_by_column n Cs [] place F x ≡ name_place place) × (name_by_column n Cs Ls place F x ≡ name_supremum (shown (finer_side n) F Ls)))
    go z (suc c) = inl refl
    go z zero =
        by_cases (alike (join_of (coarser_side n) F Cs) F)
        (λ i. inl (rw (i, name_by_infimum)))
        (λ i. by_cases (alike (join_of (finer_side n) F Ls) F)
        (λ b. inr (rw (i, z, name_by_infimum, name_by_supremum), rw (i, b, name_by_infimum, name_by_supremum)))
        (λ b. inl (rw (i, b, z, name_by_infimum, name_by_supremum))))

-- numbered columns are of the same factors
pub numbered_factors : (n : ℕ) (Cs : List Column) → On n Cs → SameFactors n (map number Cs) Cs
numbered_factors n Cs on = record {
  as_many = length-map Cs number;
  on = λ D m. let i = Memᴰ.of_map number Cs m in sym (ap length i.2) ∙ length_number i.0 ∙ on i.0 i.1;
  on' = on;
  same = λ i h. let l : i < length Cs = rw (← length-map Cs number) h in
      rw (get_d_map number Cs i [] [] l) (number_equivalent (get_or Cs i []) (on (get_or Cs i []) (member_at_lem Cs i l)));
}
