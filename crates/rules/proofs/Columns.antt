-- Laws for programs over columns: a look-up that tells the number of each label seen, and the number of classes.
-- Assumes nothing.
use mathlib.Core.Path.{◌≡◌, refl, sym, ap, ◌∙◌}
use mathlib.Core.Bool.{true, false}
use mathlib.Core.List.{[]}
use Prim.Native.Nat.{ℕ, suc, ◌≤◌, ◌<◌, zero-le, suc-le-suc}
use native.Mathlib.Nat.{not-suc-le-zero, le_antisymm}
use native.Mathlib.Omega.{arith}
use lib.Dec.{eqb, ltb}
use lib.ListN.{length, take, drop, drop_of_length-le}
use lib.Seq.{drop-cons, ext_get_or}
use borrow.Author.Tests.{eqb-true, eqb-false, eq-eqb, ne_eqb, ltb-true, ltb-false}
use Rattle.rules.specs.Factor.{Column, at, Equivalent, number, classes}
use Rattle.rules.specs.Family.{alike, smaller, before}
use Rattle.rules.proofs.Numbering.{by_cases, eqb_self, numbering_at, number_same, number_take, length_number}
use Rattle.rules.proofs.Walk.{next}
use Rattle.rules.proofs.Classes.{classes_le}
use Rattle.rules.proofs.Members.{alike_sound, alike_self}

-- numbers start from 1
pub number_positive : (F : Column) (u : ℕ) → u < length F → 0 < at (number F) u
unfolding number
number_positive F u h = rw (numbering_at eqb eqb-true eqb_self F [] u 0 h) (suc-le-suc zero-le)

-- a plot before plot u that has the label y
pub record Earlier (F : Column) (u y : ℕ) : Type 0 where
  pub plot : ℕ
  pub less : plot < u
  pub label : at F plot ≡ y

-- look tells the number of each label that a plot before plot u has, and 0 of the others
pub record Tells (F : Column) (u : ℕ) (look : ℕ → ℕ) : Type 0 where
  pub known : (p : ℕ) → p < u → look (at F p) ≡ at (number F) p
  pub only : (y : ℕ) → 0 < look y → Earlier F u y

-- no plot, no label
pub tells_none : (F : Column) (look : ℕ → ℕ) → ((y : ℕ) → look y ≡ 0) → Tells F 0 look
tells_none F look zeros = record {
  known = λ p h. absurd (not-suc-le-zero h);
  only = λ y h. absurd (not-suc-le-zero (rw (zeros y) at h));
}

module _ (F : Column) (u : ℕ) (look : ℕ → ℕ) (tells : Tells F u look) (h : u < length F) where
  -- the label of plot u has a number: plot u takes it
  pub tells_old : 0 < look (at F u) → (at (number F) u ≡ look (at F u)) × (classes (take (suc u) F) ≡ classes (take u F))
  unfolding number classes
  tells_old l =
      let e = tells.only (at F u) l in
      let o = (next eqb eqb-true eqb_self 0 F u h).old e.plot e.less e.label in
      (o.0 ∙ sym (tells.known e.plot e.less) ∙ ap look e.label, o.1)

  -- it has none: plot u begins a class
  pub tells_new : look (at F u) ≡ 0 → (at (number F) u ≡ suc (classes (take u F))) × (classes (take (suc u) F) ≡ suc (classes (take u F)))
  unfolding number classes
  tells_new z =
      (next eqb eqb-true eqb_self 0 F u h).new
      (λ j hj e. let q : at (number F) j ≡ 0 = sym (tells.known j hj) ∙ ap look e ∙ z in omega (arith, number_positive F j (omega arith)))

  -- what tells the number of plot u too
  pub tells_more : (look' : ℕ → ℕ) → look' (at F u) ≡ at (number F) u → ((y : ℕ) → (y ≡ at F u → ⊥) → look' y ≡ look y) → Tells F (suc u) look'
  tells_more look' here other = record {
    known = λ p hp. by_cases (eqb (at F p) (at F u))
        (λ e. ap look' (eqb-true _ _ e) ∙ here ∙ (number_same F u p h (omega arith)).1 (sym (eqb-true _ _ e)))
        (λ e. let ne : at F p ≡ at F u → ⊥ = eqb-false _ _ e in
        other (at F p) ne ∙ tells.known p (before_u p hp ne));
    only = λ y hy. by_cases (eqb y (at F u))
        (λ e. record { plot = u; less = omega arith; label = sym (eqb-true _ _ e) })
        (λ e. later (tells.only y (rw (other y (eqb-false _ _ e)) at hy)));
  }
    where
      before_u : (p : ℕ) → p < suc u → (at F p ≡ at F u → ⊥) → p < u
      before_u p hp ne = by_cases (eqb p u) (λ e. absurd (ne (ap (at F) (eqb-true p u e)))) (λ e. let n : p ≡ u → ⊥ = eqb-false p u e in omega (arith, n))

      later : {y : ℕ} → Earlier F u y → Earlier F (suc u) y
      later e = record { plot = e.plot; less = omega (arith, e.less); label = e.label }

-- equivalent columns have as many classes
pub classes_equivalent : (n : ℕ) (F G : Column) → length F ≡ n → length G ≡ n → Equivalent n F G → classes F ≡ classes G
classes_equivalent n F G l_f l_g h = le_antisymm (classes_le n G F l_g l_f h.from) (classes_le n F G l_f l_g h.to)

-- numbering keeps the number of classes
pub classes_number : (F : Column) → classes (number F) ≡ classes F
classes_number F = classes_equivalent (length F) (number F) F (length_number F) refl record { to = λ u v hu hv. (number_same F u v hu hv).0; from = λ u v hu hv. (number_same F u v hu hv).1 }

-- "this walk, stopped after any number of plots, holds exactly the numbers of those plots and their class count": after i plots these are
-- the first i numbers of the column, and as many classes as these have
pub stopped : (i : ℕ) (F : Column) → (number (take i F) ≡ take i (number F)) × (classes (take i F) ≡ classes (take i (number F)))
stopped i F = (number_take i F, sym (classes_number (take i F)) ∙ ap classes (number_take i F))

-- ---- two columns, plot by plot

module _ (F G : Column) (u : ℕ) (hF : u < length F) (hG : u < length G) where
  -- the columns agree at plot u
  pub smaller_equal : at F u ≡ at G u → smaller (drop u F) (drop u G) ≡ smaller (drop (suc u) F) (drop (suc u) G)
  unfolding smaller
  smaller_equal e = rw (drop-cons F u 0, drop-cons G u 0, eq-eqb (at F u) (at G u) e, smaller)

  -- they differ
  pub smaller_differ : (at F u ≡ at G u → ⊥) → smaller (drop u F) (drop u G) ≡ ltb (at F u) (at G u)
  unfolding smaller
  smaller_differ e = rw (drop-cons F u 0, drop-cons G u 0, ne_eqb (at F u) (at G u) e, smaller)

-- a column that ends is smaller than one that goes on
pub smaller_ends : (F G : Column) (u : ℕ) → length F ≤ u → smaller (drop u F) (drop u G) ≡ ltb u (length G)
unfolding smaller
smaller_ends F G u h = rw (drop_of_length-le F h) (by_cases (ltb u (length G)) (λ e. rw (e, drop-cons G u 0 (ltb-true _ _ e))) (λ e. rw (e, drop_of_length-le G (ltb-false _ _ e))))

pub smaller_ended : (F G : Column) (u : ℕ) → u < length F → length G ≤ u → smaller (drop u F) (drop u G) ≡ false
unfolding smaller
smaller_ended F G u h k = rw (drop_of_length-le G k, drop-cons F u 0)

-- the order of two members: at a tie of the counts, and without
pub tie_smaller : (F G : Column) → classes F ≡ classes G → before F G ≡ smaller F G
unfolding before
tie_smaller F G e = rw (eq-eqb (classes F) (classes G) e, before)

pub count_decides : (F G : Column) → (classes F ≡ classes G → ⊥) → before F G ≡ ltb (classes F) (classes G)
unfolding before
count_decides F G e = rw (ne_eqb (classes F) (classes G) e, before)

-- columns that are equal at each plot are alike
pub alike_equal : (F G : Column) → length F ≡ length G → ((u : ℕ) → u < length F → at F u ≡ at G u) → alike F G ≡ true
alike_equal F G l e = rw (ext_get_or 0 F G l e) (alike_self G)

-- columns that differ at a plot or in length are not alike
pub unlike : (F G : Column) → (F ≡ G → ⊥) → alike F G ≡ false
unlike F G ne = by_cases (alike F G) (λ e. absurd (ne (alike_sound F G e))) (λ e. e)
