-- Laws of a table that holds the number of each label seen, and 0 for the others.
-- Assumes nothing.
use mathlib.Core.Path.{◌≡◌, refl, sym, ap, ◌∙◌}
use mathlib.Core.List.{List, []}
use Prim.Native.Nat.{ℕ, zero, suc, ◌+◌, ◌<◌}
use native.Mathlib.Numerals.{add-one}
use native.Mathlib.Omega.{arith}
use lib.ListN.{length, get_or, take, set, replicate}
use lib.Seq.{get_or-set_same, get_or-set_other}
use Rattle.rules.specs.Factor.{Column, at, number, classes}
use Rattle.rules.proofs.Columns.{Tells, tells_old, tells_new, tells_more}

-- no plot, no class
pub classes_none : ◌≡◌ {A = ℕ} 0 (classes [])
unfolding classes
classes_none = refl

-- a table of zeros
pub get_d_zeros : (n i : ℕ) → get_or {A = ℕ} (replicate n 0) i 0 ≡ 0
get_d_zeros zero i = refl
get_d_zeros (suc n) zero = refl
get_d_zeros (suc n) (suc i) = get_d_zeros n i

-- plot u is numbered: look' tells the numbers, and there are k' classes
pub record Stepped (F : Column) (u : ℕ) (look' : ℕ → ℕ) (k' : ℕ) : Type 0 where
  pub tells : Tells F (u + 1) look'
  pub count : k' ≡ classes (take (u + 1) F)
  pub here : look' (at F u) ≡ at (number F) u

module _ (F : Column) (u : ℕ) (h : u < length F) (look : ℕ → ℕ) (tells : Tells F u look) (k : ℕ) (count : k ≡ classes (take u F)) where
  -- its label has a number
  pub stepped_old : (look (at F u) ≡ 0 → ⊥) → Stepped F u look k
  stepped_old ne =
      let o = tells_old F u look tells h (omega (arith, ne)) in
      record {
        tells = rw add-one (tells_more F u look tells h look (sym o.0) (λ y _. refl));
        count = rw (add-one, o.1) count;
        here = sym o.0;
      }

  -- its label is new, and gets the next number
  pub stepped_new : look (at F u) ≡ 0 → (look' : ℕ → ℕ) → look' (at F u) ≡ k + 1 → ((y : ℕ) → (y ≡ at F u → ⊥) → look' y ≡ look y) → Stepped F u look' (k + 1)
  stepped_new z look' mine other =
      let o = tells_new F u look tells h z in
      let e : look' (at F u) ≡ at (number F) u = mine ∙ add-one k ∙ ap suc count ∙ sym o.0 in
      record {
        tells = rw add-one (tells_more F u look tells h look' e other);
        count = add-one k ∙ ap suc count ∙ sym (rw add-one o.1);
        here = e;
      }

-- the table that holds k + 1 for the label of plot u
pub table_new : (F : Column) (u : ℕ) → u < length F → (t : List ℕ) → Tells F u (λ y. get_or t y 0) → (k : ℕ) → k ≡ classes (take u F) → at F u < length t → get_or t (at F u) 0 ≡ 0
    → Stepped F u (λ y. get_or (set t (at F u) (k + 1)) y 0) (k + 1)
table_new F u h t tells k count inside z =
    stepped_new F u h (λ y. get_or t y 0) tells k count z (λ y. get_or (set t (at F u) (k + 1)) y 0)
    (get_or-set_same t (at F u) (k + 1) 0 inside) (λ y ne. get_or-set_other t (at F u) y (k + 1) 0 ne)
