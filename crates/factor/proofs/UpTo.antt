-- Laws of a column that is numbered as far as a walk has come: the labels seen are 1 to k, and each is its own number.
-- Assumes nothing.
use mathlib.Core.Path.{◌≡◌, sym, ap, ◌∙◌}
use mathlib.Core.Bool.{true, false}
use mathlib.Core.List.{List}
use Prim.Native.Nat.{ℕ, suc, ◌+◌, ◌≤◌, ◌<◌}
use native.Mathlib.Omega.{arith}
use lib.Dec.{ltb}
use lib.ListN.{length, take}
use lib.Seq.{ext_get_or}
use borrow.Author.Tests.{ltb-true, ltb-false, lt-ltb, le-ltb}
use Rattle.rules.specs.Factor.{Column, at, number, classes}
use Rattle.rules.specs.Family.{alike}
use Rattle.rules.proofs.Numbering.{by_cases, length_number}
use Rattle.rules.proofs.Members.{alike_self}
use Rattle.rules.proofs.Columns.{Tells, tells_none, tells_new, number_positive, unlike}
use Rattle.factor.proofs.Table.{Stepped, stepped_old, stepped_new}

-- y where it is at most k, otherwise 0
unfoldable pub up_to : ℕ → ℕ → ℕ
up_to k y = elim (ltb k y) [ true ↦ 0 | false ↦ y ]

module _ (k y : ℕ) where
  up_within : y ≤ k → up_to k y ≡ y
  unfolding up_to
  up_within h = rw (le-ltb k y h, up_to)

  up_beyond : k < y → up_to k y ≡ 0
  unfolding up_to
  up_beyond h = rw (lt-ltb k y h, up_to)

  -- a number that is told is the label
  up_told : 0 < up_to k y → up_to k y ≡ y
  up_told h = by_cases (ltb k y) (λ e. let z : up_to k y ≡ 0 = up_beyond (ltb-true k y e) in omega arith) (λ e. up_within (ltb-false k y e))

pub up_none : (F : Column) → Tells F 0 (up_to 0)
up_none F = tells_none F (up_to 0) (λ y. by_cases (ltb 0 y) (λ e. up_beyond 0 y (ltb-true 0 y e)) (λ e. let z : y ≤ 0 = ltb-false 0 y e in up_within 0 y z ∙ omega arith))

module _ (F : Column) (u : ℕ) (h : u < length F) (k : ℕ) (tells : Tells F u (up_to k)) (count : k ≡ classes (take u F)) where
  -- a label from 1 to k
  pub up_old : 0 < at F u → at F u ≤ k → Stepped F u (up_to k) k
  up_old p l = let e : up_to k (at F u) ≡ at F u = up_within k (at F u) l in stepped_old F u h (up_to k) tells k count (λ z. omega arith)

  -- the label k + 1
  pub up_new : at F u ≡ k + 1 → Stepped F u (up_to (k + 1)) (k + 1)
  up_new e = stepped_new F u h (up_to k) tells k count (up_beyond k (at F u) (omega arith)) (up_to (k + 1)) (up_within (k + 1) (at F u) (omega arith) ∙ e) other
    where
      other : (y : ℕ) → (y ≡ at F u → ⊥) → up_to (k + 1) y ≡ up_to k y
      other y ne =
          by_cases (ltb k y)
          (λ b. let l : k < y = ltb-true k y b in up_beyond (k + 1) y (omega (arith, ne)) ∙ sym (up_beyond k y l))
          (λ b. let l : y ≤ k = ltb-false k y b in up_within (k + 1) y (omega arith) ∙ sym (up_within k y l))

  -- any other label is not the number of its plot
  pub up_wrong : (k + 1 < at F u) → alike (number F) F ≡ false
  up_wrong l =
      let n : at (number F) u ≡ suc (classes (take u F)) = (tells_new F u (up_to k) tells h (up_beyond k (at F u) (omega arith))).0 in
      unlike (number F) F (λ e. let q : at (number F) u ≡ at F u = ap (λ (l : List ℕ). at l u) e in omega arith)

pub up_zero : (F : Column) (u : ℕ) → u < length F → at F u ≡ 0 → alike (number F) F ≡ false
up_zero F u h z = unlike (number F) F (λ e. let q : at (number F) u ≡ at F u = ap (λ (l : List ℕ). at l u) e in omega (arith, number_positive F u h))

-- the walk has come to the end
pub up_all : (F : Column) (k : ℕ) → Tells F (length F) (up_to k) → alike (number F) F ≡ true
up_all F k tells = rw same (alike_self F)
  where
    plot : (u : ℕ) → u < length (number F) → at (number F) u ≡ at F u
    plot u h =
        let l : u < length F = rw length_number at h in
        let e = tells.known u l in
        sym e ∙ up_told k (at F u) (rw e (number_positive F u l))

    same : number F ≡ F
    same = ext_get_or 0 (number F) F (length_number F) plot
