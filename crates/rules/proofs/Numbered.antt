-- Laws of columns that are numbered by first appearance already, as that of a set of names is.
-- Assumes nothing.
use mathlib.Core.Path.{◌≡◌, refl, ap, ap₂, ◌∙◌, subst}
use mathlib.Core.Logic.{◌⊎◌, inl, inr}
use mathlib.Core.Bool.{Bool, true}
use mathlib.Core.List.{List, [], ◌∷◌}
use Prim.Native.Nat.{ℕ, zero, suc, ◌+◌, ◌<◌}
use native.Mathlib.Nat.{not-suc-le-zero, le_of_suc-le-suc}
use native.Mathlib.Omega.{arith}
use lib.Dec.{eqb}
use lib.ListN.{length}
use borrow.Author.Tests.{eqb-true, eq-eqb, ne_eqb}
use Rattle.rules.specs.Lists.{tabulate}
use Rattle.rules.specs.Factor.{Column, index_of, add_new, numbering, labels, number, up_from}
use Rattle.rules.specs.Sheet.{same_bytes}
use Rattle.rules.specs.Formula.{plot_count, combination, kept, column_of}
use Rattle.rules.proofs.Numbering.{eqb_self, place_yes, place_no, add_yes, add_no, has_or_new, add_has, length_add_new}
use Rattle.rules.proofs.Extremes.{place_up, add_up_lem}
use Rattle.rules.proofs.Sheet.{same_equal, same_self}

-- from k numbers seen on, each is one of them or the next; m are seen at the end
pub data Grows : ℕ → List ℕ → ℕ → Type 0 where
  stop : {k : ℕ} → Grows k [] k
  old : {k j m : ℕ} {xs : List ℕ} → j < k → Grows k xs m → Grows k (suc j ∷ xs) m
  new : {k m : ℕ} {xs : List ℕ} → Grows (suc k) xs m → Grows k (suc k ∷ xs) m

place_old : (k i j : ℕ) → j < k → index_of eqb (up_from i k) (i + j) ≡ j
unfolding up_from
place_old zero i j h = absurd (not-suc-le-zero h)
place_old (suc k) i zero h = place_yes eqb eqb-true eqb_self i (up_from (suc i) k) (i + 0) (eq-eqb i (i + 0) (omega arith))
place_old (suc k) i (suc j) h =
    let e : i + suc j ≡ suc i + j = omega arith in
    place_no eqb eqb-true eqb_self i (up_from (suc i) k) (i + suc j) (ne_eqb i (i + suc j) (λ z. omega arith)) ∙ rw e (ap suc (place_old k (suc i) j (le_of_suc-le-suc h)))

add_old : (k i j : ℕ) → j < k → add_new eqb (up_from i k) (i + j) ≡ up_from i k
unfolding up_from
add_old zero i j h = absurd (not-suc-le-zero h)
add_old (suc k) i zero h = add_yes eqb eqb-true eqb_self i (up_from (suc i) k) (i + 0) (eq-eqb i (i + 0) (omega arith))
add_old (suc k) i (suc j) h =
    let e : i + suc j ≡ suc i + j = omega arith in
    add_no eqb eqb-true eqb_self i (up_from (suc i) k) (i + suc j) (ne_eqb i (i + suc j) (λ z. omega arith)) ∙ rw e (ap (λ (r : List ℕ). i ∷ r) (add_old k (suc i) j (le_of_suc-le-suc h)))

-- such a column is its own numbering
grows_numbering : {k m : ℕ} {xs : List ℕ} → Grows k xs m → numbering eqb (up_from 1 k) xs ≡ xs
unfolding numbering
grows_numbering stop = refl
grows_numbering (old {k} {j} {xs = xs} h g) =
    let e : 1 + j ≡ suc j = omega arith in
    ap₂ (λ (i : ℕ) (s : List ℕ). suc i ∷ numbering eqb s xs) (rw e at (place_old k 1 j h)) (rw e at (add_old k 1 j h)) ∙ ap (λ (r : List ℕ). suc j ∷ r) (grows_numbering g)
grows_numbering (new {k} {xs = xs} g) =
    ap₂ (λ (i : ℕ) (s : List ℕ). suc i ∷ numbering eqb s xs) (place_up k 1 (suc k) (omega arith)) (add_up_lem k 1 (suc k) (omega arith)) ∙ ap (λ (r : List ℕ). suc k ∷ r) (grows_numbering g)

-- such a column is numbered
pub grows_number : {m : ℕ} (F : Column) → Grows 0 F m → number F ≡ F
unfolding number up_from
grows_number F g = grows_numbering g

-- a numbering is such a column
numbering_grows : {A : Type 0} (alike : A → A → Bool) (sound : (a b : A) → alike a b ≡ true → a ≡ b) (self : (a : A) → alike a a ≡ true) (xs s : List A)
    → Grows (length s) (numbering alike s xs) (length (labels alike s xs))
unfolding numbering labels
numbering_grows alike sound self [] s = stop
numbering_grows alike sound self (x ∷ xs) s = go (has_or_new alike sound self s x) (numbering_grows alike sound self xs (add_new alike s x))
  where
    go : (index_of alike s x < length s) ⊎ (index_of alike s x ≡ length s) → Grows (length (add_new alike s x)) (numbering alike (add_new alike s x) xs) (length (labels alike (add_new alike s x) xs))
        → Grows (length s) (suc (index_of alike s x) ∷ numbering alike (add_new alike s x) xs) (length (labels alike (add_new alike s x) xs))
    go (inl h) g = old h (subst (λ (k : ℕ). Grows k (numbering alike (add_new alike s x) xs) (length (labels alike (add_new alike s x) xs))) (ap length (add_has alike sound self s x h)) g)
    go (inr e) g =
        rw e (new (subst (λ (k : ℕ). Grows k (numbering alike (add_new alike s x) xs) (length (labels alike (add_new alike s x) xs))) (length_add_new alike sound self s x e) g))

-- the column of a set is numbered
pub number_column : (cs : List ℕ) (S : ℕ → Bool) → number (column_of cs S) ≡ column_of cs S
unfolding column_of
number_column cs S = grows_number (column_of cs S) (numbering_grows same_bytes same_equal same_self (tabulate (λ u. kept S (combination cs u)) (plot_count cs)) [])
