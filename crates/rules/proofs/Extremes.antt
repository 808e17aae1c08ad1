-- Laws of U and E: they are numbered, and on n plots.
-- Assumes nothing.
use mathlib.Core.Path.{◌≡◌, refl, ap, ap₂, ◌∙◌}
use mathlib.Core.List.{List, [], ◌∷◌}
use Prim.Native.Nat.{ℕ, zero, suc, ◌+◌, ◌≤◌}
use native.Mathlib.Omega.{arith}
use lib.Dec.{eqb}
use lib.ListN.{length, replicate, length-replicate}
use borrow.Author.Tests.{eqb-true, ne_eqb}
use Rattle.rules.specs.Factor.{Column, index_of, add_new, numbering, number, universal, up_from, equality}
use Rattle.rules.proofs.Numbering.{eqb_self, place_no, add_no}

ones_numbered : (n : ℕ) → numbering eqb (1 ∷ []) (replicate n 1) ≡ replicate n 1
unfolding numbering
ones_numbered zero = refl
ones_numbered (suc n) = ap (λ (l : Column). 1 ∷ l) (ones_numbered n)

pub number_universal : (n : ℕ) → number (universal n) ≡ universal n
unfolding number universal numbering
number_universal zero = refl
number_universal (suc n) = ap (λ (l : Column). 1 ∷ l) (ones_numbered n)

pub length_universal : (n : ℕ) → length (universal n) ≡ n
unfolding universal
length_universal n = length-replicate n 1

pub place_up : (k i x : ℕ) → i + k ≤ x → index_of eqb (up_from i k) x ≡ k
unfolding up_from index_of
place_up zero i x h = refl
place_up (suc k) i x h = place_no eqb eqb-true eqb_self i (up_from (suc i) k) x (ne_eqb i x (omega arith)) ∙ ap suc (place_up k (suc i) x (omega arith))

pub add_up_lem : (k i x : ℕ) → x ≡ i + k → add_new eqb (up_from i k) x ≡ up_from i (suc k)
unfolding up_from add_new
add_up_lem zero i x e = ap (λ (y : ℕ). y ∷ []) (omega arith)
add_up_lem (suc k) i x e = add_no eqb eqb-true eqb_self i (up_from (suc i) k) x (ne_eqb i x (omega arith)) ∙ ap (λ (l : Column). i ∷ l) (add_up_lem k (suc i) x (omega arith))

up_numbered : (n k : ℕ) → numbering eqb (up_from 1 k) (up_from (suc k) n) ≡ up_from (suc k) n
unfolding numbering up_from
up_numbered zero k = refl
up_numbered (suc n) k =
    ap₂ (λ (i : ℕ) (l : Column). suc i ∷ l) (place_up k 1 (suc k) (omega arith))
    (ap (λ (s : List ℕ). numbering eqb s (up_from (suc (suc k)) n)) (add_up_lem k 1 (suc k) (omega arith)) ∙ up_numbered n (suc k))

pub number_equality : (n : ℕ) → number (equality n) ≡ equality n
unfolding number equality up_from
number_equality n = up_numbered n 0

pub length_up : (n i : ℕ) → length (up_from i n) ≡ n
unfolding up_from
length_up zero i = refl
length_up (suc n) i = ap suc (length_up n (suc i))

pub length_equality : (n : ℕ) → length (equality n) ≡ n
unfolding equality
length_equality n = length_up n 1
