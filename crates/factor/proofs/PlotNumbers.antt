-- Laws of the equality factor in an array that is filled from its start.
-- Assumes nothing.
use mathlib.Core.Path.{◌≡◌, sym, ap, ◌∙◌}
use mathlib.Core.List.{List, [], ◌∷◌, ◌++◌, append-nil}
use Prim.Native.Nat.{ℕ, zero, suc, ◌+◌, ◌≤◌, ◌<◌, min}
use native.Mathlib.Numerals.{add-one}
use native.Mathlib.Omega.{arith}
use lib.ListN.{length, take, drop, set, replicate, length-take, drop_of_length-le}
use lib.Seq.{drop-cons, set_at, append_snoc}
use Rattle.rules.specs.Factor.{equality, up_from}
use Rattle.rules.proofs.Extremes.{length_equality}
use Rattle.factor.specs.Lent.{overlay, equality_in}
use Rattle.factor.proofs.Lent.{take_overlay}

up_snoc : (n i : ℕ) → up_from i (suc n) ≡ up_from i n ++ (i + n) ∷ []
unfolding up_from
up_snoc zero i =
    let e : i ≡ i + 0 = omega arith in
    ap (λ (x : ℕ). x ∷ []) e
up_snoc (suc n) i =
    let e : suc i + n ≡ i + suc n = omega arith in
    ap (λ (l : List ℕ). i ∷ l) (up_snoc n (suc i) ∙ ap (λ (x : ℕ). up_from (suc i) n ++ x ∷ []) e)

-- E on one plot more
equality_more : (n : ℕ) → equality (n + 1) ≡ equality n ++ (n + 1) ∷ []
unfolding equality
equality_more n =
    let e : n + 1 ≡ 1 + n = omega arith in
    ap equality (add-one n) ∙ up_snoc n 1 ∙ ap (λ (x : ℕ). up_from 1 n ++ x ∷ []) (sym e)

-- a store of the next number
pub equality_step : (out : List ℕ) (u : ℕ) → u < length out → set (overlay out (equality u)) u (u + 1) ≡ overlay out (equality (u + 1))
equality_step out u h =
    let l = length_equality u in
    let m = length_equality (u + 1) in
    ap (λ (k : ℕ). set (equality u ++ drop k out) u (u + 1)) l
    ∙ ap (λ (r : List ℕ). set (equality u ++ r) u (u + 1)) (drop-cons out u 0 h)
    ∙ set_at (equality u) _ (drop (suc u) out) (u + 1) u l
    ∙ sym (append_snoc (equality u) (u + 1) (drop (suc u) out))
    ∙ ap (λ (r : List ℕ). r ++ drop (suc u) out) (sym (equality_more u))
    ∙ ap (λ (k : ℕ). equality (u + 1) ++ drop k out) (sym (m ∙ add-one u))

-- the first m bytes are stored, and the rest is as it was
pub equality_filled : (out : List ℕ) (m : ℕ) (items : List ℕ) → items ≡ overlay (take m out) (equality m) → items ++ drop m out ≡ overlay out (equality m)
equality_filled out m items e =
    let l = length_equality m in
    let none : drop m (take m out) ≡ [] = drop_of_length-le (take m out) {i = m} (simp length-take (omega arith)) in
    rw (e, l, none, append-nil)

-- the numbers of the plots
pub equality_part : (n : ℕ) → n ≤ 240 → take n (equality_in n) ≡ equality n
equality_part n h =
    let e : min 240 n ≡ n = omega arith in
    ap (λ (k : ℕ). take n (overlay (replicate 240 0) (equality k))) e ∙ take_overlay (replicate 240 0) (equality n) n (length_equality n)
