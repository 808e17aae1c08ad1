-- Lists written one after another into an array of zeros.
-- Assumes nothing.
use mathlib.Core.Path.{◌≡◌, sym, ap, ap₂, ◌∙◌}
use mathlib.Core.List.{List, [], ◌∷◌, ◌++◌, append-nil}
use Prim.Native.Nat.{ℕ, suc, ◌+◌}
use native.Mathlib.Omega.{arith}
use lib.IntN.{ℤ, pos}
use lib.ListN.{length, drop, replicate, length-append}
use lib.Seq.{paste, take_at, take_all, drop-append-add}

module _ {A : Type 0} where
  -- a list written after the first p elements
  pub paste_after : (P R S : List A) (p n : ℕ) → length P ≡ p → length S ≡ n → paste (P ++ R) p S n ≡ P ++ S ++ drop n R
  paste_after P R S p n hp hn =
      ap₂ (λ (x y : List A). x ++ y ++ drop (p + n) (P ++ R)) (take_at P R p hp) (take_all n S (omega arith))
      ∙ ap (λ (x : List A). P ++ S ++ x) (ap (λ (k : ℕ). drop (k + n) (P ++ R)) (sym hp) ∙ drop-append-add P R n)

-- one word and three lists of words
pub three : (f : ℕ) (a b c : List ℕ) → length a ≡ 32 → length b ≡ 32 → length c ≡ 32
    → paste (paste (paste (f ∷ replicate 96 0) 1 a 32) 33 b 32) 65 c 32 ≡ f ∷ a ++ b ++ c
three f a b c ha hb hc =
    ap (λ (x : List ℕ). paste (paste x 33 b 32) 65 c 32) (paste_after (f ∷ []) (replicate 96 0) a 1 32 (omega arith) ha)
    ∙ ap (λ (x : List ℕ). paste x 65 c 32) (paste_after (f ∷ a) (replicate 64 0) b 33 32 (ap suc ha) hb)
    ∙ paste_after (f ∷ a ++ b) (replicate 32 0) c 65 32 (length-append (f ∷ a) b ∙ omega arith) hc
    ∙ append-nil (f ∷ a ++ b ++ c)

-- two lists of signed numbers
pub two : (a b : List ℤ) → length a ≡ 32 → length b ≡ 32 → paste (paste (replicate 64 (pos 0)) 0 a 32) 32 b 32 ≡ a ++ b
two a b ha hb =
    ap (λ (x : List ℤ). paste x 32 b 32) (paste_after [] (replicate 64 (pos 0)) a 0 32 (omega arith) ha)
    ∙ paste_after a (replicate 32 (pos 0)) b 32 32 ha hb
    ∙ append-nil (a ++ b)

-- one list of signed numbers
pub one : (a : List ℤ) → length a ≡ 32 → paste (replicate 32 (pos 0)) 0 a 32 ≡ a
one a ha = paste_after [] (replicate 32 (pos 0)) a 0 32 (omega arith) ha ∙ append-nil a
