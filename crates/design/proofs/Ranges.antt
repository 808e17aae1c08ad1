-- Whether a number is in a range of numbers, by the rules' tests.
-- Assumes nothing.
use Rattle.std.proofs.Common.{◌≡◌, ℕ, Bool, ◌&&◌, ap₂, ◌∙◌, arith}
use Rattle.std.specs.Ordering.{is_le, nat_cmp}
use Rattle.std.proofs.lemmas.Bool.Decides.{nat_tests}
use Rattle.std.proofs.Math.Dec.{leb, ltb}

is_le_leb : (a b : ℕ) → is_le (nat_cmp a b) ≡ leb a b
is_le_leb a b = grind (arith, nat_tests)

some_ltb : (n : ℕ) → leb 1 n ≡ ltb 0 n
some_ltb n = grind (arith, nat_tests)

-- at least 1 and at most b
pub in_range : (r : Bool) (b n : ℕ) → r ≡ is_le (nat_cmp 1 n) && is_le (nat_cmp n b) → r ≡ ltb 0 n && leb n b
in_range r b n e = e ∙ ap₂ (λ (p q : Bool). p && q) (is_le_leb 1 n ∙ some_ltb n) (is_le_leb n b)
