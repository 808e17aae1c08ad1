-- Whether a number is in a range of numbers, by the rules' tests.
-- Assumes nothing.
use Rattle.std.proofs.Common.{◌≡◌, ℕ, Bool, ◌&&◌, ap₂, ◌∙◌, arith}
use Rattle.std.specs.Ordering.{is_le, nat_cmp}
use Rattle.std.proofs.lemmas.Bool.Decides.{nat_tests}
use Rattle.std.proofs.Math.Dec.{leb}

pub is_le_leb : (a b : ℕ) → is_le (nat_cmp a b) ≡ leb a b
is_le_leb a b = grind (arith, nat_tests)

-- at least a and at most b
pub in_range : (r : Bool) (a b n : ℕ) → r ≡ is_le (nat_cmp a n) && is_le (nat_cmp n b) → r ≡ leb a n && leb n b
in_range r a b n e = e ∙ ap₂ (λ (p q : Bool). p && q) (is_le_leb a n) (is_le_leb n b)
