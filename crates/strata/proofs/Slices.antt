-- Laws of the first places of a list.
-- Assumes nothing.
use Rattle.std.proofs.Common.{◌≡◌, ℕ, ◌<◌, ◌≤◌, List, length, get_or, take, arith}
use Rattle.std.proofs.Math.ListN.{length-take}
use Rattle.std.proofs.Math.Seq.{get_or-take}

module _ {A : Type 0} (xs : List A) (n : ℕ) where
  -- there are as many
  pub taken_length : n ≤ length xs → length (take n xs) ≡ n
  taken_length h = simp length-take (omega arith)

  -- one of them
  pub record Taken (i : ℕ) (z : A) : Type 0 where
    pub less : i < n
    pub value : get_or (take n xs) i z ≡ get_or xs i z

  pub taken : (i : ℕ) (z : A) → i < length (take n xs) → Taken i z
  taken i z h = let l : i < n = omega (arith, simp length-take at h) in record { less = l; value = get_or-take n xs i z l }
