-- Laws of columns of points and plots: labels in range, and a column pasted in a store after others.
-- Assumes nothing.
use mathlib.Core.Path.{◌≡◌, sym, ap, ◌∙◌, subst}
use mathlib.Core.List.{List, [], ◌∷◌, ◌++◌}
use Prim.Native.Nat.{ℕ, suc, ◌+◌, ◌*◌, ◌≤◌, ◌<◌}
use native.Mathlib.Omega.{arith}
use lib.Dec.{eqb}
use lib.ListN.{length, get_or, take, get_or-append}
use lib.Seq.{paste, get_or-take, get_or_at}
use borrow.Author.Tests.{eqb-true, eqb-false}
use Rattle.rules.specs.Factor.{Column, at}
use Rattle.rules.specs.Family.{Family, members_of}
use Rattle.rules.proofs.Numbering.{by_cases}
use Rattle.rules.proofs.Buffer.{length_members, member_is}
use Rattle.design.specs.State.{column_at}
use Rattle.design.specs.Points.{Ranged}
use Rattle.design.proofs.Choosing.{members_paste}

-- the label of a plot's point is in range
pub in_range : (n : ℕ) (p : Column) → Ranged n (take n p) → (u : ℕ) → u < n → (0 < at p u) × (at p u ≤ 240)
in_range n p r u h = rw (get_or-take n p u 0 h) at (r.1 u h)

-- column F on n plots is pasted at place m of the buffer b
module _ (n : ℕ) (small : n ≤ 240) (b : List ℕ) (m : ℕ) (F : Column) (l : length F ≡ n) (fits : 240 * m + 240 ≤ length b) where
  abbrev S : Family
  S = members_of n b m

  abbrev after : List ℕ
  after = paste b (240 * m) F n

  column_of_lem : (k : ℕ) → k < suc m → column_at n after k ≡ get_or (S ++ F ∷ []) k []
  column_of_lem k h = sym (member_is n small after (suc m) k h) ∙ ap (λ (T : Family). get_or T k []) (members_paste n small b m F l fits)

  -- it stands there
  pub pasted_here : column_at n after m ≡ F
  pasted_here = column_of_lem m (omega arith) ∙ get_or_at S F [] [] m (length_members n small b m)

  -- the columns before it are as they were
  pub pasted_before : (k : ℕ) → k < m → column_at n after k ≡ column_at n b k
  pasted_before k h = column_of_lem k (omega arith) ∙ get_or-append S (F ∷ []) [] k (rw (length_members n small b m) h) ∙ member_is n small b m k h

  -- what holds of it at its place, and of those before it at theirs, holds of all
  pub pasted_each : (Q : ℕ → Column → Type 0) → Q m F → ((k : ℕ) → k < m → Q k (column_at n b k)) → (k : ℕ) → k < m + 1 → Q k (column_at n after k)
  pasted_each Q q all k h = by_cases (eqb k m) (λ e. subst (λ (i : ℕ). Q i (column_at n after i)) (sym (eqb-true k m e)) (subst (Q m) (sym pasted_here) q)) (λ e. let w : k < m = omega (arith, eqb-false k m e) in subst (Q k) (sym (pasted_before k w)) (all k w))

  -- it is the next of the columns that stand there
  pub pasted_more : (f : ℕ → Column) → F ≡ f m → ((k : ℕ) → k < m → column_at n b k ≡ f k) → (k : ℕ) → k < m + 1 → column_at n after k ≡ f k
  pasted_more f = pasted_each (λ (k : ℕ) (X : Column). X ≡ f k)
