-- Laws of the question on one column, classes of one size; and members that are numbered.
-- Assumes nothing.
use mathlib.Core.Path.{◌≡◌, sym, ap, ◌∙◌, subst}
use mathlib.Core.List.{List}
use Prim.Native.Nat.{ℕ, ◌-◌, ◌≤◌}
use native.Mathlib.Nat.{sub-zero}
use native.Mathlib.Omega.{arith}
use lib.ListN.{length}
use lib.Seq.{take_all}
use Rattle.rules.specs.Factor.{Column, number, uniform}
use Rattle.rules.specs.Family.{members_of}
use Rattle.rules.specs.Design.{first_failing}
use Rattle.rules.specs.Relation.{member_at}
use Rattle.rules.proofs.Buffer.{length_members, member_is}
use Rattle.rules.proofs.Made.{WellMade}
use Rattle.rules.proofs.WorkList.{member_in}
use Rattle.factor.specs.Lent.{column_at, plots_of}
use Rattle.design.specs.Search.{first_from}
use Rattle.design.specs.Treatments.{Numbered}
use Rattle.design.proofs.Search.{failing_found}

-- ---- classes of one size

-- the test of a column that a slice lends
pub uniform_part : (n : ℕ) (F : Column) → n ≤ 240 → length F ≡ n → uniform (length (plots_of F)) (plots_of F) ≡ uniform n F
uniform_part n F s h = ap (λ (X : Column). uniform (length X) X) (take_all 240 F (omega arith)) ∙ ap (λ (k : ℕ). uniform k F) h

-- the search of the first member whose classes have not one size
pub unequal_start : (n : ℕ) (l : List ℕ) (size : ℕ) → n ≤ 240 → first_failing (uniform n) 1 (members_of n l size) ≡ first_from (λ k. uniform n (column_at n l k)) 0 (size - 0)
unequal_start n l size s =
    let len = length_members n s l size in
    sym (
    ap (first_from (λ k. uniform n (column_at n l k)) 0) (sub-zero size ∙ sym len)
    ∙ failing_found (λ k. uniform n (column_at n l k)) (uniform n) (members_of n l size) (λ k h. ap (uniform n) (sym (member_is n s l size k (rw len at h)))))

-- ---- numbered members

-- the members of a family in memory, numbered
pub numbered_made : (n : ℕ) → n ≤ 240 → (b : List ℕ) (size : ℕ) → 7680 ≤ length b → size ≤ 32 → WellMade n (members_of n b size) → Numbered n b size
numbered_made n small b size room few made = record {
  room = room;
  few = few;
  numbered = λ i h.
      let is = member_is n small b size i h in
      subst (λ (F : Column). number F ≡ F) is (made.numbered (member_at (members_of n b size) i) (member_in (members_of n b size) i (rw (length_members n small b size) h)));
}
