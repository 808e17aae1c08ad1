-- Laws of the walk over the members that asks question 15 of each: its numbering, and its place after the one before.
-- Assumes nothing.
use mathlib.Core.Path.{◌≡◌, refl, ap, ap₂, ◌∙◌}
use mathlib.Core.Bool.{Bool, true, false, ◌&&◌, and-false}
use mathlib.Core.List.{List, []}
use Prim.Native.Nat.{ℕ, suc, ◌+◌, ◌-◌, ◌≤◌, ◌<◌}
use native.Mathlib.Numerals.{add-one}
use native.Mathlib.Omega.{arith}
use lib.ListN.{length, drop, get_or}
use Rattle.rules.specs.Factor.{Column, number, classes}
use Rattle.rules.specs.Family.{Family, alike, before, members_of, all_numbered, ordered}
use Rattle.rules.proofs.Buffer.{length_members, member_is}
use Rattle.rules.proofs.WellFormed.{numbered_on, numbered_here, numbered_end, ordered_on, ordered_here, ordered_last}
use Rattle.families.specs.Lent.{column_at, numbered_classes}
use Rattle.std.specs.Prelude.{Some, None}
use Rattle.families.proofs.Counted.{counted_not, counted_is}

module _ (n : ℕ) (few : n ≤ 240) (f : List ℕ) (long : 7680 ≤ length f) (size : ℕ) (most : size ≤ 32) where
  abbrev S : Family
  S = members_of n f size

  sized : length S ≡ size
  sized = length_members n few f size

  -- the members before member i are numbered and in order, and the last of them has k classes
  pub record Come (k i : ℕ) : Type 0 where
    pub last : k ≡ classes (column_at n f (i - 1))
    pub numbers : all_numbered S ≡ all_numbered (drop i S)
    pub order : ordered S ≡ ordered (drop (i - 1) S)

  module _ (i : ℕ) (h : i < size) where
    numbering_of : (b : Bool) → alike (number (column_at n f i)) (column_at n f i) ≡ b → alike (number (get_or S i [])) (get_or S i []) ≡ b
    numbering_of b e = ap (λ (F : Column). alike (number F) F) (member_is n few f size i h) ∙ e

    -- member i is not numbered
    pub come_unnumbered : all_numbered S ≡ all_numbered (drop i S) → numbered_classes (column_at n f i) ≡ None → all_numbered S && ordered S ≡ false
    come_unnumbered e c =
        let no = counted_not (column_at n f i) c in
        rw (e ∙ numbered_here S i (rw sized h) (numbering_of false no))

    -- it is
    numbers_on : (m : ℕ) → all_numbered S ≡ all_numbered (drop i S) → numbered_classes (column_at n f i) ≡ Some m → all_numbered S ≡ all_numbered (drop (i + 1) S)
    numbers_on m e c =
        let yes = (counted_is (column_at n f i) m c).0 in
        e ∙ rw add-one (numbered_on S i (rw sized h) (numbering_of true yes))

  -- the first member
  pub come_start : 0 < size → (m : ℕ) → numbered_classes (column_at n f 0) ≡ Some m → Come m 1
  come_start h m c = record { last = (counted_is (column_at n f 0) m c).1; numbers = numbers_on 0 h m refl c; order = refl }

  module _ (k i : ℕ) (come : Come k i) (some : 1 ≤ i) where
    module _ (h : i < size) where
      before_of : (b : Bool) → before (column_at n f (i - 1)) (column_at n f i) ≡ b → before (get_or S (i - 1) []) (get_or S (suc (i - 1)) []) ≡ b
      before_of b e =
          let s : suc (i - 1) ≡ i = omega arith in
          ap₂ before (member_is n few f size (i - 1) (omega arith)) (rw s (member_is n few f size i h)) ∙ e

      -- member i stands at its place
      pub come_on : (m : ℕ) → numbered_classes (column_at n f i) ≡ Some m → before (column_at n f (i - 1)) (column_at n f i) ≡ true → Come m (i + 1)
      come_on m c e =
          let s : i + 1 - 1 ≡ i = omega arith in
          let p : suc (i - 1) ≡ i = omega arith in
          record {
            last = rw s (counted_is (column_at n f i) m c).1;
            numbers = numbers_on i h m come.numbers c;
            order = rw s (come.order ∙ ordered_on S (i - 1) (rw sized (omega arith)) (before_of true e) ∙ rw p);
          }

      -- it does not
      pub come_misplaced : before (column_at n f (i - 1)) (column_at n f i) ≡ false → all_numbered S && ordered S ≡ false
      come_misplaced e = rw (come.order ∙ ordered_here S (i - 1) (rw sized (omega arith)) (before_of false e)) (and-false (all_numbered S))

    -- the walk has come to the end
    pub come_end : i ≡ size → all_numbered S && ordered S ≡ true
    come_end e = rw (come.numbers ∙ numbered_end S i (rw sized (omega arith)), come.order ∙ ordered_last S (i - 1) (rw sized (omega arith)))
