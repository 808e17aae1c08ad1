-- Laws of a family in lent memory: its members, what question 6 tells of it, and question 15 part by part.
-- Assumes nothing.
use mathlib.Core.Path.{◌≡◌}
use mathlib.Core.Bool.{true, ◌&&◌}
use mathlib.Core.List.{List}
use Prim.Native.Nat.{ℕ, ◌≤◌, ◌<◌}
use native.Mathlib.Omega.{arith}
use lib.Dec.{ltb, leb}
use lib.ListN.{length}
use borrow.Author.Tests.{leb-true, le-leb}
use Rattle.rules.specs.Family.{members_of, all_numbered, ordered, well_formed}
use Rattle.rules.specs.Design.{plots_within}
use Rattle.rules.proofs.Buffer.{length_members}
use Rattle.rules.proofs.Sheet.{and_left, and_right}
pub use Rattle.factor.proofs.Lent.{part_of}
use Rattle.factor.proofs.Lent.{length_part}
use Rattle.families.specs.Lent.{column_at, formed_in}

pub length_column : (n i : ℕ) (b : List ℕ) → n ≤ 240 → i < 32 → 7680 ≤ length b → length (column_at n b i) ≡ n
length_column n i b hn hi hb = length_part n i b (omega arith)

-- question 15, part by part
pub formed_parts : (n : ℕ) → n ≤ 240 → (b : List ℕ) (size : ℕ)
    → well_formed (members_of n b size) ≡ ltb 0 size && leb size 32 && all_numbered (members_of n b size) && ordered (members_of n b size)
unfolding well_formed
formed_parts n h b size = rw (length_members n h b size)

-- within limits the entry's answer is question 15's
pub formed_in_lem : (n : ℕ) (b : List ℕ) (size : ℕ) → n ≤ 240 → 7680 ≤ length b → formed_in n b size ≡ well_formed (members_of n b size)
unfolding formed_in
formed_in_lem n b size h l = rw (le-leb n 240 h, le-leb 7680 (length b) l)

-- ---- what question 6 tells of one family

pub record Within (n bytes : ℕ) : Type 0 where
  pub few_plots : n ≤ 240
  pub long : 7680 ≤ bytes

pub within_limits_lem : (n bytes : ℕ) → plots_within n && leb 7680 bytes ≡ true → Within n bytes
unfolding plots_within
within_limits_lem n bytes e =
    let plots = and_left (ltb 0 n && leb n 240) (leb 7680 bytes) e in
    record {
      few_plots = leb-true n 240 (and_right (ltb 0 n) (leb n 240) plots);
      long = leb-true 7680 bytes (and_right (ltb 0 n && leb n 240) (leb 7680 bytes) e);
    }
