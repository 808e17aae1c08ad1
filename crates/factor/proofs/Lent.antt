-- Laws for callers: a column cut out of a table or a family, two columns of at most 240 plots looked at whole, and the numbers at the start
-- of the output array.
-- Assumes nothing.
use mathlib.Core.Path.{◌≡◌, sym, ap, ap₂, ◌∙◌}
use mathlib.Core.List.{List, []}
use Prim.Native.Nat.{ℕ, ◌+◌, ◌-◌, ◌*◌, ◌≤◌}
use native.Mathlib.Omega.{arith}
use lib.ListN.{length, take, drop, length-drop, drop_of_length-le}
use lib.Seq.{take_all, take_at, length-take-le, take-nil}
use Rattle.rules.specs.Factor.{Column, finer}
use Rattle.factor.specs.Lent.{column_at, common, on_common, test_common, overlay}

module _ (n i : ℕ) (b : List ℕ) where
  -- a part of n places that starts at column i
  pub part_of : take (240 * i + n - 240 * i) (drop (240 * i) b) ≡ column_at n b i
  part_of =
      let e : 240 * i + n - 240 * i ≡ n = omega arith in
      ap (λ (k : ℕ). take k (drop (240 * i) b)) e

  -- no part, past the end
  pub part_none : length b ≤ 240 * i → [] ≡ column_at n b i
  part_none h = sym (ap (λ (l : List ℕ). take n l) (drop_of_length-le b h) ∙ take-nil n)

  -- a column has n plots where there is room
  pub length_part : 240 * i + n ≤ length b → length (column_at n b i) ≡ n
  length_part h = length-take-le n (drop (240 * i) b) (simp length-drop (omega arith))

pub common_all : {A : Type 0} (op : Column → Column → A) (F G : Column) → length F ≡ length G → length F ≤ 240 → on_common op F G ≡ op F G
common_all op F G l h = ap₂ op (take_all (common F G) F (omega arith)) (take_all (common F G) G (omega arith))

-- a test of columns on n plots is of all these
pub test_all : {A : Type 0} (test : ℕ → Column → Column → A) (n : ℕ) (F G : Column) → length F ≡ n → length G ≡ n → n ≤ 240 → test_common test F G ≡ test n F G
test_all test n F G l_f l_g h =
    let e : common F G ≡ n = omega arith in
    ap (λ (m : ℕ). on_common (test m) F G) e ∙ common_all (test n) F G (l_f ∙ sym l_g) (omega arith)

-- a test of two columns that are lent as parts of buffers
pub test_parts : {A : Type 0} (test : ℕ → Column → Column → A) (n : ℕ) (b d : List ℕ) (i j : ℕ) → n ≤ 240 → 240 * i + n ≤ length b → 240 * j + n ≤ length d
    → (X Y : Column) → X ≡ column_at n b i → Y ≡ column_at n d j → test_common test X Y ≡ test n (column_at n b i) (column_at n d j)
test_parts test n b d i j h hb hd X Y eX eY =
    ap₂ (test_common test) eX eY ∙ test_all test n (column_at n b i) (column_at n d j) (length_part n i b hb) (length_part n j d hd) h

pub finer_common : (n : ℕ) (F G : Column) → n ≤ 240 → length F ≡ n → length G ≡ n → test_common finer F G ≡ finer n F G
finer_common n F G h l_f l_g = test_all finer n F G l_f l_g h

pub take_overlay : (out : List ℕ) (X : Column) (n : ℕ) → length X ≡ n → take n (overlay out X) ≡ X
take_overlay out X n l = take_at X (drop (length X) out) n l
