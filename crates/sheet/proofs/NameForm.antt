-- Laws of a name's and a column's form, byte by byte.
-- Assumes nothing.
use mathlib.Core.Path.{◌≡◌, refl}
use mathlib.Core.Bool.{false, ◌&&◌}
use mathlib.Core.List.{List, [], ◌∷◌}
use Prim.Native.Nat.{ℕ, suc, ◌-◌, ◌≤◌, ◌<◌}
use native.Mathlib.Nat.{not-suc-le-zero}
use native.Mathlib.Omega.{arith}
use lib.Dec.{eqb}
use lib.ListN.{length, get_or, take, drop}
use Rattle.rules.specs.Sheet.{all, within, letter, letter_or_digit, is_name, is_column}
use Rattle.sheet.specs.Walk.{is_mark}
use Rattle.sheet.proofs.FirstByte.{rest_taken}

-- ---- a name

pub name_none : (name : List ℕ) → length name < 1 → is_name name ≡ false
unfolding is_name
name_none [] h = refl
name_none (x ∷ xs) h = absurd (no h)
  where
    no : suc (length xs) < 1 → ⊥
    no h = omega arith

pub name_bytes : (name : List ℕ) → 1 ≤ length name
    → is_name name ≡ letter (get_or name 0 0) && within 1 11 (length (take (length name - 1) (drop 1 name))) && all letter_or_digit (take (length name - 1) (drop 1 name))
unfolding is_name
name_bytes [] h = absurd (not-suc-le-zero h)
name_bytes (x ∷ xs) h = rw (rest_taken 1 (x ∷ xs))

-- ---- a column

pub column_short : (f : List ℕ) → length f < 2 → is_column f ≡ false
unfolding is_column
column_short [] h = refl
column_short (x ∷ []) h = refl
column_short (x ∷ y ∷ ys) h = absurd (no h)
  where
    no : suc (suc (length ys)) < 2 → ⊥
    no h = omega arith

pub column_bytes : (f : List ℕ) → 2 ≤ length f
    → is_column f ≡ is_mark (get_or f 0 0) && eqb (get_or f 1 0) 58 && is_name (take (length f - 2) (drop 2 f))
unfolding is_column
column_bytes [] h = absurd (not-suc-le-zero h)
column_bytes (x ∷ []) h = absurd (no h)
  where
    no : 2 ≤ 1 → ⊥
    no h = omega arith
column_bytes (x ∷ y ∷ ys) h = rw (rest_taken 2 (x ∷ y ∷ ys))
