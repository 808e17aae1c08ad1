-- Laws of members in a family buffer: what is written is what is read, and a member added at the end.
-- Assumes nothing.
use native.Mathlib.Nat.{zero-add, not-suc-le-zero, le_of_suc-le-suc, add-zero}
use mathlib.Core.Path.{◌≡◌, refl, sym, ap, ap₂, ◌∙◌, subst}
use mathlib.Core.List.Memᴰ
use mathlib.Core.List.{List, [], ◌∷◌, ◌++◌, append_assoc}
use Prim.Native.Nat.{ℕ, suc, ◌+◌, ◌*◌, ◌≤◌, zero, ◌<◌}
use native.Mathlib.Omega.{arith}
use lib.ListN.{length, take, drop, length-append, length-drop, get_or}
use lib.Seq.{take_at, drop_at, take-take, length-take-le, take-add}
use Rattle.rules.specs.Factor.{Column}
use Rattle.rules.specs.Family.{Family, ◌∈◌, columns_from, written, members_of}

part_of_take : {A : Type 0} (k n : ℕ) (l : List A) → k ≤ length l → take n (drop k l) ≡ drop k (take (k + n) l)
part_of_take k n l h = sym (ap (λ (x : List _). drop k x) (take-add k n l) ∙ drop_at (take k l) (take n (drop k l)) k (length-take-le k l h))

shorter : {A : Type 0} (k m : ℕ) (v w : List A) → k ≤ m → take m v ≡ take m w → take k v ≡ take k w
shorter k m v w h e = sym (take-take k m v h) ∙ ap (λ (x : List _). take k x) e ∙ take-take k m w h

part_agrees : {A : Type 0} (k n m : ℕ) (v w : List A) → k + n ≤ m → k ≤ length v → k ≤ length w → take m v ≡ take m w → take n (drop k v) ≡ take n (drop k w)
part_agrees k n m v w h hv hw e = part_of_take k n v hv ∙ ap (λ (x : List _). drop k x) (shorter (k + n) m v w h e) ∙ sym (part_of_take k n w hw)

module _ (n : ℕ) (small : n ≤ 240) where
  abbrev pub put : List ℕ → ℕ → Column → List ℕ
  put b i F = take (240 * i) b ++ F ++ drop (240 * i + length F) b

  pub length_put : (b : List ℕ) (i : ℕ) (F : Column) → length F ≡ n → 240 * i + 240 ≤ length b → length (put b i F) ≡ length b
  length_put b i F l h = simp (length-append, length-drop, length-take-le (240 * i) b (omega arith)) (omega arith)

  pub take_put : (b : List ℕ) (i : ℕ) (F : Column) → length F ≡ n → 240 * i + 240 ≤ length b → take (240 * i) (put b i F) ≡ take (240 * i) b
  take_put b i F l h = ap (λ (x : List ℕ). take (240 * i) x) (append_assoc (take (240 * i) b) F _) ∙ take_at (take (240 * i) b) _ (240 * i) (length-take-le (240 * i) b (omega arith))

  pub part_put : (b : List ℕ) (i : ℕ) (F : Column) → length F ≡ n → 240 * i + 240 ≤ length b → take n (drop (240 * i) (put b i F)) ≡ F
  part_put b i F l h =
      ap (λ (x : List ℕ). take n x) (ap (λ (x : List ℕ). drop (240 * i) x) (append_assoc (take (240 * i) b) F _) ∙ drop_at (take (240 * i) b) _ (240 * i) (length-take-le (240 * i) b (omega arith)))
      ∙ take_at F _ n l

  -- writing from place i on leaves what lies before
  written_before : (S : Family) (b : List ℕ) (i : ℕ) → ((F : Column) → F ∈ S → length F ≡ n) → 240 * (i + length S) ≤ length b → take (240 * i) (written b i S) ≡ take (240 * i) b
  unfolding written
  written_before [] b i on h = refl
  written_before (F ∷ S) b i on h =
      shorter (240 * i) (240 * suc i) _ _ (omega arith) (written_before S (put b i F) (suc i) (λ G m. on G (Memᴰ.tail m)) (rw (length_put b i F (on F (Memᴰ.head refl)) (omega arith)) (omega arith)))
      ∙ take_put b i F (on F (Memᴰ.head refl)) (omega arith)

  pub length_written : (S : Family) (b : List ℕ) (i : ℕ) → ((F : Column) → F ∈ S → length F ≡ n) → 240 * (i + length S) ≤ length b → length (written b i S) ≡ length b
  unfolding written
  length_written [] b i on h = refl
  length_written (F ∷ S) b i on h =
      length_written S (put b i F) (suc i) (λ G m. on G (Memᴰ.tail m)) (rw (length_put b i F (on F (Memᴰ.head refl)) (omega arith)) (omega arith))
      ∙ length_put b i F (on F (Memᴰ.head refl)) (omega arith)

  -- the members written are the members read
  pub written_members : (S : Family) (b : List ℕ) (i : ℕ) → ((F : Column) → F ∈ S → length F ≡ n) → 240 * (i + length S) ≤ length b → columns_from n (written b i S) i (length S) ≡ S
  unfolding written columns_from
  written_members [] b i on h = refl
  written_members (F ∷ S) b i on h = ap₂ (λ (x : Column) (l : Family). x ∷ l) member (written_members S (put b i F) (suc i) on' fits)
    where
      on' : (G : Column) → G ∈ S → length G ≡ n
      on' G m = on G (Memᴰ.tail m)

      len : length (put b i F) ≡ length b
      len = length_put b i F (on F (Memᴰ.head refl)) (omega arith)

      fits : 240 * (suc i + length S) ≤ length (put b i F)
      fits = rw len (omega arith)

      member : take n (drop (240 * i) (written (put b i F) (suc i) S)) ≡ F
      member =
          part_agrees (240 * i) n (240 * suc i) _ _ (omega arith) (rw (length_written S (put b i F) (suc i) on' fits, len) (omega arith)) (rw len (omega arith)) (written_before S (put b i F) (suc i) on' fits)
          ∙ part_put b i F (on F (Memᴰ.head refl)) (omega arith)

-- ---- one member

-- how many members are read
pub length_columns : (n : ℕ) (b : List ℕ) (i m : ℕ) → length (columns_from n b i m) ≡ m
unfolding columns_from
length_columns n b i zero = refl
length_columns n b i (suc m) = ap suc (length_columns n b (suc i) m)

suc_across : (a b : ℕ) → suc a + b ≡ a + suc b
suc_across a b = omega arith

-- the k-th column read
pub column_at_lem : (n : ℕ) (b : List ℕ) (i m k : ℕ) → k < m → get_or (columns_from n b i m) k [] ≡ take n (drop (240 * (i + k)) b)
unfolding columns_from
column_at_lem n b i zero k h = absurd (not-suc-le-zero h)
column_at_lem n b i (suc m) zero h = rw add-zero
column_at_lem n b i (suc m) (suc k) h = column_at_lem n b (suc i) m k (le_of_suc-le-suc h) ∙ ap (λ (x : ℕ). take n (drop (240 * x) b)) (suc_across i k)

-- one column more at the end
pub columns_snoc : (n : ℕ) (b : List ℕ) (i m : ℕ) → columns_from n b i (suc m) ≡ columns_from n b i m ++ take n (drop (240 * (i + m)) b) ∷ []
unfolding columns_from
columns_snoc n b i zero = rw add-zero
columns_snoc n b i (suc m) =
    ap (λ (l : Family). take n (drop (240 * i) b) ∷ l) (columns_snoc n b (suc i) m ∙ ap (λ (x : ℕ). columns_from n b (suc i) m ++ take n (drop (240 * x) b) ∷ []) (suc_across i m))

-- columns depend only on the bytes before their end
pub columns_agree : (n : ℕ) → n ≤ 240 → (v w : List ℕ) (i m : ℕ) → 240 * (i + m) ≤ length v → 240 * (i + m) ≤ length w → take (240 * (i + m)) v ≡ take (240 * (i + m)) w → columns_from n v i m ≡ columns_from n w i m
unfolding columns_from
columns_agree n small v w i zero hv hw e = refl
columns_agree n small v w i (suc m) hv hw e =
    ap₂ (λ (F : Column) (l : Family). F ∷ l) (part_agrees (240 * i) n (240 * (i + suc m)) v w (omega arith) (omega arith) (omega arith) e)
    (columns_agree n small v w (suc i) m (omega arith) (omega arith) (subst (λ (x : ℕ). take (240 * x) v ≡ take (240 * x) w) (sym (suc_across i m)) e))

module _ (n : ℕ) (small : n ≤ 240) (b : List ℕ) (m : ℕ) where
  pub length_members : length (members_of n b m) ≡ m
  unfolding members_of
  length_members = length_columns n b 0 m

  -- the member at place k, from 0
  pub member_is : (k : ℕ) → k < m → get_or (members_of n b m) k [] ≡ take n (drop (240 * k) b)
  unfolding members_of
  member_is k h = column_at_lem n b 0 m k h ∙ ap (λ (x : ℕ). take n (drop (240 * x) b)) (zero-add k)

  -- a member written after the last one
  pub members_add : (F : Column) → length F ≡ n → 240 * m + 240 ≤ length b → members_of n (put n small b m F) (suc m) ≡ members_of n b m ++ F ∷ []
  unfolding members_of
  members_add F l h =
      columns_snoc n (put n small b m F) 0 m
      ∙ ap₂ (λ (S : Family) (G : Column). S ++ G ∷ [])
      (columns_agree n small (put n small b m F) b 0 m (rw (length_put n small b m F l h) (omega arith)) (omega arith)
      (subst (λ (x : ℕ). take (240 * x) (put n small b m F) ≡ take (240 * x) b) (sym (zero-add m)) (take_put n small b m F l h)))
      (ap (λ (x : ℕ). take n (drop (240 * x) (put n small b m F))) (zero-add m) ∙ part_put n small b m F l h)
