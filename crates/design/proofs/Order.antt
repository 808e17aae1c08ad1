-- Laws of members put in order: a place among those in order, and entries that are shifted for it.
-- Assumes nothing.
use Rattle.rules.specs.Factor.{Column}
use Rattle.rules.specs.Family.{Family, ◌∈◌, Distinct, apart, before, insert, insert_all, members_of, written}
use Rattle.rules.specs.Relation.{member_at}
use Rattle.rules.proofs.WorkList.{member_in}
use Rattle.rules.proofs.Columns.{unlike}
use Rattle.rules.proofs.Members.{insert_before, insert_after, insert_all_only}
use Rattle.rules.proofs.Buffer.{length_members, member_is}
use mathlib.Core.Path.{◌≡◌, refl, sym, ap, ap₂, ◌∙◌}
use mathlib.Core.Logic.{◌⊎◌, inl, inr}
use mathlib.Core.Bool.{true, false}
use mathlib.Core.List.Memᴰ
use mathlib.Core.List.{List, [], ◌∷◌, ◌++◌, map, append_assoc}
use Prim.Native.Nat.{ℕ, zero, suc, ◌+◌, ◌*◌, ◌-◌, ◌≤◌, ◌<◌, zero-le, suc-le-suc}
use native.Mathlib.Nat.{not-suc-le-zero, le_of_suc-le-suc, le_of_lt, le_of_eq, lt_of_lt_of_le, sub-zero, zero-add, add-zero}
use native.Mathlib.Numerals.{add-one}
use native.Mathlib.Omega.{arith}
use lib.ListN.{length, get_or, take, drop, set, length-drop, length-append, get_or-append, take-append-drop}
use lib.Seq.{take-suc, drop-cons, append_snoc, set_at, length-take-le, get_or-take, take_at, take-take, take_all, paste}
use Rattle.design.specs.State.{column_at, Held, RankOf, Sorted}

-- ---- entries shifted to make room

module _ (o : List ℕ) (i : ℕ) where
  -- the entries from place k on, below i, stand one further
  abbrev pub shifted : ℕ → List ℕ
  shifted k = take (suc k) o ++ (take (i - k) (drop k o) ++ drop (suc i) o)

  pub shift_start : o ≡ shifted i
  shift_start =
      let e : i - i ≡ 0 = omega arith in
      rw e (sym (take-append-drop (suc i) o))

  -- the entry at k is stored anew
  shift_set : i < length o → (k x : ℕ) → k ≤ i → set (shifted k) k x ≡ take k o ++ x ∷ (take (i - k) (drop k o) ++ drop (suc i) o)
  shift_set h k x l =
      let b : k < length o = omega arith in
      let T : List ℕ = take (i - k) (drop k o) ++ drop (suc i) o in
      ap (λ (s : List ℕ). set s k x) (ap (λ (s : List ℕ). s ++ T) (take-suc o k 0 b) ∙ append_snoc (take k o) (get_or o k 0) T)
      ∙ set_at (take k o) (get_or o k 0) T x k (length-take-le k o (omega arith))

  shift_get : i < length o → (m : ℕ) → suc m ≤ i → get_or (shifted (suc m)) m 0 ≡ get_or o m 0
  shift_get h m l =
      let len : length (take (suc (suc m)) o) ≡ suc (suc m) = length-take-le (suc (suc m)) o (omega arith) in
      get_or-append (take (suc (suc m)) o) (take (i - suc m) (drop (suc m) o) ++ drop (suc i) o) 0 m (omega arith)
      ∙ get_or-take (suc (suc m)) o m 0 (omega arith)

  shift_next : i < length o → (m : ℕ) → suc m ≤ i → take (suc m) o ++ get_or o m 0 ∷ (take (i - suc m) (drop (suc m) o) ++ drop (suc i) o) ≡ shifted m
  shift_next h m l =
      let e : i - m ≡ suc (i - suc m) = omega arith in
      let b : m < length o = omega arith in
      sym (ap (λ (s : List ℕ). take (suc m) o ++ (s ++ drop (suc i) o)) (ap (λ (k : ℕ). take k (drop m o)) e ∙ ap (take (suc (i - suc m))) (drop-cons o m 0 b)))

  -- a turn: the entry before k goes to k
  pub shift_turn : i < length o → (k : ℕ) → 0 < k → k ≤ i → set (shifted k) k (get_or (shifted k) (k - 1) 0) ≡ shifted (k - 1)
  shift_turn h zero z l = absurd (not-suc-le-zero z)
  shift_turn h (suc m) z l =
      let e : suc m - 1 ≡ m = omega arith in
      ap (λ (x : ℕ). set (shifted (suc m)) (suc m) (get_or (shifted (suc m)) x 0)) e
      ∙ ap (set (shifted (suc m)) (suc m)) (shift_get h m l)
      ∙ shift_set h (suc m) (get_or o m 0) l
      ∙ shift_next h m l
      ∙ ap shifted (sym e)

  -- the new entry
  pub shift_end : i < length o → (p x : ℕ) → p ≤ i → set (shifted p) p x ≡ take p o ++ x ∷ take (i - p) (drop p o) ++ drop (i + 1) o
  shift_end h p x l =
      shift_set h p x l
      ∙ sym (append_assoc (take p o) (x ∷ take (i - p) (drop p o)) (drop (suc i) o))
      ∙ ap (λ (k : ℕ). take p o ++ x ∷ take (i - p) (drop p o) ++ drop k o) (sym (add-one i))

-- the first i + 1 entries once i is put at place r
pub take_put : (o : List ℕ) (i r : ℕ) → r ≤ i → i < length o → take (i + 1) (take r o ++ i ∷ take (i - r) (drop r o) ++ drop (i + 1) o) ≡ take r (take i o) ++ i ∷ drop r (take i o)
take_put o i r l h =
    let a : length (take r o) ≡ r = length-take-le r o (omega arith) in
    let b : length (take (i - r) (drop r o)) ≡ i - r = length-take-le (i - r) (drop r o) (simp length-drop (omega arith)) in
    take_at (take r o ++ i ∷ take (i - r) (drop r o)) (drop (i + 1) o) (i + 1) (simp length-append (omega arith))
    ∙ ap₂ (λ (x y : List ℕ). x ++ i ∷ y) (sym (take-take r i o l)) (part_back r i o l h)
  where
    part_back : (r i : ℕ) (o : List ℕ) → r ≤ i → i < length o → take (i - r) (drop r o) ≡ drop r (take i o)
    part_back zero i o l h = ap (λ (k : ℕ). take k o) (sub-zero i)
    part_back (suc r) i [] l h = absurd (not-suc-le-zero h)
    part_back (suc r) zero (x ∷ o) l h = absurd (not-suc-le-zero l)
    part_back (suc r) (suc i) (x ∷ o) l h =
        let e : suc i - suc r ≡ i - r = omega arith in
        ap (λ (k : ℕ). take k (drop r o)) e ∙ part_back r i o (le_of_suc-le-suc l) (le_of_suc-le-suc h)

pub length_put : (o : List ℕ) (i r : ℕ) → r ≤ i → i < length o → length (take r o ++ i ∷ take (i - r) (drop r o) ++ drop (i + 1) o) ≡ length o
length_put o i r l h =
    let a : length (take r o) ≡ r = length-take-le r o (omega arith) in
    let b : length (take (i - r) (drop r o)) ≡ i - r = length-take-le (i - r) (drop r o) (simp length-drop (omega arith)) in
    simp (length-append, length-drop) (omega arith)

-- entries below m, with m among them, are below m + 1
pub entries_below : (M : List ℕ) (r m : ℕ) → r ≤ length M → ((p : ℕ) → p < length M → get_or M p 0 < m) → (p : ℕ) → p < suc (length M) → get_or (take r M ++ m ∷ drop r M) p 0 < suc m
entries_below M zero m l h zero k = omega arith
entries_below M zero m l h (suc p) k = le_of_lt (suc-le-suc (h p (le_of_suc-le-suc k)))
entries_below [] (suc r) m l h p k = absurd (not-suc-le-zero l)
entries_below (x ∷ M) (suc r) m l h zero k = le_of_lt (suc-le-suc (h 0 (suc-le-suc zero-le)))
entries_below (x ∷ M) (suc r) m l h (suc p) k = entries_below M r m (le_of_suc-le-suc l) (λ q j. h (suc q) (suc-le-suc j)) p (le_of_suc-le-suc k)

-- ---- a member put at its place

-- F stands before none of the first r members, which are not F, and before the next
pub insert_rank : (F : Column) (T : Family) (r : ℕ) → r ≤ length T → (F ∈ T → ⊥) → ((p : ℕ) → p < r → before F (member_at T p) ≡ false) → (r < length T → before F (member_at T r) ≡ true)
    → insert F T ≡ take r T ++ F ∷ drop r T
unfolding insert
insert_rank F [] zero l n f g = refl
insert_rank F [] (suc r) l n f g = absurd (not-suc-le-zero l)
insert_rank F (G ∷ T) zero l n f g = insert_before F G T (unlike F G (λ e. n (Memᴰ.head e))) (g (suc-le-suc zero-le))
insert_rank F (G ∷ T) (suc r) l n f g =
    insert_after F G T (unlike F G (λ e. n (Memᴰ.head e))) (f 0 (suc-le-suc zero-le))
    ∙ ap (λ (S : Family). G ∷ S) (insert_rank F T r (le_of_suc-le-suc l) (λ m. n (Memᴰ.tail m)) (λ p k. f (suc p) (suc-le-suc k)) (λ k. g (suc-le-suc k)))

pub insert_all_snoc : (As : List Column) (F : Column) (S : Family) → insert_all (As ++ F ∷ []) S ≡ insert F (insert_all As S)
unfolding insert_all
insert_all_snoc [] F S = refl
insert_all_snoc (A ∷ As) F S = insert_all_snoc As F (insert A S)

-- ---- members by their places

distinct_head : {F : Column} {S : Family} → Distinct (F ∷ S) → F ∈ S → ⊥
distinct_head (apart h d) = h

distinct_tail : {F : Column} {S : Family} → Distinct (F ∷ S) → Distinct S
distinct_tail (apart h d) = d

-- a member is not among those before it
pub not_before : (S : Family) → Distinct S → (i : ℕ) → i < length S → member_at S i ∈ take i S → ⊥
not_before [] d i h m = absurd (not-suc-le-zero h)
not_before (F ∷ S) d zero h m = Memᴰ.not-nil m
not_before (F ∷ S) d (suc i) h m = go (not_before S (distinct_tail d) i (le_of_suc-le-suc h)) (Memᴰ.cases_cons m)
  where
    go : (member_at S i ∈ take i S → ⊥) → (member_at S i ≡ F) ⊎ (member_at S i ∈ take i S) → ⊥
    go below (inl e) = distinct_head d (Memᴰ.cast (sym e) (member_in S i (le_of_suc-le-suc h)))
    go below (inr k) = below k

module _ (f : ℕ → Column) where
  map_at : (l : List ℕ) (p : ℕ) → p < length l → member_at (map f l) p ≡ f (get_or l p 0)
  map_at [] p h = absurd (not-suc-le-zero h)
  map_at (x ∷ l) zero h = refl
  map_at (x ∷ l) (suc p) h = map_at l p (le_of_suc-le-suc h)

  map_put : (M : List ℕ) (r m : ℕ) → map f (take r M ++ m ∷ drop r M) ≡ take r (map f M) ++ f m ∷ drop r (map f M)
  map_put M zero m = refl
  map_put [] (suc r) m = refl
  map_put (x ∷ M) (suc r) m = ap (λ (S : Family). f x ∷ S) (map_put M r m)

  length_of_map : (l : List ℕ) → length (map f l) ≡ length l
  length_of_map [] = refl
  length_of_map (x ∷ l) = ap suc (length_of_map l)

  map_snoc : (l : List ℕ) (x : ℕ) → map f (l ++ x ∷ []) ≡ map f l ++ f x ∷ []
  map_snoc [] x = refl
  map_snoc (y ∷ l) x = ap (λ (S : Family). f y ∷ S) (map_snoc l x)

-- maps that agree below m, over entries below m
pub map_agrees : (f g : ℕ → Column) (l : List ℕ) (m : ℕ) → ((p : ℕ) → p < length l → get_or l p 0 < m) → ((k : ℕ) → k < m → f k ≡ g k) → map f l ≡ map g l
map_agrees f g [] m h e = refl
map_agrees f g (x ∷ l) m h e = ap₂ (λ (F : Column) (S : Family). F ∷ S) (e x (h 0 (suc-le-suc zero-le))) (map_agrees f g l m (λ p k. h (suc p) (suc-le-suc k)) e)

-- ---- sorting

-- fewer members are held too
pub held_less : (n : ℕ) (store counts : List ℕ) (size k : ℕ) → k ≤ size → Held n store counts size → Held n store counts k
held_less n store counts size k l h = record {
  some = h.some;
  most = h.most;
  room = h.room;
  places = h.places;
  few = omega (arith, h.few);
  counted = λ i m. h.counted i (omega arith);
}

-- the first i entries put the first i members in order
pub record SortedTo (n : ℕ) (store : List ℕ) (size : ℕ) (order : List ℕ) (i : ℕ) : Type 0 where
  pub entries : length order ≡ 32
  pub below : (p : ℕ) → p < i → get_or order p 0 < i
  pub members : map (λ (k : ℕ). member_at (members_of n store size) k) (take i order) ≡ insert_all (take i (members_of n store size)) []

pub sorted_start : (n : ℕ) (store : List ℕ) (size : ℕ) (order : List ℕ) → length order ≡ 32 → SortedTo n store size order 0
unfolding insert_all
sorted_start n store size order e = record { entries = e; below = λ p h. absurd (not-suc-le-zero h); members = refl }

module _ (n : ℕ) (small : n ≤ 240) (store : List ℕ) (size : ℕ) where
  -- a member more
  pub sorted_turn : size ≤ 32 → Distinct (members_of n store size) → (order : List ℕ) (i r : ℕ) → i < size → SortedTo n store size order i → RankOf n store order (column_at n store i) i r
      → SortedTo n store size (take r order ++ i ∷ take (i - r) (drop r order) ++ drop (i + 1) order) (i + 1)
  sorted_turn few distinct order i r h w rank = record { entries = length_put order i r rank.most fits ∙ w.entries; below = smaller_entries; members = inserted }
    where
      S : Family
      S = members_of n store size

      f : ℕ → Column
      f k = member_at (members_of n store size) k

      T : Family
      T = map (λ (k : ℕ). member_at (members_of n store size) k) (take i order)

      fits : i < length order
      fits = omega (arith, w.entries)

      first : length (take i order) ≡ i
      first = length-take-le i order (le_of_lt fits)

      size_t : length T ≡ i
      size_t = length_of_map f (take i order) ∙ first

      is : (k : ℕ) → k < size → f k ≡ column_at n store k
      is k l = member_is n small store size k l

      at : (p : ℕ) → p < i → member_at T p ≡ column_at n store (get_or order p 0)
      at p l =
          map_at f (take i order) p (rw first l)
          ∙ ap f (get_or-take i order p 0 l)
          ∙ is (get_or order p 0) (omega (arith, w.below p l))

      absent : f i ∈ T → ⊥
      absent m = go (insert_all_only (take i S) [] (f i) (rw w.members at m))
        where
          go : (f i ∈ take i S) ⊎ (f i ∈ []) → ⊥
          go (inl k) = not_before S distinct i (rw (length_members n small store size) h) k
          go (inr k) = Memᴰ.not-nil k

      inserted : map f (take (i + 1) (take r order ++ i ∷ take (i - r) (drop r order) ++ drop (i + 1) order)) ≡ insert_all (take (i + 1) S) []
      inserted =
          ap (map f) (take_put order i r rank.most fits)
          ∙ map_put f (take i order) r i
          ∙ sym (insert_rank (f i) T r (rw size_t rank.most) absent
          (λ p l. ap₂ before (is i h) (at p (lt_of_lt_of_le l rank.most)) ∙ rank.passed p l)
          (λ l. ap₂ before (is i h) (at r (rw size_t at l)) ∙ rank.stops (rw size_t at l)))
          ∙ ap (insert (f i)) w.members
          ∙ sym (insert_all_snoc (take i S) (f i) [])
          ∙ ap (λ (X : Family). insert_all X []) (sym (take-suc S i [] (rw (length_members n small store size) h)))
          ∙ ap (λ (k : ℕ). insert_all (take k S) []) (sym (add-one i))

      smaller_entries : (p : ℕ) → p < i + 1 → get_or (take r order ++ i ∷ take (i - r) (drop r order) ++ drop (i + 1) order) p 0 < i + 1
      smaller_entries p l =
          let a : get_or (take r order ++ i ∷ take (i - r) (drop r order) ++ drop (i + 1) order) p 0 ≡ get_or (take r (take i order) ++ i ∷ drop r (take i order)) p 0 =
          sym (get_or-take (i + 1) (take r order ++ i ∷ take (i - r) (drop r order) ++ drop (i + 1) order) p 0 l)
          ∙ ap (λ (x : List ℕ). get_or x p 0) (take_put order i r rank.most fits) in
          let b = entries_below (take i order) r i (rw first rank.most) (λ q k. rw (get_or-take i order q 0 (rw first at k)) (w.below q (rw first at k))) p (rw first (omega arith)) in
          omega arith

  -- all members
  pub sorted_end : (order : List ℕ) → SortedTo n store size order size → Sorted (members_of n store size) order
  sorted_end order w =
      let l = length_members n small store size in
      record {
        entries = w.entries;
        places = λ i h. rw l (w.below i (rw l at h));
        members =
            ap (λ (k : ℕ). map (λ (k : ℕ). member_at (members_of n store size) k) (take k order)) l
            ∙ w.members
            ∙ ap (λ (X : Family). insert_all X []) (take_all size (members_of n store size) (le_of_eq l));
      }

  -- the columns in their order
  pub sorted_columns : (order : List ℕ) → size ≤ 32 → Sorted (members_of n store size) order → map (λ (i : ℕ). column_at n store i) (take size order) ≡ insert_all (members_of n store size) []
  sorted_columns order few w =
      let l = length_members n small store size in
      let first : length (take size order) ≡ size = length-take-le size order (omega (arith, w.entries)) in
      map_agrees (λ (i : ℕ). column_at n store i) (λ (i : ℕ). member_at (members_of n store size) i) (take size order) size
      (λ p h. rw (get_or-take size order p 0 (rw first at h)) (rw l at (w.places p (rw l (rw first at h)))))
      (λ k h. sym (member_is n small store size k h))
      ∙ ap (λ (k : ℕ). map (λ (i : ℕ). member_at (members_of n store size) i) (take k order)) (sym l)
      ∙ w.members

-- ---- writing

-- a member written after the last one
pub written_snoc : (b : List ℕ) (k : ℕ) (As : Family) (F : Column) → written b k (As ++ F ∷ []) ≡ take (240 * (k + length As)) (written b k As) ++ F ++ drop (240 * (k + length As) + length F) (written b k As)
unfolding written
written_snoc b k [] F = ap (λ (j : ℕ). take (240 * j) b ++ F ++ drop (240 * j + length F) b) (sym (add-zero k))
written_snoc b k (A ∷ As) F =
    let e : suc k + length As ≡ k + suc (length As) = omega arith in
    let c : List ℕ = written (take (240 * k) b ++ A ++ drop (240 * k + length A) b) (suc k) As in
    written_snoc (take (240 * k) b ++ A ++ drop (240 * k + length A) b) (suc k) As F
    ∙ ap (λ (j : ℕ). take (240 * j) c ++ F ++ drop (240 * j + length F) c) e

-- the member at place p of the order is written after those before it
pub write_turn : (n : ℕ) (store order b : List ℕ) (p : ℕ) → p < length order → length (column_at n store (get_or order p 0)) ≡ n
    → paste (written b 0 (map (λ (i : ℕ). column_at n store i) (take p order))) (240 * p) (column_at n store (get_or order p 0)) n ≡ written b 0 (map (λ (i : ℕ). column_at n store i) (take (p + 1) order))
write_turn n store order b p h len =
    let f : ℕ → Column = λ i. column_at n store i in
    let F : Column = f (get_or order p 0) in
    let As : Family = map f (take p order) in
    let c : List ℕ = written b 0 As in
    let count : 0 + length As ≡ p = zero-add (length As) ∙ length_of_map f (take p order) ∙ length-take-le p order (le_of_lt h) in
    let more : map f (take (p + 1) order) ≡ As ++ F ∷ [] = ap (λ (k : ℕ). map f (take k order)) (add-one p) ∙ ap (map f) (take-suc order p 0 h) ∙ map_snoc f (take p order) (get_or order p 0) in
    sym (
    ap (written b 0) more
    ∙ written_snoc b 0 As F
    ∙ ap₂ (λ (j m : ℕ). take (240 * j) c ++ F ++ drop (240 * j + m) c) count len
    ∙ ap (λ (G : Column). take (240 * p) c ++ G ++ drop (240 * p + n) c) (sym (take_all n F (le_of_eq len))))
