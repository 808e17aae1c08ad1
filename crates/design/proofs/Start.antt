-- Laws of the columns that a family starts from: each is placed in turn, and none twice.
-- Assumes nothing.
use Rattle.std.specs.Prelude.{Option, None, Some, MatchOption}
use mathlib.Core.Path.{◌≡◌, refl, sym, ap, ◌∙◌, subst}
use mathlib.Core.Logic.{◌⊎◌, inl, inr}
use mathlib.Core.List.Memᴰ
use mathlib.Core.List.{List, [], ◌∷◌, ◌++◌, map, map-append}
use Prim.Native.Nat.{ℕ, zero, suc, ◌+◌, ◌≤◌, ◌<◌}
use native.Mathlib.Nat.{not-suc-le-zero, le_of_suc-le-suc, zero-add}
use native.Mathlib.Numerals.{add-one}
use native.Mathlib.Omega.{arith}
use lib.ListN.{length, take, replicate, length-append, length-map}
use Rattle.rules.specs.Factor.{Column, number, universal, equality}
use Rattle.rules.specs.Family.{Family, ◌∈◌, Distinct, none_left, columns_from, members_of}
use Rattle.rules.specs.Closing.{plot_generators}
use Rattle.rules.proofs.WorkList.{member_in, distinct_more}
use Rattle.rules.proofs.Buffer.{length_columns, columns_snoc, length_members}
use Rattle.design.specs.State.{column_at, Held, PlacedMember, old, new, NoRoom, grown_to, Begun}
use Rattle.design.proofs.Placing.{grown_new, grown_old}

-- ---- placing

module _ (n : ℕ) (store counts : List ℕ) (size : ℕ) (h : Held n store counts size) (less : size < 32) (F : Column) where
  abbrev S : Family
  S = members_of n store size

  ends : length S ≡ size
  ends = length_members n h.most store size

  -- the store after F is placed among S: its members are those of S, and F
  pub record After (r : ℕ) (after counts' : List ℕ) : Type 0 where
    pub family : Family
    pub held : Held n after counts' (grown_to size r)
    pub members : members_of n after (grown_to size r) ≡ family
    pub most : grown_to size r ≤ size + 1
    pub distinct : Distinct S → Distinct family
    pub only : (G : Column) → G ∈ family → (G ∈ S) ⊎ (G ≡ F)
    pub stays : (G : Column) → G ∈ S → G ∈ family
    pub placed : F ∈ family

  -- what placing answers, where there is room
  pub after_placed : (r : ℕ) (after counts' : List ℕ) → PlacedMember n S F r after counts' → After r after counts'
  after_placed r after counts' (old l m k e) =
      let g : grown_to size r ≡ length S = grown_old size r (λ q. omega (arith, ends)) ∙ sym ends in
      record {
        family = S;
        held = rw g k;
        members = ap (members_of n after) g ∙ e;
        most = omega (arith, ends);
        distinct = λ d. d;
        only = λ G i. inl i;
        stays = λ G i. i;
        placed = Memᴰ.cast (sym m) (member_in S r l);
      }
  after_placed r after counts' (new e l m k q) =
      let g : grown_to size r ≡ suc r = grown_new size r (e ∙ ends) ∙ omega (arith, ends) in
      record {
        family = S ++ F ∷ [];
        held = rw g k;
        members = ap (members_of n after) g ∙ q;
        most = omega (arith, ends);
        distinct = λ d. distinct_more d m;
        only = λ G i. last G (Memᴰ.append_cases S i);
        stays = λ G i. Memᴰ.append_left _ i;
        placed = Memᴰ.append_right S (Memᴰ.head refl);
      }
    where
      last : (G : Column) → (G ∈ S) ⊎ (G ∈ F ∷ []) → (G ∈ S) ⊎ (G ≡ F)
      last G (inl i) = inl i
      last G (inr i) = inr (Memᴰ.eq_of_singleton i)

-- no member yet
pub held_none : (n : ℕ) (store counts : List ℕ) → 1 ≤ n → n ≤ 240 → length store ≡ 7680 → length counts ≡ 32 → Held n store counts 0
held_none n store counts a b c d = record { some = a; most = b; room = c; places = d; few = omega arith; counted = λ i h. absurd (not-suc-le-zero h) }

-- no column yet
pub begun_none : (n : ℕ) (store counts : List ℕ) → Held n store counts 0 → Begun n [] store counts 0
unfolding members_of columns_from
begun_none n store counts h = record {
  held = h;
  most = omega arith;
  distinct = none_left;
  numbered = λ F m. absurd (Memᴰ.not-nil m);
  only = λ F m. m;
  given = λ F m. m;
}

module _ (n : ℕ) (As : List Column) (store counts : List ℕ) (size : ℕ) (b : Begun n As store counts size) (less : size < 32) (F : Column) (numbered : number F ≡ F)
    (r : ℕ) (after counts' : List ℕ) (p : PlacedMember n (members_of n store size) F r after counts') where
  -- a column more
  pub begun_more : Begun n (As ++ F ∷ []) after counts' (grown_to size r)
  begun_more =
      let a = after_placed n store counts size b.held less F r after counts' p in
      record {
        held = a.held;
        most = rw (length-append As (F ∷ [])) (omega (arith, a.most, b.most));
        distinct = rw a.members (a.distinct b.distinct);
        numbered = λ G m. is_numbered G (a.only G (rw a.members at m));
        only = λ G m. is_given G (a.only G (rw a.members at m));
        given = λ G m. rw a.members (is_placed a G (Memᴰ.append_cases As m));
      }
    where
      is_numbered : (G : Column) → (G ∈ members_of n store size) ⊎ (G ≡ F) → number G ≡ G
      is_numbered G (inl i) = b.numbered G i
      is_numbered G (inr e) = rw e numbered

      is_given : (G : Column) → (G ∈ members_of n store size) ⊎ (G ≡ F) → G ∈ As ++ F ∷ []
      is_given G (inl i) = Memᴰ.append_left _ (b.only G i)
      is_given G (inr e) = Memᴰ.append_right As (Memᴰ.head e)

      is_placed : (a : After n store counts size b.held less F r after counts') (G : Column) → (G ∈ As) ⊎ (G ∈ F ∷ []) → G ∈ a.family
      is_placed a G (inl i) = a.stays G (b.given G i)
      is_placed a G (inr i) = Memᴰ.cast (Memᴰ.eq_of_singleton i) a.placed

-- the first column of all
pub first_placed : (n : ℕ) (store counts : List ℕ) → Held n store counts 0 → (F : Column) (r : ℕ) (after counts' : List ℕ) → PlacedMember n (members_of n store 0) F r after counts' → grown_to 0 r ≡ 1
first_placed n store counts h F r after counts' p = go p
  where
    ends_0 : length (members_of n store 0) ≡ 0
    ends_0 = length_members n h.most store 0

    go : PlacedMember n (members_of n store 0) F r after counts' → grown_to 0 r ≡ 1
    go (old l m k e) = absurd (let q : r < 0 = rw ends_0 at l in omega arith)
    go (new e l m k q) = grown_new 0 r (e ∙ ends_0)

-- ---- columns lent as parts of arrays

-- the contract of placing reads the number of plots from the lent column: here it is n
pub placed_on : (n : ℕ) (store : List ℕ) (size : ℕ) (X F : Column) (r : ℕ) (after counts' : List ℕ) → X ≡ F → length F ≡ n → PlacedMember (length X) (members_of (length X) store size) X r after counts'
    → PlacedMember n (members_of n store size) F r after counts'
placed_on n store size X F r after counts' e l p =
    subst (λ (k : ℕ). PlacedMember k (members_of k store size) F r after counts') l (subst (λ (Y : Column). PlacedMember (length Y) (members_of (length Y) store size) Y r after counts') e p)

-- the same where there is no room
pub no_room_on : (n : ℕ) (store : List ℕ) (size : ℕ) (X F : Column) (after counts' : List ℕ) → X ≡ F → length F ≡ n → NoRoom (length X) (members_of (length X) store size) X after counts' → NoRoom n (members_of n store size) F after counts'
no_room_on n store size X F after counts' e l p =
    subst (λ (k : ℕ). NoRoom k (members_of k store size) F after counts') l (subst (λ (Y : Column). NoRoom (length Y) (members_of (length Y) store size) Y after counts') e p)

-- the same of what trying to place it answers
pub tried_on : (n : ℕ) (store : List ℕ) (size : ℕ) (X F : Column) (r : Option ℕ) (after counts' : List ℕ) → X ≡ F → length F ≡ n
    → MatchOption r (NoRoom (length X) (members_of (length X) store size) X after counts') (λ p. PlacedMember (length X) (members_of (length X) store size) X p after counts')
    → MatchOption r (NoRoom n (members_of n store size) F after counts') (λ p. PlacedMember n (members_of n store size) F p after counts')
tried_on n store size X F None after counts' e l q = no_room_on n store size X F after counts' e l q
tried_on n store size X F (Some p) after counts' e l q = placed_on n store size X F p after counts' e l q

-- the same of a store
pub held_on : (n : ℕ) (store counts : List ℕ) (size : ℕ) (X F : Column) → X ≡ F → length F ≡ n → Held n store counts size → Held (length X) store counts size
held_on n store counts size X F e l h = subst (λ (k : ℕ). Held k store counts size) (sym (ap length e ∙ l)) h

-- the first n of 240 ones are U
pub take_ones : (n : ℕ) → n ≤ 240 → take {A = ℕ} n (replicate 240 1) ≡ universal n
unfolding universal
take_ones n h = go n 240 h
  where
    go : (n m : ℕ) → n ≤ m → take {A = ℕ} n (replicate m 1) ≡ replicate n 1
    go zero m h = refl
    go (suc n) zero h = absurd (not-suc-le-zero h)
    go (suc n) (suc m) h = ap (λ (l : Column). 1 ∷ l) (go n m (le_of_suc-le-suc h))

-- ---- U, E and the plot columns

module _ (n : ℕ) (levels : List ℕ) where
  -- what the family of the first j plot columns starts from
  abbrev pub first_of : ℕ → List Column
  first_of j = plot_generators n (columns_from n levels 0 j)

  -- U and E alone
  pub first_none : first_of 0 ≡ universal n ∷ equality n ∷ []
  unfolding plot_generators columns_from
  first_none = refl

  -- a plot column more
  pub first_more : (j : ℕ) → first_of (j + 1) ≡ first_of j ++ number (column_at n levels j) ∷ []
  unfolding plot_generators
  first_more j =
      ap (λ (Fs : List Column). universal n ∷ equality n ∷ map number Fs)
      (ap (columns_from n levels 0) (add-one j) ∙ columns_snoc n levels 0 j ∙ ap (λ (i : ℕ). columns_from n levels 0 j ++ column_at n levels i ∷ []) (zero-add j))
      ∙ ap (λ (l : List Column). universal n ∷ equality n ∷ l) (map-append number (columns_from n levels 0 j) (column_at n levels j ∷ []))

  -- how many they are
  pub length_first : (j : ℕ) → length (first_of j) ≡ j + 2
  unfolding plot_generators
  length_first j = ap (λ (k : ℕ). suc (suc k)) (length-map (columns_from n levels 0 j) number ∙ length_columns n levels 0 j) ∙ omega arith

-- a store with one member holds it
pub only_one : {n : ℕ} {F : Column} {store counts : List ℕ} → Begun n (F ∷ []) store counts 1 → members_of n store 1 ≡ F ∷ []
unfolding members_of columns_from
only_one b = ap (λ (G : Column). G ∷ []) (Memᴰ.eq_of_singleton (b.only _ (Memᴰ.head refl)))
