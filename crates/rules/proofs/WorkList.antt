-- Laws for a program that closes a family by a work list: members in the order of their discovery, each pair combined once.
-- Assumes nothing.
use mathlib.Core.Path.{◌≡◌, refl, sym, ap, ◌∙◌}
use mathlib.Core.Logic.{◌⊎◌, inl, inr}
use mathlib.Core.List.Memᴰ
use mathlib.Core.List.{List, [], ◌∷◌, ◌++◌}
use Prim.Native.Nat.{ℕ, zero, suc, ◌≤◌, ◌<◌, zero-le, suc-le-suc}
use native.Mathlib.Nat.{not-suc-le-zero, le_of_suc-le-suc, le_antisymm}
use native.Mathlib.Omega.{arith}
use lib.Dec.{ltb}
use lib.ListN.{length, get_or-append}
use borrow.Author.Tests.{ltb-true, ltb-false}
use Rattle.rules.specs.Limits.{most_members}
use Rattle.rules.specs.Factor.{Column}
use Rattle.rules.specs.Family.{Family, ◌∈◌, Distinct, none_left, apart, empty, insert_all}
use Rattle.rules.specs.Closing.{Made, too_many, family, close}
use Rattle.rules.specs.Relation.{member_at}
use Rattle.rules.proofs.Numbering.{by_cases}
use Rattle.rules.proofs.Members.{insert_all_has, insert_all_only, ascending_insert_all}
use Rattle.rules.proofs.Closing.{Within, pigeonhole, ascending_distinct, close_within, close_many}

-- ---- members by their places

-- where a member stands
pub record PlaceOf (S : Family) (F : Column) : Type 0 where
  pub place : ℕ
  pub less : place < length S
  pub is : member_at S place ≡ F

pub place_of : (S : Family) (F : Column) → F ∈ S → PlaceOf S F
place_of [] F m = absurd (Memᴰ.not-nil m)
place_of (G ∷ S) F m = go (place_of S F) (Memᴰ.cases_cons m)
  where
    later : PlaceOf S F → PlaceOf (G ∷ S) F
    later p = record { place = suc p.place; less = suc-le-suc p.less; is = p.is }

    go : (F ∈ S → PlaceOf S F) → (F ≡ G) ⊎ (F ∈ S) → PlaceOf (G ∷ S) F
    go below (inl e) = record { place = zero; less = suc-le-suc zero-le; is = sym e }
    go below (inr k) = later (below k)

pub member_in : (S : Family) (i : ℕ) → i < length S → member_at S i ∈ S
member_in [] i h = absurd (not-suc-le-zero h)
member_in (F ∷ S) zero h = Memᴰ.head refl
member_in (F ∷ S) (suc i) h = Memᴰ.tail (member_in S i (le_of_suc-le-suc h))

-- one column more at the end
pub distinct_more : {S : Family} {F : Column} → Distinct S → (F ∈ S → ⊥) → Distinct (S ++ F ∷ [])
distinct_more none_left n = apart (λ m. Memᴰ.not-nil m) none_left
distinct_more {F = F} (apart {x = G} {xs = S} d e) n = apart (λ m. go (Memᴰ.append_cases S m)) (distinct_more e (λ m. n (Memᴰ.tail m)))
  where
    go : (G ∈ S) ⊎ (G ∈ F ∷ []) → ⊥
    go (inl k) = d k
    go (inr k) = n (Memᴰ.head (sym (Memᴰ.eq_of_singleton k)))

-- inserting different columns one by one merges none
pub length_sorted : (S : Family) → Distinct S → length (insert_all S []) ≡ length S
length_sorted S d = le_antisymm
    (pigeonhole (insert_all S []) S (ascending_distinct (ascending_insert_all S [] empty)) (λ F m. only F (insert_all_only S [] F m)))
    (pigeonhole S (insert_all S []) d (λ F m. insert_all_has S [] F m))
  where
    only : (F : Column) → (F ∈ S) ⊎ (F ∈ []) → F ∈ S
    only F (inl m) = m
    only F (inr m) = absurd (Memᴰ.not-nil m)

module _ (make : Column → Column → List Column) (Gs : List Column) where
  -- the members found so far: none twice, all in the smallest set
  pub record Found (S : Family) : Type 0 where
    pub distinct : Distinct S
    pub only : (G : Column) → G ∈ S → Made make Gs G

  pub found_none : Found []
  found_none = record { distinct = none_left; only = λ G m. absurd (Memᴰ.not-nil m) }

  pub found_more : (S : Family) (F : Column) → Found S → Made make Gs F → (F ∈ S → ⊥) → Found (S ++ F ∷ [])
  found_more S F f p n = record { distinct = distinct_more f.distinct n; only = λ G m. go G (Memᴰ.append_cases S m) }
    where
      go : (G : Column) → (G ∈ S) ⊎ (G ∈ F ∷ []) → Made make Gs G
      go G (inl m) = f.only G m
      go G (inr m) = rw (Memᴰ.eq_of_singleton m) p

  -- The pairs of places b and a < b are combined for every b < i, and for b = i every a < j: what they make is found.
  pub record Combined (S : Family) (i j : ℕ) : Type 0 where
    pub rows : (b a : ℕ) → a < b → b < i → (H : Column) → H ∈ make (member_at S b) (member_at S a) → H ∈ S
    pub row : (a : ℕ) → a < j → (H : Column) → H ∈ make (member_at S i) (member_at S a) → H ∈ S

  pub combined_none : (S : Family) → Combined S 0 0
  combined_none S = record { rows = λ b a h k. absurd (not-suc-le-zero k); row = λ a h. absurd (not-suc-le-zero h) }

  -- a member found on the way
  pub combined_more : (S : Family) (F : Column) (i j : ℕ) → i < length S → j ≤ i → Combined S i j → Combined (S ++ F ∷ []) i j
  combined_more S F i j h l c = record {
    rows = λ b a ab bi H m. Memᴰ.append_left _ (c.rows b a ab bi H (old b a (omega arith) (omega arith) H m));
    row = λ a aj H m. Memᴰ.append_left _ (c.row a aj H (old i a h (omega arith) H m));
  }
    where
      old : (b a : ℕ) → b < length S → a < length S → (H : Column) → H ∈ make (member_at (S ++ F ∷ []) b) (member_at (S ++ F ∷ []) a) → H ∈ make (member_at S b) (member_at S a)
      old b a hb ha H m = rw (get_or-append S (F ∷ []) [] b hb, get_or-append S (F ∷ []) [] a ha) at m

  -- one pair more
  pub combined_step : (S : Family) (i j : ℕ) → Combined S i j → ((H : Column) → H ∈ make (member_at S i) (member_at S j) → H ∈ S) → Combined S i (suc j)
  combined_step S i j c f = record { rows = c.rows; row = λ a h. by_cases (ltb a j) (λ e. c.row a (ltb-true a j e)) (λ e. last a h (ltb-false a j e)) }
    where
      last : (a : ℕ) → a < suc j → j ≤ a → (H : Column) → H ∈ make (member_at S i) (member_at S a) → H ∈ S
      last a h k = let q : a ≡ j = omega arith in rw q f

  -- a row is done
  pub combined_row : (S : Family) (i : ℕ) → Combined S i i → Combined S (suc i) 0
  combined_row S i c = record { rows = λ b a ab h. by_cases (ltb b i) (λ e. c.rows b a ab (ltb-true b i e)) (λ e. last b a ab h (ltb-false b i e)); row = λ a h. absurd (not-suc-le-zero h) }
    where
      last : (b a : ℕ) → a < b → b < suc i → i ≤ b → (H : Column) → H ∈ make (member_at S b) (member_at S a) → H ∈ S
      last b a ab h k = let q : b ≡ i = omega arith in rw q (c.row a (omega arith))

  module _ (S : Family) (f : Found S) where
    -- more than 32 are found: the 33rd decides
    pub found_over : (F : Column) → Made make Gs F → (F ∈ S → ⊥) → most_members ≤ length S → close make Gs ≡ too_many
    found_over F p n h = close_many make Gs record {
      some = F ∷ S;
      distinct = apart n f.distinct;
      many = suc-le-suc h;
      only = λ G m. go G (Memᴰ.cases_cons m);
    }
      where
        go : (G : Column) → (G ≡ F) ⊎ (G ∈ S) → Made make Gs G
        go G (inl e) = rw e p
        go G (inr m) = f.only G m

    module _ (given : (G : Column) → G ∈ Gs → G ∈ S) (all : Combined S (length S) 0)
        (flip : (F G : Column) → F ∈ S → G ∈ S → make F G ≡ make G F) (self : (F H : Column) → F ∈ S → H ∈ make F F → H ∈ S) where
      closed : (F G H : Column) → F ∈ S → G ∈ S → H ∈ make F G → H ∈ S
      closed F G H m k h = go (place_of S F m) (place_of S G k)
        where
          at_places_lem : (p : PlaceOf S F) (q : PlaceOf S G) → H ∈ make (member_at S p.place) (member_at S q.place)
          at_places_lem p q = rw (p.is, q.is) h

          turned : (p : PlaceOf S F) (q : PlaceOf S G) → H ∈ make (member_at S q.place) (member_at S p.place)
          turned p q = rw (p.is, q.is, sym (flip F G m k)) h

          go : PlaceOf S F → PlaceOf S G → H ∈ S
          go p q =
              by_cases (ltb q.place p.place)
              (λ e. all.rows p.place q.place (ltb-true _ _ e) p.less H (at_places_lem p q))
              (λ e. by_cases (ltb p.place q.place)
              (λ g. all.rows q.place p.place (ltb-true _ _ g) q.less H (turned p q))
              (λ g. let i : p.place ≡ q.place = le_antisymm (ltb-false _ _ e) (ltb-false _ _ g) in
              let s : F ≡ G = sym p.is ∙ ap (member_at S) i ∙ q.is in self F H m (rw (sym s) at h)))

      -- all pairs are combined: the members in order are the closed family
      pub combined_close : length S ≤ most_members → close make Gs ≡ family (insert_all S [])
      combined_close h = close_within make Gs (insert_all S []) within (rw (length_sorted S f.distinct) h) (λ F G H m k p. insert_all_has S [] H (closed F G H (back F m) (back G k) p))
        where
          only : (G : Column) → (G ∈ S) ⊎ (G ∈ []) → G ∈ S
          only G (inl m) = m
          only G (inr m) = absurd (Memᴰ.not-nil m)

          back : (G : Column) → G ∈ insert_all S [] → G ∈ S
          back G m = only G (insert_all_only S [] G m)

          within : Within make Gs (insert_all S [])
          within = record { ascending = ascending_insert_all S [] empty; only = λ G m. f.only G (back G m); has = λ G m. insert_all_has S [] G (given G m) }
