-- Laws of closing: it lists exactly the smallest closed set, or that set has more than 32 members.
-- Assumes nothing.
use mathlib.Core.Path.{◌≡◌, refl, sym, ap, ◌∙◌}
use mathlib.Core.Logic.{◌↔◌, ◌⊎◌, inl, inr}
use mathlib.Core.Bool.{true, false}
use mathlib.Core.List.Memᴰ
use mathlib.Core.List.{List, [], ◌∷◌, ◌++◌}
use Prim.Native.Nat.{ℕ, zero, suc, ◌+◌, ◌≤◌, ◌<◌, zero-le, suc-le-suc}
use native.Mathlib.Nat.{lt_irrefl, le_trans}
use native.Mathlib.Omega.{arith}
use lib.Dec.{eqb, leb}
use lib.ListN.{length}
use borrow.Author.Tests.{eqb-true, eqb-false, leb-true, leb-false}
use Rattle.rules.specs.Factor.{Column}
use Rattle.rules.specs.Family.{Family, insert_all, ◌∈◌, Ascending, empty, cons, Distinct, none_left, apart, AtMost}
use Rattle.rules.specs.Closing.{Made, given, made, products_of, products, round, Closing, too_many, family, closing, close}
use Rattle.rules.proofs.Numbering.{by_cases}
use Rattle.rules.proofs.Members.{clash, before_self, insert_all_keeps, insert_all_has, insert_all_only, insert_all_length, insert_all_stable, ascending_insert_all, ascending_unique}

-- ---- counting

module _ {A : Type 0} where
  without : {y : A} {s : List A} → y ∈ s → List A
  without (Memᴰ.head {xs = s} e) = s
  without (Memᴰ.tail {x = x} m) = x ∷ without m

  length_without : {y : A} {s : List A} (m : y ∈ s) → length s ≡ suc (length (without m))
  unfolding without
  length_without (Memᴰ.head e) = refl
  length_without (Memᴰ.tail m) = ap suc (length_without m)

  in_without : {y : A} {s : List A} (m : y ∈ s) (z : A) → (z ≡ y → ⊥) → z ∈ s → z ∈ without m
  unfolding without
  in_without (Memᴰ.head {x = x} {xs = s} e) z ne k = go (Memᴰ.cases_cons k)
    where
      go : (z ≡ x) ⊎ (z ∈ s) → z ∈ s
      go (inl q) = absurd (ne (q ∙ sym e))
      go (inr k') = k'
  in_without (Memᴰ.tail {x = x} {xs = s} m) z ne k = go (in_without m z ne) (Memᴰ.cases_cons k)
    where
      go : (z ∈ s → z ∈ without m) → (z ≡ x) ⊎ (z ∈ s) → z ∈ x ∷ without m
      go below (inl q) = Memᴰ.head q
      go below (inr k') = Memᴰ.tail (below k')

  -- different things that all stand in a list are no more than its length
  pub pigeonhole : (r s : List A) → Distinct r → ((y : A) → y ∈ r → y ∈ s) → length r ≤ length s
  pigeonhole [] s d f = zero-le
  pigeonhole (x ∷ r) s (apart n d) f =
      rw (length_without m) (suc-le-suc (pigeonhole r (without m) d (λ y k. in_without m y (λ e. n (Memᴰ.cast (sym e) k)) (f y (Memᴰ.tail k)))))
    where
      m : x ∈ s
      m = f x (Memᴰ.head refl)

pub ascending_distinct : {S : Family} → Ascending S → Distinct S
ascending_distinct empty = none_left
ascending_distinct (cons {F} {S} h a) = apart (λ m. clash (h F m) (before_self F)) (ascending_distinct a)

-- ---- rounds

module _ (make : Column → Column → List Column) where
  products_of_has : (F : Column) (S : Family) (G H : Column) → G ∈ S → H ∈ make F G → H ∈ products_of make F S
  unfolding products_of
  products_of_has F [] G H m k = absurd (Memᴰ.not-nil m)
  products_of_has F (G' ∷ S) G H m k = go (λ m'. products_of_has F S G H m' k) (Memᴰ.cases_cons m)
    where
      go : (G ∈ S → H ∈ products_of make F S) → (G ≡ G') ⊎ (G ∈ S) → H ∈ make F G' ++ products_of make F S
      go below (inl e) = Memᴰ.append_left _ (rw e at k)
      go below (inr m') = Memᴰ.append_right (make F G') (below m')

  pub products_has : (Fs S : Family) (F G H : Column) → F ∈ Fs → G ∈ S → H ∈ make F G → H ∈ products make Fs S
  unfolding products
  products_has [] S F G H m n k = absurd (Memᴰ.not-nil m)
  products_has (F' ∷ Fs) S F G H m n k = go (λ m'. products_has Fs S F G H m' n k) (Memᴰ.cases_cons m)
    where
      go : (F ∈ Fs → H ∈ products make Fs S) → (F ≡ F') ⊎ (F ∈ Fs) → H ∈ products_of make F' S ++ products make Fs S
      go below (inl e) = Memᴰ.append_left _ (products_of_has F' S G H n (rw e at k))
      go below (inr m') = Memᴰ.append_right (products_of make F' S) (below m')

  -- what a column of products R S comes from
  pub record Product (R S : Family) (H : Column) : Type 0 where
    pub left : Column
    pub right : Column
    pub in_left : left ∈ R
    pub in_right : right ∈ S
    pub makes : H ∈ make left right

  products_of_from : (F : Column) (S : Family) (H : Column) → H ∈ products_of make F S → Product (F ∷ []) S H
  unfolding products_of
  products_of_from F [] H m = absurd (Memᴰ.not-nil m)
  products_of_from F (G ∷ S) H m = go (products_of_from F S H) (Memᴰ.append_cases (make F G) m)
    where
      further : Product (F ∷ []) S H → Product (F ∷ []) (G ∷ S) H
      further p = record { left = p.left; right = p.right; in_left = p.in_left; in_right = Memᴰ.tail p.in_right; makes = p.makes }

      go : (H ∈ products_of make F S → Product (F ∷ []) S H) → (H ∈ make F G) ⊎ (H ∈ products_of make F S) → Product (F ∷ []) (G ∷ S) H
      go below (inl k) = record { left = F; right = G; in_left = Memᴰ.head refl; in_right = Memᴰ.head refl; makes = k }
      go below (inr k) = further (below k)

  pub products_from : (R S : Family) (H : Column) → H ∈ products make R S → Product R S H
  unfolding products
  products_from [] S H m = absurd (Memᴰ.not-nil m)
  products_from (F ∷ R) S H m = go (products_from R S H) (Memᴰ.append_cases (products_of make F S) m)
    where
      here : Product (F ∷ []) S H → Product (F ∷ R) S H
      here p = record { left = p.left; right = p.right; in_left = Memᴰ.head (Memᴰ.eq_of_singleton p.in_left); in_right = p.in_right; makes = p.makes }

      further : Product R S H → Product (F ∷ R) S H
      further p = record { left = p.left; right = p.right; in_left = Memᴰ.tail p.in_left; in_right = p.in_right; makes = p.makes }

      go : (H ∈ products make R S → Product R S H) → (H ∈ products_of make F S) ⊎ (H ∈ products make R S) → Product (F ∷ R) S H
      go below (inl k) = here (products_of_from F S H k)
      go below (inr k) = further (below k)

  module _ (Fs : List Column) where
    -- a family between the columns given and the smallest set
    pub record Within (S : Family) : Type 0 where
      pub ascending : Ascending S
      pub only : (G : Column) → G ∈ S → Made make Fs G
      pub has : (G : Column) → G ∈ Fs → G ∈ S

    within_round : (S : Family) → Within S → Within (round make S)
    unfolding round
    within_round S w = record {
      ascending = ascending_insert_all (products make S S) S w.ascending;
      only = λ G m. go G (insert_all_only (products make S S) S G m);
      has = λ G m. insert_all_keeps (products make S S) S G (w.has G m);
    }
      where
        go : (G : Column) → (G ∈ products make S S) ⊎ (G ∈ S) → Made make Fs G
        go G (inl m) = let p : Product S S G = products_from S S G m in made (w.only p.left p.in_left) (w.only p.right p.in_right) p.makes
        go G (inr m) = w.only G m

    made_within : (S : Family) → Within S → ((F G H : Column) → F ∈ S → G ∈ S → H ∈ make F G → H ∈ S) → (G : Column) → Made make Fs G → G ∈ S
    made_within S w c G (given m) = w.has G m
    made_within S w c H (made {F} {G} p q k) = c F G H (made_within S w c F p) (made_within S w c G q) k

    -- R lists the smallest set, ascending, and has at most 32 members
    pub record Smallest (R : Family) : Type 0 where
      pub ascending : Ascending R
      pub few : length R ≤ 32
      pub only : (G : Column) → G ∈ R → Made make Fs G
      pub all : (G : Column) → Made make Fs G → G ∈ R

    -- a family of more than 32 columns of the smallest set
    pub record Many : Type 0 where
      pub some : Family
      pub distinct : Distinct some
      pub many : 32 < length some
      pub only : (G : Column) → G ∈ some → Made make Fs G

    stable_all : (S : Family) → Within S → length (round make S) ≡ length S → (G : Column) → Made make Fs G → G ∈ S
    unfolding round
    stable_all S w l = made_within S w (λ F G H m n k. insert_all_stable (products make S S) S l H (products_has S S F G H m n k))

    closing_many : (k : ℕ) (S : Family) → leb (length S) 32 ≡ false → closing make (suc k) S ≡ too_many
    unfolding closing
    closing_many k S e = rw (e, closing)

    closing_stable : (k : ℕ) (S : Family) → leb (length S) 32 ≡ true → eqb (length (round make S)) (length S) ≡ true → closing make (suc k) S ≡ family S
    unfolding closing
    closing_stable k S e f = rw (e, closing, f)

    closing_again : (k : ℕ) (S : Family) → leb (length S) 32 ≡ true → eqb (length (round make S)) (length S) ≡ false → closing make (suc k) S ≡ closing make k (round make S)
    unfolding closing
    closing_again k S e f = rw (e, closing, f)

    pub data Closed : Closing → Type 0 where
      listed : {R : Family} → Smallest R → Closed (family R)
      too_many_holds : Many → Closed too_many

    closing_right : (k : ℕ) (S : Family) → Within S → 33 ≤ length S + k → Closed (closing make k S)
    unfolding closing round
    closing_right zero S w h = too_many_holds (record { some = S; distinct = ascending_distinct w.ascending; many = omega arith; only = w.only })
    closing_right (suc k) S w h =
        by_cases (leb (length S) 32)
        (λ e. by_cases (eqb (length (round make S)) (length S))
        (λ f. rw (closing_stable k S e f) (listed (record { ascending = w.ascending; few = leb-true _ _ e; only = w.only; all = stable_all S w (eqb-true _ _ f) })))
        (λ f. rw (closing_again k S e f) (closing_right k (round make S) (within_round S w) (grown f))))
        (λ e. rw (closing_many k S e) (too_many_holds (record { some = S; distinct = ascending_distinct w.ascending; many = leb-false _ _ e; only = w.only })))
      where
        grown : eqb (length (round make S)) (length S) ≡ false → 33 ≤ length (round make S) + k
        grown f = let ne : length (round make S) ≡ length S → ⊥ = eqb-false _ _ f in let le : length S ≤ length (round make S) = insert_all_length (products make S S) S in omega (arith, ne)

    pub close_right : Closed (close make Fs)
    unfolding close
    close_right = closing_right 33 (insert_all Fs []) within (omega arith)
      where
        go : (G : Column) → (G ∈ Fs) ⊎ (G ∈ []) → Made make Fs G
        go G (inl m) = given m
        go G (inr m) = absurd (Memᴰ.not-nil m)

        within : Within (insert_all Fs [])
        within = record { ascending = ascending_insert_all Fs [] empty; only = λ G m. go G (insert_all_only Fs [] G m); has = λ G m. insert_all_has Fs [] G m }

    -- ---- for a program that closes a family in its own way

    -- the smallest set listed ascending, or more than 32 of its columns, decide what closing gives
    pub smallest_few : {R : Family} → Smallest R → AtMost 32 (Made make Fs)
    smallest_few {R} s S d f = le_trans (pigeonhole S R d (λ G m. s.all G (f G m))) s.few

    many_absurd : Many → AtMost 32 (Made make Fs) → ⊥
    many_absurd m h = lt_irrefl 32 (le_trans m.many (h m.some m.distinct m.only))

    pub close_smallest : (R : Family) → Smallest R → close make Fs ≡ family R
    close_smallest R s = go (close make Fs) close_right
      where
        go : (x : Closing) → Closed x → x ≡ family R
        go x (listed {R = S} t) = ap family (ascending_unique S R t.ascending s.ascending (λ G m. s.all G (t.only G m)) (λ G m. t.all G (s.only G m)))
        go x (too_many_holds m) = absurd (many_absurd m (smallest_few s))

    pub close_many : Many → close make Fs ≡ too_many
    close_many m = go (close make Fs) close_right
      where
        go : (x : Closing) → Closed x → x ≡ too_many
        go x (listed t) = absurd (many_absurd m (smallest_few t))
        go x (too_many_holds k) = refl

    -- a family within, of at most 32 members, that has what every two members make
    pub close_within : (S : Family) → Within S → length S ≤ 32 → ((F G H : Column) → F ∈ S → G ∈ S → H ∈ make F G → H ∈ S) → close make Fs ≡ family S
    close_within S w h c = close_smallest S (record { ascending = w.ascending; few = h; only = w.only; all = all })
      where
        all : (G : Column) → Made make Fs G → G ∈ S
        all G m = made_within S w c G m

    pub close_over : (S : Family) → Within S → 32 < length S → close make Fs ≡ too_many
    close_over S w h = close_many (record { some = S; distinct = ascending_distinct w.ascending; many = h; only = w.only })

    -- too many exactly when there are more than 32
    pub close_too_many : close make Fs ≡ too_many ↔ (AtMost 32 (Made make Fs) → ⊥)
    close_too_many = (λ e few. absurd_listed few e close_right, λ over. go (close make Fs) close_right over)
      where
        absurd_listed : AtMost 32 (Made make Fs) → close make Fs ≡ too_many → Closed (close make Fs) → ⊥
        absurd_listed few e c = at_many few (rw e at c)
          where
            at_many : AtMost 32 (Made make Fs) → Closed too_many → ⊥
            at_many few (too_many_holds m) = many_absurd m few

        go : (x : Closing) → Closed x → (AtMost 32 (Made make Fs) → ⊥) → x ≡ too_many
        go x (listed t) over = absurd (over (smallest_few t))
        go x (too_many_holds m) over = refl
