-- Laws of the order of members, of insertion and of ascending families.
-- Assumes nothing.
use mathlib.Core.Path.{◌≡◌, refl, sym, ap, ap₂, ◌∙◌}
use mathlib.Core.Logic.{◌⊎◌, inl, inr}
use mathlib.Core.Bool.{Bool, true, false, true≢false}
use mathlib.Core.List.Memᴰ
use mathlib.Core.List.{List, [], ◌∷◌, ◌++◌}
use Prim.Native.Nat.{ℕ, suc, ◌≤◌, ◌<◌, zero}
use native.Mathlib.Nat.{le_refl, le_of_lt, lt_irrefl, lt_trans, le_of_eq, not-suc-le-zero, le_of_suc-le-suc}
use native.Mathlib.Omega.{arith}
use lib.Dec.{eqb, ltb}
use lib.ListN.{length, take, drop}
use borrow.Author.Tests.{eqb-true, eq-eqb, ne_eqb, eqb-false, ltb-true, ltb-false, lt-ltb}
use Rattle.rules.specs.Factor.{Column, classes}
use Rattle.rules.specs.Family.{Family, alike, smaller, before, insert, insert_all, ◌∈◌, Ascending, empty, cons, ordered}
use Rattle.rules.proofs.Numbering.{by_cases, eqb_self}

pub clash {ℓ} : {P : Type ℓ} {b : Bool} → b ≡ true → b ≡ false → P
clash p q = absurd (true≢false (sym p ∙ q))

-- ---- the test for equal columns

alike_yes : (x y : ℕ) (F G : Column) → eqb x y ≡ true → alike (x ∷ F) (y ∷ G) ≡ alike F G
unfolding alike
alike_yes x y F G e = rw (e, alike)

alike_no : (x y : ℕ) (F G : Column) → eqb x y ≡ false → alike (x ∷ F) (y ∷ G) ≡ false
unfolding alike
alike_no x y F G e = rw (e, alike)

pub alike_sound : (F G : Column) → alike F G ≡ true → F ≡ G
unfolding alike
alike_sound [] [] e = refl
alike_sound [] (y ∷ G) e = clash e refl
alike_sound (x ∷ F) [] e = clash e refl
alike_sound (x ∷ F) (y ∷ G) e =
    by_cases (eqb x y)
    (λ f. ap₂ (λ (a : ℕ) (l : Column). a ∷ l) (eqb-true x y f) (alike_sound F G (simp alike_yes at e)))
    (λ f. clash e (alike_no x y F G f))

pub alike_self : (F : Column) → alike F F ≡ true
unfolding alike
alike_self [] = refl
alike_self (x ∷ F) = alike_yes x x F F (eqb_self x) ∙ alike_self F

-- ---- the order

smaller_yes : (x y : ℕ) (F G : Column) → eqb x y ≡ true → smaller (x ∷ F) (y ∷ G) ≡ smaller F G
unfolding smaller
smaller_yes x y F G e = rw (e, smaller)

smaller_no : (x y : ℕ) (F G : Column) → eqb x y ≡ false → smaller (x ∷ F) (y ∷ G) ≡ ltb x y
unfolding smaller
smaller_no x y F G e = rw (e, smaller)

smaller_self : (F : Column) → smaller F F ≡ false
unfolding smaller
smaller_self [] = refl
smaller_self (x ∷ F) = smaller_yes x x F F (eqb_self x) ∙ smaller_self F

-- the first difference, told by numbers
data Less : Column → Column → Type 0 where
  ends : {y : ℕ} {G : Column} → Less [] (y ∷ G)
  less : {x y : ℕ} {F G : Column} → x < y → Less (x ∷ F) (y ∷ G)
  equal : {x y : ℕ} {F G : Column} → x ≡ y → Less F G → Less (x ∷ F) (y ∷ G)

smaller_less : (F G : Column) → smaller F G ≡ true → Less F G
unfolding smaller
smaller_less [] [] e = clash e refl
smaller_less [] (y ∷ G) e = ends
smaller_less (x ∷ F) [] e = clash e refl
smaller_less (x ∷ F) (y ∷ G) e =
    by_cases (eqb x y)
    (λ f. equal (eqb-true x y f) (smaller_less F G (sym (smaller_yes x y F G f) ∙ e)))
    (λ f. less (ltb-true x y (sym (smaller_no x y F G f) ∙ e)))

less_smaller : {F G : Column} → Less F G → smaller F G ≡ true
unfolding smaller
less_smaller ends = refl
less_smaller (less {x} {y} {F} {G} h) = smaller_no x y F G (ne_eqb x y (λ e. lt_irrefl y (rw e at h))) ∙ lt-ltb x y h
less_smaller (equal {x} {y} {F} {G} e h) = smaller_yes x y F G (eq-eqb x y e) ∙ less_smaller h

less_trans : {F G H : Column} → Less F G → Less G H → Less F H
less_trans ends (less h) = ends
less_trans ends (equal e h) = ends
less_trans (less {x} {y} h) (less {y = z} k) = less {x = x} {y = z} (lt_trans h k)
less_trans (less {x} {y} h) (equal {y = z} e k) = less {x = x} {y = z} (rw e at h)
less_trans (equal {x} {y} e h) (less {y = z} k) = less {x = x} {y = z} (rw e k)
less_trans (equal e h) (equal f k) = equal (e ∙ f) (less_trans h k)

smaller_total : (F G : Column) → alike F G ≡ false → smaller F G ≡ false → smaller G F ≡ true
unfolding smaller alike
smaller_total [] [] d s = clash refl d
smaller_total [] (y ∷ G) d s = clash refl s
smaller_total (x ∷ F) [] d s = refl
smaller_total (x ∷ F) (y ∷ G) d s =
    by_cases (eqb x y)
    (λ f. smaller_yes y x G F (eq-eqb y x (sym (eqb-true x y f))) ∙ smaller_total F G (sym (alike_yes x y F G f) ∙ d) (sym (smaller_yes x y F G f) ∙ s))
    (λ f. let ne : x ≡ y → ⊥ = eqb-false x y f in let le : y ≤ x = ltb-false x y (sym (smaller_no x y F G f) ∙ s) in
    smaller_no y x G F (ne_eqb y x (λ e. ne (sym e))) ∙ lt-ltb y x (omega (arith, ne)))

before_tie : (F G : Column) → classes F ≡ classes G → before F G ≡ smaller F G
unfolding before
before_tie F G e = rw (eq-eqb (classes F) (classes G) e, before)

before_count : (F G : Column) → (classes F ≡ classes G → ⊥) → before F G ≡ ltb (classes F) (classes G)
unfolding before
before_count F G e = rw (ne_eqb (classes F) (classes G) e, before)

pub before_self : (F : Column) → before F F ≡ false
before_self F = before_tie F F refl ∙ smaller_self F

-- F stands before G, told by numbers
Earlier : Column → Column → Type 0
Earlier F G = (classes F < classes G) ⊎ ((classes F ≡ classes G) × Less F G)

before_earlier : (F G : Column) → before F G ≡ true → Earlier F G
unfolding Earlier
before_earlier F G e =
    by_cases (eqb (classes F) (classes G))
    (λ f. let c : classes F ≡ classes G = eqb-true _ _ f in inr (c, smaller_less F G (sym (before_tie F G c) ∙ e)))
    (λ f. inl (ltb-true _ _ (sym (before_count F G (eqb-false _ _ f)) ∙ e)))

pub before_classes : (F G : Column) → before F G ≡ true → classes F ≤ classes G
unfolding Earlier
before_classes F G e = go (before_earlier F G e)
  where
    go : (classes F < classes G) ⊎ ((classes F ≡ classes G) × Less F G) → classes F ≤ classes G
    go (inl h) = le_of_lt h
    go (inr h) = le_of_eq h.0

earlier_before : (F G : Column) → Earlier F G → before F G ≡ true
unfolding Earlier
earlier_before F G (inl h) = before_count F G (λ e. lt_irrefl (classes G) (rw e at h)) ∙ lt-ltb _ _ h
earlier_before F G (inr h) = before_tie F G h.0 ∙ less_smaller h.1

earlier_trans : (F G H : Column) → Earlier F G → Earlier G H → Earlier F H
unfolding Earlier
earlier_trans F G H (inl h) (inl k) = inl (lt_trans h k)
earlier_trans F G H (inl h) (inr k) = inl (rw k.0 at h)
earlier_trans F G H (inr h) (inl k) = inl (rw h.0 k)
earlier_trans F G H (inr h) (inr k) = inr (h.0 ∙ k.0, less_trans h.1 k.1)

pub before_trans : (F G H : Column) → before F G ≡ true → before G H ≡ true → before F H ≡ true
before_trans F G H p q = earlier_before F H (earlier_trans F G H (before_earlier F G p) (before_earlier G H q))

pub before_total : (F G : Column) → alike F G ≡ false → before F G ≡ false → before G F ≡ true
before_total F G d b =
    by_cases (eqb (classes F) (classes G))
    (λ f. let c : classes F ≡ classes G = eqb-true _ _ f in before_tie G F (sym c) ∙ smaller_total F G d (sym (before_tie F G c) ∙ b))
    (λ f. let ne : classes F ≡ classes G → ⊥ = eqb-false _ _ f in let le : classes G ≤ classes F = ltb-false _ _ (sym (before_count F G ne) ∙ b) in
    before_count G F (λ e. ne (sym e)) ∙ lt-ltb (classes G) (classes F) (omega (arith, ne)))

-- ---- insertion

module _ (F G : Column) (S : Family) where
  pub insert_alike : alike F G ≡ true → insert F (G ∷ S) ≡ G ∷ S
  unfolding insert
  insert_alike e = rw (e, insert)

  pub insert_before : alike F G ≡ false → before F G ≡ true → insert F (G ∷ S) ≡ F ∷ G ∷ S
  unfolding insert
  insert_before e f = rw (e, insert, f)

  pub insert_after : alike F G ≡ false → before F G ≡ false → insert F (G ∷ S) ≡ G ∷ insert F S
  unfolding insert
  insert_after e f = rw (e, insert, f)

  -- how F stands to the first member
  data Stands : Type 0 where
    there : F ≡ G → insert F (G ∷ S) ≡ G ∷ S → Stands
    here : before F G ≡ true → insert F (G ∷ S) ≡ F ∷ G ∷ S → Stands
    later : before G F ≡ true → insert F (G ∷ S) ≡ G ∷ insert F S → Stands

  stands : Stands
  stands =
      by_cases (alike F G)
      (λ e. there (alike_sound F G e) (insert_alike e))
      (λ e. by_cases (before F G) (λ f. here f (insert_before e f)) (λ f. later (before_total F G e f) (insert_after e f)))

insert_self_step : (F G : Column) (S : Family) → F ∈ insert F S → Stands F G S → F ∈ insert F (G ∷ S)
insert_self_step F G S h (there e q) = rw q (Memᴰ.head e)
insert_self_step F G S h (here b q) = rw q (Memᴰ.head refl)
insert_self_step F G S h (later b q) = rw q (Memᴰ.tail h)

pub insert_self : (F : Column) (S : Family) → F ∈ insert F S
unfolding insert
insert_self F [] = Memᴰ.head refl
insert_self F (G ∷ S) = insert_self_step F G S (insert_self F S) (stands F G S)

insert_keeps_step : (F G H : Column) (S : Family) → (H ∈ S → H ∈ insert F S) → H ∈ G ∷ S → Stands F G S → H ∈ insert F (G ∷ S)
insert_keeps_step F G H S h m (there e q) = rw q m
insert_keeps_step F G H S h m (here b q) = rw q (Memᴰ.tail m)
insert_keeps_step F G H S h m (later b q) = rw q (go (Memᴰ.cases_cons m))
  where
    go : (H ≡ G) ⊎ (H ∈ S) → H ∈ G ∷ insert F S
    go (inl e) = Memᴰ.head e
    go (inr m') = Memᴰ.tail (h m')

pub insert_keeps : (F H : Column) (S : Family) → H ∈ S → H ∈ insert F S
insert_keeps F H [] m = absurd (Memᴰ.not-nil m)
insert_keeps F H (G ∷ S) m = insert_keeps_step F G H S (insert_keeps F H S) m (stands F G S)

insert_only_step : (F G H : Column) (S : Family) → (H ∈ insert F S → (H ≡ F) ⊎ (H ∈ S)) → Stands F G S → H ∈ insert F (G ∷ S) → (H ≡ F) ⊎ (H ∈ G ∷ S)
insert_only_step F G H S h (there e q) m = inr (rw q at m)
insert_only_step F G H S h (here b q) m = Memᴰ.cases_cons (rw q at m)
insert_only_step F G H S h (later b q) m = go (Memᴰ.cases_cons (rw q at m))
  where
    deep : (H ≡ F) ⊎ (H ∈ S) → (H ≡ F) ⊎ (H ∈ G ∷ S)
    deep (inl e) = inl e
    deep (inr m') = inr (Memᴰ.tail m')

    go : (H ≡ G) ⊎ (H ∈ insert F S) → (H ≡ F) ⊎ (H ∈ G ∷ S)
    go (inl e) = inr (Memᴰ.head e)
    go (inr m') = deep (h m')

pub insert_only : (F H : Column) (S : Family) → H ∈ insert F S → (H ≡ F) ⊎ (H ∈ S)
unfolding insert
insert_only F H [] m = Memᴰ.cases_cons m
insert_only F H (G ∷ S) m = insert_only_step F G H S (insert_only F H S) (stands F G S) m

-- either F is a member already, or there is one member more
data Grows (F : Column) (S : Family) : Type 0 where
  member : F ∈ S → length (insert F S) ≡ length S → Grows F S
  more : length (insert F S) ≡ suc (length S) → Grows F S

grows_step : (F G : Column) (S : Family) → Grows F S → Stands F G S → Grows F (G ∷ S)
grows_step F G S h (there e q) = member (Memᴰ.head e) (ap length q)
grows_step F G S h (here b q) = more (ap length q)
grows_step F G S (member m l) (later b q) = member (Memᴰ.tail m) (ap length q ∙ ap suc l)
grows_step F G S (more l) (later b q) = more (ap length q ∙ ap suc l)

grows : (F : Column) (S : Family) → Grows F S
unfolding insert
grows F [] = more refl
grows F (G ∷ S) = grows_step F G S (grows F S) (stands F G S)

-- ---- ascending families

pub ascending_head : {F : Column} {S : Family} → Ascending (F ∷ S) → (G : Column) → G ∈ S → before F G ≡ true
ascending_head (cons h a) = h

pub ascending_tail : {F : Column} {S : Family} → Ascending (F ∷ S) → Ascending S
ascending_tail (cons h a) = a

ascending_step : (F G : Column) (S : Family) → Ascending (G ∷ S) → Ascending (insert F S) → Stands F G S → Ascending (insert F (G ∷ S))
ascending_step F G S a h (there e q) = rw q a
ascending_step F G S a h (here b q) = rw q (cons (λ H m. go H (Memᴰ.cases_cons m)) a)
  where
    go : (H : Column) → (H ≡ G) ⊎ (H ∈ S) → before F H ≡ true
    go H (inl e) = rw e b
    go H (inr m) = before_trans F G H b (ascending_head a H m)
ascending_step F G S a h (later b q) = rw q (cons (λ H m. go H (insert_only F H S m)) h)
  where
    go : (H : Column) → (H ≡ F) ⊎ (H ∈ S) → before G H ≡ true
    go H (inl e) = rw e b
    go H (inr m) = ascending_head a H m

pub ascending_insert : (F : Column) (S : Family) → Ascending S → Ascending (insert F S)
unfolding insert
ascending_insert F [] a = cons (λ G m. absurd (Memᴰ.not-nil m)) empty
ascending_insert F (G ∷ S) a = ascending_step F G S a (ascending_insert F S (ascending_tail a)) (stands F G S)

-- ---- several insertions

pub insert_all_keeps : (Fs : List Column) (S : Family) (H : Column) → H ∈ S → H ∈ insert_all Fs S
unfolding insert_all
insert_all_keeps [] S H m = m
insert_all_keeps (F ∷ Fs) S H m = insert_all_keeps Fs (insert F S) H (insert_keeps F H S m)

pub insert_all_has : (Fs : List Column) (S : Family) (H : Column) → H ∈ Fs → H ∈ insert_all Fs S
unfolding insert_all
insert_all_has [] S H m = absurd (Memᴰ.not-nil m)
insert_all_has (F ∷ Fs) S H m = go (λ m'. insert_all_has Fs (insert F S) H m') (Memᴰ.cases_cons m)
  where
    go : (H ∈ Fs → H ∈ insert_all Fs (insert F S)) → (H ≡ F) ⊎ (H ∈ Fs) → H ∈ insert_all Fs (insert F S)
    go below (inl e) = insert_all_keeps Fs (insert F S) H (Memᴰ.cast e (insert_self F S))
    go below (inr m') = below m'

pub insert_all_only : (Fs : List Column) (S : Family) (H : Column) → H ∈ insert_all Fs S → (H ∈ Fs) ⊎ (H ∈ S)
unfolding insert_all
insert_all_only [] S H m = inr m
insert_all_only (F ∷ Fs) S H m = go (insert_all_only Fs (insert F S) H m)
  where
    deep : (H ≡ F) ⊎ (H ∈ S) → (H ∈ F ∷ Fs) ⊎ (H ∈ S)
    deep (inl e) = inl (Memᴰ.head e)
    deep (inr m') = inr m'

    go : (H ∈ Fs) ⊎ (H ∈ insert F S) → (H ∈ F ∷ Fs) ⊎ (H ∈ S)
    go (inl m') = inl (Memᴰ.tail m')
    go (inr m') = deep (insert_only F H S m')

pub ascending_insert_all : (Fs : List Column) (S : Family) → Ascending S → Ascending (insert_all Fs S)
unfolding insert_all
ascending_insert_all [] S a = a
ascending_insert_all (F ∷ Fs) S a = ascending_insert_all Fs (insert F S) (ascending_insert F S a)

pub insert_all_length : (Fs : List Column) (S : Family) → length S ≤ length (insert_all Fs S)
unfolding insert_all
insert_all_length [] S = le_refl _
insert_all_length (F ∷ Fs) S = go (grows F S) (insert_all_length Fs (insert F S))
  where
    go : Grows F S → length (insert F S) ≤ length (insert_all Fs (insert F S)) → length S ≤ length (insert_all Fs (insert F S))
    go (member m l) h = omega arith
    go (more l) h = omega arith

-- where insertions add no member, all that was inserted was there
pub insert_all_stable : (Fs : List Column) (S : Family) → length (insert_all Fs S) ≡ length S → (H : Column) → H ∈ Fs → H ∈ S
unfolding insert_all
insert_all_stable [] S l H m = absurd (Memᴰ.not-nil m)
insert_all_stable (F ∷ Fs) S l H m =
    go (grows F S) (insert_all_length Fs (insert F S)) (λ e. insert_all_stable Fs (insert F S) e H) (Memᴰ.cases_cons m)
  where
    undo : F ∈ S → (H ≡ F) ⊎ (H ∈ S) → H ∈ S
    undo m' (inl e) = Memᴰ.cast e m'
    undo m' (inr m'') = m''

    go : Grows F S → length (insert F S) ≤ length (insert_all Fs (insert F S)) → (length (insert_all Fs (insert F S)) ≡ length (insert F S) → H ∈ Fs → H ∈ insert F S) → (H ≡ F) ⊎ (H ∈ Fs) → H ∈ S
    go (member m' k) h below (inl e) = Memᴰ.cast e m'
    go (member m' k) h below (inr m'') = undo m' (insert_only F H S (below (l ∙ sym k) m''))
    go (more k) h below q = absurd (omega arith)

-- ---- ascending families with the same members are equal

pub ascending_unique : (S R : Family) → Ascending S → Ascending R → ((G : Column) → G ∈ S → G ∈ R) → ((G : Column) → G ∈ R → G ∈ S) → S ≡ R
ascending_unique [] [] a b f g = refl
ascending_unique [] (G ∷ R) a b f g = absurd (Memᴰ.not-nil (g G (Memᴰ.head refl)))
ascending_unique (F ∷ S) [] a b f g = absurd (Memᴰ.not-nil (f F (Memᴰ.head refl)))
ascending_unique (F ∷ S) (G ∷ R) a b f g = ap₂ (λ (x : Column) (l : Family). x ∷ l) FG (ascending_unique S R (ascending_tail a) (ascending_tail b) down up)
  where
    heads : (F ≡ G) ⊎ (F ∈ R) → (G ≡ F) ⊎ (G ∈ S) → F ≡ G
    heads (inl e) q = e
    heads (inr m) (inl e) = sym e
    heads (inr m) (inr m') = clash (before_trans F G F (ascending_head a G m') (ascending_head b F m)) (before_self F)

    FG : F ≡ G
    FG = heads (Memᴰ.cases_cons (f F (Memᴰ.head refl))) (Memᴰ.cases_cons (g G (Memᴰ.head refl)))

    down : (H : Column) → H ∈ S → H ∈ R
    down H m = go (Memᴰ.cases_cons (f H (Memᴰ.tail m)))
      where
        go : (H ≡ G) ⊎ (H ∈ R) → H ∈ R
        go (inl e) = clash (rw (e ∙ sym FG) at (ascending_head a H m)) (before_self F)
        go (inr m') = m'

    up : (H : Column) → H ∈ R → H ∈ S
    up H m = go (Memᴰ.cases_cons (g H (Memᴰ.tail m)))
      where
        go : (H ≡ F) ⊎ (H ∈ S) → H ∈ S
        go (inl e) = clash (rw (e ∙ FG) at (ascending_head b H m)) (before_self G)
        go (inr m') = m'

-- ---- inserting at a place

-- all members before place i stand before F, and F stands before all from there on
pub insert_at : (i : ℕ) (F : Column) (S : Family) → i ≤ length S → Ascending S → ((G : Column) → G ∈ take i S → before G F ≡ true) → ((G : Column) → G ∈ drop i S → before F G ≡ true)
    → insert F S ≡ take i S ++ F ∷ drop i S
unfolding insert
insert_at zero F [] h a f g = refl
insert_at zero F (G ∷ S) h a f g =
    by_cases (alike F G)
    (λ e. clash (rw (sym (alike_sound F G e)) at (g G (Memᴰ.head refl))) (before_self F))
    (λ e. insert_before F G S e (g G (Memᴰ.head refl)))
insert_at (suc i) F [] h a f g = absurd (not-suc-le-zero h)
insert_at (suc i) F (G ∷ S) h a f g =
    by_cases (alike F G)
    (λ e. clash (rw (sym (alike_sound F G e)) at (f G (Memᴰ.head refl))) (before_self F))
    (λ e. by_cases (before F G)
    (λ b. clash (before_trans F G F b (f G (Memᴰ.head refl))) (before_self F))
    (λ b. insert_after F G S e b ∙ ap (λ (l : Family). G ∷ l) (insert_at i F S (le_of_suc-le-suc h) (ascending_tail a) (λ H m. f H (Memᴰ.tail m)) g)))

pub insert_member : (F : Column) (S : Family) → Ascending S → F ∈ S → insert F S ≡ S
insert_member F [] a m = absurd (Memᴰ.not-nil m)
insert_member F (G ∷ S) a m =
    by_cases (alike F G)
    (λ e. insert_alike F G S e)
    (λ e. go e (insert_member F S (ascending_tail a)) (Memᴰ.cases_cons m))
  where
    go : alike F G ≡ false → (F ∈ S → insert F S ≡ S) → (F ≡ G) ⊎ (F ∈ S) → insert F (G ∷ S) ≡ G ∷ S
    go e below (inl q) = clash (rw (sym q) (alike_self F)) e
    go e below (inr k) =
        by_cases (before F G)
        (λ b. clash (before_trans F G F b (ascending_head a F k)) (before_self F))
        (λ b. insert_after F G S e b ∙ ap (λ (l : Family). G ∷ l) (below k))

-- ---- question 15

ordered_yes : (F G : Column) (S : Family) → before F G ≡ true → ordered (F ∷ G ∷ S) ≡ ordered (G ∷ S)
unfolding ordered
ordered_yes F G S e = rw (e, ordered)

ordered_no : (F G : Column) (S : Family) → before F G ≡ false → ordered (F ∷ G ∷ S) ≡ false
unfolding ordered
ordered_no F G S e = rw (e, ordered)

pub ascending_ordered : {S : Family} → Ascending S → ordered S ≡ true
unfolding ordered
ascending_ordered empty = refl
ascending_ordered (cons {S = []} h a) = refl
ascending_ordered (cons {F = F} {S = G ∷ S} h a) = ordered_yes F G S (h G (Memᴰ.head refl)) ∙ ascending_ordered a

pub ordered_ascending : (S : Family) → ordered S ≡ true → Ascending S
unfolding ordered
ordered_ascending [] e = empty
ordered_ascending (F ∷ []) e = cons (λ G m. absurd (Memᴰ.not-nil m)) empty
ordered_ascending (F ∷ G ∷ S) e =
    by_cases (before F G)
    (λ b. go b (ordered_ascending (G ∷ S) (sym (ordered_yes F G S b) ∙ e)))
    (λ b. clash e (ordered_no F G S b))
  where
    all : before F G ≡ true → Ascending (G ∷ S) → (H : Column) → (H ≡ G) ⊎ (H ∈ S) → before F H ≡ true
    all b a H (inl q) = rw q b
    all b a H (inr m) = before_trans F G H b (ascending_head a H m)

    go : before F G ≡ true → Ascending (G ∷ S) → Ascending (F ∷ G ∷ S)
    go b a = cons (λ H m. all b a H (Memᴰ.cases_cons m)) a
