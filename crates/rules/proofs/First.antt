-- Laws of the first failing place and the first failing pair: what stands there fails, and all before it pass.
-- Assumes nothing.
use mathlib.Core.Path.{◌≡◌, refl, sym, ap, ap₂, ◌∙◌}
use mathlib.Core.Logic.{◌↔◌, inl, inr}
use mathlib.Core.Bool.{Bool, true, false}
use mathlib.Core.List.Memᴰ
use mathlib.Core.List.{[], ◌∷◌}
use Prim.Native.Nat.{ℕ, zero, suc, ◌+◌, ◌-◌, ◌≤◌, ◌<◌, zero-le, suc-le-suc}
use native.Mathlib.Nat.{not-suc-le-zero, le_of_suc-le-suc, suc-ne-zero, suc_inj, add-zero}
use native.Mathlib.Omega.{arith}
use lib.ListN.{length, get_or}
use Rattle.rules.specs.Factor.{Column}
use Rattle.rules.specs.Family.{Family, ◌∈◌}
use Rattle.rules.specs.Design.{first_failing, Places, none, pair_at, first_pair, first_cross}
pub use Rattle.rules.specs.Places.{at_place, Earlier, FirstPlace, FirstPlaces, FirstCross}
use Rattle.rules.proofs.Numbering.{by_cases}

-- place k + 1 is index k
pub member_suc : (S : Family) (k : ℕ) → at_place S (suc k) ≡ get_or S k []
member_suc S k = ap (λ (x : ℕ). get_or S x []) (omega arith)

-- ---- one member

module _ (p : Column → Bool) where
  abbrev Passing : Family → Type 0
  Passing S = (j : ℕ) → j < length S → p (get_or S j []) ≡ true

  -- as FirstPlace, with places from 0
  record FirstAt (S : Family) (k : ℕ) : Type 0 where
    less : k < length S
    fails : p (get_or S k []) ≡ false
    passed : (j : ℕ) → j < k → p (get_or S j []) ≡ true

  failing_at : (a : ℕ) (S : Family) (k : ℕ) → FirstAt S k → first_failing p (suc a) S ≡ suc (a + k)
  unfolding first_failing
  failing_at a [] k w = absurd (not-suc-le-zero w.less)
  failing_at a (F ∷ S) zero w = rw (w.fails, first_failing) (ap suc (sym (add-zero a)))
  failing_at a (F ∷ S) (suc k) w =
      rw (w.passed 0 (suc-le-suc zero-le), first_failing)
      (failing_at (suc a) S k record { less = le_of_suc-le-suc w.less; fails = w.fails; passed = λ j h. w.passed (suc j) (suc-le-suc h) } ∙ omega arith)

  failing_all : (a : ℕ) (S : Family) → Passing S → first_failing p a S ≡ 0
  unfolding first_failing
  failing_all a [] h = refl
  failing_all a (F ∷ S) h = rw (h 0 (suc-le-suc zero-le), first_failing) (failing_all (suc a) S (λ j l. h (suc j) (suc-le-suc l)))

  data Found (S : Family) : Type 0 where
    nowhere : Passing S → Found S
    somewhere : (k : ℕ) → FirstAt S k → Found S

  found : (S : Family) → Found S
  found [] = nowhere (λ j h. absurd (not-suc-le-zero h))
  found (F ∷ S) =
      by_cases (p F)
      (λ e. go e (found S))
      (λ e. somewhere 0 record { less = suc-le-suc zero-le; fails = e; passed = λ j h. absurd (not-suc-le-zero h) })
    where
      more : p F ≡ true → (n : ℕ) → ((j : ℕ) → j < n → p (get_or S j []) ≡ true) → (j : ℕ) → j < suc n → p (get_or (F ∷ S) j []) ≡ true
      more e n h zero l = e
      more e n h (suc j) l = h j (le_of_suc-le-suc l)

      go : p F ≡ true → Found S → Found (F ∷ S)
      go e (nowhere h) = nowhere (more e (length S) h)
      go e (somewhere k w) = somewhere (suc k) record { less = suc-le-suc w.less; fails = w.fails; passed = more e k w.passed }

  -- where one place is the first that fails, it is the answer
  pub failing_is : (S : Family) (i : ℕ) → FirstPlace p S i → first_failing p 1 S ≡ i
  failing_is S i w =
      failing_at 0 S (i - 1) record { less = omega arith; fails = w.fails; passed = λ j h. ap p (sym (member_suc S j)) ∙ w.before (suc j) (suc-le-suc zero-le) (omega arith) }
      ∙ omega (arith, w.least)

  -- the answer is 0 exactly where all pass
  pub failing_zero : (S : Family) → (first_failing p 1 S ≡ 0) ↔ ((i : ℕ) → 1 ≤ i → i ≤ length S → p (at_place S i) ≡ true)
  failing_zero S = (λ e. go e (found S), λ h. failing_all 1 S (λ j l. ap p (sym (member_suc S j)) ∙ h (suc j) (suc-le-suc zero-le) l))
    where
      go : first_failing p 1 S ≡ 0 → Found S → (i : ℕ) → 1 ≤ i → i ≤ length S → p (at_place S i) ≡ true
      go e (nowhere h) i l m = h (i - 1) (omega arith)
      go e (somewhere k w) i l m = absurd (suc-ne-zero _ (sym (failing_at 0 S k w) ∙ e))

  -- an answer that is not 0 is the first place that fails
  pub failing_first : (S : Family) → 1 ≤ first_failing p 1 S → FirstPlace p S (first_failing p 1 S)
  failing_first S l = go (found S)
    where
      go : Found S → FirstPlace p S (first_failing p 1 S)
      go (nowhere h) = absurd (not-suc-le-zero (rw (failing_all 1 S h) at l))
      go (somewhere k w) = let e : first_failing p 1 S ≡ suc k = failing_at 0 S k w ∙ omega arith in
          rw e record { least = suc-le-suc zero-le; most = w.less; fails = ap p (member_suc S k) ∙ w.fails; before = λ h l m. w.passed (h - 1) (omega arith) }

-- ---- two members of one family

earlier_suc : {h k i j : ℕ} → Earlier h k i j → Earlier (suc h) (suc k) (suc i) (suc j)
earlier_suc (inl l) = inl (suc-le-suc l)
earlier_suc (inr e) = inr (ap suc e.0, suc-le-suc e.1)

earlier_pred : {h k i j : ℕ} → Earlier (suc h) (suc k) (suc i) (suc j) → Earlier h k i j
earlier_pred (inl l) = inl (le_of_suc-le-suc l)
earlier_pred (inr e) = inr (omega arith, le_of_suc-le-suc e.1)

earlier_back : {h k i j : ℕ} → 1 ≤ h → 1 ≤ k → Earlier h k (suc i) (suc j) → Earlier (h - 1) (k - 1) i j
earlier_back l m (inl e) = inl (omega arith)
earlier_back l m (inr e) = inr (omega arith, omega arith)

earlier_on : {h k i j : ℕ} → 1 ≤ i → Earlier h k (i - 1) (j - 1) → Earlier (suc h) (suc k) i j
earlier_on l (inl e) = inl (omega arith)
earlier_on l (inr e) = inr (omega arith, omega arith)

-- a pair of places
abbrev pub pair_of : ℕ → ℕ → Places
pair_of i j = record { first = i; second = j }

module _ (p : Column → Column → Bool) where
  test_suc : (S R : Family) (h k : ℕ) → p (at_place S (suc h)) (at_place R (suc k)) ≡ p (get_or S h []) (get_or R k [])
  test_suc S R h k = ap₂ p (member_suc S h) (member_suc R k)

  abbrev AllPass : Family → Type 0
  AllPass S = (h k : ℕ) → h < k → k < length S → p (get_or S h []) (get_or S k []) ≡ true

  record PairAt (S : Family) (i j : ℕ) : Type 0 where
    order : i < j
    less : j < length S
    fails : p (get_or S i []) (get_or S j []) ≡ false
    passed : (h k : ℕ) → h < k → k < length S → Earlier h k i j → p (get_or S h []) (get_or S k []) ≡ true

  pair_at_lem : (a : ℕ) (S : Family) (i j : ℕ) → PairAt S i j → first_pair p a S ≡ pair_of (a + i) (a + j)
  unfolding first_pair pair_at
  pair_at_lem a [] i j w = absurd (not-suc-le-zero w.less)
  pair_at_lem a (F ∷ S) i zero w = absurd (not-suc-le-zero w.order)
  pair_at_lem a (F ∷ S) zero (suc j) w =
      ap (λ (x : ℕ). pair_at a x (first_pair p (suc a) S)) (failing_at (p F) a S j record {
        less = le_of_suc-le-suc w.less;
        fails = w.fails;
        passed = λ k h. w.passed 0 (suc k) (suc-le-suc zero-le) (omega (arith, w.less)) (inr (refl, suc-le-suc h));
      })
      ∙ ap₂ pair_of (omega arith) (omega arith)
  pair_at_lem a (F ∷ S) (suc i) (suc j) w =
      ap (λ (x : ℕ). pair_at a x (first_pair p (suc a) S)) (failing_all (p F) (suc a) S (λ k h. w.passed 0 (suc k) (suc-le-suc zero-le) (suc-le-suc h) (inl (suc-le-suc zero-le))))
      ∙ pair_at_lem (suc a) S i j record {
        order = le_of_suc-le-suc w.order;
        less = le_of_suc-le-suc w.less;
        fails = w.fails;
        passed = λ h k l m e. w.passed (suc h) (suc k) (suc-le-suc l) (suc-le-suc m) (earlier_suc e);
      }
      ∙ ap₂ pair_of (omega arith) (omega arith)

  pair_all : (a : ℕ) (S : Family) → AllPass S → first_pair p a S ≡ none
  unfolding first_pair pair_at
  pair_all a [] h = refl
  pair_all a (F ∷ S) h =
      ap (λ (x : ℕ). pair_at a x (first_pair p (suc a) S)) (failing_all (p F) (suc a) S (λ k l. h 0 (suc k) (suc-le-suc zero-le) (suc-le-suc l)))
      ∙ pair_all (suc a) S (λ i j l m. h (suc i) (suc j) (suc-le-suc l) (suc-le-suc m))

  data FoundPair (S : Family) : Type 0 where
    no_pair : AllPass S → FoundPair S
    a_pair : (i j : ℕ) → PairAt S i j → FoundPair S

  found_pair : (S : Family) → FoundPair S
  found_pair [] = no_pair (λ h k l m. absurd (not-suc-le-zero m))
  found_pair (F ∷ S) = go (found (p F) S) (found_pair S)
    where
      -- the pairs of F pass, and those of S that are earlier than i and j
      more : Passing (p F) S → (i j : ℕ) → ((h k : ℕ) → h < k → k < length S → Earlier h k i j → p (get_or S h []) (get_or S k []) ≡ true)
          → (h k : ℕ) → h < k → k < suc (length S) → Earlier h k (suc i) (suc j) → p (get_or (F ∷ S) h []) (get_or (F ∷ S) k []) ≡ true
      more f i j below h zero l m e = absurd (not-suc-le-zero l)
      more f i j below zero (suc k) l m e = f k (le_of_suc-le-suc m)
      more f i j below (suc h) (suc k) l m e = below h k (le_of_suc-le-suc l) (le_of_suc-le-suc m) (earlier_pred e)

      all : Passing (p F) S → AllPass S → AllPass (F ∷ S)
      all f below h zero l m = absurd (not-suc-le-zero l)
      all f below zero (suc k) l m = f k (le_of_suc-le-suc m)
      all f below (suc h) (suc k) l m = below h k (le_of_suc-le-suc l) (le_of_suc-le-suc m)

      here : (j : ℕ) → ((k : ℕ) → k < j → p F (get_or S k []) ≡ true) → (h k : ℕ) → h < k → Earlier h k 0 (suc j) → p (get_or (F ∷ S) h []) (get_or (F ∷ S) k []) ≡ true
      here j f h zero l e = absurd (not-suc-le-zero l)
      here j f h (suc k) l (inl m) = absurd (not-suc-le-zero m)
      here j f zero (suc k) l (inr e) = f k (le_of_suc-le-suc e.1)
      here j f (suc h) (suc k) l (inr e) = absurd (suc-ne-zero h e.0)

      go : Found (p F) S → FoundPair S → FoundPair (F ∷ S)
      go (somewhere j w) q = a_pair 0 (suc j) record { order = suc-le-suc zero-le; less = suc-le-suc w.less; fails = w.fails; passed = λ h k l m e. here j w.passed h k l e }
      go (nowhere f) (no_pair below) = no_pair (all f below)
      go (nowhere f) (a_pair i j w) =
          a_pair (suc i) (suc j) record { order = suc-le-suc w.order; less = suc-le-suc w.less; fails = w.fails; passed = more f i j w.passed }

  -- where one pair is the first that fails, it is the answer
  pub pair_is : (S : Family) (i j : ℕ) → FirstPlaces p S i j → first_pair p 1 S ≡ pair_of i j
  pair_is S i j w =
      pair_at_lem 1 S (i - 1) (j - 1) record {
        order = omega (arith, w.least, w.order);
        less = omega (arith, w.least, w.order, w.most);
        fails = w.fails;
        passed = λ h k l m e. sym (test_suc S S h k) ∙ w.before (suc h) (suc k) (suc-le-suc zero-le) (suc-le-suc l) m (earlier_on w.least e);
      }
      ∙ ap₂ pair_of (omega (arith, w.least)) (omega (arith, w.order))

  -- there is no answer exactly where all pairs pass
  pub pair_none : (S : Family) → (first_pair p 1 S ≡ none) ↔ ((i j : ℕ) → 1 ≤ i → i < j → j ≤ length S → p (at_place S i) (at_place S j) ≡ true)
  pair_none S = (λ e. go e (found_pair S), λ f. pair_all 1 S (λ h k l m. sym (test_suc S S h k) ∙ f (suc h) (suc k) (suc-le-suc zero-le) (suc-le-suc l) m))
    where
      go : first_pair p 1 S ≡ none → FoundPair S → (i j : ℕ) → 1 ≤ i → i < j → j ≤ length S → p (at_place S i) (at_place S j) ≡ true
      go e (no_pair f) i j l m r = f (i - 1) (j - 1) (omega arith) (omega arith)
      go e (a_pair h k w) i j l m r = let z : 1 + h ≡ 0 = ap (λ (q : Places). q.first) (sym (pair_at_lem 1 S h k w) ∙ e) in absurd (omega arith)

  -- the first place is 0 only where there is no pair
  pub pair_zero : (S : Family) → (first_pair p 1 S).first ≡ 0 → first_pair p 1 S ≡ none
  pair_zero S e = go (found_pair S)
    where
      go : FoundPair S → first_pair p 1 S ≡ none
      go (no_pair f) = pair_all 1 S f
      go (a_pair i j w) = let z : 1 + i ≡ 0 = ap (λ (q : Places). q.first) (sym (pair_at_lem 1 S i j w)) ∙ e in absurd (omega arith)

  -- an answer that is not 0 is the first pair that fails
  pub pair_first : (S : Family) → 1 ≤ (first_pair p 1 S).first → FirstPlaces p S (first_pair p 1 S).first (first_pair p 1 S).second
  pair_first S l = go (found_pair S)
    where
      go : FoundPair S → FirstPlaces p S (first_pair p 1 S).first (first_pair p 1 S).second
      go (no_pair f) = absurd (not-suc-le-zero (rw (pair_all 1 S f) at l))
      go (a_pair i j w) = let e : first_pair p 1 S ≡ pair_of (suc i) (suc j) = pair_at_lem 1 S i j w ∙ ap₂ pair_of (omega arith) (omega arith) in
          rw e record {
            least = suc-le-suc zero-le;
            order = suc-le-suc w.order;
            most = w.less;
            fails = test_suc S S i j ∙ w.fails;
            before = λ h k l m r e. w.passed (h - 1) (k - 1) (omega arith) (omega arith) (earlier_back l (omega arith) e);
          }

-- ---- a member of one family and a member of another

module _ (p : Column → Column → Bool) where
  record CrossAt (P S : Family) (i j : ℕ) : Type 0 where
    less_first : i < length P
    less_second : j < length S
    fails : p (get_or P i []) (get_or S j []) ≡ false
    passed : (h k : ℕ) → h < length P → k < length S → Earlier h k i j → p (get_or P h []) (get_or S k []) ≡ true

  cross_yes : (a : ℕ) (F : Column) (P S : Family) → first_failing (p F) 1 S ≡ 0 → first_cross p a (F ∷ P) S ≡ first_cross p (suc a) P S
  unfolding first_cross
  cross_yes a F P S e = rw (e, first_cross)

  cross_no : (a : ℕ) (F : Column) (P S : Family) (j : ℕ) → first_failing (p F) 1 S ≡ suc j → first_cross p a (F ∷ P) S ≡ pair_of a (suc j)
  unfolding first_cross
  cross_no a F P S j e = rw (e, first_cross)

  cross_at : (a : ℕ) (P S : Family) (i j : ℕ) → CrossAt P S i j → first_cross p a P S ≡ pair_of (a + i) (suc j)
  cross_at a [] S i j w = absurd (not-suc-le-zero w.less_first)
  cross_at a (F ∷ P) S zero j w =
      cross_no a F P S j (failing_at (p F) 0 S j record {
        less = w.less_second;
        fails = w.fails;
        passed = λ k h. w.passed 0 k (suc-le-suc zero-le) (omega (arith, w.less_second)) (inr (refl, h));
      } ∙ omega arith)
      ∙ ap (λ (x : ℕ). pair_of x (suc j)) (omega arith)
  cross_at a (F ∷ P) S (suc i) j w =
      cross_yes a F P S (failing_all (p F) 1 S (λ k h. w.passed 0 k (suc-le-suc zero-le) h (inl (suc-le-suc zero-le))))
      ∙ cross_at (suc a) P S i j record {
        less_first = le_of_suc-le-suc w.less_first;
        less_second = w.less_second;
        fails = w.fails;
        passed = λ h k l m e. w.passed (suc h) k (suc-le-suc l) m (later e);
      }
      ∙ ap (λ (x : ℕ). pair_of x (suc j)) (omega arith)
    where
      later : {h k : ℕ} → Earlier h k i j → Earlier (suc h) k (suc i) j
      later (inl l) = inl (suc-le-suc l)
      later (inr e) = inr (ap suc e.0, e.1)

  abbrev AllCross : Family → Family → Type 0
  AllCross P S = (h k : ℕ) → h < length P → k < length S → p (get_or P h []) (get_or S k []) ≡ true

  cross_all : (a : ℕ) (P S : Family) → AllCross P S → first_cross p a P S ≡ none
  unfolding first_cross
  cross_all a [] S f = refl
  cross_all a (F ∷ P) S f =
      cross_yes a F P S (failing_all (p F) 1 S (λ k l. f 0 k (suc-le-suc zero-le) l)) ∙ cross_all (suc a) P S (λ h k l m. f (suc h) k (suc-le-suc l) m)

  data FoundCross (P S : Family) : Type 0 where
    no_cross : AllCross P S → FoundCross P S
    a_cross : (i j : ℕ) → CrossAt P S i j → FoundCross P S

  found_cross : (P S : Family) → FoundCross P S
  found_cross [] S = no_cross (λ h k l m. absurd (not-suc-le-zero l))
  found_cross (F ∷ P) S = go (found (p F) S) (found_cross P S)
    where
      more : Passing (p F) S → (i j : ℕ) → ((h k : ℕ) → h < length P → k < length S → Earlier h k i j → p (get_or P h []) (get_or S k []) ≡ true)
          → (h k : ℕ) → h < suc (length P) → k < length S → Earlier h k (suc i) j → p (get_or (F ∷ P) h []) (get_or S k []) ≡ true
      more f i j below zero k l m e = f k m
      more f i j below (suc h) k l m (inl e) = below h k (le_of_suc-le-suc l) m (inl (le_of_suc-le-suc e))
      more f i j below (suc h) k l m (inr e) = below h k (le_of_suc-le-suc l) m (inr (suc_inj e.0, e.1))

      all : Passing (p F) S → AllCross P S → AllCross (F ∷ P) S
      all f below zero k l m = f k m
      all f below (suc h) k l m = below h k (le_of_suc-le-suc l) m

      here : (j : ℕ) → ((k : ℕ) → k < j → p F (get_or S k []) ≡ true) → (h k : ℕ) → Earlier h k 0 j → p (get_or (F ∷ P) h []) (get_or S k []) ≡ true
      here j f h k (inl m) = absurd (not-suc-le-zero m)
      here j f zero k (inr e) = f k e.1
      here j f (suc h) k (inr e) = absurd (suc-ne-zero h e.0)

      go : Found (p F) S → FoundCross P S → FoundCross (F ∷ P) S
      go (somewhere j w) q = a_cross 0 j record { less_first = suc-le-suc zero-le; less_second = w.less; fails = w.fails; passed = λ h k l m e. here j w.passed h k e }
      go (nowhere f) (no_cross below) = no_cross (all f below)
      go (nowhere f) (a_cross i j w) =
          a_cross (suc i) j record { less_first = suc-le-suc w.less_first; less_second = w.less_second; fails = w.fails; passed = more f i j w.passed }

  -- where one pair is the first that fails, it is the answer
  pub cross_is : (P S : Family) (i j : ℕ) → FirstCross p P S i j → first_cross p 1 P S ≡ pair_of i j
  cross_is P S i j w =
      cross_at 1 P S (i - 1) (j - 1) record {
        less_first = omega (arith, w.least_first, w.most_first);
        less_second = omega (arith, w.least_second, w.most_second);
        fails = w.fails;
        passed = λ h k l m e. sym (test_suc p P S h k) ∙ w.before (suc h) (suc k) (suc-le-suc zero-le) (suc-le-suc zero-le) l m (earlier_on w.least_first e);
      }
      ∙ ap₂ pair_of (omega (arith, w.least_first)) (omega (arith, w.least_second))

  -- there is no answer exactly where all pairs pass
  pub cross_none : (P S : Family) → (first_cross p 1 P S ≡ none) ↔ ((i j : ℕ) → 1 ≤ i → 1 ≤ j → i ≤ length P → j ≤ length S → p (at_place P i) (at_place S j) ≡ true)
  cross_none P S = (λ e. go e (found_cross P S), λ f. cross_all 1 P S (λ h k l m. sym (test_suc p P S h k) ∙ f (suc h) (suc k) (suc-le-suc zero-le) (suc-le-suc zero-le) l m))
    where
      go : first_cross p 1 P S ≡ none → FoundCross P S → (i j : ℕ) → 1 ≤ i → 1 ≤ j → i ≤ length P → j ≤ length S → p (at_place P i) (at_place S j) ≡ true
      go e (no_cross f) i j l m r q = f (i - 1) (j - 1) (omega arith) (omega arith)
      go e (a_cross h k w) i j l m r q = let z : 1 + h ≡ 0 = ap (λ (q : Places). q.first) (sym (cross_at 1 P S h k w) ∙ e) in absurd (omega arith)

  -- the first place is 0 only where there is no pair
  pub cross_zero : (P S : Family) → (first_cross p 1 P S).first ≡ 0 → first_cross p 1 P S ≡ none
  cross_zero P S e = go (found_cross P S)
    where
      go : FoundCross P S → first_cross p 1 P S ≡ none
      go (no_cross f) = cross_all 1 P S f
      go (a_cross i j w) = let z : 1 + i ≡ 0 = ap (λ (q : Places). q.first) (sym (cross_at 1 P S i j w)) ∙ e in absurd (omega arith)

  -- an answer that is not 0 is the first pair that fails
  pub cross_first_lem : (P S : Family) → 1 ≤ (first_cross p 1 P S).first → FirstCross p P S (first_cross p 1 P S).first (first_cross p 1 P S).second
  cross_first_lem P S l = go (found_cross P S)
    where
      go : FoundCross P S → FirstCross p P S (first_cross p 1 P S).first (first_cross p 1 P S).second
      go (no_cross f) = absurd (not-suc-le-zero (rw (cross_all 1 P S f) at l))
      go (a_cross i j w) = let e : first_cross p 1 P S ≡ pair_of (suc i) (suc j) = cross_at 1 P S i j w ∙ ap (λ (x : ℕ). pair_of x (suc j)) (omega arith) in
          rw e record {
            least_first = suc-le-suc zero-le;
            least_second = suc-le-suc zero-le;
            most_first = w.less_first;
            most_second = w.less_second;
            fails = test_suc p P S i j ∙ w.fails;
            before = λ h k l m r q e. w.passed (h - 1) (k - 1) (omega arith) (omega arith) (earlier_back l m e);
          }

-- ---- tests that agree on the members give the same answer

pub failing_ext : (p q : Column → Bool) (a : ℕ) (S : Family) → ((F : Column) → F ∈ S → p F ≡ q F) → first_failing p a S ≡ first_failing q a S
unfolding first_failing
failing_ext p q a [] h = refl
failing_ext p q a (F ∷ S) h =
    ap₂ (λ (b : Bool) (x : ℕ). elim b [ true ↦ x | false ↦ a ]) (h F (Memᴰ.head refl)) (failing_ext p q (suc a) S (λ G m. h G (Memᴰ.tail m)))

module _ (p q : Column → Column → Bool) where
  pub pair_ext : (a : ℕ) (S : Family) → ((F G : Column) → F ∈ S → G ∈ S → p F G ≡ q F G) → first_pair p a S ≡ first_pair q a S
  unfolding first_pair
  pair_ext a [] h = refl
  pair_ext a (F ∷ S) h =
      ap₂ (pair_at a) (failing_ext (p F) (q F) (suc a) S (λ G m. h F G (Memᴰ.head refl) (Memᴰ.tail m)))
      (pair_ext (suc a) S (λ G H m k. h G H (Memᴰ.tail m) (Memᴰ.tail k)))

  pub cross_ext : (a : ℕ) (P S : Family) → ((F G : Column) → F ∈ P → G ∈ S → p F G ≡ q F G) → first_cross p a P S ≡ first_cross q a P S
  unfolding first_cross
  cross_ext a [] S h = refl
  cross_ext a (F ∷ P) S h =
      ap₂ (pair_at a) (failing_ext (p F) (q F) 1 S (λ G m. h F G (Memᴰ.head refl) m))
      (cross_ext (suc a) P S (λ G H m k. h G H (Memᴰ.tail m) k))
