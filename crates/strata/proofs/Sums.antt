-- Laws of signed sums over places: the sums of the rules are such sums, and they fit 64 bits.
-- Assumes nothing.
use mathlib.Core.Path.{◌≡◌, refl, sym, ap, ap₂, ◌∙◌}
use mathlib.Core.Bool.{Bool, true, false}
use mathlib.Core.List.{List, [], ◌∷◌}
use Prim.Native.Nat.{ℕ, zero, suc, ◌+◌, ◌*◌, ◌≤◌, ◌<◌}
use native.Mathlib.Nat.{suc_inj, suc-ne-zero}
use native.Mathlib.Numerals.{add-one}
use native.Mathlib.Omega.{arith}
use lib.Dec.{eqb, ltb}
use lib.IntN.{ℤ, pos, negsuc, neg_ℤ, nat_abs, ◌+ℤ◌, ◌-ℤ◌, +ℤ_assoc, +ℤ_idr, +ℤ_idl, neg_ℤ-+ℤ}
use lib.ListN.{length, get_or, take, get_or-eq_default, length-take}
use lib.Seq.{get_or-take}
use lib.Signed.{mag}
use mir.Syntax.{w64}
use mir.Val.{SFits, of_z, to_z}
use mir.ValLaws.{to_z-of_z}
use borrow.Author.Tests.{ltb-true, ltb-false}
use Rattle.rules.specs.Factor.{Column, coarser}
use Rattle.rules.specs.Family.{Family}
use Rattle.rules.specs.Lists.{for_places}
use Rattle.rules.specs.Degrees.{coarser_sum}
use Rattle.rules.specs.Strata.{sum_at}
use Rattle.rules.proofs.Numbering.{by_cases}
use Rattle.rules.proofs.Degrees.{sum_yes, sum_no}
use Rattle.rules.proofs.Places.{length_places, at_places_lem}
use Rattle.rules.proofs.Signed.{abs_add, abs_sub}
use Rattle.strata.specs.Sums.{sum_passing, Small, AllSmall}

-- ---- one place more

module _ (t : ℕ → Bool) (d : ℕ → ℤ) (m : ℕ) where
  pub pass_yes : t m ≡ true → sum_passing t d (suc m) ≡ sum_passing t d m +ℤ d m
  unfolding sum_passing
  pass_yes e = rw (e, sum_passing)

  pub pass_no : t m ≡ false → sum_passing t d (suc m) ≡ sum_passing t d m
  unfolding sum_passing
  pass_no e = rw (e, sum_passing)

-- sums of numbers that agree, over tests that agree
pub pass_ext : (s t : ℕ → Bool) (d e : ℕ → ℤ) (m : ℕ) → ((j : ℕ) → j < m → s j ≡ t j) → ((j : ℕ) → j < m → d j ≡ e j) → sum_passing s d m ≡ sum_passing t e m
unfolding sum_passing
pass_ext s t d e zero h k = refl
pass_ext s t d e (suc m) h k =
    by_cases (t m)
    (λ q. pass_yes s d m (h m (omega arith) ∙ q) ∙ ap₂ ◌+ℤ◌ (pass_ext s t d e m (λ j l. h j (omega arith)) (λ j l. k j (omega arith))) (k m (omega arith)) ∙ sym (pass_yes t e m q))
    (λ q. pass_no s d m (h m (omega arith) ∙ q) ∙ pass_ext s t d e m (λ j l. h j (omega arith)) (λ j l. k j (omega arith)) ∙ sym (pass_no t e m q))

-- the first numbers alone
pub sum_taken : (t : ℕ → Bool) (ds : List ℤ) (m : ℕ) → sum_passing t (λ j. get_or (take m ds) j (pos 0)) m ≡ sum_passing t (λ j. get_or ds j (pos 0)) m
sum_taken t ds m = pass_ext t t (λ j. get_or (take m ds) j (pos 0)) (λ j. get_or ds j (pos 0)) m (λ j l. refl) (λ j l. get_or-take m ds j (pos 0) l)

-- no place from m on passes
pub pass_more : (t : ℕ → Bool) (d : ℕ → ℤ) (m n : ℕ) → m ≤ n → ((j : ℕ) → m ≤ j → j < n → t j ≡ false) → sum_passing t d m ≡ sum_passing t d n
pass_more t d m zero h f = let e : m ≡ 0 = omega arith in rw e
pass_more t d m (suc n) h f =
    by_cases (ltb m (suc n))
    (λ q. let l : m < suc n = ltb-true m (suc n) q in pass_more t d m n (omega arith) (λ j a b. f j a (omega arith)) ∙ sym (pass_no t d n (f n (omega arith) (omega arith))))
    (λ q. let l : suc n ≤ m = ltb-false m (suc n) q in let e : m ≡ suc n = omega arith in rw e)

-- the first place apart
module _ (t : ℕ → Bool) (d : ℕ → ℤ) where
  pub cons_yes : (n : ℕ) → t 0 ≡ true → sum_passing t d (suc n) ≡ d 0 +ℤ sum_passing (λ j. t (suc j)) (λ j. d (suc j)) n
  unfolding sum_passing
  cons_yes zero e = pass_yes t d 0 e ∙ +ℤ_idl (d 0) ∙ sym (+ℤ_idr (d 0))
  cons_yes (suc n) e =
      by_cases (t (suc n))
      (λ q. pass_yes t d (suc n) q ∙ ap (λ (z : ℤ). z +ℤ d (suc n)) (cons_yes n e) ∙ +ℤ_assoc (d 0) (sum_passing (λ j. t (suc j)) (λ j. d (suc j)) n) (d (suc n))
      ∙ ap (λ (z : ℤ). d 0 +ℤ z) (sym (pass_yes (λ j. t (suc j)) (λ j. d (suc j)) n q)))
      (λ q. pass_no t d (suc n) q ∙ cons_yes n e ∙ ap (λ (z : ℤ). d 0 +ℤ z) (sym (pass_no (λ j. t (suc j)) (λ j. d (suc j)) n q)))

  pub cons_no : (n : ℕ) → t 0 ≡ false → sum_passing t d (suc n) ≡ sum_passing (λ j. t (suc j)) (λ j. d (suc j)) n
  unfolding sum_passing
  cons_no zero e = pass_no t d 0 e
  cons_no (suc n) e =
      by_cases (t (suc n))
      (λ q. pass_yes t d (suc n) q ∙ ap (λ (z : ℤ). z +ℤ d (suc n)) (cons_no n e) ∙ sym (pass_yes (λ j. t (suc j)) (λ j. d (suc j)) n q))
      (λ q. pass_no t d (suc n) q ∙ cons_no n e ∙ sym (pass_no (λ j. t (suc j)) (λ j. d (suc j)) n q))

-- ---- the sums of the rules

-- the numbers of the strictly coarser members
pub coarser_sum_is : (n : ℕ) (F : Column) (S : Family) (ds : List ℤ) → length S ≡ length ds
    → coarser_sum n F S ds ≡ sum_passing (λ j. coarser n F (get_or S j [])) (λ j. get_or ds j (pos 0)) (length S)
unfolding coarser_sum sum_passing
coarser_sum_is n F [] ds l = refl
coarser_sum_is n F (G ∷ S) [] l = absurd (suc-ne-zero _ l)
coarser_sum_is n F (G ∷ S) (d ∷ ds) l =
    by_cases (coarser n F G)
    (λ e. sum_yes n F G S d ds e ∙ ap (λ (z : ℤ). d +ℤ z) (coarser_sum_is n F S ds (suc_inj l))
    ∙ sym (cons_yes (λ j. coarser n F (get_or (G ∷ S) j [])) (λ j. get_or (d ∷ ds) j (pos 0)) (length S) e))
    (λ e. sum_no n F G S d ds e ∙ coarser_sum_is n F S ds (suc_inj l) ∙ sym (cons_no (λ j. coarser n F (get_or (G ∷ S) j [])) (λ j. get_or (d ∷ ds) j (pos 0)) (length S) e))

-- the numbers of the treatment members in one stratum
module _ (i s : ℕ) (ss : List ℕ) (d : ℤ) (ds : List ℤ) where
  at_yes : eqb s i ≡ true → sum_at i (s ∷ ss) (d ∷ ds) ≡ d +ℤ sum_at i ss ds
  unfolding sum_at
  at_yes e = rw (e, sum_at)

  at_no : eqb s i ≡ false → sum_at i (s ∷ ss) (d ∷ ds) ≡ sum_at i ss ds
  unfolding sum_at
  at_no e = rw (e, sum_at)

pub sum_at_is : (i : ℕ) (ss : List ℕ) (ds : List ℤ) → length ss ≡ length ds → sum_at i ss ds ≡ sum_passing (λ t. eqb (get_or ss t 0) i) (λ t. get_or ds t (pos 0)) (length ss)
unfolding sum_at sum_passing
sum_at_is i [] ds l = refl
sum_at_is i (s ∷ ss) [] l = absurd (suc-ne-zero _ l)
sum_at_is i (s ∷ ss) (d ∷ ds) l =
    by_cases (eqb s i)
    (λ e. at_yes i s ss d ds e ∙ ap (λ (z : ℤ). d +ℤ z) (sum_at_is i ss ds (suc_inj l)) ∙ sym (cons_yes (λ t. eqb (get_or (s ∷ ss) t 0) i) (λ t. get_or (d ∷ ds) t (pos 0)) (length ss) e))
    (λ e. at_no i s ss d ds e ∙ sum_at_is i ss ds (suc_inj l) ∙ sym (cons_no (λ t. eqb (get_or (s ∷ ss) t 0) i) (λ t. get_or (d ∷ ds) t (pos 0)) (length ss) e))

-- ---- subtraction place by place

-- one number more is taken away
pub take_more : (x y z : ℤ) → x -ℤ y -ℤ z ≡ x -ℤ (y +ℤ z)
take_more x y z = +ℤ_assoc x (neg_ℤ y) (neg_ℤ z) ∙ ap (λ (w : ℤ). x +ℤ w) (sym (neg_ℤ-+ℤ y z))

module _ (x : ℤ) (t : ℕ → Bool) (d : ℕ → ℤ) (m : ℕ) where
  pub left_start : x ≡ x -ℤ sum_passing t d 0
  unfolding sum_passing
  left_start = sym (+ℤ_idr x)

  pub left_yes : t m ≡ true → x -ℤ sum_passing t d m -ℤ d m ≡ x -ℤ sum_passing t d (m + 1)
  left_yes e = take_more x (sum_passing t d m) (d m) ∙ ap (λ (z : ℤ). x -ℤ z) (sym (ap (sum_passing t d) (add-one m) ∙ pass_yes t d m e))

  pub left_no : t m ≡ false → x -ℤ sum_passing t d m ≡ x -ℤ sum_passing t d (m + 1)
  left_no e = ap (λ (z : ℤ). x -ℤ z) (sym (ap (sum_passing t d) (add-one m) ∙ pass_no t d m e))

-- ---- sizes

pub mag_le : (z : ℤ) → mag z ≤ nat_abs z
mag_le (pos n) = omega arith
mag_le (negsuc n) = omega arith

pass_size : (t : ℕ → Bool) (d : ℕ → ℤ) (m : ℕ) → ((j : ℕ) → Small (d j)) → nat_abs (sum_passing t d m) ≤ m * 1099511627776
unfolding sum_passing
pass_size t d zero h = omega arith
pass_size t d (suc m) h =
    by_cases (t m)
    (λ e. rw (pass_yes t d m e) (omega (arith, abs_add (sum_passing t d m) (d m), pass_size t d m h, h m)))
    (λ e. rw (pass_no t d m e) (omega (arith, pass_size t d m h)))

-- what is left fits 64 bits
pub left_fits : (x : ℤ) (t : ℕ → Bool) (d : ℕ → ℤ) (m : ℕ) → m ≤ 32 → Small x → ((j : ℕ) → Small (d j)) → SFits w64 (x -ℤ sum_passing t d m)
left_fits x t d m l hx hd =
    record { sfits = omega (arith, mag_le (x -ℤ sum_passing t d m), abs_sub x (sum_passing t d m), pass_size t d m hd) }

pub small_fits : (z : ℤ) → Small z → SFits w64 z
small_fits z h = record { sfits = omega (arith, mag_le z) }

-- lists of small numbers
pub small_take : (i : ℕ) (ds : List ℤ) → AllSmall ds → AllSmall (take i ds)
small_take i ds h k =
    by_cases (ltb k i)
    (λ e. rw (get_or-take i ds k (pos 0) (ltb-true k i e)) (h k))
    (λ e. rw (get_or-eq_default (take i ds) (pos 0) (short k (ltb-false k i e))) (omega arith))
  where
    short : (k : ℕ) → i ≤ k → length (take i ds) ≤ k
    short k l = simp length-take (omega arith)

pub small_places : (ds : List ℤ) → AllSmall ds → AllSmall (for_places (pos 0) ds)
small_places ds h k =
    by_cases (ltb k 32)
    (λ e. rw (at_places_lem (pos 0) ds k (ltb-true k 32 e)) (h k))
    (λ e. rw (get_or-eq_default (for_places (pos 0) ds) (pos 0) {n = k} (rw (length_places (pos 0) ds) (ltb-false k 32 e))) (omega arith))

-- ---- the same of a signed local, which is read from its bits

module _ (x : ℤ) (t : ℕ → Bool) (d : ℕ → ℤ) (m : ℕ) (l : m ≤ 32) (hx : Small x) (hd : (j : ℕ) → Small (d j)) where
  same : to_z w64 (of_z w64 x) ≡ x
  same = to_z-of_z w64 x (small_fits x hx)

  pub bits_start : to_z w64 (of_z w64 x) ≡ to_z w64 (of_z w64 x) -ℤ sum_passing t d 0
  bits_start = left_start (to_z w64 (of_z w64 x)) t d m

  pub bits_end : to_z w64 (of_z w64 x) -ℤ sum_passing t d m ≡ x -ℤ sum_passing t d m
  bits_end = ap (λ (z : ℤ). z -ℤ sum_passing t d m) same

  step : t m ≡ true → to_z w64 (of_z w64 x) -ℤ sum_passing t d m -ℤ to_z w64 (of_z w64 (d m)) ≡ x -ℤ sum_passing t d (m + 1)
  step e = ap₂ ◌-ℤ◌ bits_end (to_z-of_z w64 (d m) (small_fits (d m) (hd m))) ∙ left_yes x t d m e

  pub bits_fit : m + 1 ≤ 32 → t m ≡ true → SFits w64 (to_z w64 (of_z w64 x) -ℤ sum_passing t d m -ℤ to_z w64 (of_z w64 (d m)))
  bits_fit k e = rw (step e) (left_fits x t d (m + 1) k hx hd)

  pub bits_yes : m + 1 ≤ 32 → t m ≡ true → to_z w64 (of_z w64 (to_z w64 (of_z w64 x) -ℤ sum_passing t d m -ℤ to_z w64 (of_z w64 (d m)))) ≡ to_z w64 (of_z w64 x) -ℤ sum_passing t d (m + 1)
  bits_yes k e =
      ap (λ (z : ℤ). to_z w64 (of_z w64 z)) (step e) ∙ to_z-of_z w64 (x -ℤ sum_passing t d (m + 1)) (left_fits x t d (m + 1) k hx hd)
      ∙ ap (λ (z : ℤ). z -ℤ sum_passing t d (m + 1)) (sym same)

  pub bits_no : t m ≡ false → to_z w64 (of_z w64 x) -ℤ sum_passing t d m ≡ to_z w64 (of_z w64 x) -ℤ sum_passing t d (m + 1)
  bits_no e = left_no (to_z w64 (of_z w64 x)) t d m e
