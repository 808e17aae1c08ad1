-- Laws of the subtraction over a family: a member's own number is the sum of what is left to it and to every coarser member, and only one way of sharing out has this property.
-- Assumes nothing.
use mathlib.Core.Path.{◌≡◌, refl, sym, ap, ap₂, ◌∙◌, subst}
use mathlib.Core.Bool.{Bool, true, false, ◌||◌}
use mathlib.Core.List.{List, [], ◌∷◌}
use Prim.Native.Nat.{ℕ, zero, suc, ◌<◌}
use native.Mathlib.Nat.{not-suc-le-zero, le_refl, suc_inj, suc-ne-zero}
use native.Mathlib.Omega.{arith}
use lib.Dec.{eqb, ltb}
use lib.IntN.{ℤ, pos, ◌+ℤ◌, +ℤ_idl, +ℤ_idr, -ℤ-+ℤ_cancel}
use lib.ListN.{length, get_or, get_or-eq_default}
use borrow.Author.Tests.{eqb-true, eq-eqb, ne_eqb, eqb-false, ltb-true, ltb-false}
use Rattle.rules.specs.Factor.{Column, finer, coarser, equality}
use Rattle.rules.specs.Family.{Family, ◌∈◌}
use Rattle.rules.specs.Relation.{member_at, coarser_at}
use Rattle.rules.specs.Lists.{for_places}
use Rattle.rules.specs.Degrees.{coarser_sum, remainder, remainders, class_number, degrees, add_up, NonNeg, NoneBelow0}
use Rattle.rules.proofs.Numbering.{by_cases}
use Rattle.rules.proofs.Places.{length_places, at_places_lem}
use Rattle.rules.proofs.WellFormed.{Accepted, member_at_lem}
use Rattle.rules.proofs.Classes.{finer_test}
use Rattle.rules.proofs.ClassCount.{equality_finer, classes_equality}
use Rattle.rules.proofs.StrictOrder.{coarser_irreflexive, finer_places, coarser_below}
use Rattle.rules.proofs.Degrees.{sum_yes, sum_no, remainders_equation}
use Rattle.rules.proofs.DegreesLaws.{length_after}
use Rattle.rules.proofs.WorkList.{PlaceOf, place_of}
use Rattle.rules.proofs.Ring.{sum_to, sum_same, sum_add, sum_one, sum_front, where_true, true_same, cancel, zero_nonneg}

-- the numbers of the strictly coarser members, added up place by place
coarser_sum_lem : (n : ℕ) (F : Column) (S : Family) (ds : List ℤ) → length ds ≡ length S → coarser_sum n F S ds ≡ sum_to (length S) (λ x. where_true (coarser n F (get_or S x [])) (get_or ds x (pos 0)))
unfolding coarser_sum sum_to
coarser_sum_lem n F [] ds l = refl
coarser_sum_lem n F (G ∷ S) [] l = absurd (suc-ne-zero _ (sym l))
coarser_sum_lem n F (G ∷ S) (d ∷ ds) l =
    by_cases (coarser n F G)
    (λ e. sum_yes n F G S d ds e ∙ ap₂ ◌+ℤ◌ (ap (λ (b : Bool). where_true b d) (sym e)) (coarser_sum_lem n F S ds (suc_inj l)) ∙ sym (sum_front (length S) (λ x. where_true (coarser n F (get_or (G ∷ S) x [])) (get_or (d ∷ ds) x (pos 0)))))
    (λ e. sum_no n F G S d ds e ∙ coarser_sum_lem n F S ds (suc_inj l) ∙ sym (+ℤ_idl _) ∙ ap (λ (z : ℤ). z +ℤ sum_to (length S) (λ x. where_true (coarser n F (get_or S x [])) (get_or ds x (pos 0)))) (ap (λ (b : Bool). where_true b d) (sym e))
    ∙ sym (sum_front (length S) (λ x. where_true (coarser n F (get_or (G ∷ S) x [])) (get_or (d ∷ ds) x (pos 0)))))

-- all numbers of a list, added up place by place
pub add_up_sum : (ds : List ℤ) → add_up ds ≡ sum_to (length ds) (λ i. get_or ds i (pos 0))
unfolding add_up sum_to
add_up_sum [] = refl
add_up_sum (d ∷ ds) = ap (λ (z : ℤ). d +ℤ z) (add_up_sum ds) ∙ sym (sum_front (length ds) (λ i. get_or (d ∷ ds) i (pos 0)))

-- numbers that are not below 0 up to a list's end are so at every place: past it stands 0
pub nonneg_everywhere : (ds : List ℤ) → ((i : ℕ) → i < length ds → NonNeg (get_or ds i (pos 0))) → NoneBelow0 ds
nonneg_everywhere ds h i =
    by_cases (ltb i (length ds)) (λ e. h i (ltb-true i (length ds) e)) (λ e. subst NonNeg (sym (get_or-eq_default ds (pos 0) (ltb-false i (length ds) e))) zero_nonneg)

-- and so are the numbers that an answer gives for 32 places
pub places_nonneg : (ds : List ℤ) → NoneBelow0 ds → NoneBelow0 (for_places (pos 0) ds)
places_nonneg ds h = nonneg_everywhere (for_places (pos 0) ds) (λ i l. subst NonNeg (sym (at_places_lem (pos 0) ds i (omega (arith, length_places (pos 0) ds)))) (h i))

-- a remainder for each member
pub length_remainders : (own : Column → ℤ) (n : ℕ) (S : Family) → length (remainders own n S) ≡ length S
unfolding remainders
length_remainders own n S = length_after own n [] [] S

-- a family that question 15 accepts, on n plots
module _ (n : ℕ) (S : Family) (is : Accepted S) (on : (F : Column) → F ∈ S → length F ≡ n) where
  on_at : (i : ℕ) → i < length S → length (get_or S i []) ≡ n
  on_at i h = on (get_or S i []) (member_at_lem S i h)

  -- what belongs to member i: its own part and those of the strictly coarser members
  abbrev pub upward : ℕ → (ℕ → ℤ) → ℤ
  upward i f = sum_to (length S) (λ x. where_true (finer n (member_at S i) (member_at S x)) (f x))

  upward_split : (i : ℕ) → i < length S → (f : ℕ → ℤ) → upward i f ≡ f i +ℤ sum_to (length S) (λ x. where_true (coarser_at n S i x) (f x))
  unfolding coarser_at
  upward_split i h f =
      sum_same (length S) _ _ (λ x hx. part x hx)
      ∙ sum_add (length S) (λ x. where_true (eqb x i) (f x)) (λ x. where_true (coarser_at n S i x) (f x))
      ∙ ap (λ (z : ℤ). z +ℤ sum_to (length S) (λ x. where_true (coarser_at n S i x) (f x))) (sum_one (length S) i f h)
    where
      part : (x : ℕ) → x < length S → where_true (finer n (member_at S i) (member_at S x)) (f x) ≡ where_true (eqb x i) (f x) +ℤ where_true (coarser_at n S i x) (f x)
      part x hx =
          by_cases (eqb x i)
          (λ e. let q : x ≡ i = eqb-true x i e in
          let c : coarser_at n S i x ≡ false = ap (coarser_at n S i) q ∙ coarser_irreflexive n (member_at S i) in
          ap (λ (b : Bool). where_true b (f x)) (finer_places n S is on_at i x h hx ∙ ap (λ (b : Bool). b || coarser_at n S i x) (eq-eqb i x (sym q)))
          ∙ sym (+ℤ_idr (f x)) ∙ sym (ap₂ ◌+ℤ◌ (ap (λ (b : Bool). where_true b (f x)) e) (ap (λ (b : Bool). where_true b (f x)) c)))
          (λ e. ap (λ (b : Bool). where_true b (f x)) (finer_places n S is on_at i x h hx ∙ ap (λ (b : Bool). b || coarser_at n S i x) (ne_eqb i x (λ q. eqb-false x i e (sym q))))
          ∙ sym (+ℤ_idl _) ∙ sym (ap (λ (b : Bool). where_true b (f x) +ℤ where_true (coarser_at n S i x) (f x)) e))

  -- a member's own number is the sum of the remainders of the member and of every coarser one
  pub remainders_sum : (own : Column → ℤ) (i : ℕ) → i < length S → own (member_at S i) ≡ upward i (λ x. get_or (remainders own n S) x (pos 0))
  unfolding remainder coarser_at
  remainders_sum own i h =
      sym (-ℤ-+ℤ_cancel (own (member_at S i)) (coarser_sum n (member_at S i) S (remainders own n S)))
      ∙ ap₂ ◌+ℤ◌ (sym (remainders_equation own n S is.ascending on i h)) (coarser_sum_lem n (member_at S i) S (remainders own n S) (length_remainders own n S))
      ∙ sym (upward_split i h (λ x. get_or (remainders own n S) x (pos 0)))

  unique_below : (f g : ℕ → ℤ) → ((i : ℕ) → i < length S → upward i f ≡ upward i g) → (k i : ℕ) → i < k → i < length S → f i ≡ g i
  unique_below f g e zero i hk h = absurd (not-suc-le-zero hk)
  unique_below f g e (suc k) i hk h =
      cancel (f i) (g i) (sum_to (length S) (λ x. where_true (coarser_at n S i x) (g x)))
      (ap (λ (z : ℤ). f i +ℤ z) (sym (sum_same (length S) _ _ (λ x hx. true_same (coarser_at n S i x) (f x) (g x) (λ c. unique_below f g e k x (lower x hx c) hx))))
      ∙ sym (upward_split i h f) ∙ e i h ∙ upward_split i h g)
    where
      lower : (x : ℕ) → x < length S → coarser_at n S i x ≡ true → x < k
      lower x hx c = let l : x < i = coarser_below n S is on_at i x hx c in omega arith

  -- two ways of sharing out that give every member the same sum are one
  pub shares_unique : (f g : ℕ → ℤ) → ((i : ℕ) → i < length S → upward i f ≡ upward i g) → (i : ℕ) → i < length S → f i ≡ g i
  shares_unique f g e i h = unique_below f g e (suc i) i (le_refl _) h

  -- where E is a member, the remainders add up to its own number
  pub equality_total : (own : Column → ℤ) → equality n ∈ S → add_up (remainders own n S) ≡ own (equality n)
  equality_total own m =
      add_up_sum (remainders own n S) ∙ ap (λ (k : ℕ). sum_to k (λ x. get_or (remainders own n S) x (pos 0))) (length_remainders own n S)
      ∙ sum_same (length S) _ _ (λ x hx. sym (ap (λ (b : Bool). where_true b (get_or (remainders own n S) x (pos 0))) (all x)))
      ∙ sym (remainders_sum own e.place e.less) ∙ ap own e.is
    where
      e : PlaceOf S (equality n)
      e = place_of S (equality n) m

      all : (x : ℕ) → finer n (member_at S e.place) (member_at S x) ≡ true
      all x = ap (λ (F : Column). finer n F (member_at S x)) e.is ∙ (finer_test n (equality n) (member_at S x)).1 (equality_finer n (member_at S x))

  -- so all degrees of freedom add up to the number of plots
  pub degrees_total : equality n ∈ S → add_up (degrees n S) ≡ pos n
  unfolding degrees
  degrees_total m = equality_total class_number m ∙ ap pos (classes_equality n)
