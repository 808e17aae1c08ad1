-- Laws of the degrees of freedom: how large they can be, and what they add up to.
-- Assumes nothing.
use mathlib.Core.Path.{◌≡◌, refl, ap, ◌∙◌, subst}
use mathlib.Core.Bool.{true}
use mathlib.Core.List.Memᴰ
use mathlib.Core.List.{List, [], ◌∷◌, ◌++◌}
use Prim.Native.Nat.{ℕ, zero, suc, ◌+◌, ◌*◌, ◌^◌, ◌≤◌, ◌<◌}
use native.Mathlib.Nat.{not-suc-le-zero, le_of_suc-le-suc, pow-suc}
use native.Mathlib.Omega.{arith}
use lib.IntN.{ℤ, pos, nat_abs}
use lib.ListN.{length, get_or}
use Rattle.rules.specs.Factor.{Column, number, coarser}
use Rattle.rules.specs.Family.{Family, ◌∈◌, Lists, alike, all_numbered}
use Rattle.rules.specs.Degrees.{coarser_sum, remainder, remainders_after, remainders, class_number, degrees}
use Rattle.rules.proofs.Numbering.{by_cases}
use Rattle.rules.proofs.Members.{alike_self}
use Rattle.rules.proofs.ClassCount.{classes_most}
use Rattle.rules.proofs.Degrees.{sum_yes, sum_no}
use Rattle.rules.proofs.WorkList.{place_of}
use Rattle.rules.proofs.WellFormed.{Accepted, numbered_at}
use Rattle.rules.proofs.Signed.{abs_add, abs_sub}

-- ---- how many there are

pub length_after : (own : Column → ℤ) (n : ℕ) (done : Family) (ds : List ℤ) (S : Family) → length (remainders_after own n done ds S) ≡ length S
unfolding remainders_after
length_after own n done ds [] = refl
length_after own n done ds (F ∷ S) = ap suc (length_after own n (done ++ F ∷ []) (ds ++ remainder own n F done ds ∷ []) S)

pub length_degrees : (n : ℕ) (S : Family) → length (degrees n S) ≡ length S
unfolding degrees remainders
length_degrees n S = length_after class_number n [] [] S

-- ---- how large they can be

-- the sizes added up
unfoldable sizes : List ℤ → ℕ
sizes [] = 0
sizes (d ∷ ds) = nat_abs d + sizes ds

sizes_snoc : (ds : List ℤ) (d : ℤ) → sizes (ds ++ d ∷ []) ≡ sizes ds + nat_abs d
unfolding sizes
sizes_snoc [] d = omega arith
sizes_snoc (e ∷ ds) d = omega (arith, sizes_snoc ds d)

sum_size : (n : ℕ) (F : Column) (S : Family) (ds : List ℤ) → nat_abs (coarser_sum n F S ds) ≤ sizes ds
unfolding coarser_sum sizes
sum_size n F [] ds = omega arith
sum_size n F (G ∷ S) [] = omega arith
sum_size n F (G ∷ S) (d ∷ ds) =
    by_cases (coarser n F G)
    (λ e. rw (sum_yes n F G S d ds e) (omega (arith, abs_add d (coarser_sum n F S ds), sum_size n F S ds)))
    (λ e. rw (sum_no n F G S d ds e) (omega (arith, sum_size n F S ds)))

-- members whose own numbers are at most 240, after others whose sizes and 240 add up to 240 × 2 ^ k at most
module _ (own : Column → ℤ) (n : ℕ) where
  after_bound : (S done : Family) (ds : List ℤ) (k : ℕ) → ((F : Column) → F ∈ S → nat_abs (own F) ≤ 240) → sizes ds + 240 ≤ 240 * 2 ^ k → (i : ℕ) → i < length S
      → nat_abs (get_or (remainders_after own n done ds S) i (pos 0)) ≤ 240 * 2 ^ (k + i)
  unfolding remainders_after remainder
  after_bound [] done ds k few h i l = absurd (not-suc-le-zero l)
  after_bound (F ∷ S) done ds k few h zero l =
      let e : k + 0 ≡ k = omega arith in
      rw e (omega (arith, few F (Memᴰ.head refl), abs_sub (own F) (coarser_sum n F done ds), sum_size n F done ds))
  after_bound (F ∷ S) done ds k few h (suc i) l =
      let r : ℤ = remainder own n F done ds in
      let b : nat_abs r ≤ 240 + sizes ds = omega (arith, few F (Memᴰ.head refl), abs_sub (own F) (coarser_sum n F done ds), sum_size n F done ds) in
      let p : 2 ^ suc k ≡ 2 ^ k * 2 = pow-suc 2 k in
      let q : sizes (ds ++ r ∷ []) + 240 ≤ 240 * 2 ^ suc k = omega (arith, sizes_snoc ds r) in
      let m : k + suc i ≡ suc k + i = omega arith in
      rw m (after_bound S (done ++ F ∷ []) (ds ++ r ∷ []) (suc k) (λ G g. few G (Memᴰ.tail g)) q i (le_of_suc-le-suc l))

-- the degrees of freedom of member i, from 0, are at most 240 × 2 ^ i, either way, closed family or not
pub degrees_bound : (n : ℕ) (S : Family) → n ≤ 240 → ((F : Column) → F ∈ S → length F ≡ n) → (i : ℕ) → i < length S → nat_abs (get_or (degrees n S) i (pos 0)) ≤ 240 * 2 ^ i
unfolding degrees remainders sizes
degrees_bound n S h on i l =
    let e : 0 + i ≡ i = omega arith in
    rw e at (after_bound class_number n S [] [] 0 (λ F m. omega (arith, classes_most F, on F m)) (omega arith) i l)

-- ---- numbered families

pub numbered_all : (S : Family) → ((F : Column) → F ∈ S → number F ≡ F) → all_numbered S ≡ true
unfolding all_numbered
numbered_all [] h = refl
numbered_all (F ∷ S) h = rw (ap (λ (G : Column). alike G F) (h F (Memᴰ.head refl)) ∙ alike_self F, all_numbered) (numbered_all S (λ G m. h G (Memᴰ.tail m)))

-- the members of a family that question 15 accepts are numbered by first appearance
pub accepted_numbered : (S : Family) → Accepted S → (F : Column) → F ∈ S → number F ≡ F
accepted_numbered S is F m = let p = place_of S F m in subst (λ (G : Column). number G ≡ G) p.is (numbered_at S is.numbered p.place p.less)

-- a family that lists numbered columns, at least one, is such that question 15 accepts it
pub lists_accepted : {Q : Column → Type 0} {S : Family} → Lists Q S → ((F : Column) → Q F → number F ≡ F) → {F : Column} → Q F → Accepted S
lists_accepted {Q} {S} l numbered {F} q = record {
  some = omega (arith, (place_of S F (l.all F q)).less);
  few = l.few;
  numbered = numbered_all S (λ G m. numbered G (l.only G m));
  ascending = l.ascending;
}
