-- Sizes and places in the answers are at most 32.
-- Assumes nothing.
use mathlib.Core.Path.{◌≡◌}
use mathlib.Core.Bool.{Bool, true, not, ◌&&◌}
use mathlib.Core.List.{List, [], ◌∷◌, map}
use Prim.Native.Nat.{ℕ, zero, suc, ◌+◌, ◌≤◌}
use native.Mathlib.Omega.{arith}
use lib.Dec.{ltb, leb}
use lib.IntN.{pos}
use lib.ListN.{length, get_or, get_or-eq_default}
use borrow.Author.Tests.{ltb-true, ltb-false}
use Rattle.rules.specs.Factor.{Column}
use Rattle.rules.specs.Family.{Family, members_of, well_formed}
use Rattle.rules.specs.Design.{first_failing}
use Rattle.rules.specs.Lists.{for_places}
use Rattle.rules.specs.Relation.{relation, relation_of, relation_refused, family_within}
use Rattle.rules.specs.Strata.{StrataAnswer, stratum, is_stratum, residuals, strata, strata_refused, question15, question16, all_have_stratum}
use Rattle.rules.proofs.Sheet.{and_left}
use Rattle.rules.proofs.Numbering.{by_cases}
use Rattle.rules.proofs.WellFormed.{accepted}
use Rattle.rules.proofs.Places.{at_places_lem, length_places}

-- a relation's size
pub relation_few : (n : ℕ) (b : List ℕ) (size : ℕ) → (relation n b size).size ≤ 32
unfolding relation relation_of relation_refused
relation_few n b size =
    by_cases (family_within n b)
    (λ w. by_cases (well_formed (members_of n b size))
    (λ f. rw (relation, w, f) (accepted (members_of n b size) f).few)
    (λ f. rw (relation, w, f) (omega arith)))
    (λ w. rw (relation, w) (omega arith))

-- a search ends within the family
failing_few : (p : Column → Bool) (i : ℕ) (S : Family) → first_failing p (suc i) S ≤ i + length S
unfolding first_failing
failing_few p i [] = omega arith
failing_few p i (F ∷ S) =
    let more : first_failing p (suc (suc i)) S ≤ suc i + length S = failing_few p (suc i) S in
    by_cases (p F) (λ e. rw (first_failing, e) (omega arith)) (λ e. rw (first_failing, e) (omega arith))

-- the places of strata
pub stratum_few : (n : ℕ) (P : Family) (T : Column) → length P ≤ 32 → stratum n P T ≤ 32
unfolding stratum
stratum_few n P T h = omega (arith, failing_few (λ F. not (is_stratum n P T F)) 0 P)

-- each element of a list of such places
each_few : (n : ℕ) (P R : Family) → length P ≤ 32 → (i : ℕ) → get_or (map (stratum n P) R) i 0 ≤ 32
each_few n P [] h i = omega arith
each_few n P (T ∷ R) h zero = stratum_few n P T h
each_few n P (T ∷ R) h (suc i) = each_few n P R h i

-- 32 numbers
places_few : (xs : List ℕ) → ((i : ℕ) → get_or xs i 0 ≤ 32) → (i : ℕ) → get_or (for_places 0 xs) i 0 ≤ 32
places_few xs h i =
    by_cases (ltb i 32)
    (λ e. rw (at_places_lem 0 xs i (ltb-true i 32 e)) (h i))
    (λ e. let l : 32 ≤ i = ltb-false i 32 e in
    rw (get_or-eq_default (for_places 0 xs) 0 {n = i} (rw (length_places 0 xs) l)) (omega arith))

-- ---- the strata's answer, by cases

module _ (Holds : StrataAnswer → Type 0) (n : ℕ) (p : List ℕ) (i : ℕ) (t : List ℕ) (j : ℕ) where
  by_strata : ((q : ℕ) → Holds (strata_refused q))
      → (family_within n p && leb 7680 (length t) ≡ true → well_formed (members_of n p i) && well_formed (members_of n t j) ≡ true
      → Holds (record { refusal = 0; places = for_places 0 (map (stratum n (members_of n p i)) (members_of n t j)); residuals = for_places (pos 0) (residuals n (members_of n p i) (members_of n t j)) }))
      → Holds (strata n p i t j)
  unfolding strata question15 question16
  by_strata ref acc =
      by_cases (family_within n p && leb 7680 (length t))
      (λ w. by_cases (well_formed (members_of n p i) && well_formed (members_of n t j))
      (λ f. by_cases (all_have_stratum n (members_of n p i) (members_of n t j))
      (λ a. rw (strata, w, question15, f, question16, a) (acc w f))
      (λ a. rw (strata, w, question15, f, question16, a) (ref 16)))
      (λ f. rw (strata, w, question15, f) (ref 15)))
      (λ w. rw (strata, w) (ref 6))

-- the places in an answer
pub strata_few : (n : ℕ) (p : List ℕ) (i : ℕ) (t : List ℕ) (j : ℕ) (k : ℕ) → get_or (strata n p i t j).places k 0 ≤ 32
unfolding strata_refused
strata_few n p i t j k =
    by_strata (λ a. get_or a.places k 0 ≤ 32) n p i t j
    (λ q. places_few [] (λ i. omega arith) k)
    (λ w f. places_few (map (stratum n (members_of n p i)) (members_of n t j)) (each_few n (members_of n p i) (members_of n t j) (accepted (members_of n p i) (and_left _ _ f)).few) k)
