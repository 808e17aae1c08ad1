-- What an entry that takes families already made tells where it does not refuse: questions 6 and 15 are passed, and the answer is that of the members in the buffer.
-- Assumes nothing.
use mathlib.Core.Path.{◌≡◌, sym, ap, ◌∙◌}
use mathlib.Core.Logic.{◌↔◌, ◌⊎◌, inl, inr}
use mathlib.Core.Bool.{Bool, true, ◌&&◌}
use mathlib.Core.List.Memᴰ
use mathlib.Core.List.{List, map}
use Prim.Native.Nat.{ℕ, zero, suc, ◌+◌, ◌*◌, ◌≤◌}
use native.Mathlib.Nat.{suc-ne-zero}
use native.Mathlib.Omega.{arith}
use lib.Dec.{ltb, leb}
use lib.IntN.{pos}
use lib.ListN.{length, get_or, take, drop, length-drop, get_or-eq_default}
use lib.Seq.{length-take-le}
use borrow.Author.Tests.{leb-true, ltb-true, ltb-false, lt-ltb, le-leb}
use Rattle.rules.specs.Factor.{Column}
use Rattle.rules.specs.Family.{Family, ◌∈◌, columns_from, members_of, well_formed}
use Rattle.rules.specs.Design.{plots_within}
use Rattle.rules.specs.Lists.{for_places}
use Rattle.rules.specs.Relation.{family_within, relation, relation_of, relation_refused}
use Rattle.rules.specs.Degrees.{degrees, degrees_of_freedom, degrees_refused}
use Rattle.rules.specs.Strata.{all_have_stratum, stratum, residuals, question15, question16, strata, strata_refused}
use Rattle.rules.proofs.Numbering.{by_cases}
use Rattle.rules.proofs.Sheet.{and_left, and_right}
use Rattle.rules.proofs.WellFormed.{accepted}
use Rattle.rules.proofs.Buffer.{length_columns}
use Rattle.rules.proofs.Places.{at_places_lem, length_places}

-- the members of a lent buffer are on n plots
pub members_on : (n : ℕ) (b : List ℕ) (m c : ℕ) → n ≤ 240 → 240 * (c + m) ≤ length b → (F : Column) → F ∈ columns_from n b c m → length F ≡ n
unfolding columns_from
members_on n b zero c few room F k = absurd (Memᴰ.not-nil k)
members_on n b (suc m) c few room F k = go (members_on n b m (suc c) few (omega arith) F) (Memᴰ.cases_cons k)
  where
    fits : n ≤ length (drop (240 * c) b)
    fits = rw length-drop (omega arith)

    go : (F ∈ columns_from n b (suc c) m → length F ≡ n) → (F ≡ take n (drop (240 * c) b)) ⊎ (F ∈ columns_from n b (suc c) m) → length F ≡ n
    go below (inl e) = ap length e ∙ length-take-le n (drop (240 * c) b) fits
    go below (inr h) = below h

-- numbers for at most 32 members are found at their places, and z past them
pub places_found : {A : Type 0} (z : A) (xs : List A) → length xs ≤ 32 → (i : ℕ) → get_or (for_places z xs) i z ≡ get_or xs i z
places_found z xs h i =
    by_cases (ltb i 32)
    (λ e. at_places_lem z xs i (ltb-true i 32 e))
    (λ e. let l = ltb-false i 32 e in get_or-eq_default (for_places z xs) z (past l) ∙ sym (get_or-eq_default xs z (beyond l)))
  where
    past : 32 ≤ i → length (for_places z xs) ≤ i
    past l = omega (arith, length_places z xs)

    beyond : 32 ≤ i → length xs ≤ i
    beyond l = omega arith

-- ---- questions 6 and 15

-- two tests are passed exactly where both are
pub both_test : (a b : Bool) {A B : Type 0} → a ≡ true ↔ A → b ≡ true ↔ B → a && b ≡ true ↔ (A × B)
both_test a b s t = (λ e. (s.0 (and_left a b e), t.0 (and_right a b e)), λ w. rw (s.1 w.0, t.1 w.1))

-- from 1 to m
pub range_test : (x m : ℕ) → ltb 0 x && leb x m ≡ true ↔ ((1 ≤ x) × (x ≤ m))
range_test x m = both_test (ltb 0 x) (leb x m) (ltb-true 0 x, lt-ltb 0 x) (leb-true x m, le-leb x m)

pub family_test : (n : ℕ) (b : List ℕ) → family_within n b ≡ true ↔ (((1 ≤ n) × (n ≤ 240)) × (7680 ≤ length b))
unfolding family_within plots_within
family_test n b = both_test (plots_within n) (leb 7680 (length b)) (range_test n 240) (leb-true 7680 (length b), le-leb 7680 (length b))

pub record Taken (n : ℕ) (b : List ℕ) (m : ℕ) : Type 0 where
  pub plots_least : 1 ≤ n
  pub plots_most : n ≤ 240
  pub room : 7680 ≤ length b
  pub formed : well_formed (members_of n b m) ≡ true

pub taken_many : (n : ℕ) (b : List ℕ) (m : ℕ) → length (members_of n b m) ≡ m
unfolding members_of
taken_many n b m = length_columns n b 0 m

pub taken_on : (n : ℕ) (b : List ℕ) (m : ℕ) → Taken n b m → (F : Column) → F ∈ members_of n b m → length F ≡ n
unfolding members_of
taken_on n b m t = members_on n b m 0 t.plots_most (omega (arith, t.room, (accepted (members_of n b m) t.formed).few, taken_many n b m))

taken : (n : ℕ) (b : List ℕ) (m : ℕ) → family_within n b ≡ true → well_formed (members_of n b m) ≡ true → Taken n b m
taken n b m w f = let t = (family_test n b).0 w in record { plots_least = t.0.0; plots_most = t.0.1; room = t.1; formed = f }

-- ---- the entries

pub relation_taken : (n : ℕ) (b : List ℕ) (m : ℕ) → (relation n b m).refusal ≡ 0 → Taken n b m × (relation n b m ≡ relation_of n (members_of n b m))
unfolding relation relation_refused
relation_taken n b m e =
    by_cases (family_within n b)
    (λ w. by_cases (well_formed (members_of n b m)) (λ f. (taken n b m w f, rw (w, relation, f))) (λ f. absurd (suc-ne-zero 14 (sym (rw (w, relation, f)) ∙ e))))
    (λ w. absurd (suc-ne-zero 5 (sym (rw (w, relation)) ∙ e)))

pub degrees_taken : (n : ℕ) (b : List ℕ) (m : ℕ) → (degrees_of_freedom n b m).refusal ≡ 0
    → Taken n b m × (degrees_of_freedom n b m ≡ record { refusal = 0; degrees = for_places (pos 0) (degrees n (members_of n b m)) })
unfolding degrees_of_freedom degrees_refused
degrees_taken n b m e =
    by_cases (family_within n b)
    (λ w. by_cases (well_formed (members_of n b m)) (λ f. (taken n b m w f, rw (w, degrees_of_freedom, f))) (λ f. absurd (suc-ne-zero 14 (sym (rw (w, degrees_of_freedom, f)) ∙ e))))
    (λ w. absurd (suc-ne-zero 5 (sym (rw (w, degrees_of_freedom)) ∙ e)))

module _ (n : ℕ) (b : List ℕ) (k : ℕ) (c : List ℕ) (m : ℕ) where
  abbrev P : Family
  P = members_of n b k

  abbrev R : Family
  R = members_of n c m

  pub record StrataTaken : Type 0 where
    pub plot_members_holds : Taken n b k
    pub treatment_members : Taken n c m
    pub have_strata : all_have_stratum n P R ≡ true
    pub is : strata n b k c m ≡ record { refusal = 0; places = for_places 0 (map (stratum n P) R); residuals = for_places (pos 0) (residuals n P R) }

  pub strata_taken : (strata n b k c m).refusal ≡ 0 → StrataTaken
  unfolding strata question15 question16 strata_refused family_within
  strata_taken e =
      by_cases (family_within n b && leb 7680 (length c))
      (λ w. by_cases (well_formed P && well_formed R)
      (λ f. by_cases (all_have_stratum n P R)
      (λ h. record {
        plot_members_holds = taken n b k (and_left (family_within n b) (leb 7680 (length c)) w) (and_left (well_formed P) (well_formed R) f);
        treatment_members = taken n c m (other w) (and_right (well_formed P) (well_formed R) f);
        have_strata = h;
        is = rw (w, strata, f, question15, h, question16);
      })
      (λ h. absurd (suc-ne-zero 15 (sym (rw (w, strata, f, question15, h, question16)) ∙ e))))
      (λ f. absurd (suc-ne-zero 14 (sym (rw (w, strata, f, question15)) ∙ e))))
      (λ w. absurd (suc-ne-zero 5 (sym (rw (w, strata)) ∙ e)))
    where
      other : family_within n b && leb 7680 (length c) ≡ true → family_within n c ≡ true
      other w = rw (and_left (plots_within n) (leb 7680 (length b)) (and_left (family_within n b) (leb 7680 (length c)) w), and_right (family_within n b) (leb 7680 (length c)) w)
