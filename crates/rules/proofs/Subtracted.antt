-- Laws of the answers about degrees of freedom, strata and residuals, said of factors.
-- Assumes nothing.
use mathlib.Core.Path.{◌≡◌, refl, sym, ap, ◌∙◌}
use mathlib.Core.Logic.{◌↔◌}
use mathlib.Core.Bool.{true, false, ◌&&◌}
use mathlib.Core.List.{List, [], ◌∷◌, map}
use Prim.Native.Nat.{ℕ, ◌≤◌, ◌<◌}
use native.Mathlib.Omega.{arith}
use lib.Dec.{leb}
use lib.IntN.{ℤ, pos, ◌+ℤ◌, ◌-ℤ◌}
use lib.ListN.{length, get_or, replicate, length-map, get_or-eq_default}
use Rattle.rules.specs.Factor.{Column, coarser, classes}
use Rattle.rules.specs.Family.{Family, ◌∈◌, Ascending, members_of, well_formed}
use Rattle.rules.specs.Lists.{tabulate, for_places}
use Rattle.rules.specs.Relation.{member_at, family_within}
use Rattle.rules.specs.Degrees.{coarser_sum, degrees, add_up, DegreesAnswer, degrees_refused, degrees_of_freedom}
use Rattle.rules.specs.Strata.{all_have_stratum, stratum, residuals, question15, question16, StrataAnswer, strata_refused, strata}
use Rattle.rules.specs.Listing.{Enumerates}
use Rattle.rules.specs.Above.{StrictlyCoarser}
use Rattle.rules.specs.Allocation.{IsStratum}
use Rattle.rules.proofs.Numbering.{by_cases}
use Rattle.rules.proofs.WellFormed.{accepted, member_at_lem}
use Rattle.rules.proofs.First.{at_place}
use Rattle.rules.proofs.Places.{at_places_lem}
use Rattle.rules.proofs.Degrees.{sum_yes, sum_no, degrees_equation}
use Rattle.rules.proofs.DegreesLaws.{length_degrees}
use Rattle.rules.proofs.Listing.{enumerates_as}
use Rattle.rules.proofs.ChosenSums.{sum_enumerated}
use Rattle.rules.proofs.Taken.{places_found, Taken, taken_many, taken_on, degrees_taken, StrataTaken, strata_taken}
use Rattle.rules.proofs.Above.{coarser_test}
use Rattle.rules.proofs.Printing.{stratum_some}
use Rattle.rules.proofs.Allocation.{stratum_there}
use Rattle.rules.proofs.StrataTotals.{at_map, residual_is}

-- ---- degrees of freedom

-- "Degrees of freedom of a member: its number of classes less those of all strictly coarser members of its family": these stand at the places js, from 0
pub degrees_are : (n : ℕ) (S : Family) → Ascending S → ((F : Column) → F ∈ S → length F ≡ n) → (i : ℕ) → i < length S
    → (js : List ℕ) → Enumerates (λ j. (j < length S) × StrictlyCoarser n (member_at S i) (member_at S j)) js
    → get_or (degrees n S) i (pos 0) ≡ pos (classes (member_at S i)) -ℤ add_up (map (λ j. get_or (degrees n S) j (pos 0)) js)
unfolding coarser_sum
degrees_are n S a on i h js lists =
    degrees_equation n S a on i h
    ∙ ap (λ (z : ℤ). pos (classes F) -ℤ z) (sum_enumerated [] (coarser n F) (coarser_sum n F) none yes no S (degrees n S) (sym (length_degrees n S)) js (enumerates_as js says lists))
  where
    F : Column
    F = member_at S i

    none : (ds : List ℤ) → coarser_sum n F [] ds ≡ pos 0
    none ds = refl

    yes : (G : Column) (l : Family) (d : ℤ) (ds : List ℤ) → coarser n F G ≡ true → coarser_sum n F (G ∷ l) (d ∷ ds) ≡ d +ℤ coarser_sum n F l ds
    yes G l d ds = sum_yes n F G l d ds

    no : (G : Column) (l : Family) (d : ℤ) (ds : List ℤ) → coarser n F G ≡ false → coarser_sum n F (G ∷ l) (d ∷ ds) ≡ coarser_sum n F l ds
    no G l d ds = sum_no n F G l d ds

    says : (j : ℕ) → ((j < length S) × StrictlyCoarser n F (member_at S j)) ↔ ((j < length S) × (coarser n F (get_or S j []) ≡ true))
    says j = (λ w. (w.0, (coarser_test n F (member_at S j)).1 w.1), λ w. (w.0, (coarser_test n F (member_at S j)).0 w.1))

module _ (n : ℕ) (b : List ℕ) (m : ℕ) where
  abbrev S : Family
  S = members_of n b m

  abbrev given : DegreesAnswer
  given = degrees_of_freedom n b m

  -- "numbers given for each member .. are .. all 0 after a refusal"
  pub degrees_refused_lem : (given.refusal ≡ 0 → ⊥) → given.degrees ≡ replicate 32 (pos 0)
  unfolding degrees_of_freedom degrees_refused for_places tabulate
  degrees_refused_lem h =
      by_cases (family_within n b)
      (λ w. by_cases (well_formed S) (λ f. absurd (h (rw (w, degrees_of_freedom, f)))) (λ f. rw (w, degrees_of_freedom, f)))
      (λ w. rw (w, degrees_of_freedom))

  module _ (accepts : given.refusal ≡ 0) where
    t : Taken n b m
    t = (degrees_taken n b m accepts).0

    found : (i : ℕ) → get_or given.degrees i (pos 0) ≡ get_or (degrees n S) i (pos 0)
    found i = ap (λ (a : DegreesAnswer). get_or a.degrees i (pos 0)) (degrees_taken n b m accepts).1 ∙ places_found (pos 0) (degrees n S) (omega (arith, length_degrees n S, (accepted S t.formed).few)) i

    -- "0 past a family's size"
    pub degrees_past : (i : ℕ) → m ≤ i → get_or given.degrees i (pos 0) ≡ pos 0
    degrees_past i h = found i ∙ get_or-eq_default (degrees n S) (pos 0) (long)
      where
        long : length (degrees n S) ≤ i
        long = omega (arith, length_degrees n S, taken_many n b m)

    pub degrees_given : (i : ℕ) → i < m → (js : List ℕ) → Enumerates (λ j. (j < m) × StrictlyCoarser n (member_at S i) (member_at S j)) js
        → get_or given.degrees i (pos 0) ≡ pos (classes (member_at S i)) -ℤ add_up (map (λ j. get_or (degrees n S) j (pos 0)) js)
    degrees_given i h js lists =
        found i ∙ degrees_are n S (accepted S t.formed).ascending (taken_on n b m t) i (omega (arith, taken_many n b m)) js
        (enumerates_as js (λ j. (λ w. (omega (arith, w.0, taken_many n b m), w.1), λ w. (omega (arith, w.0, taken_many n b m), w.1))) lists)

-- ---- strata and residuals

module _ (n : ℕ) (b : List ℕ) (k : ℕ) (c : List ℕ) (m : ℕ) where
  abbrev P : Family
  P = members_of n b k

  abbrev R : Family
  R = members_of n c m

  abbrev allotment : StrataAnswer
  allotment = strata n b k c m

  pub strata_refused_lem : (allotment.refusal ≡ 0 → ⊥) → (allotment.places ≡ replicate 32 0) × (allotment.residuals ≡ replicate 32 (pos 0))
  unfolding strata question15 question16 strata_refused for_places tabulate
  strata_refused_lem h =
      by_cases (family_within n b && leb 7680 (length c))
      (λ w. by_cases (well_formed P && well_formed R)
      (λ f. by_cases (all_have_stratum n P R)
      (λ e. absurd (h (rw (w, strata, f, question15, e, question16))))
      (λ e. (rw (w, strata, f, question15, e, question16), rw (w, strata, f, question15, e, question16))))
      (λ f. (rw (w, strata, f, question15), rw (w, strata, f, question15))))
      (λ w. (rw (w, strata), rw (w, strata)))

  module _ (accepts : allotment.refusal ≡ 0) where
    s : StrataTaken n b k c m
    s = strata_taken n b k c m accepts

    place_found : (j : ℕ) → get_or allotment.places j 0 ≡ get_or (map (stratum n P) R) j 0
    place_found j =
        ap (λ (a : StrataAnswer). get_or a.places j 0) s.is
        ∙ places_found 0 (map (stratum n P) R) (omega (arith, length-map R (stratum n P), (accepted R s.treatment_members.formed).few)) j

    -- the place answered for the treatment member at j, from 0, is that of its stratum
    pub strata_given : (j : ℕ) → j < m → IsStratum n P (member_at R j) (at_place P (get_or allotment.places j 0))
    strata_given j h =
        let l : j < length R = omega (arith, taken_many n c m) in
        let e : get_or allotment.places j 0 ≡ stratum n P (member_at R j) = place_found j ∙ at_map (stratum n P) R j l in
        rw e (stratum_there n P (member_at R j) (stratum n P (member_at R j)) (stratum_some n P R s.have_strata (member_at R j) (member_at_lem R j l)) refl)

    -- "0 past a family's size"
    pub strata_past : (j : ℕ) → m ≤ j → get_or allotment.places j 0 ≡ 0
    strata_past j h = place_found j ∙ get_or-eq_default (map (stratum n P) R) 0 long
      where
        long : length (map (stratum n P) R) ≤ j
        long = omega (arith, length-map R (stratum n P), taken_many n c m)

    -- "A stratum's residual is its degrees of freedom less those of its treatment members": the stratum at i, its treatment members at the places js, all from 0
    pub residuals_given : (i : ℕ) → i < k → (js : List ℕ) → Enumerates (λ j. (j < m) × IsStratum n P (member_at R j) (member_at P i)) js
        → get_or allotment.residuals i (pos 0) ≡ get_or (degrees n P) i (pos 0) -ℤ add_up (map (λ j. get_or (degrees n R) j (pos 0)) js)
    residuals_given i h js lists =
        ap (λ (a : StrataAnswer). get_or a.residuals i (pos 0)) s.is
        ∙ at_places_lem (pos 0) (residuals n P R) i (omega (arith, taken_many n b k, (accepted P s.plot_members_holds.formed).few))
        ∙ residual_is n P R s.plot_members_holds.formed (taken_on n b k s.plot_members_holds) i (omega (arith, taken_many n b k)) js
        (enumerates_as js (λ j. (λ w. (omega (arith, w.0, taken_many n c m), w.1), λ w. (omega (arith, w.0, taken_many n c m), w.1))) lists)
