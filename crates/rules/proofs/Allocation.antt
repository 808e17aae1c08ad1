-- Laws of strata: the place answered is that of the one plot member that the rule describes, and 0 where there is none.
-- Assumes nothing.
use mathlib.Core.Path.{◌≡◌, refl, sym, ap, ap₂, ◌∙◌, subst}
use mathlib.Core.Logic.{◌↔◌, ◌⊎◌, inl, inr}
use mathlib.Core.Bool.{Bool, true, not, ◌&&◌, ◌||◌}
use mathlib.Core.List.Memᴰ
use mathlib.Core.List.{[], ◌∷◌}
use Prim.Native.Nat.{ℕ, zero, suc, ◌-◌, ◌≤◌, ◌<◌, zero-le, suc-le-suc}
use native.Mathlib.Omega.{arith}
use lib.Dec.{ltb}
use lib.ListN.{length}
use borrow.Author.Tests.{not-true, not-false, ltb-true, ltb-false}
use Rattle.rules.specs.Factor.{Column, Finer, finer, number}
use Rattle.rules.specs.Family.{Family, ◌∈◌, alike, before, well_formed}
use Rattle.rules.specs.Relation.{member_at}
use Rattle.rules.specs.Strata.{all, is_stratum, stratum}
use Rattle.rules.specs.Allocation.{IsStratum}
use Rattle.rules.proofs.Numbering.{by_cases}
use Rattle.rules.proofs.Members.{clash, alike_sound, alike_self, before_self}
use Rattle.rules.proofs.Walks.{bool_false}
use Rattle.rules.proofs.Bounds.{finer_refl, numbered_equal}
use Rattle.rules.proofs.Classes.{finer_test}
use Rattle.rules.proofs.Tests.{or_not, not_or}
use Rattle.rules.proofs.Sheet.{and_left, and_right}
use Rattle.rules.proofs.First.{at_place, member_suc, failing_zero, failing_first}
use Rattle.rules.proofs.WellFormed.{accepted, member_at_lem, ascending_at}
use Rattle.rules.proofs.WorkList.{place_of}
use Rattle.rules.proofs.DegreesLaws.{accepted_numbered}

passes : (p : Column → Bool) (S : Family) → all p S ≡ true → (F : Column) → F ∈ S → p F ≡ true
unfolding all
passes p [] e F m = absurd (Memᴰ.not-nil m)
passes p (G ∷ S) e F m =
    by_cases (p G) (λ g. go g (passes p S (rw (g, all) at e) F) (Memᴰ.cases_cons m)) (λ g. clash e (rw (g, all)))
  where
    go : p G ≡ true → (F ∈ S → p F ≡ true) → (F ≡ G) ⊎ (F ∈ S) → p F ≡ true
    go g below (inl q) = rw q g
    go g below (inr k) = below k

pass : (p : Column → Bool) (S : Family) → ((F : Column) → F ∈ S → p F ≡ true) → all p S ≡ true
unfolding all
pass p [] h = refl
pass p (F ∷ S) h = rw (h F (Memᴰ.head refl), all) (pass p S (λ G m. h G (Memᴰ.tail m)))

-- every member passes the test, member by member
pub all_test : (p : Column → Bool) (S : Family) → all p S ≡ true ↔ ((F : Column) → F ∈ S → p F ≡ true)
all_test p S = (passes p S, pass p S)

module _ (n : ℕ) (P : Family) (T : Column) where
  -- the test says just what the rule says
  pub stratum_test : (F : Column) → F ∈ P → is_stratum n P T F ≡ true ↔ IsStratum n P T F
  unfolding is_stratum
  stratum_test F f = (to, from)
    where
      p : Column → Bool
      p = λ G. not (finer n G T) || finer n G F

      to : finer n F T && all p P ≡ true → IsStratum n P T F
      to e = record {
        member = f;
        below = (finer_test n F T).0 (and_left (finer n F T) (all p P) e);
        every_other = λ G g d h. (finer_test n G F).0 (not_or (finer n G T) (finer n G F) ((all_test p P).0 (and_right (finer n F T) (all p P) e) G g) ((finer_test n G T).1 h));
      }

      from : IsStratum n P T F → finer n F T && all p P ≡ true
      from w = ap₂ ◌&&◌ ((finer_test n F T).1 w.below) ((all_test p P).1 (λ G g. or_not (finer n G T) (finer n G F) (λ h. each G g h)))
        where
          each : (G : Column) → G ∈ P → finer n G T ≡ true → finer n G F ≡ true
          each G g h =
              by_cases (alike G F)
              (λ a. (finer_test n G F).1 (subst (λ (H : Column). Finer n G H) (alike_sound G F a) (finer_refl n G)))
              (λ a. (finer_test n G F).1 (w.every_other G g (λ q. clash (subst (λ (H : Column). alike G H ≡ true) q (alike_self G)) a) ((finer_test n G T).0 h)))

  -- the stratum has place 0 exactly where no plot member is it: "where there is no such member it has no stratum"
  pub stratum_none : stratum n P T ≡ 0 ↔ ((F : Column) → IsStratum n P T F → ⊥)
  unfolding stratum
  stratum_none = (to, λ h. (failing_zero test P).1 (λ i l m. none h (at_place P i) (member_at_lem P (i - 1) (omega arith))))
    where
      test : Column → Bool
      test F = not (is_stratum n P T F)

      to : stratum n P T ≡ 0 → (F : Column) → IsStratum n P T F → ⊥
      to e F w =
          let k = place_of P F w.member in
          clash ((stratum_test F w.member).1 w)
          (not-true _ (subst (λ (G : Column). not (is_stratum n P T G) ≡ true) (member_suc P k.place ∙ k.is) ((failing_zero test P).0 e (suc k.place) (suc-le-suc zero-le) k.less)))

      none : ((F : Column) → IsStratum n P T F → ⊥) → (F : Column) → F ∈ P → not (is_stratum n P T F) ≡ true
      none h F f = ap not (bool_false (is_stratum n P T F) (λ e. h F ((stratum_test F f).0 e)))

  -- what stands at the place answered is the stratum
  pub stratum_there : (i : ℕ) → 1 ≤ i → stratum n P T ≡ i → IsStratum n P T (at_place P i)
  unfolding stratum
  stratum_there i l e =
      let w = failing_first (λ F. not (is_stratum n P T F)) P (subst (λ (k : ℕ). 1 ≤ k) (sym e) l) in
      subst (λ (k : ℕ). IsStratum n P T (at_place P k)) e ((stratum_test (at_place P (stratum n P T)) (member_at_lem P (stratum n P T - 1) (omega (arith, w.least, w.most)))).0 (not-false _ w.fails))

-- a plot family that question 15 accepts
module _ (n : ℕ) (P : Family) (formed : well_formed P ≡ true) (on : (F : Column) → F ∈ P → length F ≡ n) (T : Column) where
  -- of plot members only one is the stratum
  pub stratum_one : (F G : Column) → IsStratum n P T F → IsStratum n P T G → F ≡ G
  stratum_one F G f g = by_cases (alike F G) (λ a. alike_sound F G a) (λ a. equal (λ q. clash (subst (λ (H : Column). alike F H ≡ true) q (alike_self F)) a))
    where
      numbered : (H : Column) → H ∈ P → number H ≡ H
      numbered = accepted_numbered P (accepted P formed)

      equal : (F ≡ G → ⊥) → F ≡ G
      equal d =
          sym (numbered F f.member)
          ∙ numbered_equal n F G (on F f.member) (on G g.member) (record { to = g.every_other F f.member d f.below; from = f.every_other G g.member (λ q. d (sym q)) g.below })
          ∙ numbered G g.member

  -- the stratum has place i exactly where the plot member at i is it
  pub stratum_at : (i : ℕ) → 1 ≤ i → i ≤ length P → stratum n P T ≡ i ↔ IsStratum n P T (at_place P i)
  unfolding stratum
  stratum_at i l m = (stratum_there n P T i l, from)
    where
      test : Column → Bool
      test F = not (is_stratum n P T F)

      from : IsStratum n P T (at_place P i) → stratum n P T ≡ i
      from w = go (stratum n P T) refl
        where
          go : (k : ℕ) → stratum n P T ≡ k → stratum n P T ≡ i
          go zero e = absurd ((stratum_none n P T).0 e (at_place P i) w)
          go (suc k) e = e ∙ same (stratum_one (at_place P (suc k)) (at_place P i) (stratum_there n P T (suc k) (suc-le-suc zero-le) e) w)
            where
              most : suc k ≤ length P
              most = subst (λ (x : ℕ). x ≤ length P) e (failing_first test P (subst (λ (x : ℕ). 1 ≤ x) (sym e) (suc-le-suc zero-le))).most

              apart : (a b : ℕ) → a < b → b < length P → member_at P a ≡ member_at P b → ⊥
              apart a b h j q = clash {P = ⊥} (ascending_at P (accepted P formed).ascending a b h j) (ap (λ (H : Column). before H (member_at P b)) q ∙ before_self (member_at P b))

              same : at_place P (suc k) ≡ at_place P i → suc k ≡ i
              same q =
                  by_cases (ltb (suc k) i)
                  (λ f. absurd (apart k (i - 1) (omega (arith, ltb-true (suc k) i f)) (omega arith) (sym (member_suc P k) ∙ q)))
                  (λ f. by_cases (ltb i (suc k))
                  (λ g. absurd (apart (i - 1) k (omega (arith, ltb-true i (suc k) g)) (omega (arith, most)) (sym (sym (member_suc P k) ∙ q))))
                  (λ g. omega (arith, ltb-false (suc k) i f, ltb-false i (suc k) g)))
