-- The answers by questions 6, 15 and 16.
-- Assumes nothing.
use mathlib.Core.Path.{◌≡◌, refl, sym, ap, subst, ◌∙◌}
use mathlib.Core.Bool.{Bool, true, false, ◌&&◌}
use mathlib.Core.List.{List, map}
use Prim.Native.Nat.{ℕ}
use lib.Dec.{eqb, leb}
use lib.IntN.{ℤ, pos}
use lib.ListN.{length}
use Rattle.rules.specs.Family.{Family, members_of, well_formed}
use Rattle.rules.specs.Lists.{for_places}
use Rattle.rules.specs.Design.{plots_within}
use Rattle.rules.specs.Relation.{family_within, RelationAnswer, relation, relation_of, relation_refused}
use Rattle.rules.specs.Degrees.{degrees, degrees_of_freedom, degrees_refused}
use Rattle.rules.specs.Strata.{StrataAnswer, stratum, residuals, all_have_stratum, question15, question16, strata, strata_refused}
use Rattle.rules.proofs.Members.{clash}
use Rattle.rules.proofs.Numbering.{by_cases}
use Rattle.rules.proofs.ComparedPairs.{relation_compares}
use Rattle.strata.specs.Answers.{relation_in, RelationCompared, degrees_in, degrees_found, analysis_in, analysis_from, AnalysisAnswer, with_degrees, strata_analysis}
use Rattle.families.specs.Lent.{formed_in}
use Rattle.strata.specs.Lent.{family_refusal}
use Rattle.strata.specs.declared.order.Relation.{Relation}
use Rattle.strata.specs.declared.stratum.Analysis.{Analysis}
use Rattle.strata.proofs.Lent.{formed_of, by_refusal, none_refused}
use Rattle.refusal.specs.declared.Refusal.{Refusal}
use Rattle.refusal.specs.Numbers.{number_of}
use Rattle.std.proofs.Common.{Option, Some, None, Result, Ok, Err}
use Rattle.std.specs.Option.{ok_or}

module _ (n : ℕ) (b : List ℕ) (size : ℕ) where
  -- what is answered as the relation compares
  pub compared : (r : Result Relation Refusal) → relation_in r ≡ relation n b size → RelationCompared n b size (relation_in r)
  compared r e = subst (λ (a : RelationAnswer). RelationCompared n b size a) (sym e) (relation_compares n b size)

  -- the first question whose answer is no
  pub relation_no : (q : Refusal) (r : Result Relation Refusal) → r ≡ Err q → family_refusal n b size ≡ Some q → relation_in r ≡ relation n b size
  unfolding relation
  relation_no q r e f = rw e (by_refusal n b size (λ q. relation_refused (number_of q) ≡ relation n b size) (λ w. rw (w, relation)) (λ w f. rw (w, f, relation)) q f)

  -- none
  pub relation_yes : family_refusal n b size ≡ None → relation_of n (members_of n b size) ≡ relation n b size
  unfolding relation
  relation_yes e = let both = none_refused n b size e in rw (both.0, both.1, relation)

  pub degrees_no : (q : Refusal) (r : Result (List ℤ) Refusal) → r ≡ Err q → family_refusal n b size ≡ Some q → degrees_in r ≡ degrees_of_freedom n b size
  unfolding degrees_of_freedom
  degrees_no q r e f =
      rw e (by_refusal n b size (λ q. degrees_refused (number_of q) ≡ degrees_of_freedom n b size) (λ w. rw (w, degrees_of_freedom)) (λ w f. rw (w, f, degrees_of_freedom)) q f)

  pub degrees_found_lem : family_within n b ≡ true → well_formed (members_of n b size) ≡ true → degrees_of_freedom n b size ≡ degrees_found n (members_of n b size)
  unfolding degrees_of_freedom degrees_found
  degrees_found_lem e f = rw (e, f, degrees_of_freedom)

  pub degrees_yes : (ds : List ℤ) → ds ≡ for_places (pos 0) (degrees n (members_of n b size)) → family_refusal n b size ≡ None → degrees_in (Ok ds) ≡ degrees_of_freedom n b size
  unfolding degrees_found
  degrees_yes ds d e = let both = none_refused n b size e in rw d (sym (degrees_found_lem both.0 both.1))

-- ---- strata

module _ (n : ℕ) (P R : Family) where
  pub strata_16 : all_have_stratum n P R ≡ false → question16 n P R ≡ strata_refused 16
  unfolding question16
  strata_16 e = rw (e, question16)

  pub strata_found : all_have_stratum n P R ≡ true → question16 n P R ≡ record { refusal = 0; places = for_places 0 (map (stratum n P) R); residuals = for_places (pos 0) (residuals n P R) }
  unfolding question16
  strata_found e = rw (e, question16)

second : (x y : Bool) → x && y ≡ true → y ≡ true
second true y e = e
second false y e = clash e refl

other : (x y z : Bool) → x && y ≡ true → x && z ≡ false → z ≡ false
other true y z e f = f
other false y z e f = clash e refl

long : (n : ℕ) (r : List ℕ) → family_within n r ≡ true → leb 7680 (length r) ≡ true
unfolding family_within
long n r e = second (plots_within n) (leb 7680 (length r)) e

-- the plot count is within limits, so it is the second buffer that is too short
short : (n : ℕ) (b r : List ℕ) → family_within n b ≡ true → family_within n r ≡ false → leb 7680 (length r) ≡ false
unfolding family_within
short n b r e f = other (plots_within n) (leb 7680 (length b)) (leb 7680 (length r)) e f

module _ (n : ℕ) (b : List ℕ) (size : ℕ) (r : List ℕ) (tsize : ℕ) where
  pub strata_6_plot : family_within n b ≡ false → strata n b size r tsize ≡ strata_refused 6
  unfolding strata
  strata_6_plot e = rw (e, strata)

  module _ (e : family_within n b ≡ true) where
    pub strata_6_treatment : family_within n r ≡ false → strata n b size r tsize ≡ strata_refused 6
    unfolding strata
    strata_6_treatment f = rw (e, short n b r e f, strata)

    module _ (f : family_within n r ≡ true) where
      pub strata_15_plot : well_formed (members_of n b size) ≡ false → strata n b size r tsize ≡ strata_refused 15
      unfolding strata question15
      strata_15_plot g = rw (e, long n r f, strata, g, question15)

      pub strata_15_treatment : well_formed (members_of n b size) ≡ true → well_formed (members_of n r tsize) ≡ false → strata n b size r tsize ≡ strata_refused 15
      unfolding strata question15
      strata_15_treatment g h = rw (e, long n r f, strata, g, h, question15)

      pub strata_15_on : well_formed (members_of n b size) ≡ true → well_formed (members_of n r tsize) ≡ true
          → strata n b size r tsize ≡ question16 n (members_of n b size) (members_of n r tsize)
      unfolding strata question15
      strata_15_on g h = rw (e, long n r f, strata, g, h, question15)

-- ---- with the degrees of freedom

module _ (n : ℕ) (P R : Family) where
  pub with_strata : (a : StrataAnswer) → (with_degrees n P R a).strata ≡ a
  unfolding with_degrees
  with_strata a = by_cases (eqb a.refusal 0) (λ e. rw (e, with_degrees)) (λ e. rw (e, with_degrees))

  -- a refusal, by a question with a number from 1 on
  pub with_refused : (q : Refusal) (a : StrataAnswer) → eqb (number_of q) 0 ≡ false → a ≡ strata_refused (number_of q) → analysis_in (Err q) ≡ with_degrees n P R a
  unfolding with_degrees strata_refused
  with_refused q a some e = rw e (sym (rw (some, with_degrees)))

  -- an answer
  pub with_found : (found : Analysis) → all_have_stratum n P R ≡ true → found.totals ≡ for_places (pos 0) (degrees n P) → found.degrees ≡ for_places (pos 0) (degrees n R)
      → found.strata.places ≡ for_places 0 (map (stratum n P) R) → found.strata.residuals ≡ for_places (pos 0) (residuals n P R) → analysis_in (Ok found) ≡ with_degrees n P R (question16 n P R)
  unfolding with_degrees
  with_found found e t d p r = rw (strata_found n P R e, t, d, p, r)

-- a refusal of the families that two buffers lend
pub strata_no : (n : ℕ) (b : List ℕ) (size : ℕ) (r : List ℕ) (tsize : ℕ) (q : Refusal) → eqb (number_of q) 0 ≡ false → strata n b size r tsize ≡ strata_refused (number_of q)
    → analysis_in (Err q) ≡ strata_analysis n b size r tsize
strata_no n b size r tsize q some e = with_refused n (members_of n b size) (members_of n r tsize) q (strata n b size r tsize) some e

module _ (n : ℕ) (b : List ℕ) (size : ℕ) (r : List ℕ) (tsize : ℕ) where
  -- the same without the degrees of freedom
  pub strata_part : (a : Result Analysis Refusal) → analysis_in a ≡ strata_analysis n b size r tsize → (analysis_in a).strata ≡ strata n b size r tsize
  strata_part a e = ap (λ (x : AnalysisAnswer). x.strata) e ∙ with_strata n (members_of n b size) (members_of n r tsize) (strata n b size r tsize)

  -- 15 of both families, and then 16
  pub strata_yes : (a : Result Analysis Refusal) → family_within n b ≡ true → family_within n r ≡ true → formed_in n b size ≡ true → formed_in n r tsize ≡ true
      → analysis_in a ≡ analysis_from question16 n b size r tsize → analysis_in a ≡ strata_analysis n b size r tsize
  strata_yes a w v f g e =
      e ∙ ap (with_degrees n (members_of n b size) (members_of n r tsize)) (sym (strata_15_on n b size r tsize w v (formed_of n b size f).formed (formed_of n r tsize g).formed))

-- what `ok_or` made of an `Option`
pub asked_none : {A E : Type 0} (o : Option A) (e q : E) → ◌≡◌ {A = Result A E} (Err q) (ok_or o e) → (o ≡ None) × (q ≡ e)
asked_none None e q h = (refl, cc)
asked_none (Some x) e q h = absurd cc

pub asked_some : {A E : Type 0} (o : Option A) (e : E) (x : A) → ◌≡◌ {A = Result A E} (Ok x) (ok_or o e) → o ≡ Some x
asked_some None e x h = absurd cc
asked_some (Some y) e x h = cc
