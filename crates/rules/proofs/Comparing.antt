-- Laws of the entry that compares: it is refused at the first of 6 and 15 that is broken, and what the number of each case says of the two members.
-- Assumes nothing.
use mathlib.Core.Path.{◌≡◌, refl, sym, ap, ◌∙◌}
use mathlib.Core.Logic.{◌↔◌, inl, inr}
use mathlib.Core.Bool.{Bool, true, false, ◌&&◌}
use mathlib.Core.List.{List, [], ◌∷◌}
use Prim.Native.Nat.{ℕ, zero, suc, ◌-◌, ◌≤◌}
use native.Mathlib.Omega.{arith}
use lib.Dec.{lit≤}
use lib.ListN.{length}
use Rattle.rules.specs.Factor.{Column, Finer, Equivalent, Orthogonal}
use Rattle.rules.specs.Family.{Family, ◌∈◌, members_of, well_formed}
use Rattle.rules.specs.Relation.{family_within, member_at}
use Rattle.rules.specs.Comparison.{Comparison, is_equivalent, is_finer, is_coarser, is_orthogonal, not_orthogonal, comparison, case_number, ComparisonAnswer, comparison_refused, compared, place_within, comparing}
use Rattle.rules.specs.Demand2.{condition, FirstBroken, AllHold}
use Rattle.rules.specs.Conditions.{FamiliesWithin, ComparingWithin, Formed, comparing_conditions}
use Rattle.rules.proofs.Members.{clash}
use Rattle.rules.proofs.WellFormed.{accepted, member_at_lem}
use Rattle.rules.proofs.WellMade.{well_formed_lem}
use Rattle.rules.proofs.FirstNo.{NumberedFrom1, broken_none}
use Rattle.rules.proofs.Taken.{both_test, range_test, family_test, taken_many, taken_on}
use Rattle.rules.proofs.DegreesLaws.{accepted_numbered}
use Rattle.rules.proofs.Comparison.{comparison_equivalent, comparison_finer, comparison_coarser, comparison_orthogonal, comparison_not_orthogonal}

-- ---- questions 6 and 15

-- question 6 of two families
families_test : (n : ℕ) (first second : List ℕ) → family_within n first && family_within n second ≡ true ↔ FamiliesWithin n first second
families_test n first second =
    let t = both_test _ _ (family_test n first) (family_test n second) in (
      λ e. let w = t.0 e in
          record { plots_least = w.0.0.0; plots_most = w.0.0.1; first_family = w.0.1; second_family = w.1.1 },
      λ f. t.1 (((f.plots_least, f.plots_most), f.first_family), ((f.plots_least, f.plots_most), f.second_family)),
    )

-- question 15
pub formed_test : (S : Family) → well_formed S ≡ true ↔ Formed S
formed_test S = (
  λ e. let a = accepted S e in
      record { some = a.some; few = a.few; numbered = accepted_numbered S a; ascending = a.ascending },
  λ f. well_formed_lem S f.some f.few f.ascending f.numbered,
)

-- ---- 6 and then 15

module _ (a b : Bool) (c : Comparison) where
  abbrev in_turn : ComparisonAnswer
  in_turn = elim a [ true ↦ elim b [ true ↦ compared c | false ↦ comparison_refused 15 ] | false ↦ comparison_refused 6 ]

-- the first of two conditions that is broken, by the tests of both
turn_broken : (a b : Bool) (c : Comparison) {A B : Type 0} → a ≡ true ↔ A → b ≡ true ↔ B
    → FirstBroken (condition 6 A ∷ condition 15 B ∷ []) (in_turn a b c).refusal
unfolding FirstBroken
turn_broken true true c s t = inl (s.0 refl, inl (t.0 refl, refl))
turn_broken true false c s t = inl (s.0 refl, inr (λ h. clash (t.1 h) refl, refl))
turn_broken false b c s t = inr (λ h. clash (s.1 h) refl, refl)

turn_refused : (a b : Bool) (c : Comparison) → ((in_turn a b c).refusal ≡ 0 → ⊥) → (in_turn a b c).case ≡ 0
turn_refused true true c h = absurd (h refl)
turn_refused true false c h = refl
turn_refused false b c h = refl

-- ---- numbers of cases

-- the case that has a number
case_at : ℕ → Comparison
case_at zero = not_orthogonal
case_at (suc zero) = is_equivalent
case_at (suc (suc zero)) = is_finer
case_at (suc (suc (suc zero))) = is_coarser
case_at (suc (suc (suc (suc zero)))) = is_orthogonal
case_at (suc (suc (suc (suc (suc m))))) = not_orthogonal

case_back : (c : Comparison) → case_at (case_number c) ≡ c
unfolding case_at
case_back is_equivalent = refl
case_back is_finer = refl
case_back is_coarser = refl
case_back is_orthogonal = refl
case_back not_orthogonal = refl

-- ---- the entry

module _ (n : ℕ) (first : List ℕ) (firstSize i : ℕ) (second : List ℕ) (secondSize j : ℕ) where
  abbrev answer : ComparisonAnswer
  answer = comparing n first firstSize i second secondSize j

  -- the two families
  abbrev ones : Family
  ones = members_of n first firstSize

  abbrev others : Family
  others = members_of n second secondSize

  -- the two members asked about
  abbrev one : Column
  one = member_at ones (i - 1)

  abbrev other : Column
  other = member_at others (j - 1)

  abbrev six : Bool
  six = family_within n first && family_within n second && place_within firstSize i && place_within secondSize j

  abbrev fifteen : Bool
  fifteen = well_formed ones && well_formed others

  six_test : six ≡ true ↔ ComparingWithin n first firstSize i second secondSize j
  six_test =
      let t = both_test _ _ (both_test _ _ (families_test n first second) (range_test i firstSize)) (range_test j secondSize) in (
        λ e. let w = t.0 e in
            record { families = w.0.0; first_least = w.0.1.0; first_most = w.0.1.1; second_least = w.1.0; second_most = w.1.1 },
        λ l. t.1 ((l.families, (l.first_least, l.first_most)), (l.second_least, l.second_most)),
      )

  fifteen_test : fifteen ≡ true ↔ (Formed ones × Formed others)
  fifteen_test = both_test (well_formed ones) (well_formed others) (formed_test ones) (formed_test others)

  -- the refusal is the number of the first condition broken, 6 or 15
  pub comparing_first_broken : FirstBroken (comparing_conditions n first firstSize i second secondSize j) answer.refusal
  unfolding comparing
  comparing_first_broken = turn_broken six fifteen (comparison n one other) six_test fifteen_test

  -- after a refusal the case is 0
  pub comparing_refused : (answer.refusal ≡ 0 → ⊥) → answer.case ≡ 0
  unfolding comparing
  comparing_refused = turn_refused six fifteen (comparison n one other)

  -- ---- nothing is refused

  module _ (accepts : answer.refusal ≡ 0) where
    hold : AllHold (comparing_conditions n first firstSize i second secondSize j)
    unfolding NumberedFrom1
    hold = (broken_none (comparing_conditions n first firstSize i second secondSize j) answer.refusal (lit≤ tt, (lit≤ tt, tt)) comparing_first_broken).0 accepts

    within : ComparingWithin n first firstSize i second secondSize j
    unfolding AllHold
    within = hold.0

    formed : Formed ones × Formed others
    unfolding AllHold
    formed = hold.1.0

    case_is : answer.case ≡ case_number (comparison n one other)
    unfolding comparing
    case_is = rw (six_test.1 within, comparing, fifteen_test.1 formed)

    -- the two members are members of their families
    pub first_member : one ∈ ones
    first_member = member_at_lem ones (i - 1) (omega (arith, taken_many n first firstSize, within.first_least, within.first_most))

    pub second_member : other ∈ others
    second_member = member_at_lem others (j - 1) (omega (arith, taken_many n second secondSize, within.second_least, within.second_most))

    -- and on the plots
    on : (b : List ℕ) (m : ℕ) → 7680 ≤ length b → Formed (members_of n b m) → (F : Column) → F ∈ members_of n b m → length F ≡ n
    on b m room f =
        let l = within.families in
        taken_on n b m record { plots_least = l.plots_least; plots_most = l.plots_most; room = room; formed = (formed_test (members_of n b m)).1 f }

    pub first_on : length one ≡ n
    first_on = on first firstSize within.families.first_family formed.0 one first_member

    pub second_on : length other ≡ n
    second_on = on second secondSize within.families.second_family formed.1 other second_member

    -- the number answered says what its case does
    says : (c : Comparison) {A : Type 0} → comparison n one other ≡ c ↔ A → answer.case ≡ case_number c ↔ A
    says c t = (
      λ e. t.0 (sym (case_back (comparison n one other)) ∙ ap case_at (sym case_is ∙ e) ∙ case_back c),
      λ a. case_is ∙ ap case_number (t.1 a),
    )

    pub case_equivalent : answer.case ≡ 1 ↔ Equivalent n one other
    case_equivalent = says is_equivalent (comparison_equivalent n one other)

    -- strictly finer, "said of the first factor"
    pub case_finer : answer.case ≡ 2 ↔ (Finer n one other × (Finer n other one → ⊥))
    case_finer = says is_finer (comparison_finer n one other)

    pub case_coarser : answer.case ≡ 3 ↔ (Finer n other one × (Finer n one other → ⊥))
    case_coarser = says is_coarser (comparison_coarser n one other)

    -- "orthogonal without either being finer"
    pub case_orthogonal : answer.case ≡ 4 ↔ (Orthogonal n one other × (Finer n one other → ⊥) × (Finer n other one → ⊥))
    case_orthogonal = says is_orthogonal (comparison_orthogonal n one other)

    pub case_not_orthogonal : answer.case ≡ 5 ↔ (Orthogonal n one other → ⊥)
    case_not_orthogonal = says not_orthogonal (comparison_not_orthogonal n one other first_on second_on)
