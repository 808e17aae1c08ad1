-- What comparing answers, by its questions as they are asked in turn: 6 of each family with its place, then 15 of each.
-- Assumes nothing.
use mathlib.Core.Path.{◌≡◌, refl, sym, ap, ap₂, ◌∙◌}
use mathlib.Core.Bool.{Bool, true, false, ◌&&◌}
use mathlib.Core.List.{List}
use Prim.Native.Nat.{ℕ, ◌+◌, ◌-◌, ◌*◌, ◌≤◌}
use native.Mathlib.Omega.{arith}
use lib.Dec.{ltb, leb}
use lib.ListN.{length}
use borrow.Author.Tests.{ltb-true, leb-true}
use Rattle.rules.specs.Limits.{family_bytes}
use Rattle.rules.specs.Factor.{Column}
use Rattle.rules.specs.Family.{members_of, well_formed}
use Rattle.rules.specs.Design.{plots_within}
use Rattle.rules.specs.Relation.{family_within, member_at}
use Rattle.rules.specs.Comparison.{Comparison, comparison, comparison_refused, compared, place_within, comparing}
use Rattle.rules.proofs.Sheet.{and_left, and_right}
use Rattle.rules.proofs.Buffer.{length_members, member_is}
use Rattle.rules.proofs.WellFormed.{accepted}
use Rattle.factor.specs.Lent.{column_at, test_common}
use Rattle.factor.proofs.Lent.{test_parts}
use Rattle.families.specs.Lent.{formed_in}
use Rattle.families.proofs.Lent.{Within, within_limits_lem, formed_in_lem}

-- what `a && b` computes: b is looked at where a is true
pub and_asked : (a b r : Bool) → a ≡ true → r ≡ b → a && b ≡ r
and_asked true b r e f = sym f
and_asked false b r e f = absurd (cc)

pub and_left_out : (a b r : Bool) → a ≡ false → r ≡ false → a && b ≡ r
and_left_out true b r e f = absurd (cc)
and_left_out false b r e f = sym f

-- ---- one family, and the place asked about

module _ (n : ℕ) (b : List ℕ) (size place : ℕ) where
  abbrev pub asked : Bool
  asked = plots_within n && leb family_bytes (length b) && place_within size place

  pub record Asked : Type 0 where
    pub family : Within n (length b)
    pub first : 1 ≤ place
    pub last : place ≤ size

  pub within : asked ≡ true → Asked
  within e =
      let f : Bool = plots_within n && leb 7680 (length b) in
      let p = and_right f (place_within size place) e in
      record {
        family = within_limits_lem n (length b) (and_left f (place_within size place) e);
        first = ltb-true 0 place (and_left (ltb 0 place) (leb place size) p);
        last = leb-true place size (and_right (ltb 0 place) (leb place size) p);
      }

  -- the member at the place is a column of the buffer, on n plots
  module _ (w : Asked) (f : well_formed (members_of n b size) ≡ true) where
    pub member_at_place : member_at (members_of n b size) (place - 1) ≡ column_at n b (place - 1)
    member_at_place = member_is n w.family.few_plots b size (place - 1) (omega (arith, w.first, w.last))

    pub room : 240 * (place - 1) + n ≤ length b
    room = omega (arith, w.first, w.last, w.family.few_plots, w.family.long, (accepted (members_of n b size) f).few, length_members n w.family.few_plots b size)

-- ---- both

-- the four parts of 6, by family
by_family : (a b p q : Bool) → a && b && p && q ≡ (a && p) && (b && q)
by_family true true p q = refl
by_family true false true q = refl
by_family true false false q = refl
by_family false b p q = refl

module _ (n : ℕ) (first : List ℕ) (firstSize i : ℕ) (second : List ℕ) (secondSize j : ℕ) where
  abbrev one : Bool
  one = asked n first firstSize i

  abbrev other : Bool
  other = asked n second secondSize j

  six : family_within n first && family_within n second && place_within firstSize i && place_within secondSize j ≡ one && other
  unfolding family_within
  six = by_family (family_within n first) (family_within n second) (place_within firstSize i) (place_within secondSize j)

  pub refused_6 : one && other ≡ false → comparison_refused 6 ≡ comparing n first firstSize i second secondSize j
  unfolding comparing
  refused_6 e = sym (rw (six ∙ e, comparing))

  module _ (e : one && other ≡ true) where
    pub first_within : Asked n first firstSize i
    first_within = within n first firstSize i (and_left one other e)

    pub second_within : Asked n second secondSize j
    second_within = within n second secondSize j (and_right one other e)

    -- 15 of both, of the buffers and of the members in them
    pub formed_both : formed_in n first firstSize && formed_in n second secondSize ≡ well_formed (members_of n first firstSize) && well_formed (members_of n second secondSize)
    formed_both =
        let v = first_within.family in
        let w = second_within.family in
        ap₂ (λ (b c : Bool). b && c) (formed_in_lem n first firstSize v.few_plots v.long) (formed_in_lem n second secondSize w.few_plots w.long)

    passed : family_within n first && family_within n second && place_within firstSize i && place_within secondSize j ≡ true
    passed = six ∙ e

    pub refused_15 : formed_in n first firstSize && formed_in n second secondSize ≡ false → comparison_refused 15 ≡ comparing n first firstSize i second secondSize j
    unfolding comparing
    refused_15 h = sym (rw (passed, sym formed_both ∙ h, comparing))

    -- nothing is refused: what two columns that are the members at the places are told to stand like
    module _ (h : formed_in n first firstSize && formed_in n second secondSize ≡ true) where
      p : well_formed (members_of n first firstSize) ≡ true
      p = and_left (well_formed (members_of n first firstSize)) (well_formed (members_of n second secondSize)) (sym formed_both ∙ h)

      q : well_formed (members_of n second secondSize) ≡ true
      q = and_right (well_formed (members_of n first firstSize)) (well_formed (members_of n second secondSize)) (sym formed_both ∙ h)

      found : compared (comparison n (member_at (members_of n first firstSize) (i - 1)) (member_at (members_of n second secondSize) (j - 1))) ≡ comparing n first firstSize i second secondSize j
      unfolding comparing
      found = sym (rw (passed, p, q, comparing))

      pub stands : (X Y : Column) → X ≡ column_at n first (i - 1) → Y ≡ column_at n second (j - 1) → (c : Comparison) → c ≡ test_common comparison X Y
          → compared c ≡ comparing n first firstSize i second secondSize j
      stands X Y x y c is =
          let v = first_within in
          let w = second_within in
          ap compared (
          is
          ∙ test_parts comparison n first second (i - 1) (j - 1) v.family.few_plots (room n first firstSize i v p) (room n second secondSize j w q) X Y x y
          ∙ sym (ap₂ (comparison n) (member_at_place n first firstSize i v p) (member_at_place n second secondSize j w q))
          )
          ∙ found
