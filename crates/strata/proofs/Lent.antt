-- Laws of a family in lent memory: its members, and what questions 6 and 15 tell of it.
-- Assumes nothing.
use mathlib.Core.Path.{◌≡◌, sym, ap, subst, ◌∙◌}
use mathlib.Core.Bool.{true, false, ◌&&◌}
use Rattle.std.proofs.Common.{Option, Some, None}
use Rattle.std.proofs.lemmas.Option.{same_Some}
use mathlib.Core.List.{List, []}
use Prim.Native.Nat.{ℕ, ◌≤◌, ◌<◌}
use native.Mathlib.Omega.{arith}
use lib.Dec.{leb}
use lib.ListN.{length, get_or}
use borrow.Author.Tests.{leb-true}
use Rattle.rules.specs.Family.{members_of, well_formed}
use Rattle.rules.specs.Design.{plots_within}
use Rattle.rules.specs.Relation.{family_within}
use Rattle.rules.proofs.Sheet.{and_left, and_right}
use Rattle.rules.proofs.Numbering.{by_cases}
use Rattle.rules.proofs.Buffer.{length_members, member_is}
use Rattle.rules.proofs.WellFormed.{Accepted, accepted}
use Rattle.refusal.specs.declared.Refusal.{Refusal}
use Rattle.refusal.specs.declared.Refusal.TheVariants.{Limits, Family}
use Rattle.families.specs.Lent.{formed_in}
use Rattle.families.proofs.Lent.{length_column, formed_in_lem, Within, within_limits_lem}
use Rattle.strata.specs.Lent.{Formed, family_refusal}

module _ {n : ℕ} {b : List ℕ} {size : ℕ} (is : Formed n b size) where
  pub accepted_members : Accepted (members_of n b size)
  accepted_members = accepted (members_of n b size) is.formed

  pub size_members : length (members_of n b size) ≡ size
  size_members = length_members n is.few_plots b size

  pub on_plots_lem : (i : ℕ) → i < length (members_of n b size) → length (get_or (members_of n b size) i []) ≡ n
  on_plots_lem i h =
      let l : length (members_of n b size) ≡ size = size_members in
      let k : i < size = omega arith in
      let few : size ≤ 32 = is.few in
      ap length (member_is n is.few_plots b size i k) ∙ length_column n i b is.few_plots (omega arith) is.long

-- ---- what questions 6 and 15 tell

-- 15 said yes
pub formed_of : (n : ℕ) (b : List ℕ) (size : ℕ) → formed_in n b size ≡ true → Formed n b size
unfolding formed_in
formed_of n b size e =
    let within = and_left (leb n 240 && leb 7680 (length b)) (well_formed (members_of n b size)) e in
    let few : n ≤ 240 = leb-true n 240 (and_left (leb n 240) (leb 7680 (length b)) within) in
    let yes = and_right (leb n 240 && leb 7680 (length b)) (well_formed (members_of n b size)) e in
    record {
      few_plots = few;
      long = leb-true 7680 (length b) (and_right (leb n 240) (leb 7680 (length b)) within);
      few = rw (length_members n few b size) at (accepted (members_of n b size) yes).few;
      formed = yes;
    }

-- 15 said no
pub not_formed : (n : ℕ) (b : List ℕ) (size : ℕ) → Within n (length b) → formed_in n b size ≡ false → well_formed (members_of n b size) ≡ false
not_formed n b size w e = sym (formed_in_lem n b size w.few_plots w.long) ∙ e

pub formed_family : (n : ℕ) (b : List ℕ) (size : ℕ) → Within n (length b) → well_formed (members_of n b size) ≡ true → Formed n b size
formed_family n b size w e = formed_of n b size (formed_in_lem n b size w.few_plots w.long ∙ e)

module _ (n : ℕ) (b : List ℕ) (size : ℕ) where
  -- 6 said no
  pub refusal_6 : plots_within n && leb 7680 (length b) ≡ false → family_refusal n b size ≡ Some Limits
  unfolding family_refusal family_within
  refusal_6 e = rw (e, family_refusal)

  module _ (e : plots_within n && leb 7680 (length b) ≡ true) where
    -- 15 said no
    pub refusal_15 : formed_in n b size ≡ false → family_refusal n b size ≡ Some Family
    unfolding family_refusal family_within
    refusal_15 f =
        let no : well_formed (members_of n b size) ≡ false = not_formed n b size (within_limits_lem n (length b) e) f in
        rw (e, no, family_refusal)

    pub refusal_none : Formed n b size → family_refusal n b size ≡ None
    unfolding family_refusal family_within
    refusal_none is = rw (e, is.formed, family_refusal)

-- the two answers, by cases
module _ (n : ℕ) (b : List ℕ) (size : ℕ) where
  pub by_refusal : (Holds : Refusal → Type 0) → (family_within n b ≡ false → Holds Limits) → (family_within n b ≡ true → well_formed (members_of n b size) ≡ false → Holds Family)
      → (q : Refusal) → family_refusal n b size ≡ Some q → Holds q
  unfolding family_refusal
  by_refusal Holds six fifteen q e =
      by_cases (family_within n b)
      (λ w. by_cases (well_formed (members_of n b size))
      (λ f. let g : ◌≡◌ {A = Option Refusal} None (Some q) = sym (rw (w, f, family_refusal)) ∙ e in cc)
      (λ f. let g : Family ≡ q = same_Some Family q (sym (rw (w, f, family_refusal)) ∙ e) in subst Holds g (fifteen w f)))
      (λ w. let g : Limits ≡ q = same_Some Limits q (sym (rw (w, family_refusal)) ∙ e) in subst Holds g (six w))

  pub none_refused : family_refusal n b size ≡ None → (family_within n b ≡ true) × (well_formed (members_of n b size) ≡ true)
  unfolding family_refusal
  none_refused e =
      by_cases (family_within n b)
      (λ w. by_cases (well_formed (members_of n b size))
      (λ f. (w, f))
      (λ f. let g : ◌≡◌ {A = Option Refusal} (Some Family) None = sym (rw (w, f, family_refusal)) ∙ e in cc))
      (λ w. let g : ◌≡◌ {A = Option Refusal} (Some Limits) None = sym (rw (w, family_refusal)) ∙ e in cc)
