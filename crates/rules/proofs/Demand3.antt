-- Demand 3: the plot design refuses exactly when no orthogonal block structure contains the plot factors, and the family it returns is the smallest one.
-- Assumes nothing.
use mathlib.Core.Path.{◌≡◌, refl, sym, ap, ◌∙◌, subst}
use mathlib.Core.Logic.{◌⊎◌, inl, inr}
use mathlib.Core.Bool.{true, false}
use mathlib.Core.List.Memᴰ
use mathlib.Core.List.{List, [], ◌∷◌}
use Prim.Native.Nat.{ℕ, zero, suc, ◌+◌, ◌*◌, ◌≤◌, ◌<◌, zero-le, suc-le-suc}
use native.Mathlib.Nat.{le_trans, lt_irrefl}
use native.Mathlib.Omega.{arith}
use lib.ListN.{length, get_or, take, drop, length-drop}
use lib.Seq.{length-take-le, get_or-take, get_or-drop}
use borrow.Author.Tests.{ne_eqb, le-leb}
use Rattle.rules.specs.Factor.{Column, Equivalent, number, infimum, supremum, universal, equality, uniform, orthogonal}
use Rattle.rules.specs.Family.{Family, ◌∈◌, before, Ascending, empty, cons, AtMost, Lists, columns_from}
use Rattle.rules.specs.Closing.{InPlotFamily, by_column, by_universal, by_equality, by_infimum, by_supremum, both, plot_generators, Closing, family, plot_family}
use Rattle.rules.specs.Design.{first_failing, first_pair, question8, nonzero, all_nonzero, within_limits, question7, plot_design, returned}
use Rattle.rules.specs.Structure.{Contains, Inside, Inequivalent, no_member, unlike, OrthogonalBlockStructure, Lent, Demand3}
use Rattle.rules.proofs.Numbering.{length_number, number_number, number_unique, length_infimum, number_infimum}
use Rattle.rules.proofs.Supremum.{length_supremum, number_supremum, equivalent_sym, equivalent_trans, equivalent_refl, number_equivalent, supremum_equivalent, infimum_equivalent}
use Rattle.rules.proofs.Members.{clash, before_self}
use Rattle.rules.proofs.Closing.{Smallest, Closed, listed, too_many_holds, close_right}
use Rattle.rules.proofs.Tests.{uniform_test, orthogonal_test, uniform_equivalent, orthogonal_equivalent}
use Rattle.rules.proofs.Buffer.{written_members}
use Rattle.rules.proofs.Extremes.{length_universal, number_universal, length_equality, number_equality}
use Rattle.rules.proofs.Families.{made_in_family, in_family_made}
use Rattle.rules.proofs.WellFormed.{Accepted}
use Rattle.rules.proofs.DegreesLaws.{lists_accepted}
use Rattle.rules.proofs.Structures.{structure_degrees, structure_total}
use Rattle.rules.proofs.Verdict.{failing_none, failing_pass, pairs_pass, pairs_orthogonal, verdict_members, verdict_accepts, verdict_passes, verdict_number}

-- ---- the members of the plot family

module _ (n : ℕ) (Fs : List Column) where
  module _ (on : (F : Column) → F ∈ Fs → length F ≡ n) where
    pub member_length : (H : Column) → InPlotFamily n Fs H → length H ≡ n
    member_length H (by_column {F} m) = length_number F ∙ on F m
    member_length H by_universal = length_universal n
    member_length H by_equality = length_equality n
    member_length H (by_infimum {F} {G} p q) = length_infimum F G (member_length F p ∙ sym (member_length G q)) ∙ member_length F p
    member_length H (by_supremum {F} {G} p q) = length_supremum F G (member_length F p ∙ sym (member_length G q)) ∙ member_length F p

    pub member_numbered : (H : Column) → InPlotFamily n Fs H → number H ≡ H
    member_numbered H (by_column {F} m) = number_number F
    member_numbered H by_universal = number_universal n
    member_numbered H by_equality = number_equality n
    member_numbered H (by_infimum {F} {G} p q) = number_infimum F G (member_length F p ∙ sym (member_length G q))
    member_numbered H (by_supremum {F} {G} p q) = number_supremum F G (member_length F p ∙ sym (member_length G q))

    -- equivalent members are equal
    pub member_equal : (F G : Column) → InPlotFamily n Fs F → InPlotFamily n Fs G → Equivalent n F G → F ≡ G
    member_equal F G p q e =
        sym (member_numbered F p) ∙ number_unique F G (member_length F p ∙ sym (member_length G q)) (rw (member_length F p) e) ∙ member_numbered G q

    -- every member is in each orthogonal block structure that contains the plot factors
    pub contained : (S : Family) → OrthogonalBlockStructure n S → ((F : Column) → F ∈ Fs → Contains n S F) → (H : Column) → InPlotFamily n Fs H → Contains n S H
    contained S o c H (by_column {F} m) =
        record { member = (c F m).member; is_member = (c F m).is_member; equivalent = equivalent_trans (c F m).equivalent (equivalent_sym (number_equivalent F (on F m))) }
    contained S o c H by_universal = o.has_universal
    contained S o c H by_equality = o.has_equality
    contained S o c H (by_infimum {F} {G} p q) = go (contained S o c F p) (contained S o c G q)
      where
        go : Contains n S F → Contains n S G → Contains n S (infimum F G)
        go a b = let k : Contains n S (infimum a.member b.member) = o.has_infima a.member b.member a.is_member b.is_member in
            record {
              member = k.member;
              is_member = k.is_member;
              equivalent = equivalent_trans k.equivalent (infimum_equivalent n (o.on_plots _ a.is_member) (o.on_plots _ b.is_member) (member_length F p) (member_length G q) a.equivalent b.equivalent);
            }
    contained S o c H (by_supremum {F} {G} p q) = go (contained S o c F p) (contained S o c G q)
      where
        go : Contains n S F → Contains n S G → Contains n S (supremum F G)
        go a b = let k : Contains n S (supremum a.member b.member) = o.has_suprema a.member b.member a.is_member b.is_member in
            record {
              member = k.member;
              is_member = k.is_member;
              equivalent = equivalent_trans k.equivalent (supremum_equivalent n (o.on_plots _ a.is_member) (o.on_plots _ b.is_member) (member_length F p) (member_length G q) a.equivalent b.equivalent);
            }

    -- ---- the family as listed

    module _ (R : Family) (s : Smallest both (plot_generators n Fs) R) where
      pub in_R : (F : Column) → F ∈ R → InPlotFamily n Fs F
      in_R F m = made_in_family n Fs F (s.only F m)

      pub to_R : (F : Column) → InPlotFamily n Fs F → F ∈ R
      to_R F p = s.all F (in_family_made n Fs F p)

      itself : (F : Column) → InPlotFamily n Fs F → Contains n R F
      itself F p = record { member = F; is_member = to_R F p; equivalent = equivalent_refl }

      ascending_inequivalent : (S : Family) → Ascending S → ((F : Column) → F ∈ S → InPlotFamily n Fs F) → Inequivalent n S
      ascending_inequivalent S empty f = no_member
      ascending_inequivalent S (cons {F = F} {S = T} h a) f =
          unlike (λ G m e. clash (h G m) (subst (λ (K : Column). before F K ≡ false) (member_equal F G (f F (Memᴰ.head refl)) (f G (Memᴰ.tail m)) e) (before_self F)))
          (ascending_inequivalent T a (λ G m. f G (Memᴰ.tail m)))

      -- an accepted family is an orthogonal block structure
      pub accepted_structure : (question8 n (family R)).refusal ≡ 0 → OrthogonalBlockStructure n R
      accepted_structure e = record {
        on_plots = λ F m. member_length F (in_R F m);
        inequivalent = ascending_inequivalent R s.ascending in_R;
        has_universal = itself (universal n) by_universal;
        has_equality = itself (equality n) by_equality;
        has_infima = λ F G m k. itself (infimum F G) (by_infimum (in_R F m) (in_R G k));
        has_suprema = λ F G m k. itself (supremum F G) (by_supremum (in_R F m) (in_R G k));
        uniform = λ F m. (uniform_test n F).0 (failing_none (uniform n) 0 R passed.0 F m);
        orthogonal = (pairs_orthogonal n R (λ F m. member_length F (in_R F m))).0 passed.1;
      }
        where
          passed : (first_failing (uniform n) 1 R ≡ 0) × ((first_pair (orthogonal n) 1 R).first ≡ 0)
          passed = verdict_accepts n R e

      listed_R : Lists (InPlotFamily n Fs) R
      listed_R = record { ascending = s.ascending; few = s.few; only = in_R; all = to_R }

      -- question 15 accepts it
      pub accepted_family : Accepted R
      accepted_family = lists_accepted listed_R member_numbered by_equality

      pub accepted_contains : (F : Column) → F ∈ Fs → Contains n R F
      accepted_contains F m = record { member = number F; is_member = to_R (number F) (by_column m); equivalent = number_equivalent F (on F m) }

      -- where an orthogonal block structure contains the plot factors, the family is accepted and lies inside it
      module _ (S : Family) (o : OrthogonalBlockStructure n S) (c : (F : Column) → F ∈ Fs → Contains n S F) where
        pub lies_inside : Inside n R S
        lies_inside = record { each = λ F m. contained S o c F (in_R F m) }

        pub accepted : (question8 n (family R)).refusal ≡ 0
        accepted = verdict_passes n R (failing_pass (uniform n) 1 R one) (pairs_pass (orthogonal n) 1 R two)
          where
            one : (F : Column) → F ∈ R → uniform n F ≡ true
            one F m = let k : Contains n S F = contained S o c F (in_R F m) in (uniform_test n F).1 (uniform_equivalent k.equivalent (o.uniform k.member k.is_member))

            two : (F G : Column) → F ∈ R → G ∈ R → orthogonal n F G ≡ true
            two F G m k =
                let a : Contains n S F = contained S o c F (in_R F m) in let b : Contains n S G = contained S o c G (in_R G k) in
                (orthogonal_test n F G).1
                (orthogonal_equivalent (o.on_plots a.member a.is_member) (o.on_plots b.member b.is_member) (member_length F (in_R F m)) (member_length G (in_R G k)) a.equivalent b.equivalent
                (o.orthogonal a.member b.member a.is_member b.is_member))

-- ---- questions 8 to 10

pub verdict_right : (n : ℕ) (Fs : List Column) → ((F : Column) → F ∈ Fs → length F ≡ n) → AtMost 32 (InPlotFamily n Fs) → (x : Closing) → Closed both (plot_generators n Fs) x → Demand3 n Fs (question8 n x).refusal (question8 n x).plot
verdict_right n Fs on few x (too_many_holds m) =
    absurd (lt_irrefl 32 (le_trans m.many (few m.some m.distinct (λ F k. made_in_family n Fs F (m.only F k)))))
verdict_right n Fs on few x (listed {R} s) = record {
  number = verdict_number n R;
  refuses = (
    λ no S o c. no (accepted n Fs on R s S o c),
    λ none e. none R (accepted_structure n Fs on R s e) (accepted_contains n Fs on R s),
  );
  structure = λ e. rw (verdict_members n R) (accepted_structure n Fs on R s e);
  contains = λ e F m. rw (verdict_members n R) (accepted_contains n Fs on R s F m);
  least = λ e S o c. rw (verdict_members n R) (lies_inside n Fs on R s S o c);
  strata = λ e i. rw (verdict_members n R) (structure_degrees n R (accepted_family n Fs on R s) (accepted_structure n Fs on R s e) i);
  total = λ e. rw (verdict_members n R) (structure_total n R (accepted_family n Fs on R s) (accepted_structure n Fs on R s e));
}

-- at most 32 members, each on n plots
pub record Fits (n : ℕ) (S : Family) : Type 0 where
  pub few : length S ≤ 32
  pub each : (F : Column) → F ∈ S → length F ≡ n

verdict_fits : (n : ℕ) (Fs : List Column) → ((F : Column) → F ∈ Fs → length F ≡ n) → (x : Closing) → Closed both (plot_generators n Fs) x → Fits n (question8 n x).plot
unfolding question8
verdict_fits n Fs on x (too_many_holds m) = record { few = zero-le; each = λ F k. absurd (Memᴰ.not-nil k) }
verdict_fits n Fs on x (listed {R} s) = rw (verdict_members n R) (record { few = s.few; each = λ F k. member_length n Fs on F (made_in_family n Fs F (s.only F k)) })

-- ---- the level table

pub column_length : (n : ℕ) (levels : List ℕ) (m c : ℕ) → n ≤ 240 → 2880 ≤ length levels → c + m ≤ 12 → (F : Column) → F ∈ columns_from n levels c m → length F ≡ n
unfolding columns_from
column_length n levels zero c hn hl hc F k = absurd (Memᴰ.not-nil k)
column_length n levels (suc m) c hn hl hc F k = go (column_length n levels m (suc c) hn hl (omega arith) F) (Memᴰ.cases_cons k)
  where
    fits : n ≤ length (drop (240 * c) levels)
    fits = rw length-drop (omega arith)

    go : (F ∈ columns_from n levels (suc c) m → length F ≡ n) → (F ≡ take n (drop (240 * c) levels)) ⊎ (F ∈ columns_from n levels (suc c) m) → length F ≡ n
    go below (inl e) = ap length e ∙ length-take-le n (drop (240 * c) levels) fits
    go below (inr k') = below k'

-- a column of levels that are not 0
pub nonzero_all : (F : Column) → ((u : ℕ) → u < length F → get_or F u 0 ≡ 0 → ⊥) → nonzero F ≡ true
unfolding nonzero
nonzero_all [] h = refl
nonzero_all (x ∷ F) h = rw (ne_eqb x 0 (h 0 (suc-le-suc zero-le)), nonzero) (nonzero_all F (λ u hu. h (suc u) (suc-le-suc hu)))

all_nonzero_lem : (n : ℕ) (levels : List ℕ) (m c : ℕ) → n ≤ 240 → 2880 ≤ length levels → c + m ≤ 12 → ((j u : ℕ) → j < c + m → u < n → get_or levels (240 * j + u) 0 ≡ 0 → ⊥) → all_nonzero (columns_from n levels c m) ≡ true
unfolding columns_from all_nonzero
all_nonzero_lem n levels zero c hn hl hc h = refl
all_nonzero_lem n levels (suc m) c hn hl hc h =
    rw (nonzero_all (take n (drop (240 * c) levels)) here, all_nonzero) (all_nonzero_lem n levels m (suc c) hn hl (omega arith) (λ j u hj hu. h j u (omega arith) hu))
  where
    fits : n ≤ length (drop (240 * c) levels)
    fits = rw length-drop (omega arith)

    here : (u : ℕ) → u < length (take n (drop (240 * c) levels)) → get_or (take n (drop (240 * c) levels)) u 0 ≡ 0 → ⊥
    here u hu e = h c u (omega arith) un (sym (get_or-take n (drop (240 * c) levels) u 0 un ∙ get_or-drop (240 * c) levels u 0) ∙ e)
      where
        un : u < n
        un = rw (length-take-le n (drop (240 * c) levels) fits) at hu

within_limits_lem : (n c t b : ℕ) → 1 ≤ n → n ≤ 240 → c ≤ 6 → 2880 ≤ t → 7680 ≤ b → within_limits n c t b ≡ true
unfolding within_limits
within_limits_lem n c t b h₁ h₂ h₃ h₄ h₅ = rw (le-leb 1 n h₁, le-leb n 240 h₂, le-leb c 6 h₃, le-leb 2880 t h₄, le-leb 7680 b h₅)

-- ---- demand 3

-- within the limits and with no missing level, the plot design is what question 8 and those after it answer of the plot family
pub design_verdict : (n c : ℕ) (levels buffer : List ℕ) → Lent n c levels buffer → plot_design n c levels (length buffer) ≡ question8 n (plot_family n (columns_from n levels 0 c))
unfolding plot_design question7
design_verdict n c levels buffer l =
    rw (within_limits_lem n c (length levels) (length buffer) l.plots_least l.plots_most l.columns_most l.table l.family, plot_design)
    (rw (all_nonzero_lem n levels c 0 l.plots_most l.table (omega arith) (λ j u hj hu. l.present j u (omega arith) hu), question7))

pub demand_3 : (n c : ℕ) (levels buffer : List ℕ) → Lent n c levels buffer → AtMost 32 (InPlotFamily n (columns_from n levels 0 c))
    → Demand3 n (columns_from n levels 0 c) (plot_design n c levels (length buffer)).refusal (returned n buffer (plot_design n c levels (length buffer)))
unfolding plot_family returned
demand_3 n c levels buffer l few =
    rw (design_verdict n c levels buffer l)
    (rw (written_members n l.plots_most (question8 n (plot_family n Fs)).plot buffer 0 fit.each (omega (arith, fit.few, l.family)))
    (verdict_right n Fs on few (plot_family n Fs) (close_right both (plot_generators n Fs))))
  where
    Fs : List Column
    Fs = columns_from n levels 0 c

    on : (F : Column) → F ∈ Fs → length F ≡ n
    on = column_length n levels c 0 l.plots_most l.table (omega arith)

    fit : Fits n (question8 n (plot_family n Fs)).plot
    fit = verdict_fits n Fs on (plot_family n Fs) (close_right both (plot_generators n Fs))
