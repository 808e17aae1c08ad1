-- Laws of the full design around the plot design: what an accepted and a refused plot family lead to, questions 6 and 7, and the promise whole.
-- Assumes nothing.
use Rattle.std.specs.Prelude.{Option, None, Some, IfSome}
use Rattle.design.specs.declared.closed.ClosedFamily.{ClosedFamily}
use mathlib.Core.Path.{◌≡◌, refl, sym, ap, ap₂, ◌∙◌}
use mathlib.Core.Bool.{true, false, ◌&&◌, true≢false}
use mathlib.Core.List.{List, [], ◌∷◌, ◌++◌}
use Prim.Native.Nat.{ℕ, zero, suc, ◌≤◌}
use native.Mathlib.Nat.{suc-ne-zero}
use native.Mathlib.Omega.{arith}
use lib.Dec.{leb}
use lib.ListN.{length}
use borrow.Author.Tests.{eq-eqb}
use Rattle.rules.specs.Factor.{Column, uniform, orthogonal, equality}
use Rattle.rules.specs.Family.{Family, ◌∈◌, columns_from, members_of}
use Rattle.rules.specs.Closing.{Closing, too_many, family, plot_family, by_equality, first_treatment_family, final_treatment_family}
use Rattle.rules.specs.Design.{Answer, Places, first_pair, first_cross, first_failing, question8, question9, question10, question11, question12, question13, question14, with_treatments, nonzero, all_nonzero, full_within_limits, full_question7, full_design, refused, plot_buffer, treatment_buffer}
use Rattle.rules.specs.Demand2.{Demand2}
use Rattle.rules.specs.Asking.{full_design_by}
use Rattle.rules.specs.Comparison.{pair_passes}
use Rattle.rules.proofs.ComparedPairs.{full_compares}
use Rattle.rules.proofs.Numbering.{by_cases}
use Rattle.rules.proofs.Verdict.{verdict_members}
use Rattle.rules.proofs.Buffer.{length_members}
use Rattle.rules.proofs.Families.{plot_family_lists}
use Rattle.rules.proofs.Made.{plot_made}
use Rattle.rules.proofs.Demand2.{demand_2}
use Rattle.rules.proofs.FullStrata.{demand_trusted}
use Rattle.design.specs.Treatments.{Numbered}
use Rattle.design.proofs.Asked.{numbered_made}
use Rattle.design.specs.Answers.{PlotNumbers, plot_numbers_of, FullNumbers, full_numbers_of, full_left, FullTrusted, full_refusing}
use Rattle.design.specs.Closings.{closed_in, Ready, goes_on}
use Rattle.design.proofs.Answered.{accepting}

-- ---- the plot design writes no treatment family

nine_alone : (n : ℕ) (P : Family) (k : ℕ) → (question9 n P k).treatment ≡ []
unfolding question9 question10
nine_alone n P zero = ten (first_pair (orthogonal n) 1 P) (first_pair (orthogonal n) 1 P).first refl
  where
    ten : (p : Places) (i : ℕ) → p.first ≡ i → (question10 P p).treatment ≡ []
    ten p zero e = rw (e, question10)
    ten p (suc i) e = rw (e, question10)
nine_alone n P (suc k) = refl

pub plot_alone : (n : ℕ) (x : Closing) → (question8 n x).treatment ≡ []
unfolding question8
plot_alone n too_many = refl
plot_alone n (family P) = nine_alone n P (first_failing (uniform n) 1 P)

-- ---- the plot family goes through unchanged

fourteen_plot : (P S R : Family) → (question14 P S R).plot ≡ P
unfolding question14
fourteen_plot P S R = by_cases (leb (length R) 32) (λ e. rw (e, question14)) (λ e. rw (e, question14))

thirteen_plot : (P S : Family) (p : Places) → (question13 P S p).plot ≡ P
unfolding question13
thirteen_plot P S p = go p.first refl
  where
    go : (i : ℕ) → p.first ≡ i → (question13 P S p).plot ≡ P
    go zero e = rw (e, question13) (fourteen_plot P S (final_treatment_family P S))
    go (suc i) e = rw (e, question13)

twelve_plot : (n : ℕ) (P S : Family) (p : Places) → (question12 n P S p).plot ≡ P
unfolding question12
twelve_plot n P S p = go p.first refl
  where
    go : (i : ℕ) → p.first ≡ i → (question12 n P S p).plot ≡ P
    go zero e = rw (e, question12) (thirteen_plot P S (first_cross (orthogonal n) 1 P S))
    go (suc i) e = rw (e, question12)

eleven_plot : (n : ℕ) (P : Family) (x : Closing) → (question11 n P x).plot ≡ P
unfolding question11
eleven_plot n P too_many = refl
eleven_plot n P (family S) = twelve_plot n P S (first_pair (orthogonal n) 1 S)

module _ (n : ℕ) (Y : Closing) (a : Answer) where
  -- a refused plot family stays refused
  pub with_refused : (a.refusal ≡ 0 → ⊥) → goes_on n Y a ≡ a
  unfolding goes_on
  with_refused h = go a.refusal refl
    where
      go : (q : ℕ) → a.refusal ≡ q → goes_on n Y a ≡ a
      go zero e = absurd (h e)
      go (suc q) e = rw (e, goes_on) (λ i. record { refusal = e i; places = a.places; plot = a.plot; treatment = a.treatment })

  -- an accepted one goes on to the treatments
  pub with_accepted : a.refusal ≡ 0 → goes_on n Y a ≡ question11 n a.plot Y
  unfolding goes_on
  with_accepted e = rw (e, goes_on)

  pub with_plot_lem : (goes_on n Y a).plot ≡ a.plot
  with_plot_lem = go a.refusal refl
    where
      go : (q : ℕ) → a.refusal ≡ q → (goes_on n Y a).plot ≡ a.plot
      go zero e = ap (λ (x : Answer). x.plot) (with_accepted e) ∙ eleven_plot n a.plot Y
      go (suc q) e = ap (λ (x : Answer). x.plot) (with_refused (λ z. suc-ne-zero q (sym e ∙ z)))

  -- the numbers of a refused plot family
  pub refused_numbers : (m : PlotNumbers) → m ≡ plot_numbers_of a → m.accepted ≡ false → a.treatment ≡ [] → full_refusing m.refusal m.first m.second m.size 0 ≡ full_numbers_of (goes_on n Y a)
  unfolding plot_numbers_of full_numbers_of
  refused_numbers m e f t =
      rw (with_refused no) (rw (t, sym (ap (λ (x : PlotNumbers). x.accepted) e) ∙ f) (λ i. full_refusing (e i).refusal (e i).first (e i).second (e i).size 0))
    where
      no : a.refusal ≡ 0 → ⊥
      no z = true≢false (sym (eq-eqb a.refusal 0 z) ∙ sym (ap (λ (x : PlotNumbers). x.accepted) e) ∙ f)

  pub refused_not : (m : PlotNumbers) → m ≡ plot_numbers_of a → m.accepted ≡ false → a.refusal ≡ 0 → ⊥
  unfolding plot_numbers_of
  refused_not m e f z = true≢false (sym (eq-eqb a.refusal 0 z) ∙ sym (ap (λ (x : PlotNumbers). x.accepted) e) ∙ f)

-- ---- an accepted plot family in memory

-- what an accepted plot family leaves
pub record Goes (n : ℕ) (x : Closing) (held : List ℕ) (size : ℕ) : Type 0 where
  pub accepted : (question8 n x).refusal ≡ 0
  pub few : size ≤ 32
  pub members : members_of n held size ≡ (question8 n x).plot
  pub closed : x ≡ family (members_of n held size)

-- members that are ready to be judged are few
pub ready_few : (n : ℕ) (b marks : List ℕ) (x : Option ClosedFamily) → Ready n b marks x → IfSome x (λ c. c.size ≤ 32)
ready_few n b marks None r = r.judging
ready_few n b marks (Some c) r = omega (arith, r.judging.members.few)

pub goes_on_lem : (n : ℕ) (b : List ℕ) (x : Option ClosedFamily) → n ≤ 240 → IfSome x (λ c. c.size ≤ 32) → {size : ℕ}
    → accepting size ≡ plot_numbers_of (question8 n (closed_in n b x)) → Goes n (closed_in n b x) b size
unfolding plot_numbers_of question8
goes_on_lem n b None small most {size} e = absurd (suc-ne-zero 7 (sym (ap (λ (x : PlotNumbers). x.refusal) e)))
goes_on_lem n b (Some c) small most {size} e = record {
  accepted = sym (ap (λ (x : PlotNumbers). x.refusal) e);
  few = omega (arith, most, is);
  members = ap (members_of n b) is ∙ sym plot;
  closed = ap (λ (k : ℕ). family (members_of n b k)) (sym is);
}
  where
    m : ℕ
    m = c.size

    plot : (question8 n (family (members_of n b m))).plot ≡ members_of n b m
    plot = verdict_members n (members_of n b m)

    is : size ≡ m
    is = ap (λ (x : PlotNumbers). x.size) e ∙ ap length plot ∙ length_members n small b m

-- its members are numbered, and E is one
pub goes_numbered : (n : ℕ) (Fs : List Column) → ((F : Column) → F ∈ Fs → length F ≡ n) → (b : List ℕ) (size : ℕ) {x : Closing} → n ≤ 240 → 7680 ≤ length b → x ≡ plot_family n Fs → Goes n x b size
    → Numbered n b size × (equality n ∈ members_of n b size)
goes_numbered n Fs on b size small room e g =
    let is : plot_family n Fs ≡ family (members_of n b size) = sym e ∙ g.closed in
    (numbered_made n small b size room g.few (plot_made n Fs on (members_of n b size) is), (plot_family_lists n Fs (members_of n b size) is).all (equality n) by_equality)

-- the first treatment family of the columns
pub goes_treatments : (n k : ℕ) (Ts : List Column) (a : Answer) → goes_on n (first_treatment_family n k Ts) a ≡ with_treatments n k Ts a
unfolding goes_on with_treatments
goes_treatments n k Ts a = refl

-- ---- questions 6 and 7

pub nonzero_append : (Fs Ts : List Column) → all_nonzero (Fs ++ Ts) ≡ all_nonzero Fs && all_nonzero Ts
unfolding all_nonzero
nonzero_append [] Ts = refl
nonzero_append (F ∷ Fs) Ts = by_cases (nonzero F) (λ e. rw (e, all_nonzero) (nonzero_append Fs Ts)) (λ e. rw (e, all_nonzero))

module _ (n c d k : ℕ) (levels : List ℕ) (p b : ℕ) where
  pub full_6 : full_within_limits n c d k (length levels) p b ≡ false → full_design n c d k levels p b ≡ refused 6
  unfolding full_design
  full_6 e = rw (e, full_design)

  module _ (e : full_within_limits n c d k (length levels) p b ≡ true) where
    pub full_7 : all_nonzero (columns_from n levels 0 c) && all_nonzero (columns_from n levels 6 d) ≡ false → full_design n c d k levels p b ≡ refused 7
    unfolding full_design full_question7
    full_7 f = rw (e, full_design) (rw (nonzero_append (columns_from n levels 0 c) (columns_from n levels 6 d) ∙ f, full_question7))

    pub full_8 : all_nonzero (columns_from n levels 0 c) ≡ true → all_nonzero (columns_from n levels 6 d) ≡ true
        → full_design n c d k levels p b ≡ with_treatments n k (columns_from n levels 6 d) (question8 n (plot_family n (columns_from n levels 0 c)))
    unfolding full_design full_question7
    full_8 f g = rw (e, full_design) (rw (nonzero_append (columns_from n levels 0 c) (columns_from n levels 6 d) ∙ ap₂ ◌&&◌ f g, full_question7))

-- the promise whole: demand 2 and C-13 of the numbers answered and the bytes left, and that pairs fail by the comparison, are its last parts
module _ (n c d k : ℕ) (levels p b after after' : List ℕ) (r : FullNumbers) where
  abbrev made : Answer
  made = full_design n c d k levels (length p) (length b)

  abbrev Compared : Type 0
  Compared = r ≡ full_numbers_of (full_design_by (pair_passes n) n c d k levels (length p) (length b))

  pub promised : r ≡ full_numbers_of made → after ≡ plot_buffer p made → after' ≡ treatment_buffer b made
      → (r ≡ full_numbers_of made) × (after ≡ plot_buffer p made) × (after' ≡ treatment_buffer b made) × Demand2 n c d k levels p b (full_left n r after after') × FullTrusted n r after after' × Compared
  unfolding full_numbers_of
  promised e f g =
      let met : Demand2 n c d k levels p b (full_left n r after after') = rw (e, f, g) (demand_2 n c d k levels p b) in
      (e, f, g, met, demand_trusted n c d k levels p b (full_left n r after after') met, e ∙ ap full_numbers_of (full_compares n c d k levels (length p) (length b)))
