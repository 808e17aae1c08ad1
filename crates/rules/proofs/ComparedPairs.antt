-- Where factors are compared: in the design a pair fails exactly when it is not orthogonal, and in the relation a bit is set exactly when its member is finer.
-- Assumes nothing.
use mathlib.Core.Path.{◌≡◌, refl, ap, ◌∙◌}
use mathlib.Core.Logic.{◌↔◌}
use mathlib.Core.Bool.{Bool, true, false}
use mathlib.Core.List.Memᴰ
use mathlib.Core.List.{List, ◌∷◌}
use Prim.Native.Nat.{ℕ, ◌<◌}
use native.Mathlib.Omega.{arith}
use lib.ListN.{length, get_or, replicate, length-replicate}
use Rattle.rules.specs.Factor.{Column, Finer, orthogonal}
use Rattle.rules.specs.Family.{Family, ◌∈◌, members_of}
use Rattle.rules.specs.Closing.{Closing, too_many, family, plot_family, first_treatment_family}
use Rattle.rules.specs.Design.{first_pair, first_cross, within_limits, full_within_limits, plot_design, full_design}
use Rattle.rules.specs.Asking.{Verdict, Asked, first_no, members_in, asks6, plot_columns, treatment_columns, plot_members, first_members, plot_questions_by, full_questions_by, plot_answer, full_answer, plot_design_by, full_design_by}
use Rattle.rules.specs.Demand2.{Within}
use Rattle.rules.specs.Lists.{bit_at}
use Rattle.rules.specs.Relation.{member_at, relation}
use Rattle.rules.specs.Above.{StrictlyCoarser}
use Rattle.rules.specs.Comparison.{is_finer, comparison, pair_passes, BitsCompared}
use Rattle.rules.proofs.First.{pair_ext, cross_ext}
use Rattle.rules.proofs.Demand3.{column_length}
use Rattle.rules.proofs.WellMade.{WellMade, plot_made, first_made}
use Rattle.rules.proofs.DesignAsks.{plot_design_asks, full_design_asks}
use Rattle.rules.proofs.Demand2.{plot_limits, within_to}
use Rattle.rules.proofs.Taken.{taken_many}
use Rattle.rules.proofs.Above.{relation_coarser}
use Rattle.rules.proofs.Comparison.{comparison_passes, comparison_finer}

-- ---- pairs of families

-- columns on n plots
abbrev On : ℕ → List Column → Type 0
On n S = (F : Column) → F ∈ S → length F ≡ n

-- the first pair that fails, in a family and across two, is the first that is not orthogonal
pub pair_comparison : (n a : ℕ) (S : Family) → On n S → first_pair (orthogonal n) a S ≡ first_pair (pair_passes n) a S
pair_comparison n a S on = pair_ext (orthogonal n) (pair_passes n) a S (λ F G m k. comparison_passes n F G (on F m) (on G k))

pub cross_comparison : (n a : ℕ) (P S : Family) → On n P → On n S → first_cross (orthogonal n) a P S ≡ first_cross (pair_passes n) a P S
cross_comparison n a P S on_p on_s = cross_ext (orthogonal n) (pair_passes n) a P S (λ F G m k. comparison_passes n F G (on_p F m) (on_s G k))

-- ---- the designs

-- where 6 fails nothing after it is asked
after_six : (b : Bool) (qs rs : List Asked) → (b ≡ true → qs ≡ rs) → first_no (asks6 b ∷ qs) ≡ first_no (asks6 b ∷ rs)
unfolding first_no
after_six true qs rs h = ap first_no (h refl)
after_six false qs rs h = refl

-- the members of a closing, none where they are too many, are on the plots
closing_on : (n : ℕ) (x : Closing) → ((S : Family) → x ≡ family S → WellMade n S) → On n (members_in x)
closing_on n too_many made F m = absurd (Memᴰ.not-nil m)
closing_on n (family S) made F m = (made S refl).on F m

-- the questions of a design by either test of two factors: the first "no" is the same, if the columns are on the plots where 6 passes
plots_same : (n : ℕ) (Fs : List Column) (within : Bool) → (within ≡ true → On n Fs)
    → first_no (plot_questions_by (orthogonal n) within n Fs) ≡ first_no (plot_questions_by (pair_passes n) within n Fs)
plots_same n Fs within on = after_six within _ _ (λ e. rw (pair_comparison n 1 (plot_members n Fs) (closing_on n (plot_family n Fs) (plot_made n Fs (on e)))))

full_same : (n k : ℕ) (Fs Ts : List Column) (within : Bool) → (within ≡ true → On n Fs) → (within ≡ true → On n Ts)
    → first_no (full_questions_by (orthogonal n) within n k Fs Ts) ≡ first_no (full_questions_by (pair_passes n) within n k Fs Ts)
full_same n k Fs Ts within on_f on_t =
    after_six within _ _ (λ e.
    let on_p = closing_on n (plot_family n Fs) (plot_made n Fs (on_f e)) in
    let on_s = closing_on n (first_treatment_family n k Ts) (first_made n k Ts (on_t e)) in
    rw (pair_comparison n 1 _ on_p, pair_comparison n 1 _ on_s, cross_comparison n 1 _ _ on_p on_s))

-- the plot design: refusal 10 is given exactly where it was
pub plot_compares : (n c : ℕ) (levels : List ℕ) (r : ℕ) → plot_design n c levels r ≡ plot_design_by (pair_passes n) n c levels r
plot_compares n c levels r =
    plot_design_asks n c levels r
    ∙ ap (λ (v : Verdict). plot_answer v (plot_members n (plot_columns n c levels)))
    (plots_same n (plot_columns n c levels) (within_limits n c (length levels) r) (λ e.
    let l = plot_limits n c (length levels) r e in column_length n levels c 0 l.plots_few l.table (omega (arith, l.columns))))

-- the full design: 10, 12 and 13 are given exactly where they were
pub full_compares : (n c d k : ℕ) (levels : List ℕ) (p r : ℕ) → full_design n c d k levels p r ≡ full_design_by (pair_passes n) n c d k levels p r
full_compares n c d k levels p r =
    full_design_asks n c d k levels p r
    ∙ ap (λ (v : Verdict). full_answer v (plot_members n (plot_columns n c levels)) (first_members n k (treatment_columns n d levels)))
    (full_same n k (plot_columns n c levels) (treatment_columns n d levels) (full_within_limits n c d k (length levels) p r)
    (λ e. let l = within e in column_length n levels c 0 l.plots_most l.table (omega (arith, l.plot_columns_holds)))
    (λ e. let l = within e in column_length n levels d 6 l.plots_most l.table (omega (arith, l.treatment_columns_holds))))
  where
    within : full_within_limits n c d k (length levels) p r ≡ true → Within n c d k levels (replicate p 0) (replicate r 0)
    within e = within_to n c d k levels (replicate p 0) (replicate r 0) (rw (length-replicate {A = ℕ} p 0, length-replicate {A = ℕ} r 0) e)

-- ---- the relation

-- a bit of the relation is set exactly when its member is finer than the other
pub relation_compares : (n : ℕ) (buffer : List ℕ) (size : ℕ) → (relation n buffer size).refusal ≡ 0
    → BitsCompared n (members_of n buffer size) (relation n buffer size).coarser
relation_compares n buffer size z i j = (
  λ e. let w = bit.0 e in
      (rw many w.0, rw many w.1, finer.1 (w.2.finer, w.2.not_back)),
  λ w. let f = finer.0 w.2 in
      bit.1 (rw many at w.0, rw many at w.1, record { finer = f.0; not_back = f.1 }),
)
  where
    S : Family
    S = members_of n buffer size

    many : length S ≡ size
    many = taken_many n buffer size

    bit : bit_at (get_or (relation n buffer size).coarser i 0) j ≡ true ↔ ((i < size) × (j < size) × StrictlyCoarser n (member_at S i) (member_at S j))
    bit = relation_coarser n buffer size z i j

    finer : comparison n (member_at S i) (member_at S j) ≡ is_finer ↔ (Finer n (member_at S i) (member_at S j) × (Finer n (member_at S j) (member_at S i) → ⊥))
    finer = comparison_finer n (member_at S i) (member_at S j)
