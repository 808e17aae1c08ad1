-- C-13 for full designs: no treatment member and no residual of an accepted full design is below 0. It follows from what demand 2 says of an accepted design.
-- Assumes nothing.
use mathlib.Core.Path.{◌≡◌, refl, sym, ap, ap₂, ◌∙◌, subst}
use mathlib.Core.Logic.{inl}
use mathlib.Core.List.{List, map}
use Prim.Native.Nat.{ℕ, ◌<◌}
use native.Mathlib.Omega.{arith}
use lib.IntN.{pos}
use lib.ListN.{length, replicate, length-replicate}
use Rattle.rules.specs.Factor.{Column, number, supremum, equality, Orthogonal}
use Rattle.rules.specs.Family.{Family, ◌∈◌, Lists}
use Rattle.rules.specs.Lists.{for_places}
use Rattle.rules.specs.Closing.{InPlotFamily, by_equality, by_supremum, InFirstTreatmentFamily, of_universal, of_supremum, SupremumOfEach}
use Rattle.rules.specs.Design.{Answer, full_design, plot_buffer, plot_size, treatment_buffer, treatment_size}
use Rattle.rules.specs.Degrees.{class_number, degrees, degrees_of_freedom, NoneBelow0}
use Rattle.rules.specs.Strata.{stratum, residuals, Trusted, strata}
use Rattle.rules.specs.Asking.{plot_columns, treatment_columns}
use Rattle.rules.specs.Demand2.{AllHold, full_conditions, Within, Demand2}
use Rattle.rules.proofs.Supremum.{number_supremum}
use Rattle.rules.proofs.Bounds.{supremum_comm}
use Rattle.rules.proofs.WellFormed.{Accepted}
use Rattle.rules.proofs.Treatments.{each_treatment, each_length, each_with_plot, each_closed}
use Rattle.rules.proofs.DegreesLaws.{length_degrees, lists_accepted}
use Rattle.rules.proofs.Demand3.{member_length, member_numbered, column_length}
use Rattle.rules.proofs.WellMade.{first_length, first_numbered}
use Rattle.rules.proofs.Demand2.{full_demanded}
use Rattle.rules.proofs.Made.{Tells, full_tells}
use Rattle.rules.proofs.Printing.{plot_degrees, treatment_degrees, design_strata}
use Rattle.rules.proofs.Totals.{length_residuals}
use Rattle.rules.proofs.Matrices.{trace, trace_form}
use Rattle.rules.proofs.Averages.{Weighs}
use Rattle.rules.proofs.Parts.{Multiply, multiply_sym, multiply_left, multiply_right, Splits}
use Rattle.rules.proofs.Weights.{up_to, up_to_some, any_size, any_weighs}
use Rattle.rules.proofs.Shares.{nonneg_everywhere, places_nonneg, degrees_total}
use Rattle.rules.proofs.Structures.{classes_read, splits_degrees, orthogonal_multiply}
use Rattle.rules.proofs.Residuals.{SplitTogether, residuals_nonneg}

-- ---- plot members P and first treatment members S of an accepted design

pub record Passed (n : ℕ) (P S : Column → Type 0) : Type 0 where
  pub on_p : (F : Column) → P F → length F ≡ n
  pub on_s : (F : Column) → S F → length F ≡ n
  pub numbered_p : (F : Column) → P F → number F ≡ F
  pub numbered_s : (F : Column) → S F → number F ≡ F
  pub has_e : P (equality n)
  pub closed_p : (F G : Column) → P F → P G → P (supremum F G)
  pub closed_s : (F G : Column) → S F → S G → S (supremum F G)
  pub orthogonal_p : (F G : Column) → P F → P G → Orthogonal n F G
  pub orthogonal_s : (F G : Column) → S F → S G → Orthogonal n F G
  pub across : (F G : Column) → P F → S G → Orthogonal n F G

-- ---- with weights for their suprema, these multiply too

module _ (n : ℕ) (P S : Column → Type 0) (o : Passed n P S) (L : ℕ) (weight : Column → ℕ → ℕ) (some : 0 < L)
    (weighsP : (F : Column) → P F → Weighs n L weight F) (weighsR : (F : Column) → SupremumOfEach P S F → Weighs n L weight F) where
  -- a final treatment member
  abbrev R : Column → Type 0
  R = SupremumOfEach P S

  in_final : (F G : Column) → P F → S G → R (supremum F G)
  in_final F G f g = record { plot = F; treatment = G; in_plot = f; in_treatment = g; is = refl }

  first_in_final : (G : Column) → S G → R G
  first_in_final = each_treatment n P S o.on_p o.on_s o.has_e o.numbered_s

  weighs_s : (G : Column) → S G → Weighs n L weight G
  weighs_s G g = weighsR G (first_in_final G g)

  on_r : (H : Column) → R H → length H ≡ n
  on_r = each_length n P S o.on_p o.on_s

  closed_r : (G H : Column) → R G → R H → R (supremum G H)
  closed_r = each_closed n P S o.on_p o.on_s o.closed_p o.closed_s

  plot_plot : (F G : Column) → P F → P G → Multiply n L weight F G
  plot_plot F G f g = orthogonal_multiply n L weight F G (o.on_p F f) (o.on_p G g) (weighsP F f) (weighsP G g) (weighsP (supremum F G) (o.closed_p F G f g)) (o.orthogonal_p F G f g)

  first_first : (F G : Column) → S F → S G → Multiply n L weight F G
  first_first F G f g = orthogonal_multiply n L weight F G (o.on_s F f) (o.on_s G g) (weighs_s F f) (weighs_s G g) (weighs_s (supremum F G) (o.closed_s F G f g)) (o.orthogonal_s F G f g)

  plot_first : (F G : Column) → P F → S G → Multiply n L weight F G
  plot_first F G f g = orthogonal_multiply n L weight F G (o.on_p F f) (o.on_s G g) (weighsP F f) (weighs_s G g) (weighsR (supremum F G) (in_final F G f g)) (o.across F G f g)

  first_plot : (G F : Column) → S G → P F → Multiply n L weight G F
  first_plot G F g f = multiply_sym n L weight some F G (o.on_p F f) (o.on_s G g) (weighsP F f) (weighs_s G g) (weighsR (supremum F G) (in_final F G f g)) (plot_first F G f g)

  plot_final : (F H : Column) → P F → R H → Multiply n L weight F H
  plot_final F H f q =
      subst (Multiply n L weight F) (sym q.is)
      (multiply_right n L weight some F q.plot q.treatment (o.on_p F f) (o.on_p q.plot q.in_plot) (o.on_s q.treatment q.in_treatment)
      (plot_plot F q.plot f q.in_plot) (plot_first q.plot q.treatment q.in_plot q.in_treatment)
      (plot_first (supremum F q.plot) q.treatment (o.closed_p F q.plot f q.in_plot) q.in_treatment))

  first_final : (G H : Column) → S G → R H → Multiply n L weight G H
  first_final G H g q =
      subst (Multiply n L weight G) (supremum_comm n t k lt lk ∙ sym q.is)
      (multiply_right n L weight some G t k (o.on_s G g) lt lk (first_first G t g q.in_treatment) (first_plot t k q.in_treatment q.in_plot)
      (first_plot (supremum G t) k (o.closed_s G t g q.in_treatment) q.in_plot))
    where
      t : Column
      t = q.treatment

      k : Column
      k = q.plot

      lt : length t ≡ n
      lt = o.on_s t q.in_treatment

      lk : length k ≡ n
      lk = o.on_p k q.in_plot

  final_final : (G H : Column) → R G → R H → Multiply n L weight G H
  final_final G H q h =
      subst (λ (K : Column). Multiply n L weight K H) (sym q.is)
      (multiply_left n L weight some q.plot q.treatment H (o.on_p q.plot q.in_plot) (o.on_s q.treatment q.in_treatment) (on_r H h)
      (plot_first q.plot q.treatment q.in_plot q.in_treatment) (first_final q.treatment H q.in_treatment h)
      (plot_final q.plot (supremum q.treatment H) q.in_plot (closed_r q.treatment H (first_in_final q.treatment q.in_treatment) h)))

  numbered_r : (H : Column) → R H → number H ≡ H
  numbered_r H q = ap number q.is ∙ number_supremum q.plot q.treatment (o.on_p q.plot q.in_plot ∙ sym (o.on_s q.treatment q.in_treatment)) ∙ sym q.is

  -- a family that lists columns which multiply, closed under supremum, splits
  listed_splits : {Q : Column → Type 0} {A : Family} → Lists Q A → Accepted A → ((F : Column) → Q F → length F ≡ n) → ((F : Column) → Q F → Weighs n L weight F)
      → ((F G : Column) → Q F → Q G → Q (supremum F G)) → ((F G : Column) → Q F → Q G → Multiply n L weight F G) → Splits n L weight A
  listed_splits l is on weighs closed multiplies = record {
    accepted = is;
    on = λ F m. on F (l.only F m);
    weighs = λ F m. weighs F (l.only F m);
    suprema = λ F G m k. l.all (supremum F G) (closed F G (l.only F m) (l.only G k));
    multiplies = λ F G m k. multiplies F G (l.only F m) (l.only G k);
  }

  -- so plot family and final treatment family split together
  pub passed_splits : (A B : Family) → Lists P A → Lists R B → {G : Column} → S G → SplitTogether n L weight A B
  passed_splits A B a b {G} g = record {
    plots = listed_splits a (lists_accepted a o.numbered_p o.has_e) o.on_p weighsP o.closed_p plot_plot;
    treatments = listed_splits b (lists_accepted b numbered_r (first_in_final G g)) on_r weighsR closed_r final_final;
    stays = λ F T f t. b.all (supremum F T) (each_with_plot n P S o.on_p o.on_s o.closed_p F T (a.only F f) (b.only T t));
    multiplies = λ F T f t. plot_final F T (a.only F f) (b.only T t);
  }

-- ---- families that split together, E among the plot members

module _ (n : ℕ) (A B : Family) (together : SplitTogether n (up_to n) (any_size n) A B) (has_e : equality n ∈ A) where
  abbrev weight : Column → ℕ → ℕ
  weight = any_size n

  together_residuals : NoneBelow0 (residuals n A B)
  unfolding residuals degrees
  together_residuals =
      nonneg_everywhere (residuals n A B)
      (λ i h. residuals_nonneg n (up_to n) weight A B together (trace n) (trace_form n) (up_to n) class_number (classes_read n (up_to n) weight A together.plots) (classes_read n (up_to n) weight B together.treatments)
      (up_to_some n) (up_to_some n) i (omega (arith, h, length_residuals 1 (degrees n A) (map (stratum n A) B) (degrees n B), length_degrees n A)))

  pub together_trusted : Trusted n A B
  together_trusted = record {
    plot_strata = record {
      no_stratum = splits_degrees n (up_to n) weight A together.plots (up_to_some n);
      strata_sum = degrees_total n A together.plots.accepted together.plots.on has_e;
    };
    no_treatment = splits_degrees n (up_to n) weight B together.treatments (up_to_some n);
    no_residual = together_residuals;
  }

-- ---- any design that meets demand 2

module _ (n c d k : ℕ) (levels plots treatments : List ℕ) (a : Answer) (met : Demand2 n c d k levels plots treatments a) (e : a.refusal ≡ 0) where
  abbrev plot_set : Column → Type 0
  plot_set = InPlotFamily n (plot_columns n c levels)

  abbrev first_set : Column → Type 0
  first_set = InFirstTreatmentFamily n k (treatment_columns n d levels)

  hold : AllHold (full_conditions n c d k levels plots treatments)
  hold = met.accepts.0 e

  passed : Passed n plot_set first_set
  unfolding AllHold
  passed = record {
    on_p = member_length n (plot_columns n c levels) on_f;
    on_s = first_length n k (treatment_columns n d levels) on_t;
    numbered_p = member_numbered n (plot_columns n c levels) on_f;
    numbered_s = first_numbered n k (treatment_columns n d levels) on_t;
    has_e = by_equality;
    closed_p = λ F G f g. by_supremum f g;
    closed_s = λ F G f g. of_supremum f g;
    orthogonal_p = hold.1.1.1.1.0;
    orthogonal_s = hold.1.1.1.1.1.1.0;
    across = hold.1.1.1.1.1.1.1.0;
  }
    where
      limits : Within n c d k levels plots treatments
      limits = hold.0

      on_f : (F : Column) → F ∈ plot_columns n c levels → length F ≡ n
      on_f = column_length n levels c 0 limits.plots_most limits.table (omega (arith, limits.plot_columns_holds))

      on_t : (F : Column) → F ∈ treatment_columns n d levels → length F ≡ n
      on_t = column_length n levels d 6 limits.plots_most limits.table (omega (arith, limits.treatment_columns_holds))

  -- its families split together, with any weights for their members
  pub accepted_splits : (L : ℕ) (weight : Column → ℕ → ℕ) → 0 < L → ((F : Column) → F ∈ a.plot → Weighs n L weight F) → ((F : Column) → F ∈ a.treatment → Weighs n L weight F) → SplitTogether n L weight a.plot a.treatment
  accepted_splits L weight some weighsP weighsR =
      passed_splits n plot_set first_set passed L weight some (λ F f. weighsP F (list_p.all F f)) (λ F f. weighsR F (list_r.all F f)) a.plot a.treatment list_p list_r of_universal
    where
      list_p : Lists plot_set a.plot
      list_p = met.plot_family_holds (inl e)

      list_r : Lists (SupremumOfEach plot_set first_set) a.treatment
      list_r = met.final_family e

  -- where it is accepted, its families can be trusted
  pub demand_trusted : Trusted n a.plot a.treatment
  demand_trusted =
      together_trusted n a.plot a.treatment (accepted_splits (up_to n) (any_size n) (up_to_some n) (λ F m. any_weighs n F) (λ F m. any_weighs n F))
      ((met.plot_family_holds (inl e)).all (equality n) by_equality)

-- ---- the full design

-- no stratum, no treatment member and no residual of an accepted full design is below 0, and the strata sum to N
pub full_trusted : (n c d k : ℕ) (levels : List ℕ) (p r : ℕ) → (full_design n c d k levels p r).refusal ≡ 0 → Trusted n (full_design n c d k levels p r).plot (full_design n c d k levels p r).treatment
full_trusted n c d k levels p r =
    subst (λ (a : Answer). a.refusal ≡ 0 → Trusted n a.plot a.treatment) (ap₂ (full_design n c d k levels) (length-replicate p 0) (length-replicate r 0))
    (demand_trusted n c d k levels (replicate p 0) (replicate r 0) _ (full_demanded n c d k levels (replicate p 0) (replicate r 0)))

-- ---- what the entries answer of the families that it left in the buffers

module _ (n c d k : ℕ) (levels plots treatments : List ℕ) (e : (full_design n c d k levels (length plots) (length treatments)).refusal ≡ 0) where
  abbrev b : Answer
  b = full_design n c d k levels (length plots) (length treatments)

  trusted : Trusted n b.plot b.treatment
  trusted = full_trusted n c d k levels (length plots) (length treatments) e

  limits : Within n c d k levels plots treatments
  unfolding AllHold
  limits = ((full_demanded n c d k levels plots treatments).accepts.0 e).0

  tells : Tells n b
  tells = full_tells n c d k levels (length plots) (length treatments)

  -- the degrees of freedom of the plot family
  pub plot_answered_is : degrees_of_freedom n (plot_buffer plots b) (plot_size b) ≡ record { refusal = 0; degrees = for_places (pos 0) (degrees n b.plot) }
  plot_answered_is = plot_degrees n limits.plots_least limits.plots_most b tells e plots treatments limits.plot_family_holds limits.treatment_family

  -- those of the treatment family
  pub treatment_answered_is : degrees_of_freedom n (treatment_buffer treatments b) (treatment_size b) ≡ record { refusal = 0; degrees = for_places (pos 0) (degrees n b.treatment) }
  treatment_answered_is = treatment_degrees n limits.plots_least limits.plots_most b tells e plots treatments limits.plot_family_holds limits.treatment_family

  -- the strata and residuals
  pub residuals_answered_is : strata n (plot_buffer plots b) (plot_size b) (treatment_buffer treatments b) (treatment_size b)
      ≡ record { refusal = 0; places = for_places 0 (map (stratum n b.plot) b.treatment); residuals = for_places (pos 0) (residuals n b.plot b.treatment) }
  residuals_answered_is = design_strata n limits.plots_least limits.plots_most b tells e plots treatments limits.plot_family_holds limits.treatment_family

  -- so none of the numbers answered is below 0
  pub plot_answered : NoneBelow0 (degrees_of_freedom n (plot_buffer plots b) (plot_size b)).degrees
  plot_answered i = rw plot_answered_is (places_nonneg (degrees n b.plot) trusted.plot_strata.no_stratum i)

  pub treatment_answered : NoneBelow0 (degrees_of_freedom n (treatment_buffer treatments b) (treatment_size b)).degrees
  treatment_answered i = rw treatment_answered_is (places_nonneg (degrees n b.treatment) trusted.no_treatment i)

  pub residuals_answered : NoneBelow0 (strata n (plot_buffer plots b) (plot_size b) (treatment_buffer treatments b) (treatment_size b)).residuals
  residuals_answered i = rw residuals_answered_is (places_nonneg (residuals n b.plot b.treatment) trusted.no_residual i)
