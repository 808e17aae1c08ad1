-- Laws of the final treatment family: it contains the first, is closed under supremum, with plot members too, and each member has a stratum.
-- Assumes nothing.
use Rattle.rules.proofs.Questions.{plot_length, plot_closed}
use borrow.Author.Tests.{ne_eqb}
use Rattle.rules.proofs.Closing.{close_within, pigeonhole, ascending_distinct}
use lib.Dec.{lit≤, eqb}
use native.Mathlib.Nat.{le_trans}
use mathlib.Core.Path.{◌≡◌, refl, sym, ap, ap₂, ◌∙◌, subst}
use mathlib.Core.Logic.{◌⊎◌, inl, inr}
use mathlib.Core.Bool.{Bool, true, false, not, ◌&&◌, ◌||◌, true≢false}
use mathlib.Core.List.Memᴰ
use mathlib.Core.List.{List, [], ◌∷◌}
use Prim.Native.Nat.{ℕ, zero, suc}
use lib.ListN.{length}
use Rattle.rules.specs.Factor.{Column, Finer, finer, number, supremum, universal, equality, infimum}
use Rattle.rules.specs.Family.{Family, ◌∈◌, insert_all, Ascending, empty, cons}
use Rattle.rules.specs.Closing.{both, only_supremum, family, close, plot_generators, plot_family, choices, treatment_generators, first_treatment_family, final_treatment_family, given, infimum_all, by_equality, SupremumOfEach}
use Rattle.rules.specs.Strata.{all, is_stratum, stratum, all_have_stratum}
use Rattle.rules.proofs.Numbering.{by_cases}
use Rattle.rules.proofs.Members.{clash, insert_all_has, insert_all_only, ascending_insert_all, ascending_unique}
use Rattle.rules.proofs.Bounds.{finer_trans, length_supremum', supremum_left, supremum_right, supremum_least, supremum_comm, supremum_coarser_is, infimum_comm, infimum_finer_is, infimum_self, supremum_self, supremum_assoc}
use Rattle.rules.proofs.Classes.{finer_test}
use Rattle.rules.proofs.ClassCount.{finer_universal, equality_finer}
use Rattle.rules.proofs.Extremes.{length_universal, number_universal, length_equality, number_equality}
use Rattle.rules.proofs.Families.{final_only, final_all, final_ascending, plot_family_lists}
use Rattle.rules.proofs.Tests.{or_not}
use Rattle.rules.proofs.Verdict.{failing_none}

-- ---- the suprema of a plot member, one of P, and a treatment member, one of S

module _ (n : ℕ) (P S : Column → Type 0) (on_p : (F : Column) → P F → length F ≡ n) (on_s : (F : Column) → S F → length F ≡ n) where
  -- the treatment members are among them, where E is a plot member
  pub each_treatment : P (equality n) → ((F : Column) → S F → number F ≡ F) → (G : Column) → S G → SupremumOfEach P S G
  each_treatment e numbered G m = record {
    plot = equality n;
    treatment = G;
    in_plot = e;
    in_treatment = m;
    is = sym (supremum_coarser_is n (equality n) G (length_equality n) (on_s G m) (equality_finer n G) ∙ numbered G m);
  }

  -- they are on the n plots
  pub each_length : (H : Column) → SupremumOfEach P S H → length H ≡ n
  each_length H p = ap length p.is ∙ length_supremum' n p.plot p.treatment (on_p p.plot p.in_plot) (on_s p.treatment p.in_treatment)

  module _ (closed_p : (F G : Column) → P F → P G → P (supremum F G)) where
    -- they are closed under supremum with plot members
    pub each_with_plot : (F H : Column) → P F → SupremumOfEach P S H → SupremumOfEach P S (supremum F H)
    each_with_plot F H m p = record {
      plot = supremum F p.plot;
      treatment = p.treatment;
      in_plot = closed_p F p.plot m p.in_plot;
      in_treatment = p.in_treatment;
      is = ap (supremum F) p.is ∙ sym (supremum_assoc n F p.plot p.treatment (on_p F m) (on_p p.plot p.in_plot) (on_s p.treatment p.in_treatment));
    }

    -- they are closed under supremum
    pub each_closed : ((F G : Column) → S F → S G → S (supremum F G)) → (G H : Column) → SupremumOfEach P S G → SupremumOfEach P S H → SupremumOfEach P S (supremum G H)
    each_closed closed_s G H p q = subst (SupremumOfEach P S) (sym turned) (each_with_plot p.plot (supremum p.treatment H) p.in_plot inner)
      where
        lp : length p.plot ≡ n
        lp = on_p p.plot p.in_plot

        ls : length p.treatment ≡ n
        ls = on_s p.treatment p.in_treatment

        lq : length q.plot ≡ n
        lq = on_p q.plot q.in_plot

        lt : length q.treatment ≡ n
        lt = on_s q.treatment q.in_treatment

        turned : supremum G H ≡ supremum p.plot (supremum p.treatment H)
        turned = ap (λ (F : Column). supremum F H) p.is ∙ supremum_assoc n p.plot p.treatment H lp ls (each_length H q)

        -- s ∨ (p' ∨ t') is p' ∨ (s ∨ t')
        moved : supremum p.treatment H ≡ supremum q.plot (supremum p.treatment q.treatment)
        moved =
            ap (supremum p.treatment) q.is ∙ sym (supremum_assoc n p.treatment q.plot q.treatment ls lq lt)
            ∙ ap (λ (F : Column). supremum F q.treatment) (supremum_comm n p.treatment q.plot ls lq) ∙ supremum_assoc n q.plot p.treatment q.treatment lq ls lt

        inner : SupremumOfEach P S (supremum p.treatment H)
        inner = record {
          plot = q.plot;
          treatment = supremum p.treatment q.treatment;
          in_plot = q.in_plot;
          in_treatment = closed_s p.treatment q.treatment p.in_treatment q.in_treatment;
          is = moved;
        }

-- ---- the final treatment family

module _ (n : ℕ) (P S : Family) (on_p : (F : Column) → F ∈ P → length F ≡ n) (on_s : (F : Column) → F ∈ S → length F ≡ n) where
  -- it contains the first treatment family, where the plot family has E
  pub final_contains : equality n ∈ P → ((F : Column) → F ∈ S → number F ≡ F) → (G : Column) → G ∈ S → G ∈ final_treatment_family P S
  final_contains e numbered G m = final_all P S G (each_treatment n (λ F. F ∈ P) (λ F. F ∈ S) on_p on_s e numbered G m)

  -- its members are on the n plots
  pub final_length : (H : Column) → H ∈ final_treatment_family P S → length H ≡ n
  final_length H m = each_length n (λ F. F ∈ P) (λ F. F ∈ S) on_p on_s H (final_only P S H m)

-- ---- strata

-- every member passes, told one by one
all_pass : (p : Column → Bool) (S : Family) → ((F : Column) → F ∈ S → p F ≡ true) → all p S ≡ true
unfolding all
all_pass p [] h = refl
all_pass p (F ∷ S) h = rw (h F (Memᴰ.head refl), all) (all_pass p S (λ G m. h G (Memᴰ.tail m)))

module _ (n : ℕ) (P : Family) (on_p : (F : Column) → F ∈ P → length F ≡ n) (has_e : equality n ∈ P) (closed_p : (F G : Column) → F ∈ P → G ∈ P → supremum F G ∈ P)
    (T : Column) where
  -- a plot member finer than T, to which all of R that are finer than T are finer
  record Coarsest (R : Family) : Type 0 where
    member : Column
    is_member : member ∈ P
    below : Finer n member T
    top : (G : Column) → G ∈ R → Finer n G T → Finer n G member

  coarsest_step : (G : Column) (R : Family) → G ∈ P → Coarsest R → Coarsest (G ∷ R)
  coarsest_step G R g c = by_cases (finer n G T) taken skipped
    where
      taken : finer n G T ≡ true → Coarsest (G ∷ R)
      taken e = record {
        member = supremum c.member G;
        is_member = closed_p c.member G c.is_member g;
        below = supremum_least n c.member G (on_p c.member c.is_member) (on_p G g) T c.below ((finer_test n G T).0 e);
        top = λ H m f. go H f (Memᴰ.cases_cons m);
      }
        where
          go : (H : Column) → Finer n H T → (H ≡ G) ⊎ (H ∈ R) → Finer n H (supremum c.member G)
          go H f (inl q) = subst (λ (K : Column). Finer n K (supremum c.member G)) (sym q) (supremum_right n c.member G (on_p c.member c.is_member) (on_p G g))
          go H f (inr m) = finer_trans n H c.member (supremum c.member G) (c.top H m f) (supremum_left n c.member G (on_p c.member c.is_member) (on_p G g))

      skipped : finer n G T ≡ false → Coarsest (G ∷ R)
      skipped e = record { member = c.member; is_member = c.is_member; below = c.below; top = λ H m f. go H f (Memᴰ.cases_cons m) }
        where
          go : (H : Column) → Finer n H T → (H ≡ G) ⊎ (H ∈ R) → Finer n H c.member
          go H f (inl q) = clash ((finer_test n G T).1 (subst (λ (K : Column). Finer n K T) q f)) e
          go H f (inr m) = c.top H m f

  coarsest : (R : Family) → ((F : Column) → F ∈ R → F ∈ P) → Coarsest R
  coarsest [] h = record { member = equality n; is_member = has_e; below = equality_finer n T; top = λ G m. absurd (Memᴰ.not-nil m) }
  coarsest (G ∷ R) h = coarsest_step G R (h G (Memᴰ.head refl)) (coarsest R (λ F m. h F (Memᴰ.tail m)))

  -- every column has a stratum in a plot family that has E and is closed under supremum: question 16 never refuses an accepted design
  pub has_stratum : stratum n P T ≡ 0 → ⊥
  unfolding stratum is_stratum
  has_stratum z = true≢false (sym yes ∙ not_false (failing_none (λ F. not (is_stratum n P T F)) 0 P z c.member c.is_member))
    where
      c : Coarsest P
      c = coarsest P (λ F m. m)

      yes : is_stratum n P T c.member ≡ true
      yes = ap₂ ◌&&◌ ((finer_test n c.member T).1 c.below)
          (all_pass (λ G. not (finer n G T) || finer n G c.member) P (λ G m. or_not (finer n G T) (finer n G c.member) (λ e. (finer_test n G c.member).1 (c.top G m ((finer_test n G T).0 e)))))

      not_false : {b : Bool} → not b ≡ true → b ≡ false
      not_false {b = true} e = sym e
      not_false {b = false} e = refl

-- ---- families without columns

module _ (n : ℕ) where
  l_u : length (universal n) ≡ n
  l_u = length_universal n

  l_e : length (equality n) ≡ n
  l_e = length_equality n

  supremum_U : (F : Column) → length F ≡ n → supremum F (universal n) ≡ universal n
  supremum_U F l = supremum_coarser_is n F (universal n) l l_u (finer_universal n F) ∙ number_universal n

  infimum_E : (F : Column) → length F ≡ n → infimum (equality n) F ≡ equality n
  infimum_E F l = infimum_finer_is n (equality n) F l_e l (equality_finer n F) ∙ number_equality n

  abbrev UE : List Column
  UE = universal n ∷ equality n ∷ []

  in_u : universal n ∈ UE
  in_u = Memᴰ.head refl

  in_e : equality n ∈ UE
  in_e = Memᴰ.tail (Memᴰ.head refl)

  -- what two of U and E make is one of them
  makes : (F G H : Column) → (F ≡ universal n) ⊎ (F ≡ equality n) → (G ≡ universal n) ⊎ (G ≡ equality n) → (H ≡ infimum F G) ⊎ (H ≡ supremum F G) → H ∈ UE
  makes F G H (inl f) (inl g) (inl h) = subst (λ (K : Column). K ∈ UE) (sym (h ∙ ap₂ infimum f g ∙ infimum_self n (universal n) l_u ∙ number_universal n)) in_u
  makes F G H (inl f) (inl g) (inr h) = subst (λ (K : Column). K ∈ UE) (sym (h ∙ ap₂ supremum f g ∙ supremum_U (universal n) l_u)) in_u
  makes F G H (inl f) (inr g) (inl h) = subst (λ (K : Column). K ∈ UE) (sym (h ∙ ap₂ infimum f g ∙ infimum_comm n (universal n) (equality n) l_u l_e ∙ infimum_E (universal n) l_u)) in_e
  makes F G H (inl f) (inr g) (inr h) = subst (λ (K : Column). K ∈ UE) (sym (h ∙ ap₂ supremum f g ∙ supremum_comm n (universal n) (equality n) l_u l_e ∙ supremum_U (equality n) l_e)) in_u
  makes F G H (inr f) (inl g) (inl h) = subst (λ (K : Column). K ∈ UE) (sym (h ∙ ap₂ infimum f g ∙ infimum_E (universal n) l_u)) in_e
  makes F G H (inr f) (inl g) (inr h) = subst (λ (K : Column). K ∈ UE) (sym (h ∙ ap₂ supremum f g ∙ supremum_U (equality n) l_e)) in_u
  makes F G H (inr f) (inr g) (inl h) = subst (λ (K : Column). K ∈ UE) (sym (h ∙ ap₂ infimum f g ∙ infimum_E (equality n) l_e)) in_e
  makes F G H (inr f) (inr g) (inr h) = subst (λ (K : Column). K ∈ UE) (sym (h ∙ ap₂ supremum f g ∙ supremum_self n (equality n) l_e ∙ number_equality n)) in_e

  one_of : (F : Column) → F ∈ UE → (F ≡ universal n) ⊎ (F ≡ equality n)
  one_of F m = go (Memᴰ.cases_cons m)
    where
      go : (F ≡ universal n) ⊎ (F ∈ equality n ∷ []) → (F ≡ universal n) ⊎ (F ≡ equality n)
      go (inl e) = inl e
      go (inr k) = inr (Memᴰ.eq_of_singleton k)

  either : (F G H : Column) → H ∈ both F G → (H ≡ infimum F G) ⊎ (H ≡ supremum F G)
  unfolding both
  either F G H m = go (Memᴰ.cases_cons m)
    where
      go : (H ≡ infimum F G) ⊎ (H ∈ supremum F G ∷ []) → (H ≡ infimum F G) ⊎ (H ≡ supremum F G)
      go (inl e) = inl e
      go (inr k) = inr (Memᴰ.eq_of_singleton k)

  -- with no plot column the plot family is U and E
  pub plot_family_none : plot_family n [] ≡ family (insert_all (universal n ∷ equality n ∷ []) [])
  unfolding plot_family plot_generators
  plot_family_none =
      close_within both UE (insert_all UE []) (record { ascending = ascending_insert_all UE [] empty; only = λ F m. given (back F m); has = λ F m. insert_all_has UE [] F m })
      (le_trans (pigeonhole (insert_all UE []) UE (ascending_distinct (ascending_insert_all UE [] empty)) back) (lit≤ tt))
      (λ F G H m k p. insert_all_has UE [] H (makes F G H (one_of F (back F m)) (one_of G (back G k)) (either F G H p)))
    where
      back : (F : Column) → F ∈ insert_all UE [] → F ∈ UE
      back F m = go (insert_all_only UE [] F m)
        where
          go : (F ∈ UE) ⊎ (F ∈ []) → F ∈ UE
          go (inl k) = k
          go (inr k) = absurd (Memᴰ.not-nil k)

  abbrev OnlyU : List Column
  OnlyU = universal n ∷ []

  no_choice : (k : ℕ) → treatment_generators n k [] ≡ OnlyU
  unfolding treatment_generators choices infimum_all
  no_choice zero = refl
  no_choice (suc k) = refl

  ascending_U : Ascending OnlyU
  ascending_U = cons (λ G m. absurd (Memᴰ.not-nil m)) empty

  -- with no treatment column the first treatment family is U alone
  pub first_family_none : (k : ℕ) → first_treatment_family n k [] ≡ family (universal n ∷ [])
  unfolding first_treatment_family only_supremum
  first_family_none k =
      ap (close only_supremum) (no_choice k)
      ∙ close_within only_supremum OnlyU OnlyU (record { ascending = ascending_U; only = λ F m. given m; has = λ F m. m }) (lit≤ tt)
      (λ F G H m l p. Memᴰ.head (Memᴰ.eq_of_singleton p ∙ ap₂ supremum (Memᴰ.eq_of_singleton m) (Memᴰ.eq_of_singleton l) ∙ supremum_U (universal n) l_u))

  -- and so is the final one
  pub final_family_none : (P : Family) (F : Column) → F ∈ P → ((G : Column) → G ∈ P → length G ≡ n) → final_treatment_family P (universal n ∷ []) ≡ universal n ∷ []
  final_family_none P F m on =
      ascending_unique (final_treatment_family P OnlyU) OnlyU (final_ascending P OnlyU) ascending_U only all_there
    where
      only : (H : Column) → H ∈ final_treatment_family P OnlyU → H ∈ OnlyU
      only H k = let p = final_only P OnlyU H k in
          Memᴰ.head (p.is ∙ ap (supremum p.plot) (Memᴰ.eq_of_singleton p.in_treatment) ∙ supremum_U p.plot (on p.plot p.in_plot))

      all_there : (H : Column) → H ∈ OnlyU → H ∈ final_treatment_family P OnlyU
      all_there H k = final_all P OnlyU H record { plot = F; treatment = universal n; in_plot = m; in_treatment = Memᴰ.head refl; is = Memᴰ.eq_of_singleton k ∙ sym (supremum_U F (on F m)) }

-- ---- question 16

-- beside a plot family that is not too large every treatment member has a stratum, so question 16 never refuses an accepted design
pub plot_family_strata : (n : ℕ) (Fs : List Column) → ((F : Column) → F ∈ Fs → length F ≡ n) → (P : Family) → plot_family n Fs ≡ family P → (R : Family) → all_have_stratum n P R ≡ true
unfolding all_have_stratum
plot_family_strata n Fs on P is R =
    all_pass (λ T. not (eqb (stratum n P T) 0)) R (λ T m. ap not (ne_eqb (stratum n P T) 0 (has_stratum n P (plot_length n Fs on P is) has_e (λ F G f g. (plot_closed n Fs on P is F G f g).1) T)))
  where
    has_e : equality n ∈ P
    has_e = (plot_family_lists n Fs P is).all (equality n) by_equality
