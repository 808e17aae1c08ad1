-- Laws of the three families: each lists exactly the set that the rules name, in order, or that set has more than 32 members.
-- Assumes nothing.
use mathlib.Core.Path.{◌≡◌, refl, sym, subst}
use mathlib.Core.Logic.{◌↔◌, ◌⊎◌, inl, inr}
use mathlib.Core.List.Memᴰ
use mathlib.Core.List.{List, [], ◌∷◌, map}
use Prim.Native.Nat.{ℕ, zero, suc, ◌≤◌, zero-le, suc-le-suc}
use native.Mathlib.Nat.{not-suc-le-zero, le_of_suc-le-suc}
use native.Mathlib.Omega.{arith}
use lib.ListN.{length}
use Rattle.rules.specs.Limits.{most_members}
use Rattle.rules.specs.Factor.{Column, number, infimum, supremum, universal, equality}
use Rattle.rules.specs.Family.{Family, ◌∈◌, Ascending, empty, AtMost}
pub use Rattle.rules.specs.Family.{Lists}
pub use Rattle.rules.specs.Closing.{InFinalTreatmentFamily}
use Rattle.rules.specs.Closing.{both, only_supremum, Made, given, made, Closing, too_many, family, close, products, plot_generators, plot_family, InPlotFamily, by_column, by_universal, by_equality, by_infimum, by_supremum, choices, infimum_all, treatment_generators, first_treatment_family, Chosen, none_of, skipping, taking, InFirstTreatmentFamily, of_universal, of_infimum, of_supremum, final_treatment_family}
use Rattle.rules.proofs.Members.{insert_all_has, insert_all_only, ascending_insert_all}
use Rattle.rules.proofs.Closing.{Closed, listed, too_many_holds, close_right, close_too_many, products_has, products_from, Product}

module _ (make : Column → Column → List Column) (Gs : List Column) (P : Column → Type 0)
    (to : (F : Column) → Made make Gs F → P F) (from : (F : Column) → P F → Made make Gs F) where
  closed_lists : (R : Family) (x : Closing) → Closed make Gs x → x ≡ family R → Lists P R
  closed_lists R x (too_many_holds m) e = absurd (differ e)
    where
      differ : too_many ≡ family R → ⊥
      differ q = let z : ◌≡◌ {A = ℕ} 0 1 = cc in omega arith
  closed_lists R x (listed {R = S} s) e = rw same lists
    where
      same : R ≡ S
      same = cc

      lists : Lists P S
      lists = record { ascending = s.ascending; few = s.few; only = λ F m. to F (s.only F m); all = λ F p. s.all F (from F p) }

  -- a family that closing gives lists the columns with P, where just those of the smallest set have it
  pub close_lists : (R : Family) → close make Gs ≡ family R → Lists P R
  close_lists R e = closed_lists R (close make Gs) (close_right make Gs) e

  close_many_iff : close make Gs ≡ too_many ↔ (AtMost most_members P → ⊥)
  close_many_iff = (
    λ e few. (close_too_many make Gs).0 e (λ S d f. few S d (λ F m. to F (f F m))),
    λ over. (close_too_many make Gs).1 (λ few. over (λ S d f. few S d (λ F m. from F (f F m)))),
  )

-- ---- the plot family

module _ (n : ℕ) (Fs : List Column) where
  from_column : (H : Column) → H ∈ map number Fs → InPlotFamily n Fs H
  from_column H m = let p : (F : Column) × (F ∈ Fs) × (number F ≡ H) = Memᴰ.of_map number Fs m in subst (InPlotFamily n Fs) p.2 (by_column p.1)

  from_given : (H : Column) → H ∈ plot_generators n Fs → InPlotFamily n Fs H
  unfolding plot_generators
  from_given H m = first (Memᴰ.cases_cons m)
    where
      second : (H ≡ equality n) ⊎ (H ∈ map number Fs) → InPlotFamily n Fs H
      second (inl e) = rw e by_equality
      second (inr k) = from_column H k

      first : (H ≡ universal n) ⊎ (H ∈ equality n ∷ map number Fs) → InPlotFamily n Fs H
      first (inl e) = rw e by_universal
      first (inr k) = second (Memᴰ.cases_cons k)

  from_both : (F G H : Column) → InPlotFamily n Fs F → InPlotFamily n Fs G → H ∈ both F G → InPlotFamily n Fs H
  unfolding both
  from_both F G H p q m = first (Memᴰ.cases_cons m)
    where
      first : (H ≡ infimum F G) ⊎ (H ∈ supremum F G ∷ []) → InPlotFamily n Fs H
      first (inl e) = rw e (by_infimum p q)
      first (inr k) = rw (Memᴰ.eq_of_singleton k) (by_supremum p q)

  pub made_in_family : (H : Column) → Made both (plot_generators n Fs) H → InPlotFamily n Fs H
  made_in_family H (given m) = from_given H m
  made_in_family H (made {F} {G} p q k) = from_both F G H (made_in_family F p) (made_in_family G q) k

  pub in_family_made : (H : Column) → InPlotFamily n Fs H → Made both (plot_generators n Fs) H
  unfolding plot_generators both
  in_family_made H (by_column {F} m) = given (Memᴰ.tail (Memᴰ.tail (Memᴰ.map number m)))
  in_family_made H by_universal = given (Memᴰ.head refl)
  in_family_made H by_equality = given (Memᴰ.tail (Memᴰ.head refl))
  in_family_made H (by_infimum {F} {G} p q) = made (in_family_made F p) (in_family_made G q) (Memᴰ.head refl)
  in_family_made H (by_supremum {F} {G} p q) = made (in_family_made F p) (in_family_made G q) (Memᴰ.tail (Memᴰ.head refl))

  -- the plot family is the smallest set with the plot columns, U and E, closed under both operations
  pub plot_family_lists : (R : Family) → plot_family n Fs ≡ family R → Lists (InPlotFamily n Fs) R
  unfolding plot_family
  plot_family_lists R e = close_lists both (plot_generators n Fs) (InPlotFamily n Fs) made_in_family in_family_made R e

  -- question 8: it is too large exactly when that set has more than 32 members
  pub plot_too_many : plot_family n Fs ≡ too_many ↔ (AtMost most_members (InPlotFamily n Fs) → ⊥)
  unfolding plot_family
  plot_too_many = close_many_iff both (plot_generators n Fs) (InPlotFamily n Fs) made_in_family in_family_made

-- ---- the first treatment family

-- the choices of at most k columns are just those lists of columns at different places
pub choices_chosen : (k : ℕ) (Ts C : List Column) → C ∈ choices k Ts → Chosen C Ts × (length C ≤ k)
unfolding choices
choices_chosen zero Ts C m = rw (Memᴰ.eq_of_singleton m) (chosen_none Ts, zero-le)
  where
    chosen_none : (Us : List Column) → Chosen [] Us
    chosen_none [] = none_of
    chosen_none (U ∷ Us) = skipping (chosen_none Us)
choices_chosen (suc k) [] C m = rw (Memᴰ.eq_of_singleton m) (none_of, zero-le)
choices_chosen (suc k) (T ∷ Ts) C m = go (choices_chosen (suc k) Ts C) (choices_chosen k Ts) (Memᴰ.append_cases (choices (suc k) Ts) m)
  where
    taken : ((D : List Column) → D ∈ choices k Ts → Chosen D Ts × (length D ≤ k)) → (D : List Column) × (D ∈ choices k Ts) × (T ∷ D ≡ C) → Chosen C (T ∷ Ts) × (length C ≤ suc k)
    taken f (D, d, e) = rw (sym e) (taking (f D d).0, suc-le-suc (f D d).1)

    go : (C ∈ choices (suc k) Ts → Chosen C Ts × (length C ≤ suc k)) → ((D : List Column) → D ∈ choices k Ts → Chosen D Ts × (length D ≤ k)) → (C ∈ choices (suc k) Ts) ⊎ (C ∈ map (λ (D : List Column). T ∷ D) (choices k Ts)) → Chosen C (T ∷ Ts) × (length C ≤ suc k)
    go f g (inl a) = (skipping (f a).0, (f a).1)
    go f g (inr b) = taken g (Memᴰ.of_map (λ (D : List Column). T ∷ D) (choices k Ts) b)

pub chosen_nothing : (k : ℕ) (Ts : List Column) → [] ∈ choices k Ts
unfolding choices
chosen_nothing zero Ts = Memᴰ.head refl
chosen_nothing (suc k) [] = Memᴰ.head refl
chosen_nothing (suc k) (T ∷ Ts) = Memᴰ.append_left _ (chosen_nothing (suc k) Ts)

pub chosen_choices : (k : ℕ) {C Ts : List Column} → Chosen C Ts → length C ≤ k → C ∈ choices k Ts
unfolding choices
chosen_choices k none_of h = chosen_nothing k []
chosen_choices zero (skipping {C = []} c) h = Memᴰ.head refl
chosen_choices zero (skipping {C = T ∷ C} c) h = absurd (not-suc-le-zero h)
chosen_choices (suc k) (skipping c) h = Memᴰ.append_left _ (chosen_choices (suc k) c h)
chosen_choices zero (taking c) h = absurd (not-suc-le-zero h)
chosen_choices (suc k) (taking {T = T} {Ts = Ts} c) h = Memᴰ.append_right (choices (suc k) Ts) (Memᴰ.map (λ (D : List Column). T ∷ D) (chosen_choices k c (le_of_suc-le-suc h)))

module _ (n k : ℕ) (Ts : List Column) where
  from_choice : (C : List Column) → Chosen C Ts → length C ≤ k → InFirstTreatmentFamily n k Ts (infimum_all n C)
  unfolding infimum_all
  from_choice [] c h = of_universal
  from_choice (T ∷ C) c h = of_infimum c h

  made_in_first : (H : Column) → Made only_supremum (treatment_generators n k Ts) H → InFirstTreatmentFamily n k Ts H
  unfolding treatment_generators only_supremum
  made_in_first H (given m) = go (Memᴰ.of_map (infimum_all n) (choices k Ts) m)
    where
      go : (C : List Column) × (C ∈ choices k Ts) × (infimum_all n C ≡ H) → InFirstTreatmentFamily n k Ts H
      go (C, c, e) = subst (InFirstTreatmentFamily n k Ts) e (from_choice C (choices_chosen k Ts C c).0 (choices_chosen k Ts C c).1)
  made_in_first H (made {F} {G} p q m) = rw (Memᴰ.eq_of_singleton m) (of_supremum (made_in_first F p) (made_in_first G q))

  in_first_made : (H : Column) → InFirstTreatmentFamily n k Ts H → Made only_supremum (treatment_generators n k Ts) H
  unfolding treatment_generators only_supremum infimum_all
  in_first_made H of_universal = given (Memᴰ.map (infimum_all n) (chosen_nothing k Ts))
  in_first_made H (of_infimum {T} {C} c h) = given (Memᴰ.map (infimum_all n) (chosen_choices k c h))
  in_first_made H (of_supremum {F} {G} p q) = made (in_first_made F p) (in_first_made G q) (Memᴰ.head refl)

  -- the first treatment family is the smallest set with U and all infima of 1 to k different treatment columns, closed under supremum
  pub first_family_lists : (R : Family) → first_treatment_family n k Ts ≡ family R → Lists (InFirstTreatmentFamily n k Ts) R
  unfolding first_treatment_family
  first_family_lists R e = close_lists only_supremum (treatment_generators n k Ts) (InFirstTreatmentFamily n k Ts) made_in_first in_first_made R e

  -- question 11: it is too large exactly when that set has more than 32 members
  pub first_too_many : first_treatment_family n k Ts ≡ too_many ↔ (AtMost most_members (InFirstTreatmentFamily n k Ts) → ⊥)
  unfolding first_treatment_family
  first_too_many = close_many_iff only_supremum (treatment_generators n k Ts) (InFirstTreatmentFamily n k Ts) made_in_first in_first_made

-- ---- the final treatment family

-- the final treatment family lists just the suprema of one plot member with one first-treatment member, ascending
pub final_ascending : (P S : Family) → Ascending (final_treatment_family P S)
unfolding final_treatment_family
final_ascending P S = ascending_insert_all (products only_supremum P S) [] empty

pub final_only : (P S : Family) (H : Column) → H ∈ final_treatment_family P S → InFinalTreatmentFamily P S H
unfolding final_treatment_family only_supremum
final_only P S H m = go (insert_all_only (products only_supremum P S) [] H m)
  where
    from : Product only_supremum P S H → InFinalTreatmentFamily P S H
    from p = record { plot = p.left; treatment = p.right; in_plot = p.in_left; in_treatment = p.in_right; is = Memᴰ.eq_of_singleton p.makes }

    go : (H ∈ products only_supremum P S) ⊎ (H ∈ []) → InFinalTreatmentFamily P S H
    go (inl k) = from (products_from only_supremum P S H k)
    go (inr k) = absurd (Memᴰ.not-nil k)

pub final_all : (P S : Family) (H : Column) → InFinalTreatmentFamily P S H → H ∈ final_treatment_family P S
unfolding final_treatment_family only_supremum
final_all P S H p = insert_all_has (products only_supremum P S) [] H (products_has only_supremum P S p.plot p.treatment H p.in_plot p.in_treatment (Memᴰ.head p.is))
