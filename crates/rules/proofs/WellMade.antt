-- Laws of the families that a design makes: 1 to 32 members on the plots, numbered and in order, so that question 15 never refuses them.
-- Assumes nothing.
use mathlib.Core.Path.{◌≡◌, refl, sym, ap, ◌∙◌}
use mathlib.Core.Bool.{true}
use mathlib.Core.List.Memᴰ
use mathlib.Core.List.{List, [], ◌∷◌}
use Prim.Native.Nat.{ℕ, ◌≤◌, ◌<◌, zero-le, suc-le-suc}
use native.Mathlib.Nat.{not-suc-le-zero}
use lib.ListN.{length}
use borrow.Author.Tests.{lt-ltb, le-leb}
use Rattle.rules.specs.Factor.{Column, number, supremum, universal}
use Rattle.rules.specs.Family.{Family, ◌∈◌, Ascending, well_formed}
use Rattle.rules.specs.Closing.{family, plot_family, first_treatment_family, final_treatment_family, InFirstTreatmentFamily, of_universal, of_infimum, of_supremum, Chosen, none_of, skipping, taking, infimum_all, by_universal}
use Rattle.rules.proofs.Numbering.{length_infimum, number_infimum}
use Rattle.rules.proofs.Supremum.{length_supremum, number_supremum}
use Rattle.rules.proofs.Members.{ascending_ordered}
use Rattle.rules.proofs.Extremes.{length_universal, number_universal}
use Rattle.rules.proofs.Families.{plot_family_lists, first_family_lists, final_ascending, final_only, final_all}
use Rattle.rules.proofs.Demand3.{member_length, member_numbered}
use Rattle.rules.proofs.Treatments.{final_length}
use Rattle.rules.proofs.DegreesLaws.{numbered_all}

-- ---- question 15

-- 1 to 32 members, numbered and ascending: question 15 accepts them
pub well_formed_lem : (S : Family) → 0 < length S → length S ≤ 32 → Ascending S → ((F : Column) → F ∈ S → number F ≡ F) → well_formed S ≡ true
unfolding well_formed
well_formed_lem S some few a h = rw (lt-ltb 0 (length S) some, le-leb (length S) 32 few, numbered_all S h, ascending_ordered a)

-- a member there is: the family is not empty
nonempty : (S : Family) (F : Column) → F ∈ S → 0 < length S
nonempty [] F m = absurd (Memᴰ.not-nil m)
nonempty (G ∷ S) F m = suc-le-suc zero-le

-- a family of 1 to 32 members on n plots, in the numbering and order of members
pub record WellMade (n : ℕ) (S : Family) : Type 0 where
  pub formed : well_formed S ≡ true
  pub on : (F : Column) → F ∈ S → length F ≡ n
  pub numbered : (F : Column) → F ∈ S → number F ≡ F
  pub ascending : Ascending S
  pub some : 0 < length S
  pub few : length S ≤ 32

make : (n : ℕ) (S : Family) (U : Column) → U ∈ S → length S ≤ 32 → Ascending S → ((F : Column) → F ∈ S → length F ≡ n) → ((F : Column) → F ∈ S → number F ≡ F) → WellMade n S
make n S U m few a on numbered = record {
  formed = well_formed_lem S (nonempty S U m) few a numbered;
  on = on;
  numbered = numbered;
  ascending = a;
  some = nonempty S U m;
  few = few;
}

-- ---- the three families

-- the plot family
pub plot_made : (n : ℕ) (Fs : List Column) → ((F : Column) → F ∈ Fs → length F ≡ n) → (P : Family) → plot_family n Fs ≡ family P → WellMade n P
plot_made n Fs on P is =
    let l = plot_family_lists n Fs P is in
    make n P (universal n) (l.all (universal n) by_universal) l.few l.ascending (λ F m. member_length n Fs on F (l.only F m)) (λ F m. member_numbered n Fs on F (l.only F m))

-- the infimum of a choice is on the plots, and numbered
module _ (n : ℕ) where
  pub chosen_on : {C Us : List Column} → Chosen C Us → ((F : Column) → F ∈ Us → length F ≡ n) → length (infimum_all n C) ≡ n
  unfolding infimum_all
  chosen_on none_of h = length_universal n
  chosen_on (skipping c) h = chosen_on c (λ F m. h F (Memᴰ.tail m))
  chosen_on (taking {T = T} {C = C} c) h =
      let l = chosen_on c (λ F m. h F (Memᴰ.tail m)) in
      let t = h T (Memᴰ.head refl) in
      length_infimum T (infimum_all n C) (t ∙ sym l) ∙ t

  pub chosen_numbered : {C Us : List Column} → Chosen C Us → ((F : Column) → F ∈ Us → length F ≡ n) → number (infimum_all n C) ≡ infimum_all n C
  unfolding infimum_all
  chosen_numbered none_of h = number_universal n
  chosen_numbered (skipping c) h = chosen_numbered c (λ F m. h F (Memᴰ.tail m))
  chosen_numbered (taking {T = T} {C = C} c) h =
      number_infimum T (infimum_all n C) (h T (Memᴰ.head refl) ∙ sym (chosen_on c (λ F m. h F (Memᴰ.tail m))))

module _ (n k : ℕ) (Ts : List Column) (on : (F : Column) → F ∈ Ts → length F ≡ n) where
  pub first_length : (H : Column) → InFirstTreatmentFamily n k Ts H → length H ≡ n
  first_length H of_universal = length_universal n
  first_length H (of_infimum c h) = chosen_on n c on
  first_length H (of_supremum {F} {G} p q) = length_supremum F G (first_length F p ∙ sym (first_length G q)) ∙ first_length F p

  pub first_numbered : (H : Column) → InFirstTreatmentFamily n k Ts H → number H ≡ H
  first_numbered H of_universal = number_universal n
  first_numbered H (of_infimum c h) = chosen_numbered n c on
  first_numbered H (of_supremum {F} {G} p q) = number_supremum F G (first_length F p ∙ sym (first_length G q))

  -- the first treatment family
  pub first_made : (S : Family) → first_treatment_family n k Ts ≡ family S → WellMade n S
  first_made S is =
      let l = first_family_lists n k Ts S is in
      make n S (universal n) (l.all (universal n) of_universal) l.few l.ascending (λ F m. first_length F (l.only F m)) (λ F m. first_numbered F (l.only F m))

-- the final treatment family, where it has at most 32 members
pub final_made : (n : ℕ) (P S : Family) → WellMade n P → WellMade n S → length (final_treatment_family P S) ≤ 32 → WellMade n (final_treatment_family P S)
final_made n P S p s few = go (first_of P p.some) (first_of S s.some)
  where
    first_of : (R : Family) → 0 < length R → (F : Column) × (F ∈ R)
    first_of [] h = absurd (not-suc-le-zero h)
    first_of (F ∷ R) h = (F, Memᴰ.head refl)

    numbered : (H : Column) → H ∈ final_treatment_family P S → number H ≡ H
    numbered H m =
        let f = final_only P S H m in
        let e : length f.plot ≡ length f.treatment = p.on f.plot f.in_plot ∙ sym (s.on f.treatment f.in_treatment) in
        ap number f.is ∙ number_supremum f.plot f.treatment e ∙ sym f.is

    go : (F : Column) × (F ∈ P) → (G : Column) × (G ∈ S) → WellMade n (final_treatment_family P S)
    go (F, f) (G, g) =
        make n (final_treatment_family P S) (supremum F G) (final_all P S (supremum F G) (record { plot = F; treatment = G; in_plot = f; in_treatment = g; is = refl })) few
        (final_ascending P S) (final_length n P S p.on s.on) numbered
