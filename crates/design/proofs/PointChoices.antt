-- Laws of the infima of choices of columns of points: as columns of plots they are the infima of the same choices of columns of plots.
-- Assumes nothing.
use mathlib.Core.Path.{◌≡◌, refl, sym, ap, ap₂, ◌∙◌}
use mathlib.Core.List.Memᴰ
use mathlib.Core.List.{List, [], ◌∷◌, ◌++◌, map, map-append}
use Prim.Native.Nat.{ℕ, zero, suc, ◌+◌, ◌-◌, ◌≤◌, ◌<◌}
use native.Mathlib.Omega.{arith}
use lib.ListN.{length, get_or-replicate}
use lib.Seq.{ext_get_or}
use Rattle.rules.specs.Factor.{Column, at, infimum, universal}
use Rattle.rules.specs.Family.{◌∈◌, columns_from}
use Rattle.rules.specs.Closing.{choices, infimum_all, treatment_generators, Chosen, none_of, skipping, taking}
use Rattle.rules.proofs.Extremes.{length_universal}
use Rattle.rules.proofs.Families.{choices_chosen}
use Rattle.rules.proofs.Made.{chosen_on}
use Rattle.design.specs.State.{column_at}
use Rattle.design.specs.Points.{Points, points_on_plots}
use Rattle.design.proofs.PointLaws.{point_less, length_plots, at_plots, infimum_plots}
use Rattle.design.proofs.Lifting.{columns_map, plots_column}

-- ---- lists of choices

-- one column more in each choice, before a function and after it
map_cons : (f : Column → Column) (T : Column) (Cs : List (List Column)) → map (λ (C : List Column). f T ∷ C) (map (λ (C : List Column). map f C) Cs) ≡ map (λ (C : List Column). map f C) (map (λ (C : List Column). T ∷ C) Cs)
map_cons f T [] = refl
map_cons f T (C ∷ Cs) = ap (λ (l : List (List Column)). (f T ∷ map f C) ∷ l) (map_cons f T Cs)

-- the choices of columns that are made by a function
choices_map : (f : Column → Column) (k : ℕ) (Fs : List Column) → choices k (map f Fs) ≡ map (λ (C : List Column). map f C) (choices k Fs)
unfolding choices
choices_map f zero Fs = refl
choices_map f (suc k) [] = refl
choices_map f (suc k) (F ∷ Fs) =
    ap₂ (λ (a b : List (List Column)). a ++ b) (choices_map f (suc k) Fs) (ap (map (λ (C : List Column). f F ∷ C)) (choices_map f k Fs) ∙ map_cons f F (choices k Fs))
    ∙ sym (map-append (λ (C : List Column). map f C) (choices (suc k) Fs) (map (λ (C : List Column). F ∷ C) (choices k Fs)))

-- a function that is made of two in either order
map_either : (f : Column → Column) (g h : List Column → Column) (Cs : List (List Column)) → ((C : List Column) → C ∈ Cs → g (map f C) ≡ f (h C)) → map g (map (λ (C : List Column). map f C) Cs) ≡ map f (map h Cs)
map_either f g h [] e = refl
map_either f g h (C ∷ Cs) e = ap₂ (λ (F : Column) (S : List Column). F ∷ S) (e C (Memᴰ.head refl)) (map_either f g h Cs (λ D k. e D (Memᴰ.tail k)))

-- ---- infima of choices

module _ {n m : ℕ} {p : Column} (P : Points n m p) where
  -- U of points is U of plots
  universal_plots : points_on_plots p (universal m) ≡ universal n
  unfolding universal
  universal_plots =
      ext_get_or 0 (points_on_plots p (universal m)) (universal n) (length_plots P (universal m) ∙ sym (length_universal n))
      (λ u h. let hu : u < n = rw (length_plots P (universal m)) at h in at_plots P (universal m) u hu ∙ get_or-replicate m (at p u - 1) 1 0 (point_less P u hu) ∙ sym (get_or-replicate n u 1 0 hu))

  -- the infimum of a choice
  chosen_plots : {C Fs : List Column} → Chosen C Fs → ((F : Column) → F ∈ Fs → length F ≡ m) → infimum_all n (map (points_on_plots p) C) ≡ points_on_plots p (infimum_all m C)
  unfolding infimum_all
  chosen_plots none_of on = sym universal_plots
  chosen_plots (skipping c) on = chosen_plots c (λ F k. on F (Memᴰ.tail k))
  chosen_plots (taking {T = T} {C = C} c) on =
      ap (infimum (points_on_plots p T)) (chosen_plots c (λ F k. on F (Memᴰ.tail k)))
      ∙ infimum_plots P T (infimum_all m C) (on T (Memᴰ.head refl)) (chosen_on m c (λ F k. on F (Memᴰ.tail k)))

  -- the infima of the choices
  pub generators_plots : (k : ℕ) (Ts Fs : List Column) → Ts ≡ map (points_on_plots p) Fs → ((F : Column) → F ∈ Fs → length F ≡ m) → treatment_generators n k Ts ≡ map (points_on_plots p) (treatment_generators m k Fs)
  unfolding treatment_generators
  generators_plots k Ts Fs e on =
      ap (λ (Xs : List Column). map (infimum_all n) (choices k Xs)) e
      ∙ ap (map (infimum_all n)) (choices_map (points_on_plots p) k Fs)
      ∙ map_either (points_on_plots p) (infimum_all n) (infimum_all m) (choices k Fs) (λ C c. chosen_plots (choices_chosen k Fs C c).0 on)

  -- the treatment columns of a table, where another has them as columns of points from its first column on
  pub columns_plots : (levels own : List ℕ) (d : ℕ) → m ≤ 240 → ((c : ℕ) → c < d → points_on_plots p (column_at 240 own c) ≡ column_at n levels (6 + c)) → columns_from n levels 6 d ≡ map (points_on_plots p) (columns_from m own 0 d)
  columns_plots levels own d small same =
      columns_map (points_on_plots p) n m levels own d 6 0 (λ c h. let e : 0 + c ≡ c = omega arith in rw e (sym (same c h) ∙ plots_column P own c small))

-- the infima of choices of columns on m points are on m points
pub generators_on : (m k : ℕ) (Fs : List Column) → ((F : Column) → F ∈ Fs → length F ≡ m) → (G : Column) → G ∈ treatment_generators m k Fs → length G ≡ m
unfolding treatment_generators
generators_on m k Fs on G g = go (Memᴰ.of_map (infimum_all m) (choices k Fs) g)
  where
    go : (C : List Column) × (C ∈ choices k Fs) × (infimum_all m C ≡ G) → length G ≡ m
    go (C, c, e) = ap length (sym e) ∙ chosen_on m (choices_chosen k Fs C c).0 on
