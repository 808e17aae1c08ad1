-- Laws of points: a column of points as a column of plots has as many classes, and its numbering, infima and suprema are those of the points.
-- Assumes nothing.
use mathlib.Core.Path.{◌≡◌, refl, sym, ap, ap₂, ◌∙◌}
use mathlib.Core.Logic.{◌↔◌}
use mathlib.Core.List.{List, [], ◌∷◌, map}
use Prim.Native.Nat.{ℕ, zero, suc, ◌-◌, ◌*◌, ◌≤◌, ◌<◌, zero-le, suc-le-suc}
use native.Mathlib.Nat.{not-suc-le-zero, le_of_suc-le-suc}
use native.Mathlib.Omega.{arith}
use lib.Dec.{eqb}
use lib.ListN.{length, get_or, take, length-map}
use lib.Seq.{get_or-take, ext_get_or}
use borrow.Author.Tests.{eqb-true}
use Rattle.rules.specs.Factor.{Column, at, Same, Finer, Equivalent, index_of, add_new, labels, number, classes, infimum, supremum, universal, equality}
use Rattle.rules.specs.Family.{◌∈◌, Distinct, none_left, apart}
use Rattle.rules.proofs.Numbering.{by_cases, eqb_self, place_yes, place_no, add_yes, add_no, add_has, has_add, has_labels, has_all, has_get_d, numbering_at, length_number, number_infimum}
use Rattle.rules.proofs.Classes.{distinct_labels, has_in}
use Rattle.rules.proofs.Sums.{label_plot}
use Rattle.rules.proofs.Supremum.{number_supremum}
use Rattle.rules.proofs.Bounds.{numbered_equal, length_infimum', infimum_same', length_supremum', supremum_left, supremum_right, supremum_least}
use Rattle.rules.proofs.Extremes.{length_universal, number_universal}
use Rattle.rules.proofs.ClassCount.{classes_universal, classes_equality, classes_most}
use Rattle.rules.proofs.Orthogonality.{by_counts}
use Rattle.design.specs.Points.{Points, Ranged, points_on_plots}
use Rattle.design.proofs.Judge.{get_d_map}

-- ---- labels under a map

-- one label more, before the map and after it
add_map : (f : ℕ → ℕ) (s a : List ℕ) (x : ℕ) → add_new eqb (labels eqb a (map f s)) (f x) ≡ labels eqb a (map f (add_new eqb s x))
unfolding labels add_new
add_map f [] a x = refl
add_map f (y ∷ s) a x =
    by_cases (eqb y x)
    (λ e. rw (add_yes eqb eqb-true eqb_self y s x e, ← eqb-true y x e)
    (add_has eqb eqb-true eqb_self (labels eqb (add_new eqb a (f y)) (map f s)) (f y) (has_labels eqb eqb-true eqb_self (map f s) (add_new eqb a (f y)) (f y) (has_add eqb eqb-true eqb_self a (f y)))))
    (λ e. rw (add_no eqb eqb-true eqb_self y s x e) (add_map f s (add_new eqb a (f y)) x))

-- the labels of an image are those of the labels' image
labels_map : (f : ℕ → ℕ) (xs s : List ℕ) → labels eqb (labels eqb [] (map f s)) (map f xs) ≡ labels eqb [] (map f (labels eqb s xs))
unfolding labels
labels_map f [] s = refl
labels_map f (x ∷ xs) s = ap (λ (t : List ℕ). labels eqb t (map f xs)) (add_map f s [] x) ∙ labels_map f xs (add_new eqb s x)

-- where a member of a list without repeats first stands is its place
place_at : (s : List ℕ) → Distinct s → (i : ℕ) → i < length s → index_of eqb s (get_or s i 0) ≡ i
place_at [] d i h = absurd (not-suc-le-zero h)
place_at (x ∷ s) d zero h = place_yes eqb eqb-true eqb_self x s x (eqb_self x)
place_at (x ∷ s) (apart n d) (suc i) h =
    by_cases (eqb x (get_or s i 0))
    (λ e. absurd (n (rw (eqb-true x (get_or s i 0) e) (has_in s (get_or s i 0) (has_get_d eqb eqb-true eqb_self s i 0 (le_of_suc-le-suc h))))))
    (λ e. place_no eqb eqb-true eqb_self x s (get_or s i 0) e ∙ ap suc (place_at s d i (le_of_suc-le-suc h)))

-- labels from 1, points from 0
at_before : (F : Column) (x y : ℕ) → y ≡ suc x → at F (y - 1) ≡ at F x
at_before F x y e = ap (at F) (omega arith)

-- a column of points has a label for each plot
pub plots_length : (p F : Column) → length (points_on_plots p F) ≡ length p
unfolding points_on_plots
plots_length p F = length-map p (λ (x : ℕ). at F (x - 1))

module _ {n m : ℕ} {p : Column} (P : Points n m p) where
  -- ---- points and plots

  -- a plot's point is one more than the place of its label
  point_place : (u : ℕ) → u < n → at p u ≡ suc (index_of eqb (labels eqb [] p) (at p u))
  unfolding number
  point_place u h = ap (λ (q : Column). at q u) (sym P.numbered) ∙ numbering_at eqb eqb-true eqb_self p [] u 0 (rw P.on h)

  -- there is a label for each point
  pub many_labels : length (labels eqb [] p) ≡ m
  unfolding classes
  many_labels = P.many

  -- points are labelled from 1 to m
  pub point_range : (u : ℕ) → u < n → (0 < at p u) × (at p u ≤ m)
  point_range u h = (rw (point_place u h) (suc-le-suc zero-le), rw (point_place u h, ← many_labels) (has_all eqb eqb-true eqb_self p [] u 0 (rw P.on h)))

  -- points, counted from 0, are below m
  pub point_less : (u : ℕ) → u < n → at p u - 1 < m
  point_less u h = let r = point_range u h in omega arith

  -- the label at each place is among the labels
  label_in : (x : ℕ) → x < m → get_or (labels eqb [] p) x 0 ∈ labels eqb [] p
  label_in x h = has_in (labels eqb [] p) (get_or (labels eqb [] p) x 0) (has_get_d eqb eqb-true eqb_self (labels eqb [] p) x 0 (rw many_labels h))

  -- the label at place x is x + 1
  pub label_at : (x : ℕ) → x < m → get_or (labels eqb [] p) x 0 ≡ suc x
  label_at x h =
      sym stands.1 ∙ point_place u stands.0
      ∙ ap (λ (y : ℕ). suc (index_of eqb (labels eqb [] p) y)) stands.1
      ∙ ap suc (place_at (labels eqb [] p) (distinct_labels p [] none_left) x (rw many_labels h))
    where
      u : ℕ
      u = index_of eqb p (get_or (labels eqb [] p) x 0)

      stands : (u < n) × (at p u ≡ get_or (labels eqb [] p) x 0)
      stands = label_plot n p P.on (get_or (labels eqb [] p) x 0) (label_in x h)

  -- the first plot of point x
  abbrev plot : ℕ → ℕ
  plot x = index_of eqb p (suc x)

  -- it is a plot, and of that point
  plot_is : (x : ℕ) → x < m → (plot x < n) × (at p (plot x) ≡ suc x)
  plot_is x h = rw (label_at x h) at (label_plot n p P.on (get_or (labels eqb [] p) x 0) (label_in x h))

  -- each point has a plot
  pub point_plot : (x : ℕ) → x < m → (u : ℕ) × (u < n) × (at p u ≡ suc x)
  point_plot x h = (plot x, (plot_is x h).0, (plot_is x h).1)

  -- where there are plots, there are points
  pub points_some : 1 ≤ n → 1 ≤ m
  points_some h = let r = point_range 0 h in omega arith

  -- there are as many points as plots, at most
  pub points_most : m ≤ n
  points_most = omega (arith, classes_most p, P.many, P.on)

  -- the points of few plots fit a column's memory
  pub ranged : n ≤ 240 → Ranged n p
  ranged h = (P.on, λ u hu. let r = point_range u hu in let c = classes_most p in (r.0, omega (arith, P.on, P.many)))

  -- ---- columns of points as columns of plots

  -- it is on these plots
  pub length_plots : (F : Column) → length (points_on_plots p F) ≡ n
  length_plots F = plots_length p F ∙ P.on

  -- a plot has the label of its point
  pub at_plots : (F : Column) (u : ℕ) → u < n → at (points_on_plots p F) u ≡ at F (at p u - 1)
  unfolding points_on_plots
  at_plots F u h = get_d_map (λ (x : ℕ). at F (x - 1)) p 0 u (rw P.on h)

  -- the first plot of a point has its label
  at_plot : (F : Column) (x : ℕ) → x < m → at (points_on_plots p F) (plot x) ≡ at F x
  at_plot F x h = at_plots F (plot x) (plot_is x h).0 ∙ at_before F x (at p (plot x)) (plot_is x h).1

  -- two plots share a class exactly when their points do
  pub same_plots : (F : Column) (u v : ℕ) → u < n → v < n → Same (points_on_plots p F) u v ↔ Same F (at p u - 1) (at p v - 1)
  same_plots F u v hu hv = (λ e. sym (at_plots F u hu) ∙ e ∙ at_plots F v hv, λ e. at_plots F u hu ∙ e ∙ sym (at_plots F v hv))

  -- the order among columns of points is that of the columns of plots
  plots_finer : (F G : Column) → Finer m F G → Finer n (points_on_plots p F) (points_on_plots p G)
  plots_finer F G fine u v hu hv e = (same_plots G u v hu hv).1 (fine (at p u - 1) (at p v - 1) (point_less u hu) (point_less v hv) ((same_plots F u v hu hv).0 e))

  -- different columns of points are different columns of plots
  pub plots_apart : (F G : Column) → length F ≡ m → length G ≡ m → points_on_plots p F ≡ points_on_plots p G → F ≡ G
  plots_apart F G l_f l_g e =
      ext_get_or 0 F G (l_f ∙ sym l_g) (λ x h. sym (at_plot F x (rw l_f at h)) ∙ ap (λ (H : Column). at H (plot x)) e ∙ at_plot G x (rw l_f at h))

  -- labels past the last point do not matter
  pub plots_part : (F : Column) → points_on_plots p (take m F) ≡ points_on_plots p F
  plots_part F =
      ext_get_or 0 (points_on_plots p (take m F)) (points_on_plots p F) (length_plots (take m F) ∙ sym (length_plots F))
      (λ u h. let hu : u < n = rw (length_plots (take m F)) at h in at_plots (take m F) u hu ∙ get_or-take m F (at p u - 1) 0 (point_less u hu) ∙ sym (at_plots F u hu))

  -- ---- classes and numbers

  -- the labels of the points, in the order of first appearance, make the column of points
  points_labels : (F : Column) → length F ≡ m → map (λ (x : ℕ). at F (x - 1)) (labels eqb [] p) ≡ F
  points_labels F l =
      ext_get_or 0 (map (λ (x : ℕ). at F (x - 1)) (labels eqb [] p)) F (lengths ∙ many_labels ∙ sym l)
      (λ x h. let hx : x < length (labels eqb [] p) = rw lengths at h in
      get_d_map (λ (y : ℕ). at F (y - 1)) (labels eqb [] p) 0 x hx ∙ at_before F x (get_or (labels eqb [] p) x 0) (label_at x (rw many_labels at hx)))
    where
      lengths : length (map (λ (x : ℕ). at F (x - 1)) (labels eqb [] p)) ≡ length (labels eqb [] p)
      lengths = length-map (labels eqb [] p) (λ (x : ℕ). at F (x - 1))

  -- plots have the labels of points, in the same order
  labels_plots : (F : Column) → length F ≡ m → labels eqb [] (points_on_plots p F) ≡ labels eqb [] F
  unfolding points_on_plots labels
  labels_plots F l = labels_map (λ (x : ℕ). at F (x - 1)) p [] ∙ ap (λ (xs : List ℕ). labels eqb [] xs) (points_labels F l)

  -- there are as many classes of plots as of points
  pub classes_plots : (F : Column) → length F ≡ m → classes (points_on_plots p F) ≡ classes F
  unfolding classes
  classes_plots F l = ap (λ (s : List ℕ). length s) (labels_plots F l)

  -- plots are numbered as their points are
  pub number_plots : (F : Column) → length F ≡ m → number (points_on_plots p F) ≡ points_on_plots p (number F)
  unfolding number
  number_plots F l =
      ext_get_or 0 (number (points_on_plots p F)) (points_on_plots p (number F)) (length_number (points_on_plots p F) ∙ length_plots F ∙ sym (length_plots (number F)))
      (λ u h. each u (rw (length_number (points_on_plots p F), length_plots F) at h))
    where
      each : (u : ℕ) → u < n → at (number (points_on_plots p F)) u ≡ at (points_on_plots p (number F)) u
      each u h =
          numbering_at eqb eqb-true eqb_self (points_on_plots p F) [] u 0 (rw (length_plots F) h)
          ∙ ap₂ (λ (s : List ℕ) (y : ℕ). suc (index_of eqb s y)) (labels_plots F l) (at_plots F u h)
          ∙ sym (at_plots (number F) u h ∙ numbering_at eqb eqb-true eqb_self F [] (at p u - 1) 0 (rw l (point_less u h)))

  -- where there are fewer points than plots, no column of points is E
  pub plots_few : (F : Column) → length F ≡ m → m < n → points_on_plots p F ≡ equality n → ⊥
  plots_few F l h e =
      let c : classes F ≡ n = sym (classes_plots F l) ∙ ap classes e ∙ classes_equality n in
      let k = classes_most F in
      omega arith

  -- ---- infimum and supremum

  -- a numbered column of plots, equivalent to a numbered column of points, is that column
  equal_plots : (S F : Column) → length S ≡ n → length F ≡ m → number S ≡ S → number F ≡ F → Equivalent n S (points_on_plots p F) → S ≡ points_on_plots p F
  equal_plots S F l_s l_f nS nF e = sym nS ∙ numbered_equal n S (points_on_plots p F) l_s (length_plots F) e ∙ number_plots F l_f ∙ ap (points_on_plots p) nF

  -- the labels of a column of plots at the first plot of each point
  firsts : Column → Column
  firsts S = map (λ (y : ℕ). at S (index_of eqb p y)) (labels eqb [] p)

  -- point x has the label of its first plot
  at_firsts : (S : Column) (x : ℕ) → x < m → at (firsts S) x ≡ at S (plot x)
  unfolding firsts
  at_firsts S x h = get_d_map (λ (y : ℕ). at S (index_of eqb p y)) (labels eqb [] p) 0 x (rw many_labels h) ∙ ap (λ (y : ℕ). at S (index_of eqb p y)) (label_at x h)

  -- a factor coarser than a column of points, taken at the first plots, is coarser than it on the points
  firsts_finer : (F S : Column) → Finer n (points_on_plots p F) S → Finer m F (firsts S)
  firsts_finer F S fine x y hx hy e =
      at_firsts S x hx ∙ fine (plot x) (plot y) (plot_is x hx).0 (plot_is y hy).0 (at_plot F x hx ∙ e ∙ sym (at_plot F y hy)) ∙ sym (at_firsts S y hy)

  module _ (F G : Column) (l_f : length F ≡ m) (l_g : length G ≡ m) where
    -- the infimum of plots is that of their points
    pub infimum_plots : infimum (points_on_plots p F) (points_on_plots p G) ≡ points_on_plots p (infimum F G)
    infimum_plots =
        equal_plots (infimum (points_on_plots p F) (points_on_plots p G)) (infimum F G) (length_infimum' n _ _ (length_plots F) (length_plots G)) (length_infimum' m F G l_f l_g)
        (number_infimum _ _ (length_plots F ∙ sym (length_plots G))) (number_infimum F G (l_f ∙ sym l_g)) record {
          to = λ u v hu hv e. let s = (infimum_same' n _ _ (length_plots F) (length_plots G) u v hu hv).0 e in
              (same_plots (infimum F G) u v hu hv).1 ((infimum_same' m F G l_f l_g (at p u - 1) (at p v - 1) (point_less u hu) (point_less v hv)).1 ((same_plots F u v hu hv).0 s.0, (same_plots G u v hu hv).0 s.1));
          from = λ u v hu hv e. let s = (infimum_same' m F G l_f l_g (at p u - 1) (at p v - 1) (point_less u hu) (point_less v hv)).0 ((same_plots (infimum F G) u v hu hv).0 e) in
              (infimum_same' n _ _ (length_plots F) (length_plots G) u v hu hv).1 ((same_plots F u v hu hv).1 s.0, (same_plots G u v hu hv).1 s.1);
        }

    -- the supremum of plots, at their first plots, is coarser than that of the points
    supremum_firsts : Finer m (supremum F G) (firsts (supremum (points_on_plots p F) (points_on_plots p G)))
    supremum_firsts =
        supremum_least m F G l_f l_g (firsts (supremum (points_on_plots p F) (points_on_plots p G)))
        (firsts_finer F _ (supremum_left n _ _ (length_plots F) (length_plots G)))
        (firsts_finer G _ (supremum_right n _ _ (length_plots F) (length_plots G)))

    -- a plot and the first plot of its point share a class
    supremum_first : (u : ℕ) → u < n → at (supremum (points_on_plots p F) (points_on_plots p G)) u ≡ at (firsts (supremum (points_on_plots p F) (points_on_plots p G))) (at p u - 1)
    supremum_first u h =
        supremum_left n _ _ (length_plots F) (length_plots G) u (plot (at p u - 1)) h (plot_is (at p u - 1) (point_less u h)).0
        (at_plots F u h ∙ sym (at_plot F (at p u - 1) (point_less u h)))
        ∙ sym (at_firsts _ (at p u - 1) (point_less u h))

    -- the supremum of plots is that of their points
    pub supremum_plots : supremum (points_on_plots p F) (points_on_plots p G) ≡ points_on_plots p (supremum F G)
    supremum_plots =
        equal_plots (supremum (points_on_plots p F) (points_on_plots p G)) (supremum F G) (length_supremum' n _ _ (length_plots F) (length_plots G)) (length_supremum' m F G l_f l_g)
        (number_supremum _ _ (length_plots F ∙ sym (length_plots G))) (number_supremum F G (l_f ∙ sym l_g)) record {
          to = supremum_least n _ _ (length_plots F) (length_plots G) (points_on_plots p (supremum F G)) (plots_finer F (supremum F G) (supremum_left m F G l_f l_g)) (plots_finer G (supremum F G) (supremum_right m F G l_f l_g));
          from = λ u v hu hv e. supremum_first u hu ∙ supremum_firsts (at p u - 1) (at p v - 1) (point_less u hu) (point_less v hv) ((same_plots (supremum F G) u v hu hv).0 e) ∙ sym (supremum_first v hv);
        }

    -- the numbers of classes tell the same of plots as of points
    pub counts_plots : by_counts (points_on_plots p F) (points_on_plots p G) ≡ by_counts F G
    counts_plots =
        ap₂ eqb
        (ap₂ ◌*◌ (ap classes infimum_plots ∙ classes_plots (infimum F G) (length_infimum' m F G l_f l_g)) (ap classes supremum_plots ∙ classes_plots (supremum F G) (length_supremum' m F G l_f l_g)))
        (ap₂ ◌*◌ (classes_plots F l_f) (classes_plots G l_g))

-- ---- the points of few columns

-- with no column, all plots are one point
pub points_universal : (n : ℕ) → 1 ≤ n → Points n 1 (universal n)
points_universal n h = record { on = length_universal n; numbered = number_universal n; many = classes_universal n h }

-- one column more: the points are the classes of the infimum
pub points_more : {n : ℕ} (F p : Column) → length F ≡ n → length p ≡ n → (k : ℕ) → k ≡ classes (infimum F p) → Points n k (infimum F p)
points_more {n} F p l_f lp k e = record { on = length_infimum' n F p l_f lp; numbered = number_infimum F p (l_f ∙ sym lp); many = sym e }
