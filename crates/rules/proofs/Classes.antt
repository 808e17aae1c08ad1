-- Laws of the number of classes: a strictly coarser factor has fewer.
-- Assumes nothing.
use mathlib.Core.Path.{◌≡◌, refl, sym, ap, ◌∙◌}
use mathlib.Core.Logic.{◌↔◌, ◌⊎◌, inl, inr}
use mathlib.Core.Bool.{true}
use mathlib.Core.List.Memᴰ
use mathlib.Core.List.{List, [], ◌∷◌, map}
use Prim.Native.Nat.{ℕ, ◌≤◌, ◌<◌, zero-le, suc-le-suc}
use native.Mathlib.Nat.{not-suc-le-zero, le_of_suc-le-suc}
use lib.Dec.{eqb}
use lib.ListN.{length, length-map}
use borrow.Author.Tests.{eqb-true, eq-eqb, eqb-false}
use Rattle.rules.specs.Factor.{Column, at, Same, same, Finer, index_of, add_new, labels, classes, finer}
use Rattle.rules.specs.Family.{◌∈◌, Distinct, none_left, apart}
use Rattle.rules.proofs.Numbering.{by_cases, eqb_self, place_yes, place_no, add_yes, add_no, has_all, has_get_d, get_d_place}
use Rattle.rules.proofs.Closing.{pigeonhole}
use Rattle.rules.proofs.Tests.{every_at, every_all, or_not, not_or}

-- ---- the different labels

in_add : (s : List ℕ) (x z : ℕ) → z ∈ add_new eqb s x → (z ∈ s) ⊎ (z ≡ x)
unfolding add_new
in_add [] x z m = go (Memᴰ.cases_cons m)
  where
    go : (z ≡ x) ⊎ (z ∈ []) → (z ∈ []) ⊎ (z ≡ x)
    go (inl e) = inr e
    go (inr k) = inl k
in_add (y ∷ s) x z m =
    by_cases (eqb y x)
    (λ e. inl (rw (add_yes eqb eqb-true eqb_self y s x e) at m))
    (λ e. go (in_add s x z) (Memᴰ.cases_cons (rw (add_no eqb eqb-true eqb_self y s x e) at m)))
  where
    deep : (z ∈ s) ⊎ (z ≡ x) → (z ∈ y ∷ s) ⊎ (z ≡ x)
    deep (inl k) = inl (Memᴰ.tail k)
    deep (inr e) = inr e

    go : (z ∈ add_new eqb s x → (z ∈ s) ⊎ (z ≡ x)) → (z ≡ y) ⊎ (z ∈ add_new eqb s x) → (z ∈ y ∷ s) ⊎ (z ≡ x)
    go below (inl e) = inl (Memᴰ.head e)
    go below (inr k) = deep (below k)

distinct_add : (s : List ℕ) (x : ℕ) → Distinct s → Distinct (add_new eqb s x)
unfolding add_new
distinct_add [] x d = apart (λ m. Memᴰ.not-nil m) none_left
distinct_add (y ∷ s) x (apart n d) =
    by_cases (eqb y x)
    (λ e. rw (add_yes eqb eqb-true eqb_self y s x e) (apart n d))
    (λ e. rw (add_no eqb eqb-true eqb_self y s x e) (apart (λ m. go (eqb-false y x e) (in_add s x y m)) (distinct_add s x d)))
  where
    go : (y ≡ x → ⊥) → (y ∈ s) ⊎ (y ≡ x) → ⊥
    go ne (inl m) = n m
    go ne (inr q) = ne q

pub distinct_labels : (xs s : List ℕ) → Distinct s → Distinct (labels eqb s xs)
unfolding labels
distinct_labels [] s d = d
distinct_labels (x ∷ xs) s d = distinct_labels xs (add_new eqb s x) (distinct_add s x d)

pub labels_only : (xs s : List ℕ) (z : ℕ) → z ∈ labels eqb s xs → (z ∈ s) ⊎ (z ∈ xs)
unfolding labels
labels_only [] s z m = inl m
labels_only (x ∷ xs) s z m = go (labels_only xs (add_new eqb s x) z m)
  where
    deep : (z ∈ s) ⊎ (z ≡ x) → (z ∈ s) ⊎ (z ∈ x ∷ xs)
    deep (inl k) = inl k
    deep (inr e) = inr (Memᴰ.head e)

    go : (z ∈ add_new eqb s x) ⊎ (z ∈ xs) → (z ∈ s) ⊎ (z ∈ x ∷ xs)
    go (inl k) = deep (in_add s x z k)
    go (inr k) = inr (Memᴰ.tail k)

pub has_in : (s : List ℕ) (x : ℕ) → index_of eqb s x < length s → x ∈ s
has_in [] x h = absurd (not-suc-le-zero h)
has_in (y ∷ s) x h =
    by_cases (eqb y x)
    (λ e. Memᴰ.head (sym (eqb-true y x e)))
    (λ e. Memᴰ.tail (has_in s x (le_of_suc-le-suc (rw (place_no eqb eqb-true eqb_self y s x e) at h))))

pub in_has : (s : List ℕ) (x : ℕ) → x ∈ s → index_of eqb s x < length s
in_has [] x m = absurd (Memᴰ.not-nil m)
in_has (y ∷ s) x m =
    by_cases (eqb y x)
    (λ e. rw (place_yes eqb eqb-true eqb_self y s x e) (suc-le-suc zero-le))
    (λ e. rw (place_no eqb eqb-true eqb_self y s x e) (suc-le-suc (in_has s x (go (eqb-false y x e) (Memᴰ.cases_cons m)))))
  where
    go : (y ≡ x → ⊥) → (x ≡ y) ⊎ (x ∈ s) → x ∈ s
    go ne (inl q) = absurd (ne (sym q))
    go ne (inr k) = k

-- ---- images

record Image (f : ℕ → ℕ) (xs : List ℕ) (y : ℕ) : Type 0 where
  of : ℕ
  is_in : of ∈ xs
  is : y ≡ f of

in_map : (f : ℕ → ℕ) (xs : List ℕ) (y : ℕ) → y ∈ map f xs → Image f xs y
in_map f [] y m = absurd (Memᴰ.not-nil m)
in_map f (x ∷ xs) y m = go (in_map f xs y) (Memᴰ.cases_cons m)
  where
    later : Image f xs y → Image f (x ∷ xs) y
    later i = record { of = i.of; is_in = Memᴰ.tail i.is_in; is = i.is }

    go : (y ∈ map f xs → Image f xs y) → (y ≡ f x) ⊎ (y ∈ map f xs) → Image f (x ∷ xs) y
    go below (inl e) = record { of = x; is_in = Memᴰ.head refl; is = e }
    go below (inr k) = later (below k)

distinct_map : (f : ℕ → ℕ) (xs : List ℕ) → Distinct xs → ((a b : ℕ) → a ∈ xs → b ∈ xs → f a ≡ f b → a ≡ b) → Distinct (map f xs)
distinct_map f [] d inj = none_left
distinct_map f (x ∷ xs) (apart n d) inj =
    apart (λ m. go (in_map f xs (f x) m)) (distinct_map f xs d (λ a b ma mb. inj a b (Memᴰ.tail ma) (Memᴰ.tail mb)))
  where
    go : Image f xs (f x) → ⊥
    go i = n (Memᴰ.cast (inj x i.of (Memᴰ.head refl) (Memᴰ.tail i.is_in) i.is) i.is_in)

-- ---- fewer classes

module _ (n : ℕ) (F G : Column) (l_f : length F ≡ n) (l_g : length G ≡ n) (fine : Finer n F G) where
  -- the F-label of the first plot of the G-class with label g
  abbrev below : ℕ → ℕ
  below g = at F (index_of eqb G g)

  label_in : (g : ℕ) → g ∈ labels eqb [] G → g ∈ G
  label_in g m = go (labels_only G [] g m)
    where
      go : (g ∈ []) ⊎ (g ∈ G) → g ∈ G
      go (inl k) = absurd (Memᴰ.not-nil k)
      go (inr k) = k

  first_less : (g : ℕ) → g ∈ labels eqb [] G → index_of eqb G g < n
  first_less g m = rw (sym l_g) (in_has G g (label_in g m))

  first_label : (g : ℕ) → g ∈ labels eqb [] G → at G (index_of eqb G g) ≡ g
  first_label g m = get_d_place eqb eqb-true eqb_self G g 0 (in_has G g (label_in g m))

  images_distinct : Distinct (map below (labels eqb [] G))
  images_distinct = distinct_map below (labels eqb [] G) (distinct_labels G [] none_left) inj
    where
      inj : (a b : ℕ) → a ∈ labels eqb [] G → b ∈ labels eqb [] G → below a ≡ below b → a ≡ b
      inj a b ma mb e = sym (first_label a ma) ∙ fine (index_of eqb G a) (index_of eqb G b) (first_less a ma) (first_less b mb) e ∙ first_label b mb

  label_of : (u : ℕ) → u < n → at F u ∈ labels eqb [] F
  label_of u h = has_in (labels eqb [] F) (at F u) (has_all eqb eqb-true eqb_self F [] u 0 (rw l_f h))

  images_in : (y : ℕ) → y ∈ map below (labels eqb [] G) → y ∈ labels eqb [] F
  images_in y m = go (in_map below (labels eqb [] G) y m)
    where
      go : Image below (labels eqb [] G) y → y ∈ labels eqb [] F
      go i = Memᴰ.cast i.is (label_of (index_of eqb G i.of) (first_less i.of i.is_in))

  pub classes_le : classes G ≤ classes F
  unfolding classes
  classes_le = rw (sym (length-map (labels eqb [] G) below)) (pigeonhole (map below (labels eqb [] G)) (labels eqb [] F) images_distinct images_in)

  -- two plots that share a G-class and no F-class
  module _ (u v : ℕ) (hu : u < n) (hv : v < n) (together : Same G u v) (parted : Same F u v → ⊥) where
    abbrev w : ℕ
    w = index_of eqb G (at G u)

    hw : w < n
    hw = rw (sym l_g) (has_get_d eqb eqb-true eqb_self G u 0 (rw l_g hu))

    w_label : at G w ≡ at G u
    w_label = get_d_place eqb eqb-true eqb_self G (at G u) 0 (has_get_d eqb eqb-true eqb_self G u 0 (rw l_g hu))

    -- a plot of the G-class of u with a label that no image has gives one class more
    one_more : (z : ℕ) → z < n → Same G z u → (Same F z w → ⊥) → classes G < classes F
    unfolding classes
    one_more z hz zu zw =
        rw (sym (length-map (labels eqb [] G) below)) (pigeonhole (at F z ∷ map below (labels eqb [] G)) (labels eqb [] F) (apart (λ m. new (in_map below (labels eqb [] G) (at F z) m)) images_distinct) (λ y m. go y (Memᴰ.cases_cons m)))
      where
        new : Image below (labels eqb [] G) (at F z) → ⊥
        new i = zw (i.is ∙ ap below (sym (first_label i.of i.is_in) ∙ sym (fine z (index_of eqb G i.of) hz (first_less i.of i.is_in) i.is) ∙ zu))

        go : (y : ℕ) → (y ≡ at F z) ⊎ (y ∈ map below (labels eqb [] G)) → y ∈ labels eqb [] F
        go y (inl e) = Memᴰ.cast e (label_of z hz)
        go y (inr m) = images_in y m

    pub classes_lt : classes G < classes F
    classes_lt =
        by_cases (same F u w)
        (λ e. one_more v hv (sym together) (λ vw. parted (eqb-true _ _ e ∙ sym vw)))
        (λ e. one_more u hu refl (eqb-false (at F u) (at F w) e))

-- ---- the tests

pub finer_test : (n : ℕ) (F G : Column) → finer n F G ≡ true ↔ Finer n F G
unfolding finer
finer_test n F G = (
  λ e u v hu hv s. eqb-true _ _ (not_or (same F u v) _ (every_at n _ (every_at n _ e u hu) v hv) (eq-eqb _ _ s)),
  λ h. every_all n _ (λ u hu. every_all n _ (λ v hv. or_not (same F u v) _ (λ s. eq-eqb _ _ (h u v hu hv (eqb-true _ _ s))))),
)
