-- Laws of numbering by first appearance.
-- Assumes nothing.
use mathlib.Core.Path.{◌≡◌, refl, sym, ap, ap₂, ◌∙◌}
use mathlib.Core.Logic.{◌↔◌, ◌⊎◌, inl, inr}
use mathlib.Core.Bool.{Bool, true, false, true≢false}
use mathlib.Core.List.{List, [], ◌∷◌}
use Prim.Native.Nat.{ℕ, zero, suc, ◌≤◌, ◌<◌, zero-le, suc-le-suc}
use native.Mathlib.Nat.{not-suc-le-zero, le_of_suc-le-suc, suc_inj, suc-ne-zero, le_antisymm}
use native.Mathlib.Omega.{arith}
use lib.Dec.{eqb, ltb}
use lib.ListN.{length, get_or, take}
use borrow.Author.Tests.{eqb-true, eq-eqb, ltb-true, ltb-false}
use Rattle.rules.specs.Factor.{Column, at, Same, Equivalent, index_of, add_new, numbering, labels, number, Pair, alike_pair, pairs, infimum}

pub by_cases {ℓ} : {P : Type ℓ} (b : Bool) → (b ≡ true → P) → (b ≡ false → P) → P
by_cases true f g = f refl
by_cases false f g = g refl

module _ {A : Type 0} (alike : A → A → Bool) (sound : (a b : A) → alike a b ≡ true → a ≡ b) (self : (a : A) → alike a a ≡ true) where
  -- x stands in s
  abbrev pub Has : List A → A → Type 0
  Has s x = index_of alike s x < length s

  pub place_yes : (y : A) (s : List A) (x : A) → alike y x ≡ true → index_of alike (y ∷ s) x ≡ zero
  unfolding index_of
  place_yes y s x e = rw (e, index_of)

  pub place_no : (y : A) (s : List A) (x : A) → alike y x ≡ false → index_of alike (y ∷ s) x ≡ suc (index_of alike s x)
  unfolding index_of
  place_no y s x e = rw (e, index_of)

  pub add_yes : (y : A) (s : List A) (x : A) → alike y x ≡ true → add_new alike (y ∷ s) x ≡ y ∷ s
  unfolding add_new
  add_yes y s x e = rw (e, add_new)

  pub add_no : (y : A) (s : List A) (x : A) → alike y x ≡ false → add_new alike (y ∷ s) x ≡ y ∷ add_new alike s x
  unfolding add_new
  add_no y s x e = rw (e, add_new)

  place_add : (s : List A) (x : A) → index_of alike (add_new alike s x) x ≡ index_of alike s x
  unfolding index_of add_new
  place_add [] x = rw self
  place_add (y ∷ s) x =
      by_cases (alike y x) (λ e. simp (add_yes, place_yes)) (λ e. simp (add_no, place_no, place_add s x))

  pub has_add : (s : List A) (x : A) → Has (add_new alike s x) x
  unfolding index_of add_new
  has_add [] x = rw self (suc-le-suc zero-le)
  has_add (y ∷ s) x =
      by_cases (alike y x) (λ e. simp (add_yes, place_yes) (suc-le-suc zero-le)) (λ e. simp (add_no, place_no) (suc-le-suc (has_add s x)))

  has_tail : (y : A) (s : List A) (z : A) → alike y z ≡ false → Has (y ∷ s) z → Has s z
  has_tail y s z e h = le_of_suc-le-suc (simp place_no at h)

  place_stays : (s : List A) (x z : A) → Has s z → index_of alike (add_new alike s x) z ≡ index_of alike s z
  unfolding index_of add_new
  place_stays [] x z h = absurd (not-suc-le-zero h)
  place_stays (y ∷ s) x z h =
      by_cases (alike y x)
      (λ e. simp add_yes)
      (λ e. by_cases (alike y z)
      (λ f. simp (add_no, place_yes))
      (λ f. simp (add_no, place_no, place_stays s x z (has_tail y s z f h))))

  pub has_stays : (s : List A) (x z : A) → Has s z → Has (add_new alike s x) z
  unfolding index_of add_new
  has_stays [] x z h = absurd (not-suc-le-zero h)
  has_stays (y ∷ s) x z h =
      by_cases (alike y x)
      (λ e. simp add_yes h)
      (λ e. by_cases (alike y z)
      (λ f. simp (add_no, place_yes) (suc-le-suc zero-le))
      (λ f. simp (add_no, place_no) (suc-le-suc (has_stays s x z (has_tail y s z f h)))))

  pub place_labels : (xs s : List A) (z : A) → Has s z → index_of alike (labels alike s xs) z ≡ index_of alike s z
  unfolding labels
  place_labels [] s z h = refl
  place_labels (x ∷ xs) s z h = place_labels xs (add_new alike s x) z (has_stays s x z h) ∙ place_stays s x z h

  pub has_labels : (xs s : List A) (z : A) → Has s z → Has (labels alike s xs) z
  unfolding labels
  has_labels [] s z h = h
  has_labels (x ∷ xs) s z h = has_labels xs (add_new alike s x) z (has_stays s x z h)

  pub has_all : (xs s : List A) (u : ℕ) (d : A) → u < length xs → index_of alike (labels alike s xs) (get_or xs u d) < length (labels alike s xs)
  unfolding labels
  has_all [] s u d h = absurd (not-suc-le-zero h)
  has_all (x ∷ xs) s zero d h = has_labels xs (add_new alike s x) x (has_add s x)
  has_all (x ∷ xs) s (suc u) d h = has_all xs (add_new alike s x) u d (le_of_suc-le-suc h)

  pub has_get_d : (xs : List A) (u : ℕ) (d : A) → u < length xs → index_of alike xs (get_or xs u d) < length xs
  unfolding index_of
  has_get_d [] u d h = absurd (not-suc-le-zero h)
  has_get_d (x ∷ xs) zero d h = rw (place_yes x xs x (self x)) (suc-le-suc zero-le)
  has_get_d (x ∷ xs) (suc u) d h =
      by_cases (alike x (get_or xs u d)) (λ e. simp place_yes (suc-le-suc zero-le)) (λ e. simp place_no (suc-le-suc (has_get_d xs u d (le_of_suc-le-suc h))))

  pub numbering_at : (xs s : List A) (u : ℕ) (d : A) → u < length xs → at (numbering alike s xs) u ≡ suc (index_of alike (labels alike s xs) (get_or xs u d))
  unfolding labels numbering
  numbering_at [] s u d h = absurd (not-suc-le-zero h)
  numbering_at (x ∷ xs) s zero d h = ap suc (sym (place_labels xs (add_new alike s x) x (has_add s x) ∙ place_add s x))
  numbering_at (x ∷ xs) s (suc u) d h = numbering_at xs (add_new alike s x) u d (le_of_suc-le-suc h)

  pub get_d_place : (s : List A) (x d : A) → index_of alike s x < length s → get_or s (index_of alike s x) d ≡ x
  get_d_place [] x d h = absurd (not-suc-le-zero h)
  get_d_place (y ∷ s) x d h = by_cases (alike y x) (λ e. simp place_yes (sound y x e)) (λ e. simp place_no (get_d_place s x d (has_tail y s x e h)))

  pub length_numbering : (xs s : List A) → length (numbering alike s xs) ≡ length xs
  unfolding numbering
  length_numbering [] s = refl
  length_numbering (x ∷ xs) s = ap suc (length_numbering xs (add_new alike s x))

  -- two plots have one number exactly when they have one label
  pub numbering_same : (xs : List A) (d : A) (u v : ℕ) → u < length xs → v < length xs → Same (numbering alike [] xs) u v ↔ (get_or xs u d ≡ get_or xs v d)
  numbering_same xs d u v hu hv = (
    λ e. sym (get_d_place (labels alike [] xs) (get_or xs u d) d (has_all xs [] u d hu)) ∙ ap (λ (i : ℕ). get_or (labels alike [] xs) i d) (suc_inj (sym (numbering_at xs [] u d hu) ∙ e ∙ numbering_at xs [] v d hv))
        ∙ get_d_place (labels alike [] xs) (get_or xs v d) d (has_all xs [] v d hv),
    λ e. numbering_at xs [] u d hu ∙ ap (λ (x : A). suc (index_of alike (labels alike [] xs) x)) e ∙ sym (numbering_at xs [] v d hv),
  )

  -- numbering a part is a part of the numbering
  pub numbering_take : (i : ℕ) (xs s : List A) → numbering alike s (take i xs) ≡ take i (numbering alike s xs)
  unfolding numbering
  numbering_take zero xs s = refl
  numbering_take (suc i) [] s = refl
  numbering_take (suc i) (x ∷ xs) s = ap (λ (l : Column). suc (index_of alike s x) ∷ l) (numbering_take i xs (add_new alike s x))

  -- ---- what a new label does

  place_le : (s : List A) (x : A) → index_of alike s x ≤ length s
  unfolding index_of
  place_le [] x = zero-le
  place_le (y ∷ s) x = by_cases (alike y x) (λ e. simp place_yes zero-le) (λ e. simp place_no (suc-le-suc (place_le s x)))

  pub add_has : (s : List A) (x : A) → Has s x → add_new alike s x ≡ s
  add_has [] x h = absurd (not-suc-le-zero h)
  add_has (y ∷ s) x h = by_cases (alike y x) (λ e. add_yes y s x e) (λ e. simp add_no (ap (λ (l : List A). y ∷ l) (add_has s x (has_tail y s x e h))))

  pub length_add_new : (s : List A) (x : A) → index_of alike s x ≡ length s → length (add_new alike s x) ≡ suc (length s)
  unfolding add_new
  length_add_new [] x h = refl
  length_add_new (y ∷ s) x h =
      by_cases (alike y x)
      (λ e. let h' : zero ≡ suc (length s) = simp place_yes at h in omega arith)
      (λ e. simp add_no (ap suc (length_add_new s x (suc_inj (simp place_no at h)))))

  pub place_new : (s : List A) (x z : A) → index_of alike s x ≡ length s → index_of alike s z ≡ length s → alike x z ≡ false → index_of alike (add_new alike s x) z ≡ suc (length s)
  unfolding add_new index_of
  place_new [] x z h k f = place_no x [] z f
  place_new (y ∷ s) x z h k f =
      by_cases (alike y x)
      (λ e. let h' : zero ≡ suc (length s) = simp place_yes at h in omega arith)
      (λ e. by_cases (alike y z)
      (λ g. let h' : zero ≡ suc (length s) = simp place_yes at k in omega arith)
      (λ g. simp (add_no, place_no) (ap suc (place_new s x z (suc_inj (simp place_no at h)) (suc_inj (simp place_no at k)) f))))

  pub has_or_new : (s : List A) (x : A) → Has s x ⊎ (index_of alike s x ≡ length s)
  has_or_new s x = by_cases (ltb (index_of alike s x) (length s)) (λ e. inl (ltb-true _ _ e)) (λ e. inr (le_antisymm (place_le s x) (ltb-false _ _ e)))

-- ---- the numbering depends on the classes only

module _ {A B : Type 0} (p : A → A → Bool) (p-sound : (a b : A) → p a b ≡ true → a ≡ b) (p-self : (a : A) → p a a ≡ true)
    (q : B → B → Bool) (q-sound : (a b : B) → q a b ≡ true → a ≡ b) (q-self : (a : B) → q a a ≡ true) where
  step_place : (s : List A) (t : List B) → length s ≡ length t → (x z : A) (y w : B) → index_of p s x ≡ index_of q t y → index_of p s z ≡ index_of q t w → ((x ≡ z) ↔ (y ≡ w))
      → index_of p (add_new p s x) z ≡ index_of q (add_new q t y) w
  step_place s t l x z y w hx hz same = go (has_or_new p p-sound p-self s x) (has_or_new p p-sound p-self s z)
    where
      go : Has p p-sound p-self s x ⊎ (index_of p s x ≡ length s) → Has p p-sound p-self s z ⊎ (index_of p s z ≡ length s) → index_of p (add_new p s x) z ≡ index_of q (add_new q t y) w
      go (inl h) k = rw (add_has p p-sound p-self s x h, add_has q q-sound q-self t y (rw (← hx, ← l) h)) hz
      go (inr h) (inl k) = place_stays p p-sound p-self s x z k ∙ hz ∙ sym (place_stays q q-sound q-self t y w (rw (← hz, ← l) k))
      go (inr h) (inr k) =
          by_cases (p x z)
          (λ e. let xz : x ≡ z = p-sound x z e in let yw : y ≡ w = same.0 xz in
          ap (λ (a : A). index_of p (add_new p s x) a) (sym xz) ∙ place_add p p-sound p-self s x ∙ hx ∙ sym (place_add q q-sound q-self t y) ∙ ap (λ (b : B). index_of q (add_new q t y) b) yw)
          (λ e. by_cases (q y w)
          (λ f. absurd (differ e (same.1 (q-sound y w f))))
          (λ f. place_new p p-sound p-self s x z h k e ∙ ap suc l ∙ sym (place_new q q-sound q-self t y w (sym hx ∙ h ∙ l) (sym hz ∙ k ∙ l) f)))
        where
          differ : p x z ≡ false → x ≡ z → ⊥
          differ e xz = true≢false (sym (p-self x) ∙ ap (λ (a : A). p x a) xz ∙ e)

  step_length : (s : List A) (t : List B) → length s ≡ length t → (x : A) (y : B) → index_of p s x ≡ index_of q t y → length (add_new p s x) ≡ length (add_new q t y)
  step_length s t l x y hx = go (has_or_new p p-sound p-self s x)
    where
      go : Has p p-sound p-self s x ⊎ (index_of p s x ≡ length s) → length (add_new p s x) ≡ length (add_new q t y)
      go (inl h) = rw (add_has p p-sound p-self s x h, add_has q q-sound q-self t y (rw (← hx, ← l) h)) l
      go (inr h) = length_add_new p p-sound p-self s x h ∙ ap suc l ∙ sym (length_add_new q q-sound q-self t y (sym hx ∙ h ∙ l))

  -- the labels of two lists mark the same classes
  pub Alike : List A → A → List B → B → Type 0
  Alike xs d ys e = (u v : ℕ) → u < length xs → v < length xs → (get_or xs u d ≡ get_or xs v d) ↔ (get_or ys u e ≡ get_or ys v e)

  unique : (d : A) (e : B) (xs : List A) (ys : List B) (s : List A) (t : List B) → length xs ≡ length ys → length s ≡ length t → Alike xs d ys e
      → ((u : ℕ) → u < length xs → index_of p s (get_or xs u d) ≡ index_of q t (get_or ys u e)) → numbering p s xs ≡ numbering q t ys
  unfolding numbering Alike
  unique d e [] [] s t l k h pl = refl
  unique d e [] (y ∷ ys) s t l k h pl = absurd (suc-ne-zero _ (sym l))
  unique d e (x ∷ xs) [] s t l k h pl = absurd (suc-ne-zero _ l)
  unique d e (x ∷ xs) (y ∷ ys) s t l k h pl =
      ap₂ (λ (i : ℕ) (r : Column). suc i ∷ r) (pl 0 (suc-le-suc zero-le))
      (unique d e xs ys (add_new p s x) (add_new q t y) (suc_inj l) (step_length s t k x y (pl 0 (suc-le-suc zero-le)))
      (λ u v hu hv. h (suc u) (suc v) (suc-le-suc hu) (suc-le-suc hv))
      (λ u hu. step_place s t k x (get_or xs u d) y (get_or ys u e) (pl 0 (suc-le-suc zero-le)) (pl (suc u) (suc-le-suc hu)) (h 0 (suc u) (suc-le-suc zero-le) (suc-le-suc hu))))

  pub numbering_unique : (d : A) (e : B) (xs : List A) (ys : List B) → length xs ≡ length ys → Alike xs d ys e → numbering p [] xs ≡ numbering q [] ys
  unfolding index_of
  numbering_unique d e xs ys l h = unique d e xs ys [] [] l refl h nil
    where
      nil : (u : ℕ) → u < length xs → index_of p [] (get_or xs u d) ≡ index_of q [] (get_or ys u e)
      nil u hu = refl

-- ---- columns

pub pair_sound : (a b : Pair) → alike_pair a b ≡ true → a ≡ b
pair_sound a b e =
    by_cases (eqb a.0 b.0)
    (λ f. let g : eqb a.1 b.1 ≡ true = rw f at e in λ i. (eqb-true a.0 b.0 f i, eqb-true a.1 b.1 g i))
    (λ f. absurd (true≢false (sym e ∙ rw f)))

pub pair_self : (a : Pair) → alike_pair a a ≡ true
pair_self a = rw (eq-eqb a.0 a.0 refl) (eq-eqb a.1 a.1 refl)

pub eqb_self : (a : ℕ) → eqb a a ≡ true
eqb_self a = eq-eqb a a refl

pub length_number : (F : Column) → length (number F) ≡ length F
unfolding number
length_number F = length_numbering eqb eqb-true eqb_self F []

pub number_same : (F : Column) (u v : ℕ) → u < length F → v < length F → Same (number F) u v ↔ Same F u v
unfolding number
number_same F u v hu hv = numbering_same eqb eqb-true eqb_self F 0 u v hu hv

pub number_take : (i : ℕ) (F : Column) → number (take i F) ≡ take i (number F)
unfolding number
number_take i F = numbering_take eqb eqb-true eqb_self i F []

pub number_unique : (F G : Column) → length F ≡ length G → Equivalent (length F) F G → number F ≡ number G
unfolding number Alike
number_unique F G l h = numbering_unique eqb eqb-true eqb_self eqb eqb-true eqb_self 0 0 F G l (λ u v hu hv. (h.to u v hu hv, h.from u v hu hv))

-- numbered columns that have the same classes are equal
pub number_number : (F : Column) → number (number F) ≡ number F
number_number F = number_unique (number F) F (length_number F) record {
  to = λ u v hu hv. (number_same F u v (rw length_number at hu) (rw length_number at hv)).0;
  from = λ u v hu hv. (number_same F u v (rw length_number at hu) (rw length_number at hv)).1;
}

pub length_pairs : (F G : Column) → length F ≡ length G → length (pairs F G) ≡ length F
unfolding pairs
length_pairs [] G l = refl
length_pairs (x ∷ F) [] l = sym l
length_pairs (x ∷ F) (y ∷ G) l = ap suc (length_pairs F G (suc_inj l))

pub pairs_at : (F G : Column) → length F ≡ length G → (u : ℕ) → u < length F → get_or (pairs F G) u (0, 0) ≡ (at F u, at G u)
unfolding pairs
pairs_at [] G l u h = absurd (not-suc-le-zero h)
pairs_at (x ∷ F) [] l u h = absurd (suc-ne-zero _ l)
pairs_at (x ∷ F) (y ∷ G) l zero h = refl
pairs_at (x ∷ F) (y ∷ G) l (suc u) h = pairs_at F G (suc_inj l) u (le_of_suc-le-suc h)

pub length_infimum : (F G : Column) → length F ≡ length G → length (infimum F G) ≡ length F
unfolding infimum
length_infimum F G l = length_numbering alike_pair pair_sound pair_self (pairs F G) [] ∙ length_pairs F G l

-- two plots share a class of the infimum exactly when they do in both factors
pub infimum_same : (F G : Column) → length F ≡ length G → (u v : ℕ) → u < length F → v < length F → Same (infimum F G) u v ↔ (Same F u v × Same G u v)
unfolding infimum
infimum_same F G l u v hu hv = (
  λ e. let p : ◌≡◌ {A = Pair} (at F u, at G u) (at F v, at G v) = sym (pairs_at F G l u hu) ∙ both.0 e ∙ pairs_at F G l v hv in (ap (λ (a : Pair). a.0) p, ap (λ (a : Pair). a.1) p),
  λ e. both.1 (pairs_at F G l u hu ∙ (λ i. (e.0 i, e.1 i)) ∙ sym (pairs_at F G l v hv)),
)
  where
    both : Same (infimum F G) u v ↔ (get_or (pairs F G) u (0, 0) ≡ get_or (pairs F G) v (0, 0))
    both = numbering_same alike_pair pair_sound pair_self (pairs F G) (0, 0) u v (rw (length_pairs F G l) hu) (rw (length_pairs F G l) hv)

pub number_infimum : (F G : Column) → length F ≡ length G → number (infimum F G) ≡ infimum F G
unfolding number infimum Alike
number_infimum F G l =
    numbering_unique eqb eqb-true eqb_self alike_pair pair_sound pair_self 0 (0, 0) (infimum F G) (pairs F G) lengths
    (λ u v hu hv. numbering_same alike_pair pair_sound pair_self (pairs F G) (0, 0) u v (rw lengths at hu) (rw lengths at hv))
  where
    lengths : length (infimum F G) ≡ length (pairs F G)
    lengths = length_numbering alike_pair pair_sound pair_self (pairs F G) []
