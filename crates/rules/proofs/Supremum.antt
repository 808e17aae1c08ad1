-- Laws of the supremum: its classes are the plots that a chain joins.
-- Assumes nothing.
use mathlib.Core.Path.{◌≡◌, refl, sym, ap, ◌∙◌}
use mathlib.Core.Logic.{◌↔◌, ◌⊎◌, inl, inr}
use mathlib.Core.Bool.{true, false}
use mathlib.Core.List.{[], ◌∷◌}
use Prim.Native.Nat.{ℕ, zero, suc, ◌≤◌, ◌<◌}
use native.Mathlib.Nat.{not-suc-le-zero, le_of_suc-le-suc, le_refl, le_of_lt}
use native.Mathlib.Omega.{arith}
use lib.Dec.{eqb, ltb}
use lib.ListN.{length}
use borrow.Author.Tests.{eqb-true, eq-eqb, ne_eqb, eqb-false, ltb-true, ltb-false}
use Rattle.rules.specs.Factor.{Column, at, Same, Finer, Equivalent, index_of, number, infimum, relabel, joined, supremum, Chain, start, along_f, along_g}
use Rattle.rules.proofs.Numbering.{by_cases, eqb_self, has_get_d, get_d_place, length_number, number_same, number_number, infimum_same}

-- ---- relabelling

relabel_yes : (a b x : ℕ) (L : Column) → eqb x a ≡ true → relabel a b (x ∷ L) ≡ b ∷ relabel a b L
unfolding relabel
relabel_yes a b x L e = rw (e, relabel)

relabel_no : (a b x : ℕ) (L : Column) → eqb x a ≡ false → relabel a b (x ∷ L) ≡ x ∷ relabel a b L
unfolding relabel
relabel_no a b x L e = rw (e, relabel)

pub length_relabel : (a b : ℕ) (L : Column) → length (relabel a b L) ≡ length L
unfolding relabel
length_relabel a b [] = refl
length_relabel a b (x ∷ L) = by_cases (eqb x a) (λ e. simp relabel_yes (ap suc (length_relabel a b L))) (λ e. simp relabel_no (ap suc (length_relabel a b L)))

at_yes : (a b : ℕ) (L : Column) (u : ℕ) → u < length L → at L u ≡ a → at (relabel a b L) u ≡ b
at_yes a b [] u h e = absurd (not-suc-le-zero h)
at_yes a b (x ∷ L) zero h e = simp (relabel_yes a b x L (eq-eqb x a e))
at_yes a b (x ∷ L) (suc u) h e =
    by_cases (eqb x a) (λ f. simp relabel_yes (at_yes a b L u (le_of_suc-le-suc h) e)) (λ f. simp relabel_no (at_yes a b L u (le_of_suc-le-suc h) e))

at_no : (a b : ℕ) (L : Column) (u : ℕ) → (at L u ≡ a → ⊥) → at (relabel a b L) u ≡ at L u
unfolding relabel
at_no a b [] u e = refl
at_no a b (x ∷ L) zero e = simp (relabel_no a b x L (ne_eqb x a e))
at_no a b (x ∷ L) (suc u) e = by_cases (eqb x a) (λ f. simp relabel_yes (at_no a b L u e)) (λ f. simp relabel_no (at_no a b L u e))

module _ (L : Column) (i j : ℕ) (hi : i < length L) (hj : j < length L) where
  abbrev M : Column
  M = relabel (at L i) (at L j) L

  -- the new label of plot u
  data New (u : ℕ) : Type 0 where
    moved : Same L u i → at M u ≡ at L j → New u
    kept : (Same L u i → ⊥) → at M u ≡ at L u → New u

  new : (u : ℕ) → u < length L → New u
  new u h = by_cases (eqb (at L u) (at L i))
      (λ e. let f : at L u ≡ at L i = eqb-true _ _ e in moved f (at_yes (at L i) (at L j) L u h f))
      (λ e. let f : at L u ≡ at L i → ⊥ = eqb-false _ _ e in kept f (at_no (at L i) (at L j) L u f))

  relabel_keeps : (u v : ℕ) → u < length L → v < length L → Same L u v → Same M u v
  relabel_keeps u v hu hv e = go (new u hu) (new v hv)
    where
      go : New u → New v → Same M u v
      go (moved p a) (moved q b) = a ∙ sym b
      go (moved p a) (kept q b) = absurd (q (sym e ∙ p))
      go (kept p a) (moved q b) = absurd (p (e ∙ q))
      go (kept p a) (kept q b) = a ∙ e ∙ sym b

  relabel_links : Same M i j
  relabel_links = go (new i hi) (new j hj)
    where
      go : New i → New j → Same M i j
      go (moved p a) (moved q b) = a ∙ sym b
      go (moved p a) (kept q b) = a ∙ sym b
      go (kept p a) q = absurd (p refl)

  relabel_cases : (u v : ℕ) → u < length L → v < length L → Same M u v → Same L u v ⊎ ((Same L u i × Same L j v) ⊎ (Same L u j × Same L i v))
  relabel_cases u v hu hv e = go (new u hu) (new v hv)
    where
      go : New u → New v → Same L u v ⊎ ((Same L u i × Same L j v) ⊎ (Same L u j × Same L i v))
      go (moved p a) (moved q b) = inl (p ∙ sym q)
      go (moved p a) (kept q b) = inr (inl (p, sym a ∙ e ∙ b))
      go (kept p a) (moved q b) = inr (inr (sym a ∙ e ∙ b, sym q))
      go (kept p a) (kept q b) = inl (sym a ∙ e ∙ b)

-- ---- chains

module _ {n : ℕ} {F G : Column} where
  pub chain_end : {u v : ℕ} → u < n → Chain n F G u v → v < n
  chain_end h start = h
  chain_end h (along_f c k s) = k
  chain_end h (along_g c k s) = k

  chain_trans : {u w v : ℕ} → Chain n F G u w → Chain n F G w v → Chain n F G u v
  chain_trans c start = c
  chain_trans c (along_f d h s) = along_f (chain_trans c d) h s
  chain_trans c (along_g d h s) = along_g (chain_trans c d) h s

  chain_sym : {u v : ℕ} → u < n → Chain n F G u v → Chain n F G v u
  chain_sym h start = start
  chain_sym h (along_f c k s) = chain_trans (along_f start (chain_end h c) (sym s)) (chain_sym h c)
  chain_sym h (along_g c k s) = chain_trans (along_g start (chain_end h c) (sym s)) (chain_sym h c)

-- ---- joining

module _ (F G : Column) (l : length F ≡ length G) where
  abbrev first : ℕ → ℕ
  first k = index_of eqb G (at G k)

  length_joined : (k : ℕ) → length (joined F G k) ≡ length F
  unfolding joined
  length_joined zero = refl
  length_joined (suc k) = length_relabel _ _ (joined F G k) ∙ length_joined k

  first_less : (k : ℕ) → k < length F → first k < length F
  first_less k h = rw l (has_get_d eqb eqb-true eqb_self G k 0 (rw l at h))

  first_same : (k : ℕ) → k < length F → Same G k (first k)
  first_same k h = sym (get_d_place eqb eqb-true eqb_self G (at G k) 0 (has_get_d eqb eqb-true eqb_self G k 0 (rw l at h)))

  -- k joined to the first plot of its class adds no link that is no chain
  sound_step : (k : ℕ) → k < length F → ((x y : ℕ) → x < length F → y < length F → Same (joined F G k) x y → Chain (length F) F G x y)
      → (u v : ℕ) → u < length F → v < length F → Same (joined F G (suc k)) u v → Chain (length F) F G u v
  unfolding joined
  sound_step k h below u v hu hv e =
      go (relabel_cases (joined F G k) k (first k) (into h) (into (first_less k h)) u v (into hu) (into hv) e)
    where
      into : {w : ℕ} → w < length F → w < length (joined F G k)
      into h' = rw (length_joined k) h'

      link : Chain (length F) F G k (first k)
      link = along_g start (first_less k h) (first_same k h)

      go : Same (joined F G k) u v ⊎ ((Same (joined F G k) u k × Same (joined F G k) (first k) v) ⊎ (Same (joined F G k) u (first k) × Same (joined F G k) k v)) → Chain (length F) F G u v
      go (inl s) = below u v hu hv s
      go (inr (inl s)) = chain_trans (below u k hu h s.0) (chain_trans link (below (first k) v (first_less k h) hv s.1))
      go (inr (inr s)) = chain_trans (below u (first k) hu (first_less k h) s.0) (chain_trans (chain_sym h link) (below k v h hv s.1))

  sound : (k : ℕ) → k ≤ length F → (u v : ℕ) → u < length F → v < length F → Same (joined F G k) u v → Chain (length F) F G u v
  unfolding joined
  sound zero h u v hu hv e = along_f start hv e
  sound (suc k) h u v hu hv e = sound_step k h (sound k (le_of_lt h)) u v hu hv e

  joined_keeps : (k : ℕ) → k < length F → (u v : ℕ) → u < length F → v < length F → Same (joined F G k) u v → Same (joined F G (suc k)) u v
  unfolding joined
  joined_keeps k h u v hu hv e =
      relabel_keeps (joined F G k) k (first k) (rw (length_joined k) h) (rw (length_joined k) (first_less k h)) u v (rw (length_joined k) hu) (rw (length_joined k) hv) e

  joined_F : (k : ℕ) → k ≤ length F → (u v : ℕ) → u < length F → v < length F → Same F u v → Same (joined F G k) u v
  unfolding joined
  joined_F zero h u v hu hv e = e
  joined_F (suc k) h u v hu hv e = joined_keeps k h u v hu hv (joined_F k (le_of_lt h) u v hu hv e)

  joined_first : (k : ℕ) → k ≤ length F → (j : ℕ) → j < k → Same (joined F G k) j (first j)
  unfolding joined
  joined_first zero h j hj = absurd (not-suc-le-zero hj)
  joined_first (suc k) h j hj =
      by_cases (ltb j k)
      (λ e. let hjk : j < k = ltb-true _ _ e in joined_keeps k h j (first j) (omega arith) (first_less j (omega arith)) (joined_first k (le_of_lt h) j hjk))
      (λ e. let hkj : k ≤ j = ltb-false _ _ e in let q : j ≡ k = omega arith in
      rw q (relabel_links (joined F G k) k (first k) (rw (length_joined k) h) (rw (length_joined k) (first_less k h))))

  complete : {u v : ℕ} → u < length F → Chain (length F) F G u v → Same (joined F G (length F)) u v
  complete h start = refl
  complete h (along_f {w} {v} c k s) = complete h c ∙ joined_F (length F) (le_refl _) w v (chain_end h c) k s
  complete h (along_g {w} {v} c k s) =
      complete h c ∙ joined_first (length F) (le_refl _) w (chain_end h c)
      ∙ ap (λ (x : ℕ). at (joined F G (length F)) (index_of eqb G x)) s ∙ sym (joined_first (length F) (le_refl _) v k)

  pub length_supremum : length (supremum F G) ≡ length F
  unfolding supremum
  length_supremum = length_number (joined F G (length F)) ∙ length_joined (length F)

  -- two plots share a class of the supremum exactly when a chain joins them
  pub supremum_chain : (u v : ℕ) → u < length F → v < length F → Same (supremum F G) u v ↔ Chain (length F) F G u v
  unfolding supremum
  supremum_chain u v hu hv =
      (λ e. sound (length F) (le_refl _) u v hu hv (numbered.0 e), λ c. numbered.1 (complete hu c))
    where
      numbered : Same (supremum F G) u v ↔ Same (joined F G (length F)) u v
      numbered = number_same (joined F G (length F)) u v (rw (length_joined (length F)) hu) (rw (length_joined (length F)) hv)

  pub number_supremum : number (supremum F G) ≡ supremum F G
  unfolding supremum
  number_supremum = number_number (joined F G (length F))

-- ---- equivalent factors have equivalent infima and suprema

chain_map : {n : ℕ} {F G F' G' : Column} → Equivalent n F F' → Equivalent n G G' → {u v : ℕ} → u < n → Chain n F G u v → Chain n F' G' u v
chain_map p q h start = start
chain_map p q h (along_f {w} {v} c k s) = along_f (chain_map p q h c) k (p.to w v (chain_end h c) k s)
chain_map p q h (along_g {w} {v} c k s) = along_g (chain_map p q h c) k (q.to w v (chain_end h c) k s)

pub equivalent_sym : {n : ℕ} {F G : Column} → Equivalent n F G → Equivalent n G F
equivalent_sym p = record { to = p.from; from = p.to }

pub equivalent_trans : {n : ℕ} {F G H : Column} → Equivalent n F G → Equivalent n G H → Equivalent n F H
equivalent_trans p q = record { to = λ u v hu hv e. q.to u v hu hv (p.to u v hu hv e); from = λ u v hu hv e. p.from u v hu hv (q.from u v hu hv e) }

pub equivalent_refl : {n : ℕ} {F : Column} → Equivalent n F F
equivalent_refl = record { to = λ u v hu hv e. e; from = λ u v hu hv e. e }

pub number_equivalent : {n : ℕ} (F : Column) → length F ≡ n → Equivalent n (number F) F
number_equivalent F l = record { to = λ u v hu hv. (number_same F u v (rw l hu) (rw l hv)).0; from = λ u v hu hv. (number_same F u v (rw l hu) (rw l hv)).1 }

supremum_finer : (n : ℕ) {F G F' G' : Column} → length F ≡ n → length G ≡ n → length F' ≡ n → length G' ≡ n → Equivalent n F F' → Equivalent n G G' → Finer n (supremum F G) (supremum F' G')
supremum_finer n {F} {G} {F'} {G'} l_f l_g lF' lG' p q u v hu hv e = chain'.1 (chain_map p q hu (chain.0 e))
  where
    chain : Same (supremum F G) u v ↔ Chain n F G u v
    chain = rw l_f at (supremum_chain F G (l_f ∙ sym l_g) u v (rw l_f hu) (rw l_f hv))

    chain' : Same (supremum F' G') u v ↔ Chain n F' G' u v
    chain' = rw lF' at (supremum_chain F' G' (lF' ∙ sym lG') u v (rw lF' hu) (rw lF' hv))

pub supremum_equivalent : (n : ℕ) {F G F' G' : Column} → length F ≡ n → length G ≡ n → length F' ≡ n → length G' ≡ n → Equivalent n F F' → Equivalent n G G' → Equivalent n (supremum F G) (supremum F' G')
supremum_equivalent n l_f l_g lF' lG' p q = record { to = supremum_finer n l_f l_g lF' lG' p q; from = supremum_finer n lF' lG' l_f l_g (equivalent_sym p) (equivalent_sym q) }

infimum_finer : (n : ℕ) {F G F' G' : Column} → length F ≡ n → length G ≡ n → length F' ≡ n → length G' ≡ n → Equivalent n F F' → Equivalent n G G' → Finer n (infimum F G) (infimum F' G')
infimum_finer n {F} {G} {F'} {G'} l_f l_g lF' lG' p q u v hu hv e =
    (infimum_same F' G' (lF' ∙ sym lG') u v (rw lF' hu) (rw lF' hv)).1 (p.to u v hu hv s.0, q.to u v hu hv s.1)
  where
    s : Same F u v × Same G u v
    s = (infimum_same F G (l_f ∙ sym l_g) u v (rw l_f hu) (rw l_f hv)).0 e

pub infimum_equivalent : (n : ℕ) {F G F' G' : Column} → length F ≡ n → length G ≡ n → length F' ≡ n → length G' ≡ n → Equivalent n F F' → Equivalent n G G' → Equivalent n (infimum F G) (infimum F' G')
infimum_equivalent n l_f l_g lF' lG' p q = record { to = infimum_finer n l_f l_g lF' lG' p q; from = infimum_finer n lF' lG' l_f l_g (equivalent_sym p) (equivalent_sym q) }
