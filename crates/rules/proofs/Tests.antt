-- Laws of the tests: what they say, and that they depend on the classes only.
-- Assumes nothing.
use mathlib.Core.Path.{◌≡◌, refl, sym, ap, ap₂, ◌∙◌}
use mathlib.Core.Logic.{◌↔◌}
use mathlib.Core.Bool.{Bool, true, false, not, ◌&&◌, ◌||◌}
use Prim.Native.Nat.{ℕ, zero, suc, ◌*◌, ◌≤◌, ◌<◌}
use native.Mathlib.Nat.{not-suc-le-zero, le_refl, mul_comm}
use native.Mathlib.Omega.{arith}
use lib.Dec.{eqb, ltb}
use lib.ListN.{length}
use borrow.Author.Tests.{eqb-true, eq-eqb, ne_eqb, eqb-false, ltb-true, ltb-false}
use Rattle.rules.specs.Factor.{Column, at, Same, same, Equivalent, supremum, Chain, start, along_f, along_g, every, count, class_size, overlap, Uniform, uniform, Orthogonal, orthogonal_in, orthogonal}
use Rattle.rules.proofs.Numbering.{by_cases}
use Rattle.rules.proofs.Supremum.{supremum_chain, supremum_equivalent}
use Rattle.rules.proofs.Members.{clash}

-- ---- every and count

every_yes : (k : ℕ) (p : ℕ → Bool) → p k ≡ true → every (suc k) p ≡ every k p
unfolding every
every_yes k p e = rw (e, every)

every_no : (k : ℕ) (p : ℕ → Bool) → p k ≡ false → every (suc k) p ≡ false
unfolding every
every_no k p e = rw (e, every)

pub every_at : (n : ℕ) (p : ℕ → Bool) → every n p ≡ true → (u : ℕ) → u < n → p u ≡ true
every_at zero p e u h = absurd (not-suc-le-zero h)
every_at (suc k) p e u h =
    by_cases (p k)
    (λ f. by_cases (ltb u k)
    (λ g. every_at k p (sym (every_yes k p f) ∙ e) u (ltb-true u k g))
    (λ g. let le : k ≤ u = ltb-false u k g in let q : u ≡ k = omega arith in rw q f))
    (λ f. clash e (every_no k p f))

pub every_all : (n : ℕ) (p : ℕ → Bool) → ((u : ℕ) → u < n → p u ≡ true) → every n p ≡ true
unfolding every
every_all zero p h = refl
every_all (suc k) p h = every_yes k p (h k (le_refl _)) ∙ every_all k p (λ u hu. h u (omega arith))

pub record Fails (n : ℕ) (p : ℕ → Bool) : Type 0 where
  pub plot : ℕ
  pub less : plot < n
  pub fails : p plot ≡ false

pub every_false : (n : ℕ) (p : ℕ → Bool) → every n p ≡ false → Fails n p
unfolding every
every_false zero p e = clash refl e
every_false (suc k) p e =
    by_cases (p k)
    (λ f. later (every_false k p (sym (every_yes k p f) ∙ e)))
    (λ f. record { plot = k; less = le_refl _; fails = f })
  where
    later : Fails k p → Fails (suc k) p
    later w = record { plot = w.plot; less = omega (arith, w.less); fails = w.fails }

pub count_yes : (k : ℕ) (p : ℕ → Bool) → p k ≡ true → count (suc k) p ≡ suc (count k p)
unfolding count
count_yes k p e = rw (e, count)

pub count_no : (k : ℕ) (p : ℕ → Bool) → p k ≡ false → count (suc k) p ≡ count k p
unfolding count
count_no k p e = rw (e, count)

-- a test that no plot passes
pub count_none : (n : ℕ) (p : ℕ → Bool) → ((v : ℕ) → v < n → p v ≡ false) → count n p ≡ 0
unfolding count
count_none zero p h = refl
count_none (suc k) p h = count_no k p (h k (le_refl _)) ∙ count_none k p (λ v hv. h v (omega arith))

pub count_same : (n : ℕ) (p q : ℕ → Bool) → ((u : ℕ) → u < n → p u ≡ q u) → count n p ≡ count n q
unfolding count
count_same zero p q h = refl
count_same (suc k) p q h =
    by_cases (p k)
    (λ e. count_yes k p e ∙ ap suc (count_same k p q (λ u hu. h u (omega arith))) ∙ sym (count_yes k q (sym (h k (le_refl _)) ∙ e)))
    (λ e. count_no k p e ∙ count_same k p q (λ u hu. h u (omega arith)) ∙ sym (count_no k q (sym (h k (le_refl _)) ∙ e)))

-- ---- sizes depend on the classes only

same_bool : (F G : Column) (u v w x : ℕ) → (Same F u v → Same G w x) → (Same G w x → Same F u v) → same F u v ≡ same G w x
same_bool F G u v w x f g =
    by_cases (same F u v)
    (λ e. e ∙ sym (eq-eqb _ _ (f (eqb-true _ _ e))))
    (λ e. e ∙ sym (ne_eqb _ _ (λ s. eqb-false (at F u) (at F v) e (g s))))

pub size_equivalent : {n : ℕ} {F G : Column} → Equivalent n F G → (u : ℕ) → u < n → class_size n F u ≡ class_size n G u
unfolding class_size
size_equivalent {n} {F} {G} p u hu = count_same n _ _ (λ v hv. same_bool F G u v u v (p.to u v hu hv) (p.from u v hu hv))

pub shared_equivalent : {n : ℕ} {F F' G G' : Column} → Equivalent n F F' → Equivalent n G G' → (u v : ℕ) → u < n → v < n → overlap n F u G v ≡ overlap n F' u G' v
unfolding overlap
shared_equivalent {n} {F} {F'} {G} {G'} p q u v hu hv =
    count_same n _ _ (λ w hw. ap₂ ◌&&◌ (same_bool F F' u w u w (p.to u w hu hw) (p.from u w hu hw)) (same_bool G G' v w v w (q.to v w hv hw) (q.from v w hv hw)))

pub uniform_equivalent : {n : ℕ} {F G : Column} → Equivalent n F G → Uniform n F → Uniform n G
uniform_equivalent p h u v hu hv = sym (size_equivalent p u hu) ∙ h u v hu hv ∙ size_equivalent p v hv

pub orthogonal_equivalent : {n : ℕ} {F F' G G' : Column} → length F ≡ n → length G ≡ n → length F' ≡ n → length G' ≡ n → Equivalent n F F' → Equivalent n G G' → Orthogonal n F G → Orthogonal n F' G'
orthogonal_equivalent {n} {F} {F'} {G} {G'} l_f l_g lF' lG' p q h u v hu hv s =
    ap₂ ◌*◌ (sym (shared_equivalent p q u v hu hv)) (sym (size_equivalent k u hu)) ∙ h u v hu hv (k.from u v hu hv s)
    ∙ ap₂ ◌*◌ (size_equivalent p u hu) (size_equivalent q v hv)
  where
    k : Equivalent n (supremum F G) (supremum F' G')
    k = supremum_equivalent n l_f l_g lF' lG' p q

-- ---- what the tests say

pub uniform_test : (n : ℕ) (F : Column) → uniform n F ≡ true ↔ Uniform n F
unfolding uniform
uniform_test n F = (
  λ e u v hu hv. sym (eqb-true _ _ (every_at n _ e u hu)) ∙ eqb-true _ _ (every_at n _ e v hv),
  λ h. every_all n _ (λ u hu. eq-eqb _ _ (h 0 u (omega arith) hu)),
)

pub or_not : (a b : Bool) → (a ≡ true → b ≡ true) → not a || b ≡ true
or_not true b h = h refl
or_not false b h = refl

pub not_or : (a b : Bool) → not a || b ≡ true → a ≡ true → b ≡ true
not_or true b h e = h
not_or false b h e = clash e refl

pub orthogonal_test : (n : ℕ) (F G : Column) → orthogonal n F G ≡ true ↔ Orthogonal n F G
unfolding orthogonal orthogonal_in
orthogonal_test n F G = (
  λ e u v hu hv s. eqb-true _ _ (not_or (same (supremum F G) u v) _ (every_at n _ (every_at n _ e u hu) v hv) (eq-eqb _ _ s)),
  λ h. every_all n _ (λ u hu. every_all n _ (λ v hv. or_not (same (supremum F G) u v) _ (λ s. eq-eqb _ _ (h u v hu hv (eqb-true _ _ s))))),
)

-- ---- orthogonality is symmetric, and every factor is orthogonal to itself

chain_flip : {n : ℕ} {F G : Column} {u v : ℕ} → Chain n F G u v → Chain n G F u v
chain_flip start = start
chain_flip (along_f c h s) = along_g (chain_flip c) h s
chain_flip (along_g c h s) = along_f (chain_flip c) h s

chain_self : {n : ℕ} {F : Column} {u v : ℕ} → Chain n F F u v → Same F u v
chain_self start = refl
chain_self (along_f c h s) = chain_self c ∙ s
chain_self (along_g c h s) = chain_self c ∙ s

module _ (n : ℕ) (F G : Column) (l_f : length F ≡ n) (l_g : length G ≡ n) where
  pub supremum_chain' : (u v : ℕ) → u < n → v < n → Same (supremum F G) u v ↔ Chain n F G u v
  supremum_chain' u v hu hv = rw l_f at (supremum_chain F G (l_f ∙ sym l_g) u v (rw l_f hu) (rw l_f hv))

and_comm : (a b : Bool) → a && b ≡ b && a
and_comm true true = refl
and_comm true false = refl
and_comm false true = refl
and_comm false false = refl

pub supremum_flip : (n : ℕ) (F G : Column) → length F ≡ n → length G ≡ n → Equivalent n (supremum F G) (supremum G F)
supremum_flip n F G l_f l_g = record {
  to = λ u v hu hv s. (supremum_chain' n G F l_g l_f u v hu hv).1 (chain_flip ((supremum_chain' n F G l_f l_g u v hu hv).0 s));
  from = λ u v hu hv s. (supremum_chain' n F G l_f l_g u v hu hv).1 (chain_flip ((supremum_chain' n G F l_g l_f u v hu hv).0 s));
}

shared_flip : (n : ℕ) (F G : Column) (u v : ℕ) → overlap n F u G v ≡ overlap n G v F u
unfolding overlap
shared_flip n F G u v = count_same n _ _ (λ w hw. and_comm (same F u w) (same G v w))

-- plots of one class have the same class size
pub size_same : (n : ℕ) (F : Column) (u v : ℕ) → Same F u v → class_size n F u ≡ class_size n F v
unfolding class_size
size_same n F u v s = count_same n _ _ (λ w hw. ap (λ (x : ℕ). eqb x (at F w)) s)

pub orthogonal_sym : (n : ℕ) (F G : Column) → length F ≡ n → length G ≡ n → Orthogonal n F G → Orthogonal n G F
orthogonal_sym n F G l_f l_g h u v hu hv s =
    ap₂ ◌*◌ (shared_flip n G F u v) (sizes) ∙ h v u hv hu s' ∙ mul_comm (class_size n F v) (class_size n G u)
  where
    s' : Same (supremum F G) v u
    s' = sym ((supremum_flip n F G l_f l_g).from u v hu hv s)

    sizes : class_size n (supremum G F) u ≡ class_size n (supremum F G) v
    sizes = size_same n (supremum G F) u v s ∙ sym (size_equivalent (supremum_flip n F G l_f l_g) v hv)

supremum_self : (n : ℕ) (F : Column) → length F ≡ n → Equivalent n (supremum F F) F
supremum_self n F l = record {
  to = λ u v hu hv s. chain_self ((supremum_chain' n F F l l u v hu hv).0 s);
  from = λ u v hu hv s. (supremum_chain' n F F l l u v hu hv).1 (along_f start hv s);
}

and_self : (a : Bool) → a && a ≡ a
and_self true = refl
and_self false = refl

shared_self : (n : ℕ) (F : Column) (u v : ℕ) → Same F u v → overlap n F u F v ≡ class_size n F u
unfolding overlap class_size
shared_self n F u v s = count_same n _ _ (λ w hw. ap (λ (x : ℕ). same F u w && eqb x (at F w)) (sym s) ∙ and_self (same F u w))

pub orthogonal_self : (n : ℕ) (F : Column) → length F ≡ n → Orthogonal n F F
orthogonal_self n F l u v hu hv s =
    ap₂ ◌*◌ (shared_self n F u v s') (size_equivalent (supremum_self n F l) u hu ∙ size_same n F u v s')
  where
    s' : Same F u v
    s' = (supremum_self n F l).to u v hu hv s
