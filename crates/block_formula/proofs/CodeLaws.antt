-- In the column of a set of names a plot's level is the place of its combination of these names, the first slowest.
-- Assumes nothing.
use mathlib.Core.Path.{◌≡◌, refl, sym, ap, ap₂, ◌∙◌, subst}
use mathlib.Core.Bool.{Bool, true}
use mathlib.Core.List.{List, [], ◌∷◌, ◌++◌, map}
use Prim.Native.Nat.{ℕ, zero, suc, ◌+◌, ◌*◌, ◌/◌, ◌%◌, ◌<◌}
use native.Mathlib.Nat.{not-suc-le-zero, suc_inj, zero-mul, zero-add, add-zero, add-suc, suc-add, suc-mul, mul-le-mul_right}
use native.Mathlib.Omega.{arith}
use lib.ListN.{length}
use borrow.Author.Tests.{eqb-true, eq-eqb}
use Rattle.rules.specs.Lists.{tabulate}
use Rattle.rules.specs.Factor.{Column, at, Equivalent}
use Rattle.rules.specs.Formula.{plot_count, column_of}
use Rattle.rules.proofs.Lists.{length_tabulate, get_d_tabulate, map_tabulate}
use Rattle.rules.proofs.Numbering.{by_cases, number_unique}
use Rattle.rules.proofs.Places.{tabulate_ext}
use Rattle.rules.proofs.Agreement.{later, agree, agree_first, agree_rest, agree_pair, split, high_part, low_part}
use Rattle.rules.proofs.Crossed.{length_column, column_divides}
use Rattle.rules.proofs.Numbered.{Grows, stop, old, new, grows_number, number_column}
use Rattle.block_formula.specs.Plots.{radix, code_of}

-- a code is below their number
pub code_less : (cs : List ℕ) (S : ℕ → Bool) (u : ℕ) → u < plot_count cs → code_of cs S u < radix cs S
unfolding code_of radix plot_count
code_less [] S u h = omega arith
code_less (c ∷ cs) S u h =
    let p = split c (plot_count cs) u h in
    let b = code_less cs (later S) (u % plot_count cs) p.low in
    let r : ℕ = radix cs (later S) in
    let q : ℕ = u / plot_count cs in
    by_cases (S 0)
    (λ e. rw (e, code_of, radix) (omega (arith, b, suc-mul q r, mul-le-mul_right r p.high)))
    (λ e. rw (e, code_of, radix) b)

-- plots that agree have one code
pub agree_code : (cs : List ℕ) (S : ℕ → Bool) (u v : ℕ) → agree cs S u v ≡ true → code_of cs S u ≡ code_of cs S v
unfolding code_of plot_count
agree_code [] S u v e = refl
agree_code (c ∷ cs) S u v e =
    let below = agree_code cs (later S) (u % plot_count cs) (v % plot_count cs) (agree_rest c cs S u v e) in
    by_cases (S 0)
    (λ s. let q = eqb-true (u / plot_count cs) (v / plot_count cs) (rw s at (agree_first c cs S u v e)) in
    rw (s, code_of) (ap₂ (λ (x y : ℕ). x * radix cs (later S) + y) q below))
    (λ s. rw (s, code_of) below)

-- and plots of one code agree
pub code_agree : (cs : List ℕ) (S : ℕ → Bool) (u v : ℕ) → u < plot_count cs → v < plot_count cs → code_of cs S u ≡ code_of cs S v → agree cs S u v ≡ true
unfolding code_of plot_count agree
code_agree [] S u v hu hv e = refl
code_agree (c ∷ cs) S u v hu hv e =
    let p = split c (plot_count cs) u hu in
    let q = split c (plot_count cs) v hv in
    let r : ℕ = radix cs (later S) in
    let a : ℕ = code_of cs (later S) (u % plot_count cs) in
    let b : ℕ = code_of cs (later S) (v % plot_count cs) in
    let la = code_less cs (later S) (u % plot_count cs) p.low in
    let lb = code_less cs (later S) (v % plot_count cs) q.low in
    by_cases (S 0)
    (λ s. let z : u / plot_count cs * r + a ≡ v / plot_count cs * r + b = rw (s, code_of) at e in
    agree_pair c cs S u v
    (rw s (eq-eqb (u / plot_count cs) (v / plot_count cs) (sym (high_part r (u / plot_count cs) a la) ∙ ap (λ (x : ℕ). x / r) z ∙ high_part r (v / plot_count cs) b lb)))
    (code_agree cs (later S) (u % plot_count cs) (v % plot_count cs) p.low q.low (sym (low_part r (u / plot_count cs) a la) ∙ ap (λ (x : ℕ). x % r) z ∙ low_part r (v / plot_count cs) b lb)))
    (λ s. agree_pair c cs S u v (rw s) (code_agree cs (later S) (u % plot_count cs) (v % plot_count cs) p.low q.low (rw (s, code_of) at e)))

-- ---- codes appear in their order

grows_append : {k m l : ℕ} {xs ys : List ℕ} → Grows k xs m → Grows m ys l → Grows k (xs ++ ys) l
grows_append stop h = h
grows_append (old j g) h = old j (grows_append g h)
grows_append (new g) h = new (grows_append g h)

-- a numbers more throughout
grows_shift : (a : ℕ) {k m : ℕ} {xs : List ℕ} → Grows k xs m → Grows (a + k) (map (λ x. a + x) xs) (a + m)
grows_shift a stop = stop
grows_shift a (old {k} {j} {m} {xs} h g) =
    subst (λ (x : ℕ). Grows (a + k) (x ∷ map (λ x. a + x) xs) (a + m)) (sym (add-suc a j)) (old {j = a + j} (omega arith) (grows_shift a g))
grows_shift a (new {k} {m} {xs} g) =
    subst (λ (x : ℕ). Grows (a + k) (x ∷ map (λ x. a + x) xs) (a + m)) (sym (add-suc a k)) (new (subst (λ (x : ℕ). Grows x (map (λ x. a + x) xs) (a + m)) (add-suc a k) (grows_shift a g)))

-- nothing new
grows_old : (k : ℕ) (f : ℕ → ℕ) (n : ℕ) → ((i : ℕ) → i < n → f i < k) → Grows k (tabulate (λ i. suc (f i)) n) k
unfolding tabulate
grows_old k f zero h = stop
grows_old k f (suc n) h = old (h 0 (omega arith)) (grows_old k (λ i. f (suc i)) n (λ i l. h (suc i) (omega arith)))

tabulate_add : {A : Type 0} (f : ℕ → A) (a b : ℕ) → tabulate f (a + b) ≡ tabulate f a ++ tabulate (λ r. f (a + r)) b
unfolding tabulate
tabulate_add f zero b = rw (zero-add b) (tabulate_ext f (λ r. f (0 + r)) b (λ i l. ap f (sym (zero-add i))))
tabulate_add f (suc a) b =
    rw (suc-add a b) (ap (λ (r : List _). f 0 ∷ r) (tabulate_add (λ i. f (suc i)) a b ∙ ap (λ (r : List _). tabulate (λ i. f (suc i)) a ++ r) (tabulate_ext (λ r. f (suc (a + r))) (λ r. f (suc a + r)) b (λ i l. ap f (sym (suc-add a i))))))

module _ (m r : ℕ) (base : ℕ → ℕ) (grows : Grows 0 (tabulate (λ i. suc (base i)) m) r) (f : ℕ → ℕ) where
  -- a name of the set: each of its levels goes on where the one before ended
  blocks_new : ((q i : ℕ) → i < m → f (q * m + i) ≡ q * r + base i) → (q : ℕ) → Grows 0 (tabulate (λ u. suc (f u)) (q * m)) (q * r)
  unfolding tabulate
  blocks_new e zero = rw (zero-mul m, zero-mul r) stop
  blocks_new e (suc q) =
      rw (suc-mul q m, suc-mul q r, tabulate_add (λ u. suc (f u)) (q * m) m)
      (grows_append (blocks_new e q) (subst (λ (l : List ℕ). Grows (q * r) l (q * r + r)) block (subst (λ (k : ℕ). Grows k (map (λ x. q * r + x) (tabulate (λ i. suc (base i)) m)) (q * r + r)) (add-zero (q * r)) (grows_shift (q * r) grows))))
    where
      block : map (λ x. q * r + x) (tabulate (λ i. suc (base i)) m) ≡ tabulate (λ i. suc (f (q * m + i))) m
      block = map_tabulate (λ x. q * r + x) (λ i. suc (base i)) m ∙ tabulate_ext (λ i. q * r + suc (base i)) (λ i. suc (f (q * m + i))) m (λ i l. add-suc (q * r) (base i) ∙ ap suc (sym (e q i l)))

  -- a name that is not: all its levels are alike
  blocks_old : ((i : ℕ) → i < m → base i < r) → ((q i : ℕ) → i < m → f (q * m + i) ≡ base i) → (q : ℕ) → Grows 0 (tabulate (λ u. suc (f u)) (suc q * m)) r
  unfolding tabulate
  blocks_old less e zero =
      rw (suc-mul 0 m, zero-mul m, zero-add m)
      (subst (λ (l : List ℕ). Grows 0 l r) (tabulate_ext (λ i. suc (base i)) (λ u. suc (f u)) m (λ i l. ap suc (sym (e 0 i l) ∙ ap f (ap (λ (x : ℕ). x + i) (zero-mul m) ∙ zero-add i)))) grows)
  blocks_old less e (suc q) =
      rw (suc-mul (suc q) m, tabulate_add (λ u. suc (f u)) (suc q * m) m)
      (grows_append (blocks_old less e q)
      (subst (λ (l : List ℕ). Grows r l r) (tabulate_ext (λ i. suc (base i)) (λ i. suc (f (suc q * m + i))) m (λ i l. ap suc (sym (e (suc q) i l)))) (grows_old r base m less)))

code_grows : (cs : List ℕ) (S : ℕ → Bool) → 0 < plot_count cs → Grows 0 (tabulate (λ u. suc (code_of cs S u)) (plot_count cs)) (radix cs S)
unfolding code_of radix plot_count tabulate
code_grows [] S h = new stop
code_grows (zero ∷ cs) S h = absurd (not-suc-le-zero (rw zero-mul at h))
code_grows (suc c ∷ cs) S h =
    let m : ℕ = plot_count cs in
    let some = (split (suc c) m 0 h).some in
    let below = code_grows cs (later S) some in
    by_cases (S 0)
    (λ s. rw (s, radix) (blocks_new m (radix cs (later S)) (code_of cs (later S)) below (code_of (suc c ∷ cs) S)
    (λ q i l. rw (s, code_of) (ap₂ (λ (x y : ℕ). x * radix cs (later S) + code_of cs (later S) y) (high_part m q i l) (low_part m q i l))) (suc c)))
    (λ s. rw (s, radix) (blocks_old m (radix cs (later S)) (code_of cs (later S)) below (code_of (suc c ∷ cs) S) (λ i l. code_less cs (later S) i l)
    (λ q i l. rw (s, code_of) (ap (code_of cs (later S)) (low_part m q i l))) c))

-- the level of a plot is its code, from 1
pub column_codes : (cs : List ℕ) (S : ℕ → Bool) → 0 < plot_count cs → column_of cs S ≡ tabulate (λ u. suc (code_of cs S u)) (plot_count cs)
column_codes cs S h = sym (number_column cs S) ∙ number_unique (column_of cs S) K lengths same ∙ grows_number K (code_grows cs S h)
  where
    K : Column
    K = tabulate (λ u. suc (code_of cs S u)) (plot_count cs)

    lengths : length (column_of cs S) ≡ length K
    lengths = length_column cs S ∙ sym (length_tabulate (λ u. suc (code_of cs S u)) (plot_count cs))

    at_plot : (u : ℕ) → u < plot_count cs → at K u ≡ suc (code_of cs S u)
    at_plot u l = get_d_tabulate (λ u. suc (code_of cs S u)) (plot_count cs) u 0 l

    same : Equivalent (length (column_of cs S)) (column_of cs S) K
    same = rw (length_column cs S) (record {
      to = λ u v hu hv e. at_plot u hu ∙ ap suc (agree_code cs S u v ((column_divides cs S).to u v hu hv e)) ∙ sym (at_plot v hv);
      from = λ u v hu hv e. (column_divides cs S).from u v hu hv (code_agree cs S u v hu hv (suc_inj (sym (at_plot u hu) ∙ e ∙ at_plot v hv)));
    })
