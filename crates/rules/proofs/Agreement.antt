-- Laws of the plots of all combinations: the factors 'agree in every name of a set' are closed under infimum and supremum, have classes of one size, and are orthogonal two by two.
-- Assumes nothing.
use mathlib.Core.Path.{◌≡◌, refl, sym, ap, ap₂, ◌∙◌}
use mathlib.Core.Bool.{Bool, true, false, not, ◌&&◌, ◌||◌}
use mathlib.Core.List.{List, [], ◌∷◌}
use Prim.Native.Nat.{ℕ, zero, suc, ◌+◌, ◌*◌, ◌/◌, ◌%◌, ◌<◌}
use native.Mathlib.Nat.{not-suc-le-zero, mul_comm, zero-mul, mul-zero, suc-mul, mul-mul-mul_comm, mod-lt, div-lt_iff_lt-mul, div-add-mod', mul-add-div_right, mul-add-mod_self_right, div-eq_of_lt, mod-eq_of_lt, add-zero, mul-le-mul_right}
use native.Mathlib.Omega.{arith}
use lib.Dec.{eqb}
use borrow.Author.Tests.{eqb-true, ne_eqb}
use Rattle.rules.specs.Factor.{count}
use Rattle.rules.specs.Formula.{plot_count}
use Rattle.rules.proofs.Numbering.{by_cases, eqb_self}
use Rattle.rules.proofs.Members.{clash}
use Rattle.rules.proofs.Sheet.{and_left, and_right}
use Rattle.rules.proofs.Uniform.{count_one}
use Rattle.rules.proofs.Tests.{count_yes, count_no, count_none, count_same}

-- ---- counts

-- a count in two parts
pub count_add : (a b : ℕ) (p : ℕ → Bool) → count (a + b) p ≡ count a p + count b (λ r. p (a + r))
unfolding count
count_add a zero p = rw (add-zero a) (sym (add-zero (count a p)))
count_add a (suc b) p =
    let e : a + suc b ≡ suc (a + b) = omega arith in
    by_cases (p (a + b))
    (λ t. rw (e, count_yes (a + b) p t, count_yes b (λ r. p (a + r)) t) (omega (arith, count_add a b p)))
    (λ t. rw (e, count_no (a + b) p t, count_no b (λ r. p (a + r)) t) (count_add a b p))

-- one number below c is d
count_equal : (c d : ℕ) → d < c → count c (λ q. eqb d q) ≡ 1
count_equal c d h = count_one c (λ q. eqb d q) d h (eqb_self d) (λ v l n. ne_eqb d v n)

-- the parts of a number below c * m
pub record Split (c m u : ℕ) : Type 0 where
  pub some : 0 < m
  pub high : u / m < c
  pub low : u % m < m

-- each has them
pub split : (c m u : ℕ) → u < c * m → Split c m u
split c zero u h = absurd (not-suc-le-zero (rw mul-zero at h))
split c (suc m) u h = record { some = omega arith; high = (div-lt_iff_lt-mul {k = suc m} {x = u} {y = c} (omega arith)).1 h; low = mod-lt u (omega arith) }

module _ (m q r : ℕ) (h : r < m) where
  pub high_part : (q * m + r) / m ≡ q
  high_part = mul-add-div_right (omega arith) q r ∙ rw (div-eq_of_lt h) (omega arith)

  pub low_part : (q * m + r) % m ≡ r
  low_part = mul-add-mod_self_right q m r ∙ mod-eq_of_lt h

-- a test on each part: the counts multiply
pub count_product : (c m : ℕ) (p q : ℕ → Bool) → count (c * m) (λ w. p (w / m) && q (w % m)) ≡ count c p * count m q
unfolding count
count_product zero m p q = rw (zero-mul m, zero-mul (count m q))
count_product (suc c) m p q =
    rw (suc-mul c m)
    (count_add (c * m) m (λ w. p (w / m) && q (w % m))
    ∙ ap₂ ◌+◌ (count_product c m p q) (count_same m (λ r. p ((c * m + r) / m) && q ((c * m + r) % m)) (λ r. p c && q r) (λ r l. ap₂ (λ (x y : ℕ). p x && q y) (high_part m c r l) (low_part m c r l)))
    ∙ last)
  where
    last : count c p * count m q + count m (λ r. p c && q r) ≡ count (suc c) p * count m q
    last =
        by_cases (p c)
        (λ e. rw (count_yes c p e, suc-mul (count c p) (count m q), e))
        (λ e. rw (count_no c p e, e, count_none m (λ r. false) (λ v l. refl)) (add-zero _))

-- ---- sets of names, and plots that agree in them

-- the set without the first name
abbrev pub later : (ℕ → Bool) → ℕ → Bool
later S i = S (suc i)

-- the names of either set
abbrev pub union : (ℕ → Bool) → (ℕ → Bool) → ℕ → Bool
union S T i = S i || T i

-- the names of both
abbrev pub meet : (ℕ → Bool) → (ℕ → Bool) → ℕ → Bool
meet S T i = S i && T i

-- d and e are equal where the name counts
abbrev pub agree_one : Bool → ℕ → ℕ → Bool
agree_one b d e = not b || eqb d e

-- plots u and v agree in every name of S
unfoldable pub agree : List ℕ → (ℕ → Bool) → ℕ → ℕ → Bool
unfolding plot_count
agree [] S u v = true
agree (c ∷ cs) S u v = agree_one (S 0) (u / plot_count cs) (v / plot_count cs) && agree cs (later S) (u % plot_count cs) (v % plot_count cs)

-- ---- each step below goes from the parts of two plots to the plots

module _ (c : ℕ) (cs : List ℕ) (S : ℕ → Bool) (u v : ℕ) where
  abbrev m : ℕ
  m = plot_count cs

  -- agreeing plots agree in the first name, if it counts
  pub agree_first : agree (c ∷ cs) S u v ≡ true → agree_one (S 0) (u / m) (v / m) ≡ true
  unfolding agree
  agree_first e = and_left (agree_one (S 0) (u / m) (v / m)) (agree cs (later S) (u % m) (v % m)) e

  -- and in the rest
  pub agree_rest : agree (c ∷ cs) S u v ≡ true → agree cs (later S) (u % m) (v % m) ≡ true
  unfolding agree
  agree_rest e = and_right (agree_one (S 0) (u / m) (v / m)) (agree cs (later S) (u % m) (v % m)) e

  -- plots that agree in both agree
  pub agree_pair : agree_one (S 0) (u / m) (v / m) ≡ true → agree cs (later S) (u % m) (v % m) ≡ true → agree (c ∷ cs) S u v ≡ true
  unfolding agree
  agree_pair e f = rw (e, f)

-- in no name any two plots agree
pub agree_none : (cs : List ℕ) (u v : ℕ) → agree cs (λ i. false) u v ≡ true
unfolding agree
agree_none [] u v = refl
agree_none (c ∷ cs) u v = agree_none cs (u % plot_count cs) (v % plot_count cs)

-- a plot agrees with itself
pub agree_self : (cs : List ℕ) (S : ℕ → Bool) (u : ℕ) → agree cs S u u ≡ true
unfolding agree
agree_self [] S u = refl
agree_self (c ∷ cs) S u = agree_pair c cs S u u (one (S 0) (u / plot_count cs)) (agree_self cs (later S) (u % plot_count cs))
  where
    one : (b : Bool) (d : ℕ) → agree_one b d d ≡ true
    one true d = eqb_self d
    one false d = refl

-- plots that agree in all names are one plot
pub agree_all : (cs : List ℕ) (u v : ℕ) → u < plot_count cs → v < plot_count cs → agree cs (λ i. true) u v ≡ true → u ≡ v
unfolding plot_count
agree_all [] u v hu hv e = omega arith
agree_all (c ∷ cs) u v hu hv e =
    let m : ℕ = plot_count cs in
    let a = split c m u hu in
    let b = split c m v hv in
    sym (div-add-mod' u m)
    ∙ ap₂ (λ (x y : ℕ). x * m + y) (eqb-true (u / m) (v / m) (agree_first c cs (λ i. true) u v e)) (agree_all cs (u % m) (v % m) a.low b.low (agree_rest c cs (λ i. true) u v e))
    ∙ div-add-mod' v m

-- agreeing in a set, plots agree in every part of it
pub agree_part : (cs : List ℕ) (S T : ℕ → Bool) (u v : ℕ) → ((i : ℕ) → T i ≡ true → S i ≡ true) → agree cs S u v ≡ true → agree cs T u v ≡ true
unfolding agree
agree_part [] S T u v h e = refl
agree_part (c ∷ cs) S T u v h e =
    agree_pair c cs T u v (one (S 0) (T 0) (h 0) (agree_first c cs S u v e)) (agree_part cs (later S) (later T) (u % plot_count cs) (v % plot_count cs) (λ i. h (suc i)) (agree_rest c cs S u v e))
  where
    one : (b t : Bool) → (t ≡ true → b ≡ true) → agree_one b (u / plot_count cs) (v / plot_count cs) ≡ true → agree_one t (u / plot_count cs) (v / plot_count cs) ≡ true
    one b false k f = refl
    one true true k f = f
    one false true k f = clash (k refl) refl

-- agreeing in two sets, plots agree in their union
pub agree_union : (cs : List ℕ) (S T : ℕ → Bool) (u v : ℕ) → agree cs S u v ≡ true → agree cs T u v ≡ true → agree cs (union S T) u v ≡ true
unfolding agree
agree_union [] S T u v e f = refl
agree_union (c ∷ cs) S T u v e f =
    agree_pair c cs (union S T) u v (one (S 0) (T 0) (agree_first c cs S u v e) (agree_first c cs T u v f))
    (agree_union cs (later S) (later T) (u % plot_count cs) (v % plot_count cs) (agree_rest c cs S u v e) (agree_rest c cs T u v f))
  where
    one : (b t : Bool) → agree_one b (u / plot_count cs) (v / plot_count cs) ≡ true → agree_one t (u / plot_count cs) (v / plot_count cs) ≡ true → agree_one (b || t) (u / plot_count cs) (v / plot_count cs) ≡ true
    one true t k l = k
    one false t k l = l

-- ---- a plot between two

-- the plot that is like u in the names of S and like v in the others
unfoldable pub mixed : List ℕ → (ℕ → Bool) → ℕ → ℕ → ℕ
unfolding plot_count
mixed [] S u v = 0
mixed (c ∷ cs) S u v = elim (S 0) [ true ↦ u / plot_count cs | false ↦ v / plot_count cs ] * plot_count cs + mixed cs (later S) (u % plot_count cs) (v % plot_count cs)

-- it is a plot, agrees with u in S, and with v in T where u and v agree in both
pub record Between (cs : List ℕ) (S T : ℕ → Bool) (u v w : ℕ) : Type 0 where
  pub less : w < plot_count cs
  pub near : agree cs S u w ≡ true
  pub far : agree cs T w v ≡ true

-- one name more
module _ (c : ℕ) (cs : List ℕ) (S T : ℕ → Bool) (u v : ℕ) (hu : u < c * plot_count cs) (hv : v < c * plot_count cs) (w : ℕ)
    (below : Between cs (later S) (later T) (u % plot_count cs) (v % plot_count cs) w) where
  -- with q for the first name
  with_first_lem : (q : ℕ) → q < c → agree_one (S 0) (u / plot_count cs) q ≡ true → agree_one (T 0) q (v / plot_count cs) ≡ true → Between (c ∷ cs) S T u v (q * plot_count cs + w)
  unfolding plot_count
  with_first_lem q h k l = record {
    less = omega (arith, below.less, suc-mul q (plot_count cs), mul-le-mul_right (plot_count cs) h);
    near = agree_pair c cs S u (q * plot_count cs + w) (rw (high_part (plot_count cs) q w below.less) k) (rw (low_part (plot_count cs) q w below.less) below.near);
    far = agree_pair c cs T (q * plot_count cs + w) v (rw (high_part (plot_count cs) q w below.less) l) (rw (low_part (plot_count cs) q w below.less) below.far);
  }

  mixed_step : agree_one (S 0 && T 0) (u / plot_count cs) (v / plot_count cs) ≡ true → Between (c ∷ cs) S T u v (elim (S 0) [ true ↦ u / plot_count cs | false ↦ v / plot_count cs ] * plot_count cs + w)
  mixed_step k =
      by_cases (S 0)
      (λ is. rw is (with_first_lem (u / plot_count cs) (split c (plot_count cs) u hu).high (rw is (eqb_self (u / plot_count cs))) (rw is at k)))
      (λ is. rw is (with_first_lem (v / plot_count cs) (split c (plot_count cs) v hv).high (rw is) (second (T 0))))
    where
      second : (t : Bool) → agree_one t (v / plot_count cs) (v / plot_count cs) ≡ true
      second true = eqb_self (v / plot_count cs)
      second false = refl

-- the mixed plot stands between
pub mixed_between : (cs : List ℕ) (S T : ℕ → Bool) (u v : ℕ) → u < plot_count cs → v < plot_count cs → agree cs (meet S T) u v ≡ true → Between cs S T u v (mixed cs S u v)
unfolding plot_count agree mixed
mixed_between [] S T u v hu hv e = record { less = omega arith; near = refl; far = refl }
mixed_between (c ∷ cs) S T u v hu hv e =
    mixed_step c cs S T u v hu hv (mixed cs (later S) (u % plot_count cs) (v % plot_count cs))
    (mixed_between cs (later S) (later T) (u % plot_count cs) (v % plot_count cs) (split c (plot_count cs) u hu).low (split c (plot_count cs) v hv).low (agree_rest c cs (meet S T) u v e))
    (agree_first c cs (meet S T) u v e)

-- ---- sizes

-- how many plots agree with u in S
abbrev pub size_of : List ℕ → (ℕ → Bool) → ℕ → ℕ
size_of cs S u = count (plot_count cs) (λ w. agree cs S u w)

-- how many agree with u in S and with v in T
abbrev pub overlap_of : List ℕ → (ℕ → Bool) → ℕ → (ℕ → Bool) → ℕ → ℕ
overlap_of cs S u T v = count (plot_count cs) (λ w. agree cs S u w && agree cs T v w)

-- the same for one name of count c
abbrev pub size_one : ℕ → Bool → ℕ → ℕ
size_one c b d = count c (λ q. agree_one b d q)

-- two sets: the same for one name
abbrev pub overlap_one : ℕ → Bool → ℕ → Bool → ℕ → ℕ
overlap_one c b d t e = count c (λ q. agree_one b d q && agree_one t e q)

-- sizes are products
size_product : (c : ℕ) (cs : List ℕ) (S : ℕ → Bool) (u : ℕ) → size_of (c ∷ cs) S u ≡ size_one c (S 0) (u / plot_count cs) * size_of cs (later S) (u % plot_count cs)
unfolding agree plot_count
size_product c cs S u = count_product c (plot_count cs) (λ q. agree_one (S 0) (u / plot_count cs) q) (λ r. agree cs (later S) (u % plot_count cs) r)

overlap_product : (c : ℕ) (cs : List ℕ) (S : ℕ → Bool) (u : ℕ) (T : ℕ → Bool) (v : ℕ)
    → overlap_of (c ∷ cs) S u T v ≡ overlap_one c (S 0) (u / plot_count cs) (T 0) (v / plot_count cs) * overlap_of cs (later S) (u % plot_count cs) (later T) (v % plot_count cs)
unfolding agree plot_count
overlap_product c cs S u T v =
    let m : ℕ = plot_count cs in
    count_same (c * m) (λ w. agree (c ∷ cs) S u w && agree (c ∷ cs) T v w)
    (λ w. agree_one (S 0) (u / m) (w / m) && agree_one (T 0) (v / m) (w / m) && (agree cs (later S) (u % m) (w % m) && agree cs (later T) (v % m) (w % m)))
    (λ w l. exchange (agree_one (S 0) (u / m) (w / m)) (agree cs (later S) (u % m) (w % m)) (agree_one (T 0) (v / m) (w / m)) (agree cs (later T) (v % m) (w % m)))
    ∙ count_product c m (λ q. agree_one (S 0) (u / m) q && agree_one (T 0) (v / m) q) (λ r. agree cs (later S) (u % m) r && agree cs (later T) (v % m) r)
  where
    exchange : (a b c d : Bool) → (a && b) && (c && d) ≡ (a && c) && (b && d)
    exchange true b true d = refl
    exchange true true false d = refl
    exchange true false false d = refl
    exchange false b c d = refl

-- one name
size_one_lem : (c : ℕ) (b : Bool) (d e : ℕ) → d < c → e < c → size_one c b d ≡ size_one c b e
size_one_lem c true d e h k = count_equal c d h ∙ sym (count_equal c e k)
size_one_lem c false d e h k = refl

orthogonal_one : (c : ℕ) (b t : Bool) (d e : ℕ) → d < c → e < c → agree_one (b && t) d e ≡ true → overlap_one c b d t e * size_one c (b && t) d ≡ size_one c b d * size_one c t e
orthogonal_one c true true d e h k f =
    let q : d ≡ e = eqb-true d e f in
    rw q (ap (λ (x : ℕ). x * count c (λ y. eqb e y)) (count_same c (λ y. eqb e y && eqb e y) (λ y. eqb e y) (λ y l. twice (eqb e y))))
  where
    twice : (a : Bool) → a && a ≡ a
    twice true = refl
    twice false = refl
orthogonal_one c true false d e h k f = ap (λ (x : ℕ). x * count c (λ y. true)) (count_same c (λ y. eqb d y && true) (λ y. eqb d y) (λ y l. with_true (eqb d y)))
  where
    with_true : (a : Bool) → a && true ≡ a
    with_true true = refl
    with_true false = refl
orthogonal_one c false t d e h k f = mul_comm (count c (λ y. agree_one t e y)) (count c (λ y. true))

-- classes have one size
pub size_uniform : (cs : List ℕ) (S : ℕ → Bool) (u v : ℕ) → u < plot_count cs → v < plot_count cs → size_of cs S u ≡ size_of cs S v
unfolding plot_count agree
size_uniform [] S u v hu hv = refl
size_uniform (c ∷ cs) S u v hu hv =
    let a = split c (plot_count cs) u hu in
    let b = split c (plot_count cs) v hv in
    size_product c cs S u
    ∙ ap₂ ◌*◌ (size_one_lem c (S 0) (u / plot_count cs) (v / plot_count cs) a.high b.high) (size_uniform cs (later S) (u % plot_count cs) (v % plot_count cs) a.low b.low)
    ∙ sym (size_product c cs S v)

-- two sets: overlaps are as large as orthogonality asks
pub size_orthogonal : (cs : List ℕ) (S T : ℕ → Bool) (u v : ℕ) → u < plot_count cs → v < plot_count cs → agree cs (meet S T) u v ≡ true
    → overlap_of cs S u T v * size_of cs (meet S T) u ≡ size_of cs S u * size_of cs T v
unfolding plot_count agree
size_orthogonal [] S T u v hu hv e = refl
size_orthogonal (c ∷ cs) S T u v hu hv e =
    let m : ℕ = plot_count cs in
    let a = split c m u hu in
    let b = split c m v hv in
    ap₂ ◌*◌ (overlap_product c cs S u T v) (size_product c cs (meet S T) u)
    ∙ mul-mul-mul_comm (overlap_one c (S 0) (u / m) (T 0) (v / m)) (overlap_of cs (later S) (u % m) (later T) (v % m)) (size_one c (S 0 && T 0) (u / m)) (size_of cs (meet (later S) (later T)) (u % m))
    ∙ ap₂ ◌*◌ (orthogonal_one c (S 0) (T 0) (u / m) (v / m) a.high b.high (agree_first c cs (meet S T) u v e))
    (size_orthogonal cs (later S) (later T) (u % m) (v % m) a.low b.low (agree_rest c cs (meet S T) u v e))
    ∙ sym (mul-mul-mul_comm (size_one c (S 0) (u / m)) (size_of cs (later S) (u % m)) (size_one c (T 0) (v / m)) (size_of cs (later T) (v % m)))
    ∙ sym (ap₂ ◌*◌ (size_product c cs S u) (size_product c cs T v))
