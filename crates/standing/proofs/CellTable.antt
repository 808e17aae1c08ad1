-- Laws of the cell of two labels, of sizes, and of orthogonality by cells.
-- Assumes nothing.
use mathlib.Core.Path.{◌≡◌, refl, sym, ap, ap₂, ◌∙◌}
use mathlib.Core.Bool.{Bool, true, false, ◌&&◌, and-false}
use mathlib.Core.List.{List}
use Prim.Native.Nat.{ℕ, zero, suc, ◌+◌, ◌*◌, ◌≤◌, ◌<◌, zero-le}
use native.Mathlib.Nat.{le_refl, mul-le-mul_left, mul-suc, mul_comm}
use native.Mathlib.Numerals.{add-one}
use native.Mathlib.Omega.{arith}
use lib.Dec.{eqb, ltb}
use lib.ListN.{length, set}
use lib.Seq.{get_or-set_same, get_or-set_other, take_all}
use borrow.Author.Tests.{eqb-true, eqb-false, eq-eqb, ne_eqb, ltb-true, ltb-false, lt-ltb, le-ltb}
use Rattle.rules.specs.Factor.{Column, at, every, count, class_size, infimum, supremum, orthogonal}
use Rattle.rules.proofs.Lists.{get_d_tabulate}
use Rattle.rules.proofs.Numbering.{by_cases, length_infimum}
use Rattle.rules.proofs.Tests.{every_at, every_all, count_yes, count_no, count_none, count_same, size_equivalent}
use Rattle.rules.proofs.Walks.{count_le}
use Rattle.rules.proofs.Orthogonality.{same_test, orthogonal_test_plots}
use Rattle.factor.specs.Lent.{plots_of}
use Rattle.factor.specs.Sizes.{labelled, sizes}
use Rattle.standing.specs.Joining.{Below, OneClass, EntriesJoin, spread}
use Rattle.standing.specs.Cells.{LabelSizes, EntrySizes, Listed, cell_size, even_cells}
use Rattle.standing.proofs.Joining.{joins_supremum, spread_at}

-- ---- the cell of two labels

row_below : (w x z : ℕ) → x < z → w * x + w ≤ w * z
row_below w x z h = rw (← mul-suc) (mul-le-mul_left w h)

-- a cell below a × w
pub cell_below : (w a x y : ℕ) → x < a → y < w → w * x + y < w * a
cell_below w a x y hx hy = let r = row_below w x a hx in omega arith

-- two labels are told by their cell
pub cell_unique : (w x y a b : ℕ) → y < w → b < w → w * x + y ≡ w * a + b → (x ≡ a) × (y ≡ b)
cell_unique w x y a b hy hb e =
    by_cases (ltb x a)
    (λ l. let r = row_below w x a (ltb-true x a l) in absurd (omega arith))
    (λ l. by_cases (ltb a x)
    (λ k. let r = row_below w a x (ltb-true a x k) in absurd (omega arith))
    (λ k. let q : x ≡ a = omega (arith, ltb-false x a l, ltb-false a x k) in
    let s : w * x ≡ w * a = ap (λ (z : ℕ). w * z) q in
    (q, omega arith)))

-- cells of labels below a and w
pub inside_below : (a w n : ℕ) (F G : Column) → length G ≡ length F → Below a F → Below w G → a * w ≤ n → (u : ℕ) → u < length F → w * at F u + at G u < n
inside_below a w n F G l bf bg h u hu =
    let hg : at G u < w = bg u (rw l hu) in
    omega (arith, cell_below w a (at F u) (at G u) (bf u hu) hg, mul_comm a w)

-- ---- sizes of labels

-- the table of the sizes of a column of at most 240 plots
pub label_sizes : (F : Column) → length F ≤ 240 → (t : List ℕ) → t ≡ sizes (plots_of F) → LabelSizes F t
unfolding sizes
label_sizes F h t e x hx = ap (λ (s : List ℕ). at s x) (e ∙ ap sizes (take_all 240 F h)) ∙ get_d_tabulate (labelled (length F) F) 256 x 0 hx

-- ---- sizes of entries

-- a test that every plot passes
count_all : (n : ℕ) (p : ℕ → Bool) → ((v : ℕ) → v < n → p v ≡ true) → count n p ≡ n
unfolding count
count_all zero p h = refl
count_all (suc k) p h = count_yes k p (h k (le_refl _)) ∙ ap suc (count_all k p (λ v hv. h v (omega arith)))

-- of three tests the third passes where one of the others does, and they never do both
pub data Split (a b c : Bool) : Type 0 where
  stays : b ≡ false → c ≡ a → Split a b c
  added : a ≡ false → b ≡ true → c ≡ true → Split a b c

pub count_split : (n : ℕ) (p q r : ℕ → Bool) → ((v : ℕ) → v < n → Split (p v) (q v) (r v)) → count n r ≡ count n p + count n q
unfolding count
count_split zero p q r h = refl
count_split (suc k) p q r h = go (count_split k p q r (λ v hv. h v (omega arith))) (h k (le_refl _))
  where
    go : count k r ≡ count k p + count k q → Split (p k) (q k) (r k) → count (suc k) r ≡ count (suc k) p + count (suc k) q
    go below (stays b c) =
        by_cases (p k)
        (λ e. let x = count_yes k p e in let y = count_no k q b in let z = count_yes k r (c ∙ e) in omega arith)
        (λ e. let x = count_no k p e in let y = count_no k q b in let z = count_no k r (c ∙ e) in omega arith)
    go below (added a b c) = let x = count_no k p a in let y = count_yes k q b in let z = count_yes k r c in omega arith

-- a number that is not x is below x + 1 where it is below x
next_below : (x y : ℕ) → (x ≡ y → ⊥) → ltb y (x + 1) ≡ ltb y x
next_below x y ne =
    by_cases (ltb y x)
    (λ e. lt-ltb y (x + 1) (omega (arith, ltb-true y x e)) ∙ sym e)
    (λ e. le-ltb y (x + 1) (omega (arith, ltb-false y x e, ne)) ∙ sym e)

module _ (t : List ℕ) (F : Column) where
  -- all plots have one entry
  pub entry_sizes_one : OneClass t F → (r : List ℕ) → ((u : ℕ) → u < length F → at r (at t (at F u)) ≡ length F) → EntrySizes t F r
  unfolding class_size
  entry_sizes_one one r e u hu = e u hu ∙ sym (count_all (length F) _ (λ v hv. eq-eqb _ _ (one u v hu hv)))

  -- the plots of each entry are counted
  pub entry_sizes_all : (r : List ℕ) → ((y : ℕ) → y < 256 → at r y ≡ labelled (length F) (spread t F) y) → ((u : ℕ) → u < length F → at t (at F u) < 256) → EntrySizes t F r
  unfolding class_size labelled
  entry_sizes_all r e bytes u hu = e (at t (at F u)) (bytes u hu) ∙ ap (labelled (length F) (spread t F)) (sym (spread_at t F u hu))

  -- how many plots have the entry y, and a label below x
  unfoldable pub entered : ℕ → ℕ → ℕ
  unfolding count
  entered x y = count (length F) (λ v. ltb (at F v) x && eqb y (at t (at F v)))

  -- no more than there are
  pub entered_le : (x y : ℕ) → entered x y ≤ length F
  unfolding entered
  entered_le x y = count_le (length F) _

  -- no label
  pub entered_none : (y : ℕ) → entered 0 y ≡ 0
  unfolding entered
  entered_none y = count_none (length F) _ (λ v hv. rw (le-ltb (at F v) 0 zero-le))

  -- all labels
  pub entered_all : (top : ℕ) → Below top F → (y : ℕ) → entered top y ≡ labelled (length F) (spread t F) y
  unfolding entered labelled
  entered_all top below y = count_same (length F) _ _ (λ v hv. rw (lt-ltb (at F v) top (below v hv)) (ap (eqb y) (sym (spread_at t F v hv))))

  -- label x: its plots have its entry
  pub entered_here : (x : ℕ) → entered (x + 1) (at t x) ≡ entered x (at t x) + labelled (length F) F x
  unfolding entered labelled
  entered_here x = count_split (length F) _ _ _ (λ v hv. by_cases (eqb x (at F v))
      (λ e. let q : x ≡ at F v = eqb-true x (at F v) e in
      let below : ltb (at F v) (x + 1) ≡ true = lt-ltb (at F v) (x + 1) (omega arith) in
      let not : ltb (at F v) x ≡ false = le-ltb (at F v) x (omega arith) in
      added (rw not) e (rw below (eq-eqb (at t x) (at t (at F v)) (ap (at t) q))))
      (λ e. stays e (ap (λ (b : Bool). b && eqb (at t x) (at t (at F v))) (next_below x (at F v) (eqb-false x (at F v) e)))))

  -- and no other
  pub entered_other : (x y : ℕ) → (y ≡ at t x → ⊥) → entered (x + 1) y ≡ entered x y
  unfolding entered
  entered_other x y ne = count_same (length F) _ _ (λ v hv. by_cases (eqb x (at F v))
      (λ e. let q : x ≡ at F v = eqb-true x (at F v) e in
      let no : eqb y (at t (at F v)) ≡ false = ne_eqb y (at t (at F v)) (λ s. ne (s ∙ ap (at t) (sym q))) in
      rw no (and-false (ltb (at F v) (x + 1)) ∙ sym (and-false (ltb (at F v) x))))
      (λ e. ap (λ (b : Bool). b && eqb y (at t (at F v))) (next_below x (at F v) (eqb-false x (at F v) e))))

  -- the table after label x
  pub entered_step : (sizes : List ℕ) (x n : ℕ) → length sizes ≡ 256 → at t x < 256 → n ≡ labelled (length F) F x → ((y : ℕ) → y < 256 → at sizes y ≡ entered x y)
      → (y : ℕ) → y < 256 → at (set sizes (at t x) (at sizes (at t x) + n)) y ≡ entered (x + 1) y
  entered_step sizes x n long byte size counts y hy =
      by_cases (eqb y (at t x))
      (λ e. let q : y ≡ at t x = eqb-true y (at t x) e in
      ap (at (set sizes (at t x) (at sizes (at t x) + n))) q ∙ get_or-set_same sizes (at t x) (at sizes (at t x) + n) 0 (omega arith)
      ∙ ap₂ ◌+◌ (counts (at t x) byte) size ∙ sym (ap (entered (x + 1)) q ∙ entered_here x))
      (λ e. get_or-set_other sizes (at t x) y (at sizes (at t x) + n) 0 (eqb-false y (at t x) e) ∙ counts y hy ∙ sym (entered_other x y (eqb-false y (at t x) e)))

-- ---- orthogonality by cells

module _ (F G : Column) (few : length F ≤ 240) (l : length G ≡ length F) (bytesF : Below 256 F) (bytesG : Below 256 G) (X Y : Column) (listed : Listed F G X Y)
    (t : List ℕ) (joins : EntriesJoin X Y t) (inI inK inF inG : List ℕ) (sizesI : LabelSizes (infimum F G) inI) (sizesK : EntrySizes t F inK) (sizesF : LabelSizes F inF) (sizesG : LabelSizes G inG) where
  abbrev even_at : ℕ → Bool
  even_at i = eqb (cell_size inI i * at inK (at t (at X i))) (at inF (at X i) * at inG (at Y i))

  abbrev even_plot : ℕ → Bool
  even_plot u = eqb (class_size (length F) (infimum F G) u * class_size (length F) (supremum F G) u) (class_size (length F) F u * class_size (length F) G u)

  -- the size of a cell is that of the infimum's class of its plots
  cell_size_lem : (u i : ℕ) → u < length F → i < length X → at F u ≡ at X i → at G u ≡ at Y i → cell_size inI i ≡ class_size (length F) (infimum F G) u
  unfolding labelled class_size
  cell_size_lem u i hu hi ex ey =
      let e = listed.number i u hi hu ex ey in
      ap (at inI) (add-one i ∙ sym e) ∙ sizesI (at (infimum F G) u) (omega (arith, e, hi, listed.few, few)) ∙ ap (λ (k : ℕ). class_size k (infimum F G) u) (length_infimum F G (sym l))

  -- a cell is tested as each of its plots
  same_even : (u i : ℕ) → u < length F → i < length X → at F u ≡ at X i → at G u ≡ at Y i → even_at i ≡ even_plot u
  unfolding labelled class_size
  same_even u i hu hi ex ey =
      ap₂ eqb
      (ap₂ ◌*◌
      (cell_size_lem u i hu hi ex ey)
      (ap (λ (x : ℕ). at inK (at t x)) (sym ex) ∙ sizesK u hu ∙ size_equivalent (joins_supremum F G l X Y t listed.stands joins) u hu))
      (ap₂ ◌*◌
      (ap (at inF) (sym ex) ∙ sizesF (at F u) (bytesF u hu))
      (ap (at inG) (sym ey) ∙ sizesG (at G u) (bytesG u (rw l hu)) ∙ ap (λ (k : ℕ). labelled k G (at G u)) l))

  pub cells_orthogonal : even_cells inI t inK inF inG X Y ≡ orthogonal (length F) F G
  unfolding even_cells
  cells_orthogonal =
      same_test (every (length X) even_at) (every (length F) even_plot)
      (λ e. every_all (length F) even_plot (λ u hu. let p = listed.stands.place u hu in sym (same_even u p.plot hu p.less (sym p.first) (sym p.second)) ∙ every_at (length X) even_at e p.plot p.less))
      (λ e. every_all (length X) even_at (λ i hi. let p = listed.stands.plot i hi in same_even p.plot i p.less hi p.first p.second ∙ every_at (length F) even_plot e p.plot p.less))
      ∙ sym (orthogonal_test_plots (length F) F G refl l)
