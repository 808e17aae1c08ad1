-- Laws of the list of the cells that have a plot.
-- Assumes nothing.
use mathlib.Core.Path.{◌≡◌, refl, sym, ap, ap₂, ◌∙◌, subst}
use mathlib.Core.List.{List, [], ◌∷◌, ◌++◌}
use Prim.Native.Nat.{ℕ, suc, ◌+◌, ◌-◌, ◌≤◌, ◌<◌}
use native.Mathlib.Nat.{not-suc-le-zero, le_refl}
use native.Mathlib.Numerals.{add-one}
use native.Mathlib.Omega.{arith}
use lib.Dec.{eqb}
use lib.ListN.{length, take, set, replicate, length-set}
use lib.Seq.{get_or-set_same, get_or-set_other, get_or-take, length-take-le, take-suc, take-set-le, take-length}
use borrow.Author.Tests.{eqb-true, eqb-false, eq-eqb}
use Rattle.rules.specs.Factor.{Column, at, same, add_new, labels, number, classes, infimum}
use Rattle.rules.proofs.Numbering.{by_cases, eqb_self, add_has, has_all, numbering_at, number_take, length_infimum, infimum_same, number_infimum}
use Rattle.rules.proofs.Walk.{Next, next}
use Rattle.rules.proofs.Columns.{number_positive}
use Rattle.rules.proofs.Sums.{Some, nowhere, somewhere, some}
use Rattle.standing.specs.Joining.{Below, InOrder, Among, spread}
use Rattle.standing.specs.Cells.{Plot, Cover, Stands, Listed}
use Rattle.factor.proofs.SizeTable.{count_some}
use Rattle.factor.proofs.Table.{classes_none}
use Rattle.standing.proofs.Joining.{length_spread, spread_at}

-- ---- the labels in order

labels_snoc : (xs s : List ℕ) (x : ℕ) → labels eqb s (xs ++ (x ∷ [])) ≡ add_new eqb (labels eqb s xs) x
unfolding labels
labels_snoc [] s x = refl
labels_snoc (y ∷ xs) s x = labels_snoc xs (add_new eqb s y) x

spread_snoc : (t : List ℕ) (F : Column) (x : ℕ) → spread t (F ++ (x ∷ [])) ≡ spread t F ++ (at t x ∷ [])
unfolding spread
spread_snoc t [] x = refl
spread_snoc t (y ∷ F) x = ap (λ (l : Column). at t y ∷ l) (spread_snoc t F x)

-- one label more on each side
order_new : (F X : Column) (x : ℕ) → InOrder F X → InOrder (F ++ (x ∷ [])) (X ++ (x ∷ []))
order_new F X x order t =
    ap (labels eqb []) (spread_snoc t F x) ∙ labels_snoc (spread t F) [] (at t x) ∙ ap (λ (s : List ℕ). add_new eqb s (at t x)) (order t)
    ∙ sym (ap (labels eqb []) (spread_snoc t X x) ∙ labels_snoc (spread t X) [] (at t x))

-- a label that was met
order_old : (F X : Column) (v : ℕ) → v < length F → InOrder F X → InOrder (F ++ (at F v ∷ [])) X
order_old F X v h order t =
    ap (labels eqb []) (spread_snoc t F (at F v)) ∙ labels_snoc (spread t F) [] (at t (at F v))
    ∙ add_has eqb eqb-true eqb_self (labels eqb [] (spread t F)) (at t (at F v)) (rw (spread_at t F v h) at (has_all eqb eqb-true eqb_self (spread t F) [] v 0 (rw length_spread h)))
    ∙ order t

-- ---- the number of a plot in the infimum tells whether its cell has a plot before it

-- the numbers of the first u plots are those of their classes
number_within : (F G : Column) → length F ≡ length G → (u : ℕ) → u ≤ length F → (v : ℕ) → v < u → at (infimum F G) v ≤ classes (take u (infimum F G))
unfolding classes number
number_within F G l u h v hv =
    let K = infimum F G in
    let long : length K ≡ length F = length_infimum F G l in
    let hu : v < length (take u K) = rw (length-take-le u K (omega arith)) hv in
    let e : at (number (take u K)) v ≡ at K v = ap (λ (c : Column). at c v) (number_take u K ∙ ap (λ (c : Column). take u c) (number_infimum F G l)) ∙ get_or-take u K v 0 hv in
    let q = numbering_at eqb eqb-true eqb_self (take u K) [] v 0 hu in
    let r = has_all eqb eqb-true eqb_self (take u K) [] v 0 hu in
    omega arith

module _ (F G : Column) (l : length F ≡ length G) (u : ℕ) (h : u < length F) where
  after : Next eqb eqb-true eqb_self 0 (infimum F G) u
  after = next eqb eqb-true eqb_self 0 (infimum F G) u (rw (length_infimum F G l) h)

  met_before : (p : Plot u F G (at F u) (at G u)) → at (infimum F G) p.plot ≡ at (infimum F G) u
  met_before p = (infimum_same F G l p.plot u (omega (arith, p.less)) h).1 (p.first, p.second)

  not_before : (Plot u F G (at F u) (at G u) → ⊥) → (v : ℕ) → v < u → at (infimum F G) v ≡ at (infimum F G) u → ⊥
  not_before new v hv e = let s = (infimum_same F G l v u (omega arith) h).0 e in new record { plot = v; less = hv; first = s.0; second = s.1 }

  -- it has: no class more
  pub classes_old : Plot u F G (at F u) (at G u) → classes (take (suc u) (infimum F G)) ≡ classes (take u (infimum F G))
  unfolding classes
  classes_old p = (after.old p.plot p.less (met_before p)).1

  -- it has none: one class more
  pub classes_new : (Plot u F G (at F u) (at G u) → ⊥) → classes (take (suc u) (infimum F G)) ≡ suc (classes (take u (infimum F G)))
  unfolding classes
  classes_new new = (after.new (not_before new)).1

  -- its number is past those before: it has none
  pub number_new : classes (take u (infimum F G)) < at (infimum F G) u → Plot u F G (at F u) (at G u) → ⊥
  number_new k p = let b = number_within F G l u (omega arith) p.plot p.less in let e = met_before p in omega arith

  first_number : (Plot u F G (at F u) (at G u) → ⊥) → at (infimum F G) u ≡ suc (classes (take u (infimum F G)))
  unfolding classes number
  first_number new = ap (λ (c : Column). at c u) (sym (number_infimum F G l)) ∙ (after.new (not_before new)).0

  by_cell : {P : Type 0} → (Plot u F G (at F u) (at G u) → P) → ((Plot u F G (at F u) (at G u) → ⊥) → P) → P
  by_cell {P} old new = go (some u (λ v. same (infimum F G) v u))
    where
      go : Some u (λ v. same (infimum F G) v u) → P
      go (nowhere z) = new (λ p. count_some u _ p.plot p.less (eq-eqb _ _ (met_before p)) z)
      go (somewhere v hv e) = let s = (infimum_same F G l v u (omega arith) h).0 (eqb-true _ _ e) in old record { plot = v; less = hv; first = s.0; second = s.1 }

  -- its number is one of those before: it has
  pub number_old : at (infimum F G) u ≤ classes (take u (infimum F G)) → Plot u F G (at F u) (at G u)
  number_old k = by_cell (λ p. p) (λ new. absurd (omega (arith, k, first_number new)))

  -- as many classes with plot u as without: it has
  pub count_old : classes (take (u + 1) (infimum F G)) ≡ classes (take u (infimum F G)) → Plot u F G (at F u) (at G u)
  count_old e =
      let q = ap (λ (v : ℕ). classes (take v (infimum F G))) (add-one u) in
      by_cell (λ p. p) (λ new. absurd (omega (arith, q, e, classes_new new)))

  -- another number of classes: it has none
  pub count_new : (classes (take (u + 1) (infimum F G)) ≡ classes (take u (infimum F G)) → ⊥) → Plot u F G (at F u) (at G u) → ⊥
  count_new ne p = ne (ap (λ (v : ℕ). classes (take v (infimum F G))) (add-one u) ∙ classes_old p)

  -- its number is the next one, at most
  pub number_next : at (infimum F G) u ≤ suc (classes (take u (infimum F G)))
  number_next = by_cell (λ p. omega (arith, number_within F G l u (omega arith) p.plot p.less, met_before p)) (λ new. omega (arith, first_number new))

-- ---- listing the cells

pub cover_none : (F G : Column) → Cover 0 F G (replicate 240 0) (replicate 240 0) 0
cover_none F G = record {
  x_room = refl;
  y_room = refl;
  few = omega arith;
  total = classes_none;
  cell = λ i h. absurd (not-suc-le-zero h);
  order = λ t. refl;
}

module _ (u : ℕ) (F G X Y : Column) (m : ℕ) (cover : Cover u F G X Y m) (l : length F ≡ length G) (hu : u < length F) where
  -- as many classes after plot u
  grows : (k : ℕ) → classes (take (suc u) (infimum F G)) ≡ k → classes (take (u + 1) (infimum F G)) ≡ k
  grows k e = ap (λ (v : ℕ). classes (take v (infimum F G))) (add-one u) ∙ e

  -- its cell has no plot yet: its labels are put at the end
  pub cover_new : (Plot u F G (at F u) (at G u) → ⊥) → m < 240 → Cover (u + 1) F G (set X m (at F u)) (set Y m (at G u)) (m + 1)
  cover_new new h = record {
    x_room = length-set X m (at F u) ∙ cover.x_room;
    y_room = length-set Y m (at G u) ∙ cover.y_room;
    few = omega (arith, cover.few);
    total = add-one m ∙ ap suc cover.total ∙ sym (grows _ (classes_new F G l u hu new));
    cell = λ i hi. by_cases (eqb i m)
        (λ e. let q : i ≡ m = eqb-true i m e in
        record {
          plot = u;
          less = omega arith;
          first = sym (ap (at (set X m (at F u))) q ∙ same_x);
          second = sym (ap (at (set Y m (at G u))) q ∙ same_y);
          number = first_number F G l u hu new ∙ ap suc (sym (q ∙ cover.total));
        })
        (λ e. let ne : i ≡ m → ⊥ = eqb-false i m e in
        let p = cover.cell i (omega (arith, hi, ne)) in
        record {
          plot = p.plot;
          less = omega (arith, p.less);
          first = p.first ∙ sym (get_or-set_other X m i (at F u) 0 ne);
          second = p.second ∙ sym (get_or-set_other Y m i (at G u) 0 ne);
          number = p.number;
        });
    order = λ t. ap (λ (l : Column). labels eqb [] (spread t l)) (rw add-one (take-suc F u 0 hu)) ∙ order_new (take u F) (take m X) (at F u) cover.order t ∙ sym (ap (λ (l : Column). labels eqb [] (spread t l)) grown);
  }
    where
      same_x : at (set X m (at F u)) m ≡ at F u
      same_x = get_or-set_same X m (at F u) 0 (omega (arith, cover.x_room))

      same_y : at (set Y m (at G u)) m ≡ at G u
      same_y = get_or-set_same Y m (at G u) 0 (omega (arith, cover.y_room))

      grown : take (m + 1) (set X m (at F u)) ≡ take m X ++ (at F u ∷ [])
      grown =
          let l : m < length (set X m (at F u)) = rw (length-set X m (at F u)) (omega (arith, cover.x_room)) in
          rw add-one (take-suc (set X m (at F u)) m 0 l) ∙ ap₂ (λ (a : Column) (x : ℕ). a ++ (x ∷ [])) (take-set-le m X m (at F u) (le_refl m)) same_x

  -- its cell has a plot, so its labels stand there
  pub cover_old : Plot u F G (at F u) (at G u) → Cover (u + 1) F G X Y m
  cover_old met = record {
    x_room = cover.x_room;
    y_room = cover.y_room;
    few = omega (arith, cover.few);
    total = cover.total ∙ sym (grows _ (classes_old F G l u hu met));
    cell = λ i hi. let p = cover.cell i hi in
        record { plot = p.plot; less = omega (arith, p.less); first = p.first; second = p.second; number = p.number };
    order = λ t. ap (λ (l : Column). labels eqb [] (spread t l)) grown ∙ order_old (take u F) (take m X) met.plot (rw long met.less) cover.order t;
  }
    where
      long : length (take u F) ≡ u
      long = length-take-le u F (omega arith)

      grown : take (u + 1) F ≡ take u F ++ (at (take u F) met.plot ∷ [])
      grown = rw add-one (take-suc F u 0 hu) ∙ ap (λ (x : ℕ). take u F ++ (x ∷ [])) (sym (get_or-take u F met.plot 0 met.less ∙ met.first))

-- ---- the list of the cells of all plots

module _ (F G X Y : Column) (m : ℕ) (l : length F ≡ length G) (few : length F ≤ 240) (cover : Cover (length F) F G X Y m) where
  -- there are as many as the infimum has classes
  pub cover_classes : m ≡ classes (infimum F G)
  cover_classes = cover.total ∙ ap classes (rw (← length_infimum F G l) (take-length (infimum F G)))

  long : length (take m X) ≡ m
  long = length-take-le m X (omega (arith, cover.x_room, cover.few))

  -- a plot's cell stands at the place before its number
  place : (u : ℕ) → u < length F → Plot m X Y (at F u) (at G u)
  place u h =
      let I = infimum F G in
      let some : 0 < at I u = subst (λ (c : Column). 0 < at c u) (number_infimum F G l) (number_positive I u (rw (length_infimum F G l) h)) in
      let most : at I u ≤ m = omega (arith, cover.total, number_within F G l (length F) (le_refl _) u h) in
      let i = at I u - 1 in
      let hi : i < m = omega (arith, some, most) in
      let p = cover.cell i hi in
      let e : at I p.plot ≡ at I u = omega (arith, p.number, some) in
      let s = (infimum_same F G l p.plot u p.less h).0 e in
      record { plot = i; less = hi; first = sym p.first ∙ s.0; second = sym p.second ∙ s.1 }

  -- plots with the labels of a listed cell have its number
  number_at : (i u : ℕ) → i < m → u < length F → at F u ≡ at X i → at G u ≡ at Y i → at (infimum F G) u ≡ suc i
  number_at i u hi hu ex ey = let p = cover.cell i hi in (infimum_same F G l u p.plot hu p.less).1 (ex ∙ sym p.first, ey ∙ sym p.second) ∙ p.number

  -- the listed labels, cut off after the last
  pub cover_listed : Listed F G (take m X) (take m Y)
  cover_listed = record {
    few = omega (arith, long, cover.few);
    even = length-take-le m Y (omega (arith, cover.y_room, cover.few)) ∙ sym long;
    stands = record {
      plot = λ i hi. let k : i < m = rw long at hi in
          let p = cover.cell i k in
          record { plot = p.plot; less = p.less; first = p.first ∙ sym (get_or-take m X i 0 k); second = p.second ∙ sym (get_or-take m Y i 0 k) };
      place = λ u hu. let p = place u hu in
          record { plot = p.plot; less = rw long p.less; first = get_or-take m X p.plot 0 p.less ∙ p.first; second = get_or-take m Y p.plot 0 p.less ∙ p.second };
    };
    number = λ i u hi hu ex ey. let k : i < m = rw long at hi in number_at i u k hu (ex ∙ get_or-take m X i 0 k) (ey ∙ get_or-take m Y i 0 k);
    order = λ t. ap (λ (l : Column). labels eqb [] (spread t l)) (sym (take-length F)) ∙ cover.order t;
  }

module _ (F G X Y : Column) (stands : Stands F G X Y) where
  -- they are in the same ranges
  pub listed_below : (top : ℕ) → Below top F → Below top X
  listed_below top below i hi = let p = stands.plot i hi in subst (λ (x : ℕ). x < top) p.first (below p.plot p.less)

  -- every label stands there
  pub stands_among : Among F X
  stands_among u h = let p = stands.place u h in record { at_place = p.plot; less = p.less; label = p.first }
