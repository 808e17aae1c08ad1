-- Laws of crossing plot with treatment members: suprema added to a store in any order, and the table of their places.
-- Assumes nothing.
use mathlib.Core.Path.{◌≡◌, refl, sym, ap, ap₂, ◌∙◌, subst}
use mathlib.Core.Logic.{◌⊎◌, inl, inr}
use mathlib.Core.Bool.{Bool, true, false}
use mathlib.Core.List.Memᴰ
use mathlib.Core.List.{List, [], ◌∷◌, ◌++◌, append-nil}
use Rattle.std.proofs.Common.{Option, Some, None}
use Prim.Native.Nat.{ℕ, zero, suc, ◌+◌, ◌*◌, ◌≤◌, ◌<◌}
use native.Mathlib.Nat.{le_trans, add_comm, one-mul}
use native.Mathlib.Numerals.{add-one}
use native.Mathlib.Omega.{arith}
use lib.Dec.{eqb}
use lib.ListN.{length, get_or, set, drop, replicate, length-set, length-replicate, length-append, drop_of_length-le}
use lib.Seq.{drop-cons, get_or-set_same, get_or-set_other}
use borrow.Author.Tests.{eqb-true, eqb-false}
use Rattle.rules.specs.Factor.{Column, Finer, number, supremum, orthogonal}
use Rattle.rules.specs.Lists.{bit_at}
use Rattle.rules.specs.Family.{Family, ◌∈◌, members_of}
use Rattle.rules.specs.Closing.{only_supremum, products_of, products}
use Rattle.rules.proofs.Numbering.{by_cases}
use Rattle.rules.proofs.Bounds.{supremum_left}
use Rattle.rules.proofs.Between.{between_supremum, between_test, between_supremum_right, between_test_right}
use Rattle.rules.proofs.Buffer.{length_members, member_is}
use Rattle.rules.specs.Relation.{member_at}
use Rattle.design.specs.State.{column_at, Held, PlacedMember, old, new, grown_to, Begun}
use Rattle.design.specs.Treatments.{orthogonal_at}
use Rattle.design.specs.Crossing.{FinerBits, Placing, exceeded, begun, Growing, Grown, Adds, Stands, Join, place_in, places_in, entry_at, Joins, Tested, Chosen}
use Rattle.factor.proofs.Lent.{length_part}
use Rattle.design.proofs.Placing.{placed_old, no_room, grown_old}
use Rattle.design.proofs.Suprema.{insert_all_more, begun_placed, over_placed, placing_over, placing_begun}
use Rattle.design.proofs.Work.{member_column, size_members, Stood, stood, column_kept}

-- ---- the order of columns that are placed does not matter

pub placing_same : {n : ℕ} {As Bs : List Column} {store counts : List ℕ} {r : ℕ} {over : Bool} → length As ≡ length Bs → ((G : Column) → G ∈ As → G ∈ Bs) → ((G : Column) → G ∈ Bs → G ∈ As) → Placing n As store counts r over → Placing n Bs store counts r over
placing_same {As = As} {Bs = Bs} l f g (exceeded e h) = exceeded e (le_trans h (insert_all_more As Bs f))
placing_same l f g (begun e b) = begun e record {
  held = b.held;
  most = rw (← l) b.most;
  distinct = b.distinct;
  numbered = b.numbered;
  only = λ F m. f F (b.only F m);
  given = λ F m. b.given F (g F m);
}

-- a column before the last ones
placing_before : {n : ℕ} {store counts : List ℕ} {r : ℕ} {over : Bool} (As Bs : List Column) (F : Column) → Placing n ((As ++ Bs) ++ F ∷ []) store counts r over → Placing n (As ++ F ∷ Bs) store counts r over
placing_before As Bs F = placing_same lengths (λ G m. to G (Memᴰ.append_cases (As ++ Bs) m)) (λ G m. from G (Memᴰ.append_cases As m))
  where
    lengths : length ((As ++ Bs) ++ F ∷ []) ≡ length (As ++ F ∷ Bs)
    lengths = omega (arith, length-append (As ++ Bs) (F ∷ []), length-append As Bs, length-append As (F ∷ Bs))

    either : (G : Column) → (G ∈ As) ⊎ (G ∈ Bs) → G ∈ As ++ F ∷ Bs
    either G (inl m) = Memᴰ.append_left _ m
    either G (inr m) = Memᴰ.append_right As (Memᴰ.tail m)

    to : (G : Column) → (G ∈ As ++ Bs) ⊎ (G ∈ F ∷ []) → G ∈ As ++ F ∷ Bs
    to G (inl m) = either G (Memᴰ.append_cases As m)
    to G (inr m) = Memᴰ.append_right As (Memᴰ.head (Memᴰ.eq_of_singleton m))

    later : (G : Column) → (G ≡ F) ⊎ (G ∈ Bs) → G ∈ (As ++ Bs) ++ F ∷ []
    later G (inl e) = Memᴰ.append_right (As ++ Bs) (Memᴰ.head e)
    later G (inr m) = Memᴰ.append_left _ (Memᴰ.append_right As m)

    from : (G : Column) → (G ∈ As) ⊎ (G ∈ F ∷ Bs) → G ∈ (As ++ Bs) ++ F ∷ []
    from G (inl m) = Memᴰ.append_left _ (Memᴰ.append_left _ m)
    from G (inr m) = later G (Memᴰ.cases_cons m)

-- the last ones before the others
placing_flip : {n : ℕ} {store counts : List ℕ} {r : ℕ} {over : Bool} (As Bs : List Column) → Placing n (As ++ Bs) store counts r over → Placing n (Bs ++ As) store counts r over
placing_flip As Bs = placing_same (omega (arith, length-append As Bs, length-append Bs As)) (λ G m. turn As Bs G (Memᴰ.append_cases As m)) (λ G m. turn Bs As G (Memᴰ.append_cases Bs m))
  where
    turn : (As Bs : List Column) (G : Column) → (G ∈ As) ⊎ (G ∈ Bs) → G ∈ Bs ++ As
    turn As Bs G (inl m) = Memᴰ.append_right Bs m
    turn As Bs G (inr m) = Memᴰ.append_left _ m

-- ---- suprema row by row, from the last members on

module _ (n : ℕ) (small : n ≤ 240) (b : List ℕ) (size : ℕ) where
  -- the members from place j on
  abbrev pub members_from : ℕ → Family
  members_from j = drop j (members_of n b size)

  none_left : members_from size ≡ []
  none_left =
      let h : length (members_of n b size) ≤ size = omega (arith, length_members n small b size) in
      drop_of_length-le (members_of n b size) h

  one_left : (j : ℕ) → j < size → members_from j ≡ column_at n b j ∷ members_from (j + 1)
  one_left j h =
      drop-cons (members_of n b size) j [] (rw (length_members n small b size) h)
      ∙ ap₂ (λ (F : Column) (S : Family). F ∷ S) (member_is n small b size j h) (ap (λ (k : ℕ). drop k (members_of n b size)) (sym (add-one j)))

  module _ (As : List Column) (F : Column) where
    -- what there is once the suprema of F with the members from place j on are placed after As
    abbrev pub row_from : ℕ → List Column
    row_from j = As ++ products_of only_supremum F (members_from j)

    pub row_none : row_from size ≡ As
    unfolding products_of
    row_none = rw none_left (append-nil As)

    -- a supremum more
    pub row_more : (j : ℕ) → j < size → {store counts : List ℕ} {r : ℕ} {over : Bool} → Placing n (row_from (j + 1) ++ supremum F (column_at n b j) ∷ []) store counts r over → Placing n (row_from j) store counts r over
    unfolding products_of only_supremum
    row_more j h {store} {counts} {r} {over} p =
        subst (λ (S : Family). Placing n (As ++ products_of only_supremum F S) store counts r over) (sym (one_left j h)) (placing_before As (products_of only_supremum F (members_from (j + 1))) (supremum F (column_at n b j)) p)

  module _ (S : Family) where
    -- the suprema of the members from place i on with those of S
    abbrev pub rows_from : ℕ → List Column
    rows_from i = products only_supremum (members_from i) S

    pub rows_none : rows_from size ≡ []
    unfolding products
    rows_none = rw none_left

    -- a row more
    pub rows_more : (i : ℕ) → i < size → {store counts : List ℕ} {r : ℕ} {over : Bool} → Placing n (rows_from (i + 1) ++ products_of only_supremum (column_at n b i) S) store counts r over → Placing n (rows_from i) store counts r over
    unfolding products
    rows_more i h {store} {counts} {r} {over} p =
        subst (λ (P : Family). Placing n (products only_supremum P S) store counts r over) (sym (one_left i h)) (placing_flip (rows_from (i + 1)) (products_of only_supremum (column_at n b i) S) p)

-- ---- a column added

-- what is not true is false
untrue : (b : Bool) → (b ≡ true → ⊥) → b ≡ false
untrue true d = absurd (d refl)
untrue false d = refl

-- there are too many already
over_adds : (n : ℕ) (store counts : List ℕ) (size : ℕ) (over : Bool) (F : Column) (after counts' : List ℕ) (size' : ℕ) (over' : Bool) → over ≡ true → over' ≡ true → Adds n store counts size over F after counts' size' over'
over_adds n store counts size over F after counts' size' over' e e' As p = exceeded e' (le_trans (placing_over n As store counts size over e p) (insert_all_more As (As ++ F ∷ []) (λ G m. Memᴰ.append_left _ m)))

module _ {n : ℕ} {store counts : List ℕ} {size : ℕ} {over : Bool} (g : Growing n store counts size over) {F : Column} (numbered : number F ≡ F) where
  module _ (less : size < 32) {p : ℕ} {after counts' : List ℕ} (w : PlacedMember n (members_of n store size) F p after counts') where
    -- it has a place
    pub room_place : p < 32
    room_place = go w
      where
        go : PlacedMember n (members_of n store size) F p after counts' → p < 32
        go (old l m k e) = omega (arith, size_members g.held, g.held.few)
        go (new e l m k q) = l

    stands : Stood n (members_of n store size) F p after counts' (grown_to size p)
    stands = stood size (size_members g.held) w

    -- there were not too many
    within : over ≡ true → ⊥
    within e = omega (arith, g.full e)

    pub room_growing : Growing n after counts' (grown_to size p) over
    room_growing = record { held = stands.held; full = λ e. absurd (within e) }

    pub room_grown : Grown n store size after (grown_to size p)
    room_grown = record { more = omega (arith, stands.more, size_members g.held); keeps = λ k h. column_kept g.held stands k h }

    pub room_stands : Stands n F after (grown_to size p) (Some p)
    room_stands q e = let h : p ≡ q = cc in subst (λ (k : ℕ). (k < grown_to size p) × (column_at n after k ≡ F)) h (stands.here, sym (member_column stands.held p stands.here) ∙ stands.is)

    pub room_adds : Adds n store counts size over F after counts' (grown_to size p) over
    room_adds As q =
        let z : over ≡ false = untrue over within in
        begun z (begun_placed n store counts size g.held F p after counts' As (placing_begun n As store counts size over z q) numbered w)

  module _ (length-is : length F ≡ n) (most : 32 ≤ size) where
    all : size ≡ 32
    all = omega (arith, g.held.few)

    held_all : Held n store counts 32
    held_all = subst (Held n store counts) all g.held

    -- the members, where they are not too many
    as_placed : (As : List Column) → over ≡ false → Placing n As store counts size over → Begun n As store counts 32
    as_placed As z q = subst (Begun n As store counts) all (placing_begun n As store counts size over z q)

    -- it is new, and there is no room
    module _ (fresh : F ∈ members_of n store 32 → ⊥) where
      pub full_growing : Growing n store counts size true
      full_growing = record { held = g.held; full = λ z. all }

      pub full_adds : Adds n store counts size over F store counts size true
      full_adds As q = by_cases over
          (λ h. over_adds n store counts size over F store counts size true h refl As q)
          (λ h. exceeded refl (over_placed n store counts 32 held_all F 32 store counts As (as_placed As h q) (no_room n store counts 32 held_all F length-is refl fresh)))

    -- it is there
    module _ {p : ℕ} (d : p < 32) (is : member_at (members_of n store 32) p ≡ F) where
      there : Stood n (members_of n store 32) F p store counts (grown_to 32 p)
      there = stood 32 (size_members held_all) (placed_old n store counts 32 held_all F length-is p d is)

      same_size : grown_to 32 p ≡ 32
      same_size = grown_old 32 p (λ z. omega arith)

      pub old_stands : Stands n F store size (Some p)
      old_stands q e = let h : p ≡ q = cc in subst (λ (k : ℕ). (k < size) × (column_at n store k ≡ F)) h (omega (arith, d, all), sym (member_column there.held p there.here) ∙ there.is)

      pub old_adds : Adds n store counts size over F store counts size over
      old_adds As q = by_cases over
          (λ h. over_adds n store counts size over F store counts size over h h As q)
          (λ h. begun h (subst (Begun n (As ++ F ∷ []) store counts) (same_size ∙ sym all) (begun_placed n store counts 32 held_all F p store counts As (as_placed As h q) numbered (placed_old n store counts 32 held_all F length-is p d is))))

-- a place in the store is small
pub stands_few : {n : ℕ} {store counts : List ℕ} {size : ℕ} {over : Bool} {F : Column} {place : Option ℕ} → Growing n store counts size over → Stands n F store size place → (q : ℕ) → place ≡ Some q → q < 32
stands_few g s q e = omega (arith, (s q e).0, g.held.few)

-- as it was
pub grown_same : (n : ℕ) (store : List ℕ) (size : ℕ) → Grown n store size store size
grown_same n store size = record { more = omega arith; keeps = λ k h. refl }

-- ---- the same of a column as it is lent

module _ {n : ℕ} {X F : Column} (e : X ≡ F) (l : length F ≡ n) where
  length_lent : length X ≡ n
  length_lent = ap length e ∙ l

  pub growing_on : {store counts : List ℕ} {size : ℕ} {over : Bool} → Growing n store counts size over → Growing (length X) store counts size over
  growing_on {store} {counts} {size} {over} g = subst (λ (k : ℕ). Growing k store counts size over) (sym length_lent) g

  pub growing_off : {store counts : List ℕ} {size : ℕ} {over : Bool} → Growing (length X) store counts size over → Growing n store counts size over
  growing_off {store} {counts} {size} {over} g = subst (λ (k : ℕ). Growing k store counts size over) length_lent g

  pub grown_off : {store after : List ℕ} {size size' : ℕ} → Grown (length X) store size after size' → Grown n store size after size'
  grown_off {store} {after} {size} {size'} g = subst (λ (k : ℕ). Grown k store size after size') length_lent g

  pub stands_off : (store : List ℕ) (size : ℕ) (place : Option ℕ) → Stands (length X) X store size place → Stands n F store size place
  stands_off store size place s = subst (λ (k : ℕ). Stands k F store size place) length_lent (subst (λ (Y : Column). Stands (length X) Y store size place) e s)

  pub adds_off : (store counts : List ℕ) (size : ℕ) (over : Bool) (after counts' : List ℕ) (size' : ℕ) (over' : Bool) → Adds (length X) store counts size over X after counts' size' over' → Adds n store counts size over F after counts' size' over'
  adds_off store counts size over after counts' size' over' s = subst (λ (k : ℕ). Adds k store counts size over F after counts' size' over') length_lent (subst (λ (Y : Column). Adds (length X) store counts size over Y after counts' size' over') e s)

-- ---- the table

-- the place in an entry that is one more
pub place_more : (q : ℕ) → place_in (q + 1) ≡ Some q
place_more q = rw add-one

-- the places in entries that are 0
pub places_none : (m : ℕ) → places_in (replicate m 0) ≡ replicate m None
places_none zero = refl
places_none (suc m) = ap (λ (l : List (Option ℕ)). None ∷ l) (places_none m)

-- nothing yet
none_at : (m k : ℕ) → get_or (replicate {A = Option ℕ} m None) k None ≡ None
none_at zero k = refl
none_at (suc m) zero = refl
none_at (suc m) (suc k) = none_at m k

pub joins_none : (n : ℕ) (plot first store : List ℕ) (size : ℕ) → Joins n plot first store size (replicate 1024 None)
joins_none n plot first store size = record { cells = length-replicate {A = Option ℕ} 1024 None; sound = λ i j q hi hj e. absurd (let w : Some q ≡ None = sym e ∙ none_at 1024 (32 * i + j) in cc) }

pub joins_begun : (n : ℕ) (plot first store : List ℕ) (size : ℕ) → Joins n plot first store size (places_in (replicate 1024 0))
joins_begun n plot first store size = subst (Joins n plot first store size) (sym (places_none 1024)) (joins_none n plot first store size)

-- what the table tells of a pair, and a pair that is not orthogonal of itself
pub joins_tested : (n : ℕ) (plot first store : List ℕ) (size : ℕ) (joins : List (Option ℕ)) → Joins n plot first store size joins → (a b : ℕ) → orthogonal_at n plot first a b ≡ false → (i j : ℕ) → i < 32 → j < 32 → Tested n plot first joins a b i j
joins_tested n plot first store size joins t a b f i j hi hj = record {
  joined = λ q e. (t.sound i j q hi hj e).test;
  apart = λ p q. rw (p, q) f;
}

module _ {n : ℕ} {plot first : List ℕ} where
  -- what it has stays true when the store grows
  pub joins_kept : {store after : List ℕ} {joins : List (Option ℕ)} {size r : ℕ} → Grown n store size after r → Joins n plot first store size joins → Joins n plot first after r joins
  joins_kept g t = record {
    cells = t.cells;
    sound = λ i j q hi hj e. let w = t.sound i j q hi hj e in record { less = omega (arith, w.less, g.more); is = g.keeps q w.less ∙ w.is; test = w.test };
  }

  -- a pair more, whose supremum has a place or not
  pub joins_more : {store : List ℕ} {joins : List (Option ℕ)} {size : ℕ} (i j : ℕ) (place : Option ℕ) → i < 32 → j < 32 → ((q : ℕ) → place ≡ Some q → Join n (column_at n plot i) (column_at n first j) store size q) → Joins n plot first store size joins → Joins n plot first store size (set joins (32 * i + j) place)
  joins_more {store} {joins} {size} i j place hi hj w t = record {
    cells = length-set joins (32 * i + j) place ∙ t.cells;
    sound = λ a b p ha hb e. by_cases (eqb (32 * a + b) (32 * i + j))
        (λ s. here a b p (eqb-true (32 * a + b) (32 * i + j) s) hb e)
        (λ s. t.sound a b p ha hb (sym (get_or-set_other joins (32 * i + j) (32 * a + b) place None (eqb-false (32 * a + b) (32 * i + j) s)) ∙ e));
  }
    where
      here : (a b p : ℕ) → 32 * a + b ≡ 32 * i + j → b < 32 → get_or (set joins (32 * i + j) place) (32 * a + b) None ≡ Some p → Join n (column_at n plot a) (column_at n first b) store size p
      here a b p s hb e =
          let ea : a ≡ i = omega arith in
          let eb : b ≡ j = omega arith in
          let v : get_or (set joins (32 * i + j) place) (32 * a + b) None ≡ place = rw s (get_or-set_same joins (32 * i + j) place None (omega (arith, t.cells))) in
          rw (ea, eb) (w p (sym v ∙ e))

  -- a pair whose supremum is added
  pub joins_entered : {store after : List ℕ} {joins : List (Option ℕ)} {size r : ℕ} (i j : ℕ) (place : Option ℕ) → i < 32 → j < 32 → Grown n store size after r → Stands n (supremum (column_at n plot i) (column_at n first j)) after r place
      → orthogonal n (column_at n plot i) (column_at n first j) ≡ true → Joins n plot first store size joins → Joins n plot first after r (set joins (32 * i + j) place)
  joins_entered i j place hi hj g s o t = joins_more i j place hi hj (λ q e. let w = s q e in record { less = w.0; is = w.1; test = o }) (joins_kept g t)

-- ---- what follows from the table

module _ {n : ℕ} {store : List ℕ} {size q : ℕ} {F G : Column} (l_f : length F ≡ n) (l_g : length G ≡ n) where
  -- a factor is finer than its suprema
  pub join_above : Join n F G store size q → Finer n F (column_at n store q)
  join_above w = subst (Finer n F) (sym w.is) (supremum_left n F G l_f l_g)

  -- from a finer plot member
  pub join_plot : (F' : Column) → length F' ≡ n → Finer n F' F → Finer n F (column_at n store q) → Join n F' G store size q → Join n F G store size q
  join_plot F' lF' f u w =
      let v : Finer n F (supremum F' G) = subst (Finer n F) w.is u in
      record { less = w.less; is = w.is ∙ sym (between_supremum n F' F G lF' l_f l_g f v); test = between_test n F' F G lF' l_f l_g f v w.test }

  -- from a finer treatment member
  pub join_treatment : (G' : Column) → length G' ≡ n → Finer n G' G → Finer n G (column_at n store q) → Join n F G' store size q → Join n F G store size q
  join_treatment G' lG' f u w =
      let v : Finer n G (supremum F G') = subst (Finer n G) w.is u in
      record { less = w.less; is = w.is ∙ sym (between_supremum_right n F G' G l_f lG' l_g f v); test = between_test_right n F G' G l_f lG' l_g f v w.test }

-- the supremum is there already
pub joined_adds : {n : ℕ} {store counts : List ℕ} {size : ℕ} {over : Bool} → Growing n store counts size over → (F G : Column) (q : ℕ) → number (supremum F G) ≡ supremum F G → Join n F G store size q → Adds n store counts size over (supremum F G) store counts size over
joined_adds {n} {store} {counts} {size} {over} g F G q numbered w As p = by_cases over
    (λ h. over_adds n store counts size over (supremum F G) store counts size over h h As p)
    (λ h.
    let held = g.held in
    let m : q < length (members_of n store size) = rw (size_members held) w.less in
    let there : PlacedMember n (members_of n store size) (supremum F G) q store counts = old m (member_column held q w.less ∙ w.is) (rw (size_members held) held) (ap (members_of n store) (size_members held)) in
    let same : grown_to size q ≡ size = grown_old size q (λ z. omega (arith, w.less)) in
    begun h (subst (Begun n (As ++ supremum F G ∷ []) store counts) same (begun_placed n store counts size held (supremum F G) q store counts As (placing_begun n As store counts size over h p) numbered there)))

-- ---- entries of finer members

-- a member is on n plots
length_at : (n k : ℕ) (family : List ℕ) → n ≤ 240 → 7680 ≤ length family → k < 32 → length (column_at n family k) ≡ n
length_at n k family small room h = length_part n k family (omega arith)

-- the entries of a treatment member, and those of a plot member
at_plot : (joins : List (Option ℕ)) (j k : ℕ) → get_or joins (j + 32 * k) None ≡ entry_at joins k j
at_plot joins j k = ap (λ (c : ℕ). get_or joins c None) (add_comm j (32 * k))

at_first : (joins : List (Option ℕ)) (i k : ℕ) → get_or joins (32 * i + 1 * k) None ≡ entry_at joins i k
at_first joins i k = ap (λ (c : ℕ). get_or joins (32 * i + c) None) (one-mul k)

module _ {n : ℕ} {plot first store : List ℕ} {size : ℕ} {joins : List (Option ℕ)} (small : n ≤ 240) (room-plot : 7680 ≤ length plot) (room-first : 7680 ≤ length first) (few : size ≤ 32) (t : Joins n plot first store size joins) (i j word : ℕ) (hi : i < 32) (hj : j < 32) where
  module _ (b : FinerBits n plot word i) where
    -- the entries of finer plot members
    pub plot_entries : (k : ℕ) → bit_at word k ≡ true → (j + 32 * k < 1024) × ((q : ℕ) → get_or joins (j + 32 * k) None ≡ Some q → q < 32)
    plot_entries k e =
        let h : k < 32 = (b k e).0 in
        (omega arith, λ q f. omega (arith, (t.sound k j q h hj (sym (at_plot joins j k) ∙ f)).less))

    module _ (q : ℕ) (w : Chosen joins j 32 word q) where
      pub plot_less : q < size
      plot_less = (t.sound w.bit j q (b w.bit w.marked).0 hj (sym (at_plot joins j w.bit) ∙ w.entry)).less

      -- where plot member i is finer than the supremum, it is its own
      pub plot_follows : Finer n (column_at n plot i) (column_at n store q) → Join n (column_at n plot i) (column_at n first j) store size q
      plot_follows f =
          let k = w.bit in
          let h : k < 32 = (b k w.marked).0 in
          join_plot (length_at n i plot small room-plot hi) (length_at n j first small room-first hj) (column_at n plot k) (length_at n k plot small room-plot h) (b k w.marked).1 f (t.sound k j q h hj (sym (at_plot joins j k) ∙ w.entry))

  module _ (b : FinerBits n first word j) where
    -- the entries of finer treatment members
    pub first_entries : (k : ℕ) → bit_at word k ≡ true → (32 * i + 1 * k < 1024) × ((q : ℕ) → get_or joins (32 * i + 1 * k) None ≡ Some q → q < 32)
    first_entries k e =
        let h : k < 32 = (b k e).0 in
        (omega arith, λ q f. omega (arith, (t.sound i k q hi h (sym (at_first joins i k) ∙ f)).less))

    module _ (q : ℕ) (w : Chosen joins (32 * i) 1 word q) where
      joined : Join n (column_at n plot i) (column_at n first w.bit) store size q
      joined = t.sound i w.bit q hi (b w.bit w.marked).0 (sym (at_first joins i w.bit) ∙ w.entry)

      pub first_less : q < size
      first_less = joined.less

      -- plot member i is finer than the supremum
      pub first_above : Finer n (column_at n plot i) (column_at n store q)
      first_above = join_above (length_at n i plot small room-plot hi) (length_at n w.bit first small room-first (b w.bit w.marked).0) joined

      -- where treatment member j is finer than the supremum, it is its own
      pub first_follows : Finer n (column_at n first j) (column_at n store q) → Join n (column_at n plot i) (column_at n first j) store size q
      first_follows f =
          let k = w.bit in
          let h : k < 32 = (b k w.marked).0 in
          join_treatment (length_at n i plot small room-plot hi) (length_at n j first small room-first hj) (column_at n first k) (length_at n k first small room-first h) (b k w.marked).1 f joined
