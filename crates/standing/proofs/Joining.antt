-- Laws of the tables over labels that join classes.
-- Assumes nothing.
use mathlib.Core.Path.{◌≡◌, refl, sym, ap, ap₂, ◌∙◌}
use mathlib.Core.Bool.{true, false}
use mathlib.Core.List.{List, [], ◌∷◌, ◌++◌, map, append-nil}
use Prim.Native.Nat.{ℕ, zero, suc, ◌+◌, ◌≤◌, ◌<◌}
use native.Mathlib.Nat.{not-suc-le-zero, le_of_suc-le-suc}
use native.Mathlib.Omega.{arith}
use lib.Dec.{eqb}
use lib.ListN.{length, get_or, take, drop, set, length-map, replicate, take-append-drop}
use lib.Seq.{get_or-set_same, get_or-set_other, drop-cons, drop-length, take-length, get_or_at, get_or-take, length-take-le, ext_get_or}
use borrow.Author.Tests.{eqb-true, eqb-false, eq-eqb, ne_eqb}
use Rattle.std.proofs.Common.{Option, None, Some}
use Rattle.std.proofs.lemmas.List.{take-map}
use Rattle.rules.specs.Factor.{Column, at, Same, Equivalent, index_of, relabel, number, classes, universal, supremum}
use Rattle.rules.proofs.Numbering.{by_cases, eqb_self, has_get_d, get_d_place, numbering_at, number_same, length_number}
use Rattle.rules.proofs.Supremum.{length_relabel, number_supremum}
use Rattle.rules.proofs.Bounds.{length_supremum', numbered_equal, supremum_left, supremum_right, supremum_least}
use Rattle.rules.proofs.Columns.{classes_equivalent, Earlier}
use Rattle.rules.proofs.Extremes.{number_universal, length_universal}
use Rattle.rules.proofs.ClassCount.{finer_universal, classes_universal}
use Rattle.factor.proofs.Fill.{filled, length_filled, get_d_filled}
use Rattle.standing.specs.Cells.{Stands}
use Rattle.standing.specs.Joining.{Below, Own, OneEntry, OneClass, Links, EntriesJoin, Among, InOrder, LabelsNumbered, relabelled, spread}

-- ---- entries of labels

-- one entry a plot
pub length_spread : (t : List ℕ) (F : Column) → length (spread t F) ≡ length F
unfolding spread
length_spread t F = length-map F (at t)

-- an element of a mapped list
at_map : (f : ℕ → ℕ) (L : Column) (u : ℕ) → u < length L → at (map f L) u ≡ f (at L u)
at_map f [] u h = absurd (not-suc-le-zero h)
at_map f (x ∷ L) zero h = refl
at_map f (x ∷ L) (suc u) h = at_map f L u (le_of_suc-le-suc h)

-- the entry of one plot's label
pub spread_at : (t : List ℕ) (F : Column) (u : ℕ) → u < length F → at (spread t F) u ≡ at t (at F u)
unfolding spread
spread_at t F u h = at_map (at t) F u h

-- ---- relabelling a table

-- the label that x gets where a becomes b
unfoldable rename : ℕ → ℕ → ℕ → ℕ
rename a b x = elim (eqb x a) [ true ↦ b | false ↦ x ]

-- a becomes b
rename_yes : (a b x : ℕ) → x ≡ a → rename a b x ≡ b
unfolding rename
rename_yes a b x e = rw (eq-eqb x a e, rename)

-- every other label stays
rename_no : (a b x : ℕ) → (x ≡ a → ⊥) → rename a b x ≡ x
unfolding rename
rename_no a b x e = rw (ne_eqb x a e, rename)

-- bytes stay bytes
rename_byte : (a b x : ℕ) → b < 256 → x < 256 → rename a b x < 256
rename_byte a b x hb hx =
    by_cases (eqb x a) (λ e. rw (rename_yes a b x (eqb-true x a e)) hb) (λ e. rw (rename_no a b x (eqb-false x a e)) hx)

-- relabelling a list is renaming its elements
relabel_map : (a b : ℕ) (L : Column) → relabel a b L ≡ map (rename a b) L
unfolding relabel
relabel_map a b [] = refl
relabel_map a b (x ∷ L) =
    by_cases (eqb x a)
    (λ e. rw (e, relabel) (ap₂ (λ (y : ℕ) (l : Column). y ∷ l) (sym (rename_yes a b x (eqb-true x a e))) (relabel_map a b L)))
    (λ e. rw (e, relabel) (ap₂ (λ (y : ℕ) (l : Column). y ∷ l) (sym (rename_no a b x (eqb-false x a e))) (relabel_map a b L)))

-- one relabelled element
relabel_at : (a b : ℕ) (L : Column) (u : ℕ) → u < length L → at (relabel a b L) u ≡ rename a b (at L u)
relabel_at a b L u h = rw (relabel_map a b L) (at_map (rename a b) L u h)

-- the next entry of a list that is relabelled from its start
-- a list that is relabelled to its end
pub filled_all : (L r : List ℕ) (i : ℕ) → length r ≡ length L → i ≡ length L → filled L r i ≡ r
filled_all L r i l e =
    rw e (ap₂ (λ (a b : List ℕ). a ++ b) (ap (λ (n : ℕ). take n r) (sym l) ∙ take-length r) (drop-length L) ∙ append-nil r)

module _ (a b : ℕ) (L l : Column) (u : ℕ) (h : u < length L) (e : l ≡ filled L (relabel a b L) u) where
  next_entry : at l u ≡ at L u
  next_entry =
      ap (λ (r : List ℕ). at r u) e ∙ ap (λ (r : List ℕ). at (take u (relabel a b L) ++ r) u) (drop-cons L u 0 h)
      ∙ get_or_at (take u (relabel a b L)) (at L u) (drop (suc u) L) 0 u (length-take-le u (relabel a b L) (rw length_relabel (omega arith)))

  pub next_renamed : at l u ≡ a → b ≡ at (relabel a b L) u
  next_renamed q = sym (relabel_at a b L u h ∙ rename_yes a b (at L u) (sym next_entry ∙ q))

  pub next_kept : (at l u ≡ a → ⊥) → at l u ≡ at (relabel a b L) u
  next_kept ne = next_entry ∙ sym (relabel_at a b L u h ∙ rename_no a b (at L u) (λ q. ne (next_entry ∙ q)))

-- a label that becomes itself
relabel_same : (a : ℕ) (L : Column) → relabel a a L ≡ L
unfolding relabel
relabel_same a [] = refl
relabel_same a (x ∷ L) =
    by_cases (eqb x a)
    (λ e. rw (e, relabel) (ap₂ (λ (y : ℕ) (l : Column). y ∷ l) (sym (eqb-true x a e)) (relabel_same a L)))
    (λ e. rw (e, relabel) (ap (λ (l : Column). x ∷ l) (relabel_same a L)))

module _ (top : ℕ) (t : List ℕ) (h : top ≤ length t) where
  -- nothing is to be done for one label
  pub relabelled_same : (a : ℕ) → relabelled top a a t ≡ t
  unfolding relabelled
  relabelled_same a = ap (λ (l : List ℕ). take top l ++ drop top t) (relabel_same a t) ∙ take-append-drop top t

  -- as many entries
  pub length_relabelled : (a b : ℕ) → length (relabelled top a b t) ≡ length t
  unfolding relabelled
  length_relabelled a b = length_filled t (relabel a b t) top (rw length_relabel h) h

  -- an entry that is relabelled
  relabelled_at : (a b x : ℕ) → x < top → at (relabelled top a b t) x ≡ rename a b (at t x)
  unfolding relabelled
  relabelled_at a b x k = get_d_filled t (relabel a b t) top x 0 k (rw length_relabel h) ∙ relabel_at a b t x (omega arith)

  pub relabelled_byte : (a b x : ℕ) → x < top → b < 256 → at t x < 256 → at (relabelled top a b t) x < 256
  relabelled_byte a b x k hb hx = rw (relabelled_at a b x k) (rename_byte a b (at t x) hb hx)

-- a part of a list that is relabelled
relabel_take : (a b n : ℕ) (L : Column) → relabel a b (take n L) ≡ take n (relabel a b L)
relabel_take a b n L =
    relabel_map a b (take n L) ∙ sym (take-map (rename a b) n L) ∙ sym (ap (take n) (relabel_map a b L))

pub relabelled_part : (top a b : ℕ) (t new : List ℕ) → new ≡ relabel a b (take top t) → new ++ drop top t ≡ relabelled top a b t
unfolding relabelled
relabelled_part top a b t new e = ap (λ (l : List ℕ). l ++ drop top t) (e ∙ relabel_take a b top t)

-- ---- joining along the classes of G

-- a label that may be held, 0 for none
abbrev pub or_none : Option ℕ → ℕ
or_none None = 0
or_none (Some k) = k

-- a table that holds none
get_none : (n y : ℕ) → get_or {A = Option ℕ} (replicate n None) y None ≡ None
get_none zero y = refl
get_none (suc n) zero = refl
get_none (suc n) (suc y) = get_none n y

module _ (F G : Column) where
  -- labels with one entry have one value wherever plots of one G-class have
  abbrev pub Sound : List ℕ → Type 0
  Sound t = (h : ℕ → ℕ) → Links F G h → (u v : ℕ) → u < length F → v < length F → at t (at F u) ≡ at t (at F v) → h (at F u) ≡ h (at F v)

  -- the F-label of a plot of p's G-class is held for that class; its entry is that of p's label
  record Link (u : ℕ) (first : List (Option ℕ)) (t : List ℕ) (p : ℕ) : Type 0 where
    plot : ℕ
    less : plot < u
    shares : Same G plot p
    holds : get_or first (at G p) None ≡ Some (at F plot)
    entry : at t (at F plot) ≡ at t (at F p)

  -- such a label is held for each class with a plot before plot u, and for no other
  pub record Linked (u : ℕ) (first : List (Option ℕ)) (t : List ℕ) : Type 0 where
    known : (p : ℕ) → p < u → Link u first t p
    only : (y x : ℕ) → get_or first y None ≡ Some x → Earlier G u y

  pub linked_none : (t : List ℕ) → Linked 0 (replicate 256 None) t
  linked_none t = record {
    known = λ p h. absurd (not-suc-le-zero h);
    only = λ y x e. absurd (cc (get_none 256 y));
  }

  later : {u y : ℕ} → Earlier G u y → Earlier G (u + 1) y
  later e = record { plot = e.plot; less = omega (arith, e.less); label = e.label }

  last_or_before : (p u : ℕ) → p < u + 1 → (p ≡ u → ⊥) → p < u
  last_or_before p u h ne = omega (arith, ne)

  -- plot u is the first of its class
  pub linked_new : (u : ℕ) (first : List (Option ℕ)) (t : List ℕ) → Linked u first t → get_or first (at G u) None ≡ None → at G u < length first → Linked (u + 1) (set first (at G u) (Some (at F u))) t
  linked_new u first t linked z h = record {
    known = λ p hp. by_cases (eqb p u)
        (λ e. let q : p ≡ u = eqb-true p u e in
        record { plot = u; less = omega arith; shares = ap (at G) (sym q); holds = ap (λ (x : ℕ). get_or (set first (at G u) (Some (at F u))) (at G x) None) q ∙ get_or-set_same first (at G u) (Some (at F u)) None h; entry = ap (λ (x : ℕ). at t (at F x)) (sym q) })
        (λ e. let k = linked.known p (last_or_before p u hp (eqb-false p u e)) in
        let ne : at G p ≡ at G u → ⊥ = λ q. let s : get_or first (at G p) None ≡ None = ap (λ (y : ℕ). get_or first y None) q ∙ z in cc (k.holds) in
        record { plot = k.plot; less = omega (arith, k.less); shares = k.shares; holds = get_or-set_other first (at G u) (at G p) (Some (at F u)) None ne ∙ k.holds; entry = k.entry });
    only = λ y x hy. by_cases (eqb y (at G u))
        (λ e. record { plot = u; less = omega arith; label = sym (eqb-true y (at G u) e) })
        (λ e. later (linked.only y x (sym (get_or-set_other first (at G u) y (Some (at F u)) None (eqb-false y (at G u) e)) ∙ hy)));
  }

  -- a plot of its class was before it
  pub record Met (u : ℕ) (first : List (Option ℕ)) (t : List ℕ) : Type 0 where
    pub plot : ℕ
    pub less : plot < u
    pub shares : Same G plot u
    pub holds : get_or first (at G u) None ≡ Some (at F plot)

  pub met : (u : ℕ) (first : List (Option ℕ)) (t : List ℕ) → Linked u first t → (w : ℕ) → get_or first (at G u) None ≡ Some w → Met u first t
  met u first t linked w held =
      let e = linked.only (at G u) w held in
      let k = linked.known e.plot e.less in
      record { plot = k.plot; less = k.less; shares = k.shares ∙ e.label; holds = ap (λ (y : ℕ). get_or first y None) (sym e.label) ∙ k.holds }

module _ (F G : Column) (l : length G ≡ length F) where
  pub sound_own : (t : List ℕ) → Own F t → Sound F G t
  sound_own t own h links u v hu hv e = ap h (sym (own u hu) ∙ e ∙ own v hv)

  -- the labels of plots i and j get one entry
  module _ (top : ℕ) (t : List ℕ) (h : top ≤ length t) (below : Below top F) (i j : ℕ) (hi : i < length F) (hj : j < length F) where
    abbrev a : ℕ
    a = at t (at F i)

    abbrev b : ℕ
    b = at t (at F j)

    abbrev merged : List ℕ
    merged = relabelled top a b t

    entry_of : (u : ℕ) → u < length F → at merged (at F u) ≡ rename a b (at t (at F u))
    entry_of u hu = relabelled_at top t h a b (at F u) (below u hu)

    -- plots that had one entry keep one
    merge_keeps : (u v : ℕ) → u < length F → v < length F → at t (at F u) ≡ at t (at F v) → at merged (at F u) ≡ at merged (at F v)
    merge_keeps u v hu hv e = entry_of u hu ∙ ap (rename a b) e ∙ sym (entry_of v hv)

    -- the two have one
    merge_links : at merged (at F i) ≡ at merged (at F j)
    merge_links =
        entry_of i hi ∙ rename_yes a b a refl
        ∙ sym (entry_of j hj ∙ by_cases (eqb b a) (λ e. rename_yes a b b (eqb-true b a e)) (λ e. rename_no a b b (eqb-false b a e)))

    -- the new entry of plot u
    data New (u : ℕ) : Type 0 where
      moved : at t (at F u) ≡ a → at merged (at F u) ≡ b → New u
      kept : at merged (at F u) ≡ at t (at F u) → New u

    new : (u : ℕ) → u < length F → New u
    new u hu =
        by_cases (eqb (at t (at F u)) a)
        (λ e. let q : at t (at F u) ≡ a = eqb-true _ _ e in moved q (entry_of u hu ∙ rename_yes a b _ q))
        (λ e. kept (entry_of u hu ∙ rename_no a b _ (eqb-false _ _ e)))

    -- no others have come to have one, if i and j share a class of G
    merge_sound : Sound F G t → Same G i j → Sound F G merged
    merge_sound sound shares val links u v hu hv e = go (new u hu) (new v hv)
      where
        s : val (at F i) ≡ val (at F j)
        s = links i j hi hj shares

        go : New u → New v → val (at F u) ≡ val (at F v)
        go (moved p x) (moved q y) = sound val links u v hu hv (p ∙ sym q)
        go (moved p x) (kept y) = sound val links u i hu hi p ∙ s ∙ sound val links j v hj hv (sym x ∙ e ∙ y)
        go (kept x) (moved q y) = sound val links u j hu hj (sym x ∙ e ∙ y) ∙ sym s ∙ sound val links i v hi hv (sym q)
        go (kept x) (kept y) = sound val links u v hu hv (sym x ∙ e ∙ y)

  -- the labels of the two plots get one entry
  module _ (u : ℕ) (first : List (Option ℕ)) (t : List ℕ) (linked : Linked F G u first t) (sound : Sound F G t) (m : Met F G u first t) (hu : u < length F) (top : ℕ) (h : top ≤ length t) (below : Below top F) where
    before : m.plot < length F
    before = omega (arith, m.less)

    pub linked_old : Linked F G (u + 1) first (relabelled top (at t (at F u)) (at t (at F m.plot)) t)
    linked_old = record {
      known = λ p hp. by_cases (eqb p u)
          (λ e. let q : p ≡ u = eqb-true p u e in
          record { plot = m.plot; less = omega (arith, m.less); shares = m.shares ∙ ap (at G) (sym q); holds = ap (λ (x : ℕ). get_or first (at G x) None) q ∙ m.holds; entry = sym (merge_links top t h below u m.plot hu before) ∙ ap (λ (x : ℕ). at (relabelled top (at t (at F u)) (at t (at F m.plot)) t) (at F x)) (sym q) })
          (λ e. let less-u = last_or_before F G p u hp (eqb-false p u e) in
          let k = linked.known p less-u in
          record { plot = k.plot; less = omega (arith, k.less); shares = k.shares; holds = k.holds; entry = merge_keeps top t h below u m.plot hu before k.plot p (omega (arith, k.less)) (omega (arith, less-u)) k.entry });
      only = λ y x hy. later F G (linked.only y x hy);
    }

    pub sound_old : Sound F G (relabelled top (at t (at F u)) (at t (at F m.plot)) t)
    sound_old = merge_sound top t h below u m.plot hu before sound (sym m.shares)

  -- all plots are linked
  pub joined_all : (first : List (Option ℕ)) (t : List ℕ) → Linked F G (length F) first t → Sound F G t → EntriesJoin F G t
  joined_all first t linked sound = record { links = along; least = sound }
    where
      along : Links F G (at t)
      along u v hu hv e =
          let p = linked.known u hu in
          let q = linked.known v hv in
          let held : Some (at F p.plot) ≡ Some (at F q.plot) = sym p.holds ∙ ap (λ (y : ℕ). get_or first y None) e ∙ q.holds in
          sym p.entry ∙ ap (at t) (ap or_none held) ∙ q.entry

  -- all labels have one entry
  pub joined_one : (top : ℕ) (t : List ℕ) → Below top F → OneEntry top t → Sound F G t → EntriesJoin F G t
  joined_one top t below one sound = record { links = λ u v hu hv e. one (at F u) (at F v) (below u hu) (below v hv); least = sound }

-- the list of the first entries has one value
pub one_value : (top b : ℕ) (t : List ℕ) → top ≤ length t → ((k : ℕ) → k < length (take top t) → at (take top t) k ≡ b) → OneEntry top t
one_value top b t h same x y hx hy = value x hx ∙ sym (value y hy)
  where
    value : (z : ℕ) → z < top → at t z ≡ b
    value z k = sym (get_or-take top t z 0 k) ∙ same z (rw (length-take-le top t h) k)

-- ---- the classes that the entries make

module _ (F G : Column) (l : length G ≡ length F) where
  -- the class of the supremum of the first plot with the label x
  unfoldable class_of : ℕ → ℕ
  unfolding index_of
  class_of x = at (supremum F G) (index_of eqb F x)

  class_of_plot : (u : ℕ) → u < length F → class_of (at F u) ≡ at (supremum F G) u
  unfolding class_of
  class_of_plot u h =
      let k = has_get_d eqb eqb-true eqb_self F u 0 h in
      supremum_left (length F) F G refl l (index_of eqb F (at F u)) u k h (get_d_place eqb eqb-true eqb_self F (at F u) 0 k)

  module _ (X Y t : List ℕ) (listed : Stands F G X Y) (joins : EntriesJoin X Y t) where
    class_links : Links X Y class_of
    class_links i j hi hj e =
        let p = listed.plot i hi in
        let q = listed.plot j hj in
        ap class_of (sym p.first) ∙ class_of_plot p.plot p.less
        ∙ supremum_right (length F) F G refl l p.plot q.plot p.less q.less (p.second ∙ e ∙ sym q.second)
        ∙ sym (class_of_plot q.plot q.less) ∙ ap class_of q.first

    -- joined labels make the classes of the supremum
    pub joins_supremum : Equivalent (length F) (spread t F) (supremum F G)
    joins_supremum = record {
      to = λ u v hu hv e. let p = listed.place u hu in
          let q = listed.place v hv in
          let same : at t (at X p.plot) ≡ at t (at X q.plot) = ap (at t) p.first ∙ sym (spread_at t F u hu) ∙ e ∙ spread_at t F v hv ∙ ap (at t) (sym q.first) in
          sym (class_of_plot u hu) ∙ ap class_of (sym p.first) ∙ joins.least class_of class_links p.plot q.plot p.less q.less same ∙ ap class_of q.first ∙ class_of_plot v hv;
      from = supremum_least (length F) F G refl l (spread t F)
          (λ u v hu hv e. spread_at t F u hu ∙ ap (at t) e ∙ sym (spread_at t F v hv))
          (λ u v hu hv e. let p = listed.place u hu in
          let q = listed.place v hv in
          spread_at t F u hu ∙ ap (at t) (sym p.first) ∙ joins.links p.plot q.plot p.less q.less (p.second ∙ e ∙ sym q.second) ∙ ap (at t) q.first ∙ sym (spread_at t F v hv));
    }

  -- ---- the numbers of the entries

  module _ (t : List ℕ) (e : Equivalent (length F) (spread t F) (supremum F G)) where
    -- numbered, they are the supremum
    pub number_spread : number (spread t F) ≡ supremum F G
    number_spread =
        numbered_equal (length F) (spread t F) (supremum F G) (length_spread t F) (length_supremum' (length F) F G refl l) e
        ∙ number_supremum F G (sym l)

    -- they have its number of classes
    pub classes_spread : classes (spread t F) ≡ classes (supremum F G)
    classes_spread = classes_equivalent (length F) (spread t F) (supremum F G) (length_spread t F) (length_supremum' (length F) F G refl l) e

-- one entry makes one class
pub one_entry : (F : Column) (top : ℕ) (t : List ℕ) → Below top F → OneEntry top t → OneClass t F
one_entry F top t below one u v hu hv = spread_at t F u hu ∙ one (at F u) (at F v) (below u hu) (below v hv) ∙ sym (spread_at t F v hv)

-- one entry of all plots makes one class
module _ (t : List ℕ) (F : Column) (one : OneClass t F) where
  equivalent_one : Equivalent (length F) (spread t F) (universal (length F))
  equivalent_one = record { to = finer_universal (length F) (spread t F); from = λ u v hu hv s. one u v hu hv }

  pub number_one : number (spread t F) ≡ universal (length F)
  number_one = numbered_equal (length F) (spread t F) (universal (length F)) (length_spread t F) (length_universal (length F)) equivalent_one ∙ number_universal (length F)

  pub classes_one : 0 < length F → classes (spread t F) ≡ 1
  classes_one h =
      classes_equivalent (length F) (spread t F) (universal (length F)) (length_spread t F) (length_universal (length F)) equivalent_one
      ∙ classes_universal (length F) h

-- ---- numbers by label

module _ (t : List ℕ) (X : Column) (i : ℕ) (h : i < length X) where
  -- one listed label more
  pub numbered_step : (r : List ℕ) → at X i < length r → LabelsNumbered t X i r → (y : ℕ) → y ≡ at (number (spread t X)) i → LabelsNumbered t X (i + 1) (set r (at X i) y)
  numbered_step r room done y e j hj =
      by_cases (eqb (at X j) (at X i))
      (λ q. let same : at X j ≡ at X i = eqb-true _ _ q in
      let k : j < length (spread t X) = rw length_spread (omega arith) in
      let l : i < length (spread t X) = rw length_spread h in
      ap (at (set r (at X i) y)) same ∙ get_or-set_same r (at X i) y 0 room ∙ e
      ∙ (number_same (spread t X) i j l k).1 (spread_at t X i h ∙ ap (at t) (sym same) ∙ sym (spread_at t X j (omega arith))))
      (λ q. let ne : at X j ≡ at X i → ⊥ = eqb-false _ _ q in
      let other : j ≡ i → ⊥ = λ z. ne (ap (at X) z) in
      get_or-set_other r (at X i) (at X j) y 0 ne ∙ done j (omega (arith, other)))

module _ (t : List ℕ) (F X : Column) (among : Among F X) (order : InOrder F X) where
  -- as many classes
  pub classes_listed : classes (spread t X) ≡ classes (spread t F)
  unfolding classes
  classes_listed = ap length (sym (order t))

  -- the number of each plot's label is the number of the plot
  pub number_listed : (r : List ℕ) → LabelsNumbered t X (length X) r → spread r F ≡ number (spread t F)
  unfolding number
  number_listed r numbers =
      ext_get_or 0 (spread r F) (number (spread t F)) (length_spread r F ∙ sym (length_number (spread t F) ∙ length_spread t F)) (λ u h. here u (rw length_spread at h))
    where
      here : (u : ℕ) → u < length F → at (spread r F) u ≡ at (number (spread t F)) u
      here u h =
          let p = among u h in
          let k : p.at_place < length (spread t X) = rw length_spread p.less in
          let l : u < length (spread t F) = rw length_spread h in
          spread_at r F u h ∙ ap (at r) (sym p.label) ∙ numbers p.at_place p.less
          ∙ numbering_at eqb eqb-true eqb_self (spread t X) [] p.at_place 0 k
          ∙ ap₂ (λ (s : List ℕ) (y : ℕ). suc (index_of eqb s y)) (sym (order t)) (spread_at t X p.at_place p.less ∙ ap (at t) p.label ∙ sym (spread_at t F u h))
          ∙ sym (numbering_at eqb eqb-true eqb_self (spread t F) [] u 0 l)
