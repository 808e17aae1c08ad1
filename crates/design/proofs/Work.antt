-- Laws of closing under way: a column that is placed, a pair that is combined, a row that is done, and the whole.
-- Assumes nothing.
use mathlib.Core.Path.{◌≡◌, refl, sym, ap, ap₂, ◌∙◌, subst}
use Rattle.std.specs.Prelude.{Option}
use mathlib.Core.Logic.{◌⊎◌, inl, inr, ⊎_elim}
use mathlib.Core.Bool.{Bool, true, false, not}
use mathlib.Core.List.Memᴰ
use mathlib.Core.List.{List, [], ◌∷◌, ◌++◌}
use Prim.Native.Nat.{ℕ, suc, ◌+◌, ◌*◌, ◌≤◌, ◌<◌}
use native.Mathlib.Nat.{not-suc-le-zero, add-zero, mul_comm}
use native.Mathlib.Numerals.{add-one}
use native.Mathlib.Omega.{arith}
use lib.Dec.{eqb, ltb}
use lib.ListN.{length, get_or, set, take, length-set, length-append, get_or-append}
use lib.Seq.{get_or-append-add, get_or-set_same, get_or-set_other, take-suc}
use borrow.Author.Tests.{ltb-true, ltb-false, eq-eqb, ne_eqb}
use Rattle.rules.specs.Factor.{Column, Finer, finer, number, classes, infimum, supremum, orthogonal}
use Rattle.rules.specs.Family.{Family, ◌∈◌, members_of, insert_all}
use Rattle.rules.specs.Closing.{both, only_supremum, Made, given, made, too_many, family, close}
use Rattle.rules.specs.Relation.{member_at}
use Rattle.rules.proofs.Numbering.{by_cases, number_infimum}
use Rattle.rules.proofs.Supremum.{number_supremum}
use Rattle.rules.proofs.Bounds.{infimum_comm, supremum_comm, infimum_self, supremum_self}
use Rattle.rules.proofs.Orthogonality.{by_counts}
use Rattle.rules.proofs.Between.{between_supremum_right, between_test_right}
use Rattle.rules.proofs.Buffer.{member_is, length_members}
use Rattle.rules.proofs.WorkList.{PlaceOf, place_of, member_in, Found, found_more, found_over, Combined, combined_none, combined_more, combined_step, combined_row, combined_close}
use Rattle.design.proofs.Common.{column_length}
use Rattle.design.proofs.Extremes.{finer_infimum, finer_supremum, coarser_infimum, coarser_supremum, finer_orthogonal, coarser_orthogonal}
use Rattle.design.proofs.Placing.{grown_new, grown_old}
use Rattle.design.specs.State.{column_at, Held, PlacedMember, old, new, NoRoom, grown_to, Begun, make_of, pair_mark, marked_row, entry_of, Joins, Work, Follows, follows, Stepped, ClosedOrMore, whole, more}

-- ---- members by their places

module _ {n : ℕ} {store counts : List ℕ} {size : ℕ} (held : Held n store counts size) where
  -- how many members there are
  pub size_members : length (members_of n store size) ≡ size
  size_members = length_members n held.most store size

  -- a member is the column at its place
  pub member_column : (i : ℕ) → i < size → member_at (members_of n store size) i ≡ column_at n store i
  member_column i h = member_is n held.most store size i h

  -- the column at a member's place has n plots
  pub held_length : (i : ℕ) → i < size → length (column_at n store i) ≡ n
  held_length i h = column_length n store i held.most held.room (omega (arith, held.few))

  -- each member is a column of n plots
  pub member_length : (F : Column) → F ∈ members_of n store size → length F ≡ n
  member_length F m = go (place_of (members_of n store size) F m)
    where
      go : PlaceOf (members_of n store size) F → length F ≡ n
      go p =
          let l : p.place < size = omega (arith, size_members) in
          ap length (sym p.is ∙ member_column p.place l) ∙ held_length p.place l

  -- the column at a member's place is a member
  pub column_in_lem : (i : ℕ) → i < size → column_at n store i ∈ members_of n store size
  column_in_lem i h = subst (λ (F : Column). F ∈ members_of n store size) (member_column i h) (member_in (members_of n store size) i (omega (arith, size_members)))

  -- one member more
  pub members_more : (i : ℕ) → i < size → take (i + 1) (members_of n store size) ≡ take i (members_of n store size) ++ column_at n store i ∷ []
  members_more i l =
      ap (λ (k : ℕ). take k (members_of n store size)) (add-one i)
      ∙ take-suc (members_of n store size) i [] (rw size_members l)
      ∙ ap (λ (F : Column). take i (members_of n store size) ++ F ∷ []) (member_column i l)

-- ---- a column that is placed

-- The column F stands at place r of the members in the store, which are S, or S and F.
pub record Stood (n : ℕ) (S : Family) (F : Column) (r : ℕ) (store counts : List ℕ) (size : ℕ) : Type 0 where
  pub held : Held n store counts size
  pub more : length S ≤ size
  pub here : r < size
  pub is : member_at (members_of n store size) r ≡ F
  pub keeps : (k : ℕ) → k < length S → member_at (members_of n store size) k ≡ member_at S k
  pub members : (members_of n store size ≡ S) ⊎ ((members_of n store size ≡ S ++ F ∷ []) × (F ∈ S → ⊥))

-- the last of a list
last_is : (S : Family) (F : Column) → member_at (S ++ F ∷ []) (length S) ≡ F
last_is S F = ap (member_at (S ++ F ∷ [])) (sym (add-zero (length S))) ∙ get_or-append-add S (F ∷ []) 0 []

-- what placing leaves
pub stood : {n : ℕ} {S : Family} {F : Column} {r : ℕ} {store counts : List ℕ} (size : ℕ) → length S ≡ size → PlacedMember n S F r store counts → Stood n S F r store counts (grown_to size r)
stood {n} {S} {F} {r} {store} {counts} size e (old h is held same) = subst (Stood n S F r store counts) (sym g) record {
  held = held;
  more = omega arith;
  here = h;
  is = rw same is;
  keeps = λ k l. ap (λ (T : Family). member_at T k) same;
  members = inl same;
}
  where
    g : grown_to size r ≡ length S
    g = grown_old size r (λ q. omega arith) ∙ sym e
stood {n} {S} {F} {r} {store} {counts} size e (new q h f held same) = subst (Stood n S F r store counts) (sym g) record {
  held = held;
  more = omega arith;
  here = omega arith;
  is = rw same (ap (member_at (S ++ F ∷ [])) q ∙ last_is S F);
  keeps = λ k l. ap (λ (T : Family). member_at T k) same ∙ get_or-append S (F ∷ []) [] k l;
  members = inr (same, f);
}
  where
    g : grown_to size r ≡ suc r
    g = grown_new size r (q ∙ e) ∙ omega arith

-- the same size by another name
pub stood_as : {n : ℕ} {S : Family} {F : Column} {r : ℕ} {store counts : List ℕ} {size size' : ℕ} → size' ≡ size → Stood n S F r store counts size → Stood n S F r store counts size'
stood_as {n} {S} {F} {r} {store} {counts} e s = subst (Stood n S F r store counts) (sym e) s

-- the columns of before stay in the store
pub column_kept : {n : ℕ} {F : Column} {r : ℕ} {store counts store' counts' : List ℕ} {size size' : ℕ} → Held n store counts size → Stood n (members_of n store size) F r store' counts' size' → (k : ℕ) → k < size → column_at n store' k ≡ column_at n store k
column_kept held s k h = sym (member_column s.held k (omega (arith, s.more, size_members held))) ∙ s.keeps k (omega (arith, size_members held)) ∙ member_column held k h

-- ---- the work on the members of a family

-- the pair b, a has its mark
abbrev Marked : ℕ → Bool → Family → List ℕ → ℕ → ℕ → Type 0
Marked n infima S marks b a = marked_row marks b a ≡ pair_mark infima n (member_at S b) (member_at S a)

-- the facts of the work, whatever store the members S are in
pub record Going (n : ℕ) (infima : Bool) (Gs : List Column) (S : Family) (marks : List ℕ) (i j : ℕ) : Type 0 where
  pub cells : length marks ≡ 1024
  pub numbered : (F : Column) → F ∈ S → number F ≡ F
  pub found : Found (make_of infima) Gs S
  pub given : (G : Column) → G ∈ Gs → G ∈ S
  pub combined : Combined (make_of infima) Gs S i j
  pub rows : (b a : ℕ) → a < b → b < i → Marked n infima S marks b a
  pub row : (a : ℕ) → a < j → Marked n infima S marks i a
  pub joins : (a : ℕ) → a < j → Joins S i a (get_or marks (32 * i + a) 0)

-- the work without its store
going : {n : ℕ} {infima : Bool} {Gs : List Column} {store counts marks : List ℕ} {size i j : ℕ} → Work n infima Gs store counts marks size i j → Going n infima Gs (members_of n store size) marks i j
going w = record { cells = w.cells; numbered = w.numbered; found = w.found; given = w.given; combined = w.combined; rows = w.rows; row = w.row; joins = w.joins }

-- the work in a store that holds the members
work : {n : ℕ} {infima : Bool} {Gs : List Column} {store counts marks : List ℕ} {size i j : ℕ} → Held n store counts size → Going n infima Gs (members_of n store size) marks i j → Work n infima Gs store counts marks size i j
work h g = record { held = h; cells = g.cells; numbered = g.numbered; found = g.found; given = g.given; combined = g.combined; rows = g.rows; row = g.row; joins = g.joins }

-- a member found on the way
going_more : (n : ℕ) (infima : Bool) (Gs : List Column) (S : Family) (F : Column) (marks : List ℕ) (i j : ℕ) → i < length S → j ≤ i → Made (make_of infima) Gs F → number F ≡ F → (F ∈ S → ⊥) → Going n infima Gs S marks i j → Going n infima Gs (S ++ F ∷ []) marks i j
going_more n infima Gs S F marks i j hi hj p e f g = record {
  cells = g.cells;
  numbered = λ G m. fresh G (Memᴰ.append_cases S m);
  found = found_more (make_of infima) Gs S F g.found p f;
  given = λ G m. Memᴰ.append_left _ (g.given G m);
  combined = combined_more (make_of infima) Gs S F i j hi hj g.combined;
  rows = λ b a ab bi. kept b a (omega arith) (omega arith) (g.rows b a ab bi);
  row = λ a aj. kept i a hi (omega arith) (g.row a aj);
  joins = λ a aj q e. joined a (omega arith) q (g.joins a aj q e);
}
  where
    fresh : (G : Column) → (G ∈ S) ⊎ (G ∈ F ∷ []) → number G ≡ G
    fresh G (inl m) = g.numbered G m
    fresh G (inr m) = let q = Memᴰ.eq_of_singleton m in ap number q ∙ e ∙ sym q

    same : (k : ℕ) → k < length S → member_at (S ++ F ∷ []) k ≡ member_at S k
    same k h = get_or-append S (F ∷ []) [] k h

    kept : (b a : ℕ) → b < length S → a < length S → Marked n infima S marks b a → Marked n infima (S ++ F ∷ []) marks b a
    kept b a hb ha m = m ∙ sym (ap₂ (pair_mark infima n) (same b hb) (same a ha))

    joined : (a : ℕ) → a < length S → (q : ℕ) → (q < length S) × (member_at S q ≡ supremum (member_at S i) (member_at S a))
        → (q < length (S ++ F ∷ [])) × (member_at (S ++ F ∷ []) q ≡ supremum (member_at (S ++ F ∷ []) i) (member_at (S ++ F ∷ []) a))
    joined a ha q k = (omega (arith, length-append S (F ∷ [])), same q k.0 ∙ k.1 ∙ sym (ap₂ supremum (same i hi) (same a ha)))

-- the pair i, j has its mark: what the table has elsewhere is as it was
going_step : (n : ℕ) (infima : Bool) (Gs : List Column) (S : Family) (marks : List ℕ) (i j mark : ℕ) → i < 32 → j < i → ((H : Column) → H ∈ make_of infima (member_at S i) (member_at S j) → H ∈ S)
    → not (eqb mark 0) ≡ pair_mark infima n (member_at S i) (member_at S j) → Joins S i j mark → Going n infima Gs S marks i j → Going n infima Gs S (set marks (32 * i + j) mark) i (suc j)
going_step n infima Gs S marks i j mark hi hj all e k g = record {
  cells = length-set marks (32 * i + j) mark ∙ g.cells;
  numbered = g.numbered;
  found = g.found;
  given = g.given;
  combined = combined_step (make_of infima) Gs S i j g.combined all;
  rows = λ b a ab bi. elsewhere b a (λ q. omega arith) (g.rows b a ab bi);
  row = λ a h. by_cases (ltb a j) (λ e. let l : a < j = ltb-true a j e in elsewhere i a (λ q. omega arith) (g.row a l)) (λ e. let q : a ≡ j = omega (arith, ltb-false a j e) in rw q here);
  joins = λ a h. by_cases (ltb a j) (λ e. let l : a < j = ltb-true a j e in rw (get_or-set_other marks (32 * i + j) (32 * i + a) mark 0 (λ q. omega arith)) (g.joins a l)) (λ e. let q : a ≡ j = omega (arith, ltb-false a j e) in rw (q, stored) k);
}
  where
    stored : get_or (set marks (32 * i + j) mark) (32 * i + j) 0 ≡ mark
    stored = get_or-set_same marks (32 * i + j) mark 0 (omega (arith, g.cells))

    elsewhere : (b a : ℕ) → (32 * b + a ≡ 32 * i + j → ⊥) → Marked n infima S marks b a → Marked n infima S (set marks (32 * i + j) mark) b a
    elsewhere b a d m = ap (λ (k : ℕ). not (eqb k 0)) (get_or-set_other marks (32 * i + j) (32 * b + a) mark 0 d) ∙ m

    here : Marked n infima S (set marks (32 * i + j) mark) i j
    here = ap (λ (k : ℕ). not (eqb k 0)) stored ∙ e

-- a row is done
going_row : (n : ℕ) (infima : Bool) (Gs : List Column) (S : Family) (marks : List ℕ) (i : ℕ) → Going n infima Gs S marks i i → Going n infima Gs S marks (suc i) 0
going_row n infima Gs S marks i g = record {
  cells = g.cells;
  numbered = g.numbered;
  found = g.found;
  given = g.given;
  combined = combined_row (make_of infima) Gs S i g.combined;
  rows = λ b a ab h. by_cases (ltb b i) (λ e. g.rows b a ab (ltb-true b i e)) (λ e. last b a ab h (ltb-false b i e));
  row = λ a h. absurd (not-suc-le-zero h);
  joins = λ a h. absurd (not-suc-le-zero h);
}
  where
    last : (b a : ℕ) → a < b → b < suc i → i ≤ b → Marked n infima S marks b a
    last b a ab h k = let q : b ≡ i = omega arith in rw q (g.row a (omega arith))

-- ---- what two members make

-- the supremum is made in both cases
supremum_in : (infima : Bool) (F G : Column) → supremum F G ∈ make_of infima F G
unfolding both only_supremum
supremum_in true F G = Memᴰ.tail (Memᴰ.head refl)
supremum_in false F G = Memᴰ.head refl

-- the infimum is made where infima are asked for
infimum_in : (F G : Column) → infimum F G ∈ both F G
unfolding both
infimum_in F G = Memᴰ.head refl

-- the member at place p is what the operation makes of the members at places i and j
pub record PairAt (op : Column → Column → Column) (S : Family) (i j p : ℕ) : Type 0 where
  pub less : p < length S
  pub is : member_at S p ≡ op (member_at S i) (member_at S j)

-- what it makes is among the members
at_in : {op : Column → Column → Column} {S : Family} {i j p : ℕ} {H : Column} → PairAt op S i j p → H ≡ op (member_at S i) (member_at S j) → H ∈ S
at_in {S = S} {p = p} a e = subst (λ (F : Column). F ∈ S) (a.is ∙ sym e) (member_in S p a.less)

-- what a pair whose infimum and supremum have places makes is among the members
makes_both : (infima : Bool) {S : Family} {i j p q : ℕ} → PairAt infimum S i j p → PairAt supremum S i j q → (H : Column) → H ∈ make_of infima (member_at S i) (member_at S j) → H ∈ S
unfolding both only_supremum
makes_both true a b H m = ⊎_elim (λ e. at_in a e) (λ k. at_in b (Memᴰ.eq_of_singleton k)) (Memᴰ.cases_cons m)
makes_both false a b H m = at_in b (Memᴰ.eq_of_singleton m)

-- under supremum alone its place is enough
makes_join : {S : Family} {i j q : ℕ} → PairAt supremum S i j q → (H : Column) → H ∈ only_supremum (member_at S i) (member_at S j) → H ∈ S
unfolding only_supremum
makes_join b H m = at_in b (Memᴰ.eq_of_singleton m)

-- the order of the two does not matter
makes_flip : (infima : Bool) (n : ℕ) (F G : Column) → length F ≡ n → length G ≡ n → make_of infima F G ≡ make_of infima G F
unfolding both only_supremum
makes_flip true n F G l_f l_g = ap₂ (λ (A B : Column). A ∷ B ∷ []) (infimum_comm n F G l_f l_g) (supremum_comm n F G l_f l_g)
makes_flip false n F G l_f l_g = ap (λ (A : Column). A ∷ []) (supremum_comm n F G l_f l_g)

-- a member makes only itself with itself
makes_self : (infima : Bool) (n : ℕ) (F H : Column) → length F ≡ n → number F ≡ F → H ∈ make_of infima F F → H ≡ F
unfolding both only_supremum
makes_self true n F H l_f e m = ⊎_elim (λ q. q ∙ infimum_self n F l_f ∙ e) (λ k. Memᴰ.eq_of_singleton k ∙ supremum_self n F l_f ∙ e) (Memᴰ.cases_cons m)
makes_self false n F H l_f e m = Memᴰ.eq_of_singleton m ∙ supremum_self n F l_f ∙ e

-- ---- the work in a store

-- the members make themselves
pub work_self : {n : ℕ} {infima : Bool} {Gs : List Column} {store counts marks : List ℕ} {size i j : ℕ} → Work n infima Gs store counts marks size i j → Work n infima (members_of n store size) store counts marks size i j
work_self w = record {
  held = w.held;
  cells = w.cells;
  numbered = w.numbered;
  found = record { distinct = w.found.distinct; only = λ G m. given m };
  given = λ G m. m;
  combined = record { rows = w.combined.rows; row = w.combined.row };
  rows = w.rows;
  row = w.row;
  joins = w.joins;
}

-- before the first pair
pub work_begun : {n : ℕ} (infima : Bool) {Gs : List Column} {store counts marks : List ℕ} {size : ℕ} → Begun n Gs store counts size → length marks ≡ 1024 → Work n infima Gs store counts marks size 0 0
work_begun {n} infima {Gs} {store} {size = size} b l = record {
  held = b.held;
  cells = l;
  numbered = b.numbered;
  found = record { distinct = b.distinct; only = λ F m. given (b.only F m) };
  given = b.given;
  combined = combined_none (make_of infima) Gs (members_of n store size);
  rows = λ i a ai h. absurd (not-suc-le-zero h);
  row = λ a h. absurd (not-suc-le-zero h);
  joins = λ a h. absurd (not-suc-le-zero h);
}

module _ {n : ℕ} {infima : Bool} {Gs : List Column} {store counts marks : List ℕ} {size i j : ℕ} (w : Work n infima Gs store counts marks size i j) where
  -- the members
  abbrev S : Family
  S = members_of n store size

  -- a column of the smallest set is placed
  work_place : i < size → j ≤ i → {F : Column} {r : ℕ} {store' counts' : List ℕ} {size' : ℕ} → Made (make_of infima) Gs F → number F ≡ F → Stood n S F r store' counts' size' → Work n infima Gs store' counts' marks size' i j
  work_place hi hj {F} p e s =
      let l : i < length S = omega (arith, size_members w.held) in
      work s.held (⊎_elim
      (λ q. subst (λ (T : Family). Going n infima Gs T marks i j) (sym q) (going w))
      (λ q. subst (λ (T : Family). Going n infima Gs T marks i j) (sym q.0) (going_more n infima Gs S F marks i j l hj p e q.1 (going w)))
      s.members)

  -- it is new, and there is no room
  work_over : {F : Column} {store' counts' : List ℕ} → Made (make_of infima) Gs F → NoRoom n S F store' counts' → close (make_of infima) Gs ≡ too_many
  work_over {F} p r = found_over (make_of infima) Gs S w.found F p r.fresh (omega (arith, r.full))

  module _ (hi : i < size) (hj : j < i) where
    -- the two members of the pair
    abbrev A : Column
    A = column_at n store i

    abbrev B : Column
    B = column_at n store j

    -- both members are columns of n plots
    l_a : length A ≡ n
    l_a = held_length w.held i hi

    l_b : length B ≡ n
    l_b = held_length w.held j (omega arith)

    -- both members are in the smallest set
    m_a : Made (make_of infima) Gs A
    m_a = w.found.only A (column_in_lem w.held i hi)

    m_b : Made (make_of infima) Gs B
    m_b = w.found.only B (column_in_lem w.held j (omega arith))

    -- so is their supremum
    made_supremum : Made (make_of infima) Gs (supremum A B)
    made_supremum = made m_a m_b (supremum_in infima A B)

    -- the supremum of the pair is placed
    pub work_supremum : {r : ℕ} {store' counts' : List ℕ} {size' : ℕ} → Stood n S (supremum A B) r store' counts' size' → Work n infima Gs store' counts' marks size' i j
    work_supremum s = work_place hi (omega arith) made_supremum (number_supremum A B (l_a ∙ sym l_b)) s

    -- there is no room for the supremum
    pub over_supremum : {store' counts' : List ℕ} → NoRoom n S (supremum A B) store' counts' → close (make_of infima) Gs ≡ too_many
    over_supremum r = work_over made_supremum r

    -- the pair has its mark
    work_step : (mark : ℕ) → ((H : Column) → H ∈ make_of infima (member_at S i) (member_at S j) → H ∈ S) → not (eqb mark 0) ≡ pair_mark infima n (member_at S i) (member_at S j) → Joins S i j mark → Work n infima Gs store counts (set marks (32 * i + j) mark) size i (j + 1)
    work_step mark all e k = rw add-one (work w.held (going_step n infima Gs S marks i j mark (omega (arith, w.held.few)) hj all e k (going w)))

    -- both members are where they are read
    at_i : member_at S i ≡ A
    at_i = member_column w.held i hi

    at_j : member_at S j ≡ B
    at_j = member_column w.held j (omega arith)

    -- both members are numbered
    n_a : number A ≡ A
    n_a = w.numbered A (column_in_lem w.held i hi)

    n_b : number B ≡ B
    n_b = w.numbered B (column_in_lem w.held j (omega arith))

    -- of two members, one finer than the other, the infimum is the finer and the supremum the coarser
    nested_left : finer n A B ≡ true → (member_at S i ≡ infimum (member_at S i) (member_at S j)) × (member_at S j ≡ supremum (member_at S i) (member_at S j))
    nested_left e = rw (at_i, at_j) (sym (finer_infimum n A B l_a l_b e n_a), sym (finer_supremum n A B l_a l_b e n_b))

    -- the other way round
    nested_right : finer n B A ≡ true → (member_at S j ≡ infimum (member_at S i) (member_at S j)) × (member_at S i ≡ supremum (member_at S i) (member_at S j))
    nested_right e = rw (at_i, at_j) (sym (coarser_infimum n B A l_b l_a e n_b), sym (coarser_supremum n B A l_b l_a e n_a))

module _ {n : ℕ} {Gs : List Column} {store counts marks : List ℕ} {size i j : ℕ} (w : Work n true Gs store counts marks size i j) (hi : i < size) (hj : j < i) where
  -- the infimum of the pair is in the smallest set
  made_infimum : Made both Gs (infimum (column_at n store i) (column_at n store j))
  made_infimum = made (m_a w hi hj) (m_b w hi hj) (infimum_in (column_at n store i) (column_at n store j))

  -- the infimum of the pair is placed
  pub work_infimum : {r : ℕ} {store' counts' : List ℕ} {size' : ℕ} → Stood n (members_of n store size) (infimum (column_at n store i) (column_at n store j)) r store' counts' size' → Work n true Gs store' counts' marks size' i j
  work_infimum s = work_place w hi (omega arith) made_infimum (number_infimum (column_at n store i) (column_at n store j) (l_a w hi hj ∙ sym (l_b w hi hj))) s

  -- there is no room for the infimum
  pub over_infimum : {store' counts' : List ℕ} → NoRoom n (members_of n store size) (infimum (column_at n store i) (column_at n store j)) store' counts' → close both Gs ≡ too_many
  over_infimum r = work_over w made_infimum r

-- the same pair by other names
pub work_at : {n : ℕ} {infima : Bool} {Gs : List Column} {store counts marks : List ℕ} {size i j i' j' : ℕ} → i ≡ i' → j ≡ j' → Work n infima Gs store counts marks size i j → Work n infima Gs store counts marks size i' j'
work_at {n} {infima} {Gs} {store} {counts} {marks} {size} {j = j} {i' = i'} e f w =
    subst (λ (k : ℕ). Work n infima Gs store counts marks size i' k) f (subst (λ (k : ℕ). Work n infima Gs store counts marks size k j) e w)

-- a row is done
pub work_row : {n : ℕ} {infima : Bool} {Gs : List Column} {store counts marks : List ℕ} {size i : ℕ} → Work n infima Gs store counts marks size i i → Work n infima Gs store counts marks size (i + 1) 0
work_row {n} {infima} {Gs} {store} {counts} {marks} {size} {i} w = rw add-one (work w.held (going_row n infima Gs (members_of n store size) marks i (going w)))

-- all rows are done: the members in order are the closed family
pub work_done : {n : ℕ} {infima : Bool} {Gs : List Column} {store counts marks : List ℕ} {size : ℕ} → Work n infima Gs store counts marks size size 0 → close (make_of infima) Gs ≡ family (insert_all (members_of n store size) [])
work_done {n} {infima} {Gs} {store} {counts} {marks} {size} w =
    combined_close (make_of infima) Gs (members_of n store size) w.found w.given
    (subst (λ (k : ℕ). Combined (make_of infima) Gs (members_of n store size) k 0) (sym (size_members w.held)) w.combined)
    (λ F G f g. makes_flip infima n F G (member_length w.held F f) (member_length w.held G g))
    (λ F H f m. subst (λ (K : Column). K ∈ members_of n store size) (sym (makes_self infima n F H (member_length w.held F f) (w.numbered F f) m)) f)
    (omega (arith, size_members w.held, w.held.few))

-- ---- the places of a pair

-- a member where it stands once a column is placed
pub kept_at : {n : ℕ} {F : Column} {r : ℕ} {store counts store' counts' : List ℕ} {size size' : ℕ} → Held n store counts size → Stood n (members_of n store size) F r store' counts' size' → (k : ℕ) → k < size → member_at (members_of n store' size') k ≡ column_at n store k
kept_at held s k h = s.keeps k (omega (arith, size_members held)) ∙ member_column held k h

-- it has just been placed
pub pair_here : {op : Column → Column → Column} {n : ℕ} {store counts : List ℕ} {size i j r : ℕ} {store' counts' : List ℕ} {size' : ℕ} → Held n store counts size → i < size → j < size
    → Stood n (members_of n store size) (op (column_at n store i) (column_at n store j)) r store' counts' size' → PairAt op (members_of n store' size') i j r
pair_here {op} {i = i} {j = j} held hi hj s = record { less = omega (arith, size_members s.held, s.here); is = s.is ∙ sym (ap₂ op (kept_at held s i hi) (kept_at held s j hj)) }

-- another column has been placed
pub pair_keeps : {op : Column → Column → Column} {n : ℕ} {S : Family} {F : Column} {i j p r : ℕ} {store counts : List ℕ} {size : ℕ} → i < length S → j < length S → Stood n S F r store counts size → PairAt op S i j p → PairAt op (members_of n store size) i j p
pair_keeps {op} {i = i} {j = j} {p = p} hi hj s a = record {
  less = omega (arith, size_members s.held, s.more, a.less);
  is = s.keeps p a.less ∙ a.is ∙ sym (ap₂ op (s.keeps i hi) (s.keeps j hj));
}

-- an entry is not 0 where the pair has the mark
entry_marked : (q : ℕ) → not (eqb (suc q) 0) ≡ true
entry_marked q = ap not (ne_eqb (suc q) 0 (λ e. omega arith))

entry_mark : (mark : Bool) (q : ℕ) → not (eqb (entry_of mark q) 0) ≡ mark
entry_mark true q = entry_marked q
entry_mark false q = refl

-- and then has the place of the supremum
entry_joins : {S : Family} {i j q : ℕ} (mark : Bool) → PairAt supremum S i j q → Joins S i j (entry_of mark q)
entry_joins {S} {i} {j} {q} true a k e = let l : q ≡ k = omega arith in rw (← l) (a.less, a.is)
entry_joins false a k e = absurd (omega arith)

-- the entry of the pair, whose infimum and supremum have places, is stored
pub work_both : {n : ℕ} {infima : Bool} {Gs : List Column} {store counts marks : List ℕ} {size i j p q : ℕ} (mark : Bool) → i < size → j < i
    → PairAt infimum (members_of n store size) i j p → PairAt supremum (members_of n store size) i j q → mark ≡ pair_mark infima n (member_at (members_of n store size) i) (member_at (members_of n store size) j)
    → Work n infima Gs store counts marks size i j → Work n infima Gs store counts (set marks (32 * i + j) (entry_of mark q)) size i (j + 1)
work_both {infima = infima} {q = q} mark hi hj a b e w = work_step w hi hj (entry_of mark q) (makes_both infima a b) (entry_mark mark q ∙ e) (entry_joins mark b)

-- the same where no infima are asked for
pub work_join : {n : ℕ} {Gs : List Column} {store counts marks : List ℕ} {size i j q : ℕ} (mark : Bool) → i < size → j < i → PairAt supremum (members_of n store size) i j q → mark ≡ orthogonal n (member_at (members_of n store size) i) (member_at (members_of n store size) j)
    → Work n false Gs store counts marks size i j → Work n false Gs store counts (set marks (32 * i + j) (entry_of mark q)) size i (j + 1)
work_join {q = q} mark hi hj b e w = work_step w hi hj (entry_of mark q) (makes_join b) (entry_mark mark q ∙ e) (entry_joins mark b)

-- the products of the numbers of classes of two factors, one finer than the other, and of their infimum and supremum
counts_left : {F G : Column} → F ≡ infimum F G → G ≡ supremum F G → by_counts F G ≡ true
counts_left {F} {G} e f = eq-eqb _ _ (ap₂ ◌*◌ (ap classes (sym e)) (ap classes (sym f)))

counts_right : {F G : Column} → G ≡ infimum F G → F ≡ supremum F G → by_counts F G ≡ true
counts_right {F} {G} e f = eq-eqb _ _ (ap₂ ◌*◌ (ap classes (sym e)) (ap classes (sym f)) ∙ mul_comm (classes G) (classes F))

-- two members, one finer than the other, have the mark
module _ {n : ℕ} {infima : Bool} {Gs : List Column} {store counts marks : List ℕ} {size i j : ℕ} (w : Work n infima Gs store counts marks size i j) (hi : i < size) (hj : j < i) where
  -- a place within the size is a member's
  here : (k : ℕ) → k < size → k < length (members_of n store size)
  here k h = omega (arith, size_members w.held)

  -- the first is the finer
  pub work_left : finer n (column_at n store i) (column_at n store j) ≡ true → Work n infima Gs store counts (set marks (32 * i + j) (entry_of true j)) size i (j + 1)
  work_left e =
      let f = nested_left w hi hj e in
      work_both true hi hj record { less = here i hi; is = f.0 } record { less = here j (omega arith); is = f.1 } (mark infima) w
    where
      mark : (t : Bool) → true ≡ pair_mark t n (member_at (members_of n store size) i) (member_at (members_of n store size) j)
      mark true = let f = nested_left w hi hj e in sym (counts_left f.0 f.1)
      mark false = rw (at_i w hi hj, at_j w hi hj) (sym (finer_orthogonal n (column_at n store i) (column_at n store j) (l_a w hi hj) (l_b w hi hj) e))

  -- the second is the finer
  pub work_right : finer n (column_at n store j) (column_at n store i) ≡ true → Work n infima Gs store counts (set marks (32 * i + j) (entry_of true i)) size i (j + 1)
  work_right e =
      let f = nested_right w hi hj e in
      work_both true hi hj record { less = here j (omega arith); is = f.0 } record { less = here i hi; is = f.1 } (mark infima) w
    where
      mark : (t : Bool) → true ≡ pair_mark t n (member_at (members_of n store size) i) (member_at (members_of n store size) j)
      mark true = let f = nested_right w hi hj e in sym (counts_right f.0 f.1)
      mark false = rw (at_i w hi hj, at_j w hi hj) (sym (coarser_orthogonal n (column_at n store j) (column_at n store i) (l_b w hi hj) (l_a w hi hj) e))

-- ---- a pair whose supremum follows

module _ {n : ℕ} {Gs : List Column} {store counts marks : List ℕ} {size i j : ℕ} (w : Work n false Gs store counts marks size i j) (hi : i < size) (hj : j < i) where
  -- member y is finer than j, and the supremum q of i and y is coarser: it is that of i and j too, and these are orthogonal if i and y are
  work_between : (y q : ℕ) → y < j → get_or marks (32 * i + y) 0 ≡ suc q → q < size → Finer n (column_at n store y) (column_at n store j) → Finer n (column_at n store j) (column_at n store q)
      → Work n false Gs store counts (set marks (32 * i + j) (suc q)) size i (j + 1)
  work_between y q hy e hq fine below = work_join {q = q} true hi hj record { less = omega (arith, size_members w.held); is = here_q ∙ sym (rw (at_i w hi hj, at_j w hi hj) high) } (sym (rw (at_i w hi hj, at_j w hi hj) right)) w
    where
      Y : Column
      Y = column_at n store y

      l_y : length Y ≡ n
      l_y = held_length w.held y (omega arith)

      at_y : member_at (members_of n store size) y ≡ Y
      at_y = member_column w.held y (omega arith)

      here_q : member_at (members_of n store size) q ≡ column_at n store q
      here_q = member_column w.held q hq

      -- the supremum of i and y
      old : supremum (A w hi hj) Y ≡ column_at n store q
      old = sym (ap₂ supremum (at_i w hi hj) at_y) ∙ sym (w.joins y hy q e).1 ∙ here_q

      under : Finer n (B w hi hj) (supremum (A w hi hj) Y)
      under = subst (Finer n (B w hi hj)) (sym old) below

      -- it is that of i and j
      high : supremum (A w hi hj) (B w hi hj) ≡ column_at n store q
      high = between_supremum_right n (A w hi hj) Y (B w hi hj) (l_a w hi hj) l_y (l_b w hi hj) fine under ∙ old

      -- i and y are orthogonal
      apart : orthogonal n (A w hi hj) Y ≡ true
      apart = sym (ap₂ (orthogonal n) (at_i w hi hj) at_y) ∙ sym (w.row y hy) ∙ ap (λ (k : ℕ). not (eqb k 0)) e ∙ entry_marked q

      -- so are i and j
      right : orthogonal n (A w hi hj) (B w hi hj) ≡ true
      right = between_test_right n (A w hi hj) Y (B w hi hj) (l_a w hi hj) l_y (l_b w hi hj) fine under apart

  -- where it follows, its entry is stored
  pub work_follows : (r : ℕ) → Follows n store marks size i j r → Work n false Gs store counts (set marks (32 * i + j) r) size i (j + 1)
  work_follows r (follows y q hy e f hq fine below) = rw f (work_between y q hy (sym e ∙ f) hq fine below)

-- ---- what a step answers

-- a step where infima are asked for, or are not
pub step_as : {n : ℕ} {infima t : Bool} {Gs : List Column} {store counts marks : List ℕ} {size i j : ℕ} (store' counts' marks' : List ℕ) (r : Option ℕ) (i' j' : ℕ) → infima ≡ t
    → (Work n t Gs store counts marks size i j → Stepped n t Gs store' counts' marks' r i' j') → Work n infima Gs store counts marks size i j → Stepped n infima Gs store' counts' marks' r i' j'
step_as {n} {Gs = Gs} {store} {counts} {marks} {size} {i} {j} store' counts' marks' r i' j' e f =
    subst (λ (t : Bool). Work n t Gs store counts marks size i j → Stepped n t Gs store' counts' marks' r i' j') (sym e) f

-- no member is new, so all pairs are combined
pub grows_whole : {n : ℕ} {Gs : List Column} {store counts marks : List ℕ} {size r : ℕ} → r ≡ size → ClosedOrMore n Gs store counts marks size r → Work n false Gs store counts marks r r 0
grows_whole e (whole q w) = w
grows_whole e (more f i j w) = absurd (f e)

-- the members are begun with by themselves, are made of the columns, and have them
pub record MadeOf (n : ℕ) (Gs : List Column) (store counts marks : List ℕ) (r : ℕ) : Type 0 where
  pub cells : length marks ≡ 1024
  pub begun : Begun n (members_of n store r) store counts r
  pub only : (F : Column) → F ∈ members_of n store r → Made only_supremum Gs F
  pub given : (G : Column) → G ∈ Gs → G ∈ members_of n store r

work_own : {n : ℕ} {Gs : List Column} {store counts marks : List ℕ} {size i j : ℕ} → Work n false Gs store counts marks size i j → MadeOf n Gs store counts marks size
work_own w = record {
  cells = w.cells;
  begun = record { held = w.held; most = omega (arith, size_members w.held); distinct = w.found.distinct; numbered = w.numbered; only = λ F m. m; given = λ F m. m };
  only = w.found.only;
  given = w.given;
}

pub grows_own : {n : ℕ} {Gs : List Column} {store counts marks : List ℕ} {size r : ℕ} → ClosedOrMore n Gs store counts marks size r → MadeOf n Gs store counts marks r
grows_own (whole q w) = work_own w
grows_own (more f i j w) = work_own w
