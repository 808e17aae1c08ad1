-- Laws of the suprema of plot and treatment members: lent members, the suprema row by row, and more of them than a family may have.
-- Assumes nothing.
use mathlib.Core.Path.{◌≡◌, sym, ap, ap₂, ◌∙◌}
use mathlib.Core.Logic.{◌⊎◌, inl, inr}
use mathlib.Core.Bool.{Bool, true, false}
use mathlib.Core.List.Memᴰ
use mathlib.Core.List.{List, [], ◌∷◌, ◌++◌}
use Prim.Native.Nat.{ℕ, suc, ◌+◌, ◌*◌, ◌≤◌, ◌<◌}
use native.Mathlib.Omega.{arith}
use lib.Dec.{eqb}
use lib.ListN.{length, get_or, take, length-append}
use lib.Seq.{take_at}
use borrow.Author.Tests.{eqb-true}
use Rattle.rules.specs.Factor.{Column, number, classes, supremum, finer, orthogonal}
use Rattle.rules.specs.Family.{Family, ◌∈◌, empty, members_of, insert_all}
use Rattle.rules.specs.Closing.{only_supremum, products, final_treatment_family}
use Rattle.rules.specs.Relation.{member_at}
use Rattle.rules.proofs.Buffer.{length_members}
use Rattle.rules.proofs.ClassCount.{classes_most}
use Rattle.rules.proofs.Closing.{pigeonhole, ascending_distinct}
use Rattle.rules.proofs.Members.{clash, insert_all_has, insert_all_only, ascending_insert_all, ascending_unique}
use Rattle.rules.proofs.Supremum.{length_supremum}
use Rattle.rules.proofs.WorkList.{member_in, distinct_more, length_sorted}
use Rattle.factor.specs.Lent.{on_common, overlay}
use Rattle.factor.proofs.Lent.{common_all, length_part}
use Rattle.design.specs.State.{column_at, Held, PlacedMember, old, new, NoRoom, grown_to, Begun, Sorted}
use Rattle.design.specs.Treatments.{known_finer, Member}
use Rattle.design.specs.Crossing.{Placing, exceeded, begun}
use Rattle.design.proofs.Extremes.{one_class_coarsest, all_classes_finest, finer_supremum, finer_orthogonal, coarser_supremum, coarser_orthogonal}
use Rattle.design.proofs.KnownOrder.{or_cases}
use Rattle.design.proofs.Placing.{grown_new, grown_old}
use Rattle.design.proofs.Start.{begun_more}

-- ---- lent members

module _ (n : ℕ) (F G X Y : Column) (small : n ≤ 240) (x : X ≡ F) (y : Y ≡ G) (l_f : length F ≡ n) (l_g : length G ≡ n) where
  -- what is made of the two columns as they are lent
  abbrev pub lent_supremum : Column
  lent_supremum = on_common supremum X Y

  -- they are on the same plots
  same : length F ≡ length G
  same = l_f ∙ sym l_g

  -- it is the supremum of the two columns
  lent_whole : lent_supremum ≡ supremum F G
  lent_whole = ap₂ (λ (A B : Column). on_common supremum A B) x y ∙ common_all supremum F G same (omega arith)

  -- it is on n plots
  pub length_made : length (supremum F G) ≡ n
  length_made = length_supremum F G same ∙ l_f

  -- its number of classes, and that this is small
  pub classes_made : (k : ℕ) → k ≡ classes lent_supremum → (k ≡ classes (supremum F G)) × (k ≤ 240)
  classes_made k e =
      let q : k ≡ classes (supremum F G) = e ∙ ap classes lent_whole in
      (q, omega (arith, classes_most (supremum F G), length_made))

  module _ (out after : List ℕ) (e : after ≡ overlay out lent_supremum) where
    -- the supremum stands at the start of the array
    written_made : after ≡ overlay out (supremum F G)
    written_made = e ∙ ap (overlay out) lent_whole

    -- the array starts with it
    pub take_made : take n after ≡ supremum F G
    take_made = ap (λ (l : List ℕ). take n l) written_made ∙ take_at (supremum F G) _ n length_made

    -- the array is long enough
    pub long_made : n ≤ length after
    long_made = rw (written_made, length-append) (omega (arith, length_made))

-- ---- nested members

-- a member lies in its buffer
pub member_in_buffer : (n i k : ℕ) (family : List ℕ) → n ≤ 240 → Member n family i k → 240 * i + n ≤ length family
member_in_buffer n i k family small m = omega (arith, m.place, m.room)

-- of two columns the first is finer
pub known_order : (n f g : ℕ) (F G : Column) → 1 ≤ n → length F ≡ n → length G ≡ n → f ≡ classes F → g ≡ classes G → known_finer n f g ≡ true → finer n F G ≡ true
known_order n f g F G some l_f l_g cF cG e = go (or_cases (eqb g 1) (eqb f n) e)
  where
    go : (eqb g 1 ≡ true) ⊎ (eqb f n ≡ true) → finer n F G ≡ true
    go (inl h) = one_class_coarsest n G F l_g some (sym cG ∙ eqb-true g 1 h)
    go (inr h) = all_classes_finest n F G l_f (sym cF ∙ eqb-true f n h)

-- of two members the first is finer
known_finer_lem : (n i j f g : ℕ) (a b : List ℕ) → 1 ≤ n → n ≤ 240 → Member n a i f → Member n b j g → known_finer n f g ≡ true → finer n (column_at n a i) (column_at n b j) ≡ true
known_finer_lem n i j f g a b some small p q e =
    known_order n f g (column_at n a i) (column_at n b j) some (length_part n i a (member_in_buffer n i f a small p)) (length_part n j b (member_in_buffer n j g b small q)) p.count q.count e

module _ (n i j f g : ℕ) (plot first : List ℕ) (some : 1 ≤ n) (small : n ≤ 240) (p : Member n plot i f) (q : Member n first j g) where
  -- the supremum is the treatment member
  pub treatment_coarser : known_finer n f g ≡ true → (true ≡ orthogonal n (column_at n plot i) (column_at n first j)) × (column_at n first j ≡ supremum (column_at n plot i) (column_at n first j))
  treatment_coarser e =
      let F = column_at n plot i in
      let G = column_at n first j in
      let l_f = length_part n i plot (member_in_buffer n i f plot small p) in
      let l_g = length_part n j first (member_in_buffer n j g first small q) in
      let h = known_finer_lem n i j f g plot first some small p q e in
      (sym (finer_orthogonal n F G l_f l_g h), sym (finer_supremum n F G l_f l_g h q.numbered))

  -- the supremum is the plot member
  pub plot_coarser : known_finer n g f ≡ true → (true ≡ orthogonal n (column_at n plot i) (column_at n first j)) × (column_at n plot i ≡ supremum (column_at n plot i) (column_at n first j))
  plot_coarser e =
      let F = column_at n plot i in
      let G = column_at n first j in
      let l_f = length_part n i plot (member_in_buffer n i f plot small p) in
      let l_g = length_part n j first (member_in_buffer n j g first small q) in
      let h = known_finer_lem n j i g f first plot some small q p e in
      (sym (coarser_orthogonal n G F l_g l_f h), sym (coarser_supremum n G F l_g l_f h p.numbered))

-- ---- how many different columns there are

-- the family lists no other column
listed_only : (As : List Column) (G : Column) → G ∈ insert_all As [] → G ∈ As
listed_only As G m = go (insert_all_only As [] G m)
  where
    go : (G ∈ As) ⊎ (G ∈ []) → G ∈ As
    go (inl k) = k
    go (inr k) = absurd (Memᴰ.not-nil k)

-- more columns only make the family larger
pub insert_all_more : (As Bs : List Column) → ((G : Column) → G ∈ As → G ∈ Bs) → length (insert_all As []) ≤ length (insert_all Bs [])
insert_all_more As Bs f =
    pigeonhole (insert_all As []) (insert_all Bs []) (ascending_distinct (ascending_insert_all As [] empty)) (λ G m. insert_all_has Bs [] G (f G (listed_only As G m)))

-- the same columns make the same family
pub insert_all_same : (As Bs : List Column) → ((G : Column) → G ∈ As → G ∈ Bs) → ((G : Column) → G ∈ Bs → G ∈ As) → insert_all As [] ≡ insert_all Bs []
insert_all_same As Bs f g =
    ascending_unique (insert_all As []) (insert_all Bs []) (ascending_insert_all As [] empty) (ascending_insert_all Bs [] empty)
    (λ G m. insert_all_has Bs [] G (f G (listed_only As G m)))
    (λ G m. insert_all_has As [] G (g G (listed_only Bs G m)))

-- ---- a column placed, however many there are

module _ (n : ℕ) (store counts : List ℕ) (size : ℕ) (h : Held n store counts size) (F : Column) (r : ℕ) (after counts' : List ℕ) where
  -- the members before
  abbrev S : Family
  S = members_of n store size

  -- how many they are
  ends : length S ≡ size
  ends = length_members n h.most store size

  -- there was room: the store holds what it held, and the column
  pub held_placed : PlacedMember n S F r after counts' → Held n after counts' (grown_to size r) × (size ≤ grown_to size r)
  held_placed (old l m k e) =
      let g : grown_to size r ≡ length S = grown_old size r (λ q. omega (arith, ends)) ∙ sym ends in
      (rw g k, omega (arith, ends))
  held_placed (new e l m k q) =
      let g : grown_to size r ≡ suc r = grown_new size r (e ∙ ends) ∙ omega (arith, ends) in
      (rw g k, omega (arith, ends))

  module _ (As : List Column) (b : Begun n As store counts size) where
    -- there was room: the members are the columns As and F
    pub begun_placed : number F ≡ F → PlacedMember n S F r after counts' → Begun n (As ++ F ∷ []) after counts' (grown_to size r)
    begun_placed i (new e l m k q) =
        let less : size < 32 = omega (arith, ends) in
        begun_more n As store counts size b less F i r after counts' (new e l m k q)
    begun_placed i (old l m k e) =
        let g : grown_to size r ≡ length S = grown_old size r (λ q. omega (arith, ends)) ∙ sym ends in
        let members : members_of n after (grown_to size r) ≡ S = ap (members_of n after) g ∙ e in
        record {
          held = rw g k;
          most = rw (length-append As (F ∷ [])) (omega (arith, ends, b.most));
          distinct = rw members b.distinct;
          numbered = λ G w. b.numbered G (rw members at w);
          only = λ G w. Memᴰ.append_left _ (b.only G (rw members at w));
          given = λ G w. rw members (is_placed l m G (Memᴰ.append_cases As w));
        }
      where
        is_placed : r < length S → member_at S r ≡ F → (G : Column) → (G ∈ As) ⊎ (G ∈ F ∷ []) → G ∈ S
        is_placed l m G (inl w) = b.given G w
        is_placed l m G (inr w) = Memᴰ.cast (Memᴰ.eq_of_singleton w ∙ sym m) (member_in S r l)

    -- there was none: they are more than 32
    pub over_placed : NoRoom n S F after counts' → 32 < length (insert_all (As ++ F ∷ []) [])
    over_placed room =
        let l = room.full in
        let p = pigeonhole (S ++ F ∷ []) (insert_all (As ++ F ∷ []) []) (distinct_more b.distinct room.fresh) (λ G w. insert_all_has (As ++ F ∷ []) [] G (is_given G (Memᴰ.append_cases S w))) in
        omega (arith, p, length-append S (F ∷ []))
      where
        is_given : (G : Column) → (G ∈ S) ⊎ (G ∈ F ∷ []) → G ∈ As ++ F ∷ []
        is_given G (inl w) = Memᴰ.append_left _ (b.only G w)
        is_given G (inr w) = Memᴰ.append_right As w

-- ---- what placing answers

module _ (n : ℕ) (As : List Column) (store counts : List ℕ) (size : ℕ) (over : Bool) where
  -- there was one more than there is room for
  pub placing_over : over ≡ true → Placing n As store counts size over → 32 < length (insert_all As [])
  placing_over d (exceeded e h) = h
  placing_over d (begun e b) = clash d e

  -- there was not
  pub placing_begun : over ≡ false → Placing n As store counts size over → Begun n As store counts size
  placing_begun d (exceeded e h) = clash e d
  placing_begun d (begun e b) = b

-- ---- the final treatment family

module _ (P S : Family) where
  -- more than 32 different suprema
  pub final_over : 32 < length (insert_all (products only_supremum P S) []) → 32 < length (final_treatment_family P S)
  unfolding final_treatment_family
  final_over h = h

  module _ (n : ℕ) (store counts : List ℕ) (size : ℕ) (b : Begun n (products only_supremum P S) store counts size) where
    -- the members found, in their order
    pub final_listed : insert_all (members_of n store size) [] ≡ final_treatment_family P S
    unfolding final_treatment_family
    final_listed = insert_all_same (members_of n store size) (products only_supremum P S) b.only b.given

    -- how many they are
    pub final_size : size ≡ length (final_treatment_family P S)
    final_size = sym (length_members n b.held.most store size) ∙ sym (length_sorted (members_of n store size) b.distinct) ∙ ap length final_listed

-- the places of members in order are places of a family
pub sorted_below : (n : ℕ) (store : List ℕ) (size : ℕ) (order : List ℕ) → n ≤ 240 → size ≤ 32 → Sorted (members_of n store size) order → (p : ℕ) → p < size → get_or order p 0 < 32
sorted_below n store size order small few w p h =
    let l : length (members_of n store size) ≡ size = length_members n small store size in
    let q = w.places p (rw l h) in
    omega arith
