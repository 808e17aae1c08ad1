-- Laws of a family that is closed on points: what its members make there is what they make on the plots, and E is one member more.
-- Assumes nothing.
use mathlib.Core.Path.{◌≡◌, refl, sym, ap, ap₂, ◌∙◌, subst}
use mathlib.Core.Logic.{◌⊎◌, inl, inr, ⊎_elim}
use mathlib.Core.Bool.{Bool, true, false}
use mathlib.Core.List.Memᴰ
use mathlib.Core.List.{List, [], ◌∷◌, ◌++◌, map}
use Prim.Native.Nat.{ℕ, zero, suc, ◌+◌, ◌≤◌, ◌<◌}
use native.Mathlib.Nat.{not-suc-le-zero, le_of_suc-le-suc, le_trans}
use native.Mathlib.Omega.{arith}
use lib.ListN.{length, get_or-append}
use lib.Seq.{take-take}
use Rattle.rules.specs.Factor.{Column, number, classes, infimum, supremum, equality, Uniform}
use Rattle.rules.specs.Family.{Family, ◌∈◌, Distinct, none_left, apart, columns_from, members_of}
use Rattle.rules.specs.Closing.{both, only_supremum, Made, given, made, too_many, close}
use Rattle.rules.specs.Relation.{member_at}
use Rattle.rules.proofs.Bounds.{length_infimum', length_supremum'}
use Rattle.rules.proofs.Numbering.{length_number}
use Rattle.rules.proofs.Extremes.{number_equality}
use Rattle.rules.proofs.Closing.{close_too_many}
use Rattle.rules.proofs.WorkList.{member_in, Found, found_more, found_over}
use Rattle.design.specs.State.{column_at, Held, PlacedMember, NoRoom, grown_to, Begun, make_of, pair_mark, marked_row, Work}
use Rattle.design.specs.Points.{Points, points_on_plots, Gathered}
use Rattle.design.proofs.Common.{column_length}
use Rattle.design.proofs.PointLaws.{plots_apart, classes_plots, number_plots, infimum_plots, supremum_plots, counts_plots, plots_few, plots_part, points_some, points_most}
use Rattle.design.proofs.EvenPoints.{orthogonal_plots}
use Rattle.design.proofs.Start.{After, after_placed, held_none}
use Rattle.design.proofs.Work.{Stood, size_members, member_length}

-- ---- lists of columns

-- a member of a list that is made by a function
map_member : (f : Column → Column) (S : Family) (i : ℕ) → i < length S → member_at (map f S) i ≡ f (member_at S i)
map_member f [] i h = absurd (not-suc-le-zero h)
map_member f (F ∷ S) zero h = refl
map_member f (F ∷ S) (suc i) h = map_member f S i (le_of_suc-le-suc h)

-- it has as many members
length_map : (f : Column → Column) (S : Family) → length (map f S) ≡ length S
length_map f [] = refl
length_map f (F ∷ S) = ap suc (length_map f S)

-- the columns of one table, made by a function from those of another
pub columns_map : (f : Column → Column) (n m : ℕ) (a b : List ℕ) (k c e : ℕ) → ((i : ℕ) → i < k → column_at n a (c + i) ≡ f (column_at m b (e + i))) → columns_from n a c k ≡ map f (columns_from m b e k)
unfolding columns_from
columns_map f n m a b zero c e h = refl
columns_map f n m a b (suc k) c e h = ap₂ (λ (F : Column) (S : Family). F ∷ S) (first (h 0 (omega arith))) (columns_map f n m a b k (suc c) (suc e) (λ i l. next i (h (suc i) (omega arith))))
  where
    first : column_at n a (c + 0) ≡ f (column_at m b (e + 0)) → column_at n a c ≡ f (column_at m b e)
    first q = let x : c + 0 ≡ c = omega arith in let y : e + 0 ≡ e = omega arith in rw (x, y) at q

    next : (i : ℕ) → column_at n a (c + suc i) ≡ f (column_at m b (e + suc i)) → column_at n a (suc c + i) ≡ f (column_at m b (suc e + i))
    next i q = let x : c + suc i ≡ suc c + i = omega arith in let y : e + suc i ≡ suc e + i = omega arith in rw (x, y) at q

-- the columns Gs of plots are E, and those that the columns Fs of points make
pub record Generates (n m : ℕ) (p : Column) (Fs Gs : List Column) : Type 0 where
  pub plots : (F : Column) → F ∈ Fs → length F ≡ m
  pub only : (F : Column) → F ∈ Fs → points_on_plots p F ∈ Gs
  pub given : (G : Column) → G ∈ Gs → (G ≡ equality n) ⊎ ((F : Column) × (F ∈ Fs) × (points_on_plots p F ≡ G))
  pub equal : equality n ∈ Gs

-- ---- what columns of points make

module _ {n m : ℕ} {p : Column} (P : Points n m p) where
  -- a column of a table as one of points
  pub plots_column : (own : List ℕ) (i : ℕ) → m ≤ 240 → points_on_plots p (column_at 240 own i) ≡ points_on_plots p (column_at m own i)
  plots_column own i h = sym (plots_part P (column_at 240 own i)) ∙ ap (points_on_plots p) (take-take m 240 _ h)

  -- two columns make the same on points and on plots
  make_plots : (infima : Bool) (F G H : Column) → length F ≡ m → length G ≡ m → H ∈ make_of infima F G → points_on_plots p H ∈ make_of infima (points_on_plots p F) (points_on_plots p G)
  unfolding both only_supremum
  make_plots true F G H l_f l_g k =
      ⊎_elim
      (λ e. Memᴰ.head (ap (points_on_plots p) e ∙ sym (infimum_plots P F G l_f l_g)))
      (λ j. Memᴰ.tail (Memᴰ.head (ap (points_on_plots p) (Memᴰ.eq_of_singleton j) ∙ sym (supremum_plots P F G l_f l_g))))
      (Memᴰ.cases_cons k)
  make_plots false F G H l_f l_g k = Memᴰ.head (ap (points_on_plots p) (Memᴰ.eq_of_singleton k) ∙ sym (supremum_plots P F G l_f l_g))

  -- what they make on plots is made on points
  make_points : (infima : Bool) (F G H : Column) → length F ≡ m → length G ≡ m → H ∈ make_of infima (points_on_plots p F) (points_on_plots p G) → (K : Column) × (K ∈ make_of infima F G) × (points_on_plots p K ≡ H)
  unfolding both only_supremum
  make_points true F G H l_f l_g k =
      ⊎_elim
      (λ e. (infimum F G, Memᴰ.head refl, sym (e ∙ infimum_plots P F G l_f l_g)))
      (λ j. (supremum F G, Memᴰ.tail (Memᴰ.head refl), sym (Memᴰ.eq_of_singleton j ∙ supremum_plots P F G l_f l_g)))
      (Memᴰ.cases_cons k)
  make_points false F G H l_f l_g k = (supremum F G, Memᴰ.head refl, sym (Memᴰ.eq_of_singleton k ∙ supremum_plots P F G l_f l_g))

  -- it has the points of both
  make_length : (infima : Bool) (F G H : Column) → length F ≡ m → length G ≡ m → H ∈ make_of infima F G → length H ≡ m
  unfolding both only_supremum
  make_length true F G H l_f l_g k =
      ⊎_elim
      (λ e. ap length e ∙ length_infimum' m F G l_f l_g)
      (λ j. ap length (Memᴰ.eq_of_singleton j) ∙ length_supremum' m F G l_f l_g)
      (Memᴰ.cases_cons k)
  make_length false F G H l_f l_g k = ap length (Memᴰ.eq_of_singleton k) ∙ length_supremum' m F G l_f l_g

  -- different columns of points are different columns of plots
  distinct_plots : (S : Family) → Distinct S → ((F : Column) → F ∈ S → length F ≡ m) → Distinct (map (points_on_plots p) S)
  distinct_plots [] none_left on = none_left
  distinct_plots (F ∷ S) (apart d e) on = apart (λ k. go (Memᴰ.of_map (points_on_plots p) S k)) (distinct_plots S e (λ G k. on G (Memᴰ.tail k)))
    where
      go : (G : Column) × (G ∈ S) × (points_on_plots p G ≡ points_on_plots p F) → ⊥
      go (G, k, q) = d (subst (λ (H : Column). H ∈ S) (plots_apart P G F (on G (Memᴰ.tail k)) (on F (Memᴰ.head refl)) q) k)

  module _ (infima : Bool) {Fs Gs : List Column} (points : (F : Column) → F ∈ Fs → length F ≡ m) (among : (F : Column) → F ∈ Fs → points_on_plots p F ∈ Gs) where
    -- what is made on points has a label for each
    made_length : (F : Column) → Made (make_of infima) Fs F → length F ≡ m
    made_length F (given k) = points F k
    made_length H (made {F} {G} a b k) = make_length infima F G H (made_length F a) (made_length G b) k

    -- what is made on points is made on plots
    made_plots : (F : Column) → Made (make_of infima) Fs F → Made (make_of infima) Gs (points_on_plots p F)
    made_plots F (given k) = given (among F k)
    made_plots H (made {F} {G} a b k) = made (made_plots F a) (made_plots G b) (make_plots infima F G H (made_length F a) (made_length G b) k)

    -- the same of a list of what is made
    all_plots : (S : Family) → ((F : Column) → F ∈ S → Made (make_of infima) Fs F) → (H : Column) → H ∈ map (points_on_plots p) S → Made (make_of infima) Gs H
    all_plots S f H k = go (Memᴰ.of_map (points_on_plots p) S k)
      where
        go : (F : Column) × (F ∈ S) × (points_on_plots p F ≡ H) → Made (make_of infima) Gs H
        go (F, j, q) = subst (Made (make_of infima) Gs) q (made_plots F (f F j))

    -- too many on points are too many on plots
    made_over : close (make_of infima) Fs ≡ too_many → close (make_of infima) Gs ≡ too_many
    made_over e =
        (close_too_many (make_of infima) Gs).1 (λ few. (close_too_many (make_of infima) Fs).0 e (λ S d f. rw (← length_map (points_on_plots p) S) (few (map (points_on_plots p) S) (distinct_plots S d (λ F k. made_length F (f F k))) (all_plots S f))))

    -- ---- the members once they are on the plots

    module _ {own counts marks : List ℕ} {r : ℕ} (w : Work m infima Fs own counts marks r r 0) (some : 1 ≤ n) (small : n ≤ 240) (store : List ℕ) (room : length store ≡ 7680)
        (spread : (i : ℕ) → i < r → column_at n store i ≡ points_on_plots p (column_at 240 own i)) where
      -- a member on points, and as a column of plots
      spread_column : (i : ℕ) → i < r → column_at n store i ≡ points_on_plots p (column_at m own i)
      spread_column i h = spread i h ∙ plots_column own i w.held.most

      -- the members on points
      abbrev S : Family
      S = members_of m own r

      -- they as columns of plots
      abbrev T : Family
      T = map (points_on_plots p) (members_of m own r)

      -- they are the members on plots
      plots_members : members_of n store r ≡ T
      unfolding members_of
      plots_members = columns_map (points_on_plots p) n m store own r 0 0 (λ i h. let e : 0 + i ≡ i = omega arith in rw e (spread_column i h))

      -- the members on points have a label for each point
      on : (F : Column) → F ∈ S → length F ≡ m
      on = member_length w.held

      -- there are as many on plots
      size_t : length T ≡ r
      size_t = length_map (points_on_plots p) S ∙ size_members w.held

      -- they are held
      held_plots : Held n store counts r
      held_plots = record {
        some = some;
        most = small;
        room = room;
        places = w.held.places;
        few = w.held.few;
        counted = λ i h. w.held.counted i h ∙ sym (ap classes (spread_column i h) ∙ classes_plots P (column_at m own i) (column_length m own i w.held.most w.held.room (omega (arith, w.held.few))));
      }

      -- they are found
      found_plots : Found (make_of infima) Gs T
      found_plots = record { distinct = distinct_plots S w.found.distinct on; only = all_plots S w.found.only }

      -- they are numbered
      numbered_plots : (F : Column) → F ∈ T → number F ≡ F
      numbered_plots F k = go (Memᴰ.of_map (points_on_plots p) S k)
        where
          go : (G : Column) × (G ∈ S) × (points_on_plots p G ≡ F) → number F ≡ F
          go (G, j, e) = ap number (sym e) ∙ number_plots P G (on G j) ∙ ap (points_on_plots p) (w.numbered G j) ∙ e

      -- the columns that the family starts from are among them
      given_plots : (F : Column) → F ∈ Fs → points_on_plots p F ∈ T
      given_plots F k = Memᴰ.map (points_on_plots p) (w.given F k)

      -- a member by its place, and as a column of plots
      member_plots : (i : ℕ) → i < r → member_at T i ≡ points_on_plots p (member_at S i)
      member_plots i h = map_member (points_on_plots p) S i (omega (arith, size_members w.held))

      -- a member by its place has a label for each point
      member_points : (i : ℕ) → i < r → length (member_at S i) ≡ m
      member_points i h = on (member_at S i) (member_in S i (omega (arith, size_members w.held)))

      -- all pairs of them are combined
      combined_plots : (b a : ℕ) → a < b → b < r → (H : Column) → H ∈ make_of infima (member_at T b) (member_at T a) → H ∈ T
      combined_plots b a ab br H k = go (make_points infima (member_at S b) (member_at S a) H (member_points b br) (member_points a (omega arith)) (rw (member_plots b br, member_plots a (omega arith)) at k))
        where
          go : (K : Column) × (K ∈ make_of infima (member_at S b) (member_at S a)) × (points_on_plots p K ≡ H) → H ∈ T
          go (K, j, e) = subst (λ (X : Column). X ∈ T) e (Memᴰ.map (points_on_plots p) (w.combined.rows b a ab br K j))

      -- their marks are those of the points, where two columns have the same mark on points and on plots
      rows_plots : ((F G : Column) → length F ≡ m → length G ≡ m → pair_mark infima n (points_on_plots p F) (points_on_plots p G) ≡ pair_mark infima m F G)
          → (b a : ℕ) → a < b → b < r → marked_row marks b a ≡ pair_mark infima n (member_at T b) (member_at T a)
      rows_plots same b a ab br =
          w.rows b a ab br
          ∙ sym (ap₂ (pair_mark infima n) (member_plots b br) (member_plots a (omega arith)) ∙ same (member_at S b) (member_at S a) (member_points b br) (member_points a (omega arith)))

  -- ---- with infima, and E

  module _ {Fs Gs : List Column} (g : Generates n m p Fs Gs) where
    -- too many on points are too many on plots
    pub points_over : close both Fs ≡ too_many → close both Gs ≡ too_many
    points_over = made_over true g.plots g.only

    module _ {own counts marks : List ℕ} {r : ℕ} (w : Work m true Fs own counts marks r r 0) (few : m < n) (small : n ≤ 240) (store : List ℕ) (room : length store ≡ 7680)
        (spread : (i : ℕ) → i < r → column_at n store i ≡ points_on_plots p (column_at 240 own i)) where
      -- there are plots
      some_plots : 1 ≤ n
      some_plots = omega arith

      -- the members are held
      pub spread_held : Held n store counts r
      spread_held = held_plots true g.plots g.only w some_plots small store room spread

      -- they as columns of plots
      abbrev R : Family
      R = map (points_on_plots p) (members_of m own r)

      -- they are the members on plots
      members_are : members_of n store r ≡ R
      members_are = plots_members true g.plots g.only w some_plots small store room spread

      -- there are as many of them
      size_r : length R ≡ r
      size_r = size_t true g.plots g.only w some_plots small store room spread

      -- E is not among them
      not_equality : equality n ∈ R → ⊥
      not_equality k = go (Memᴰ.of_map (points_on_plots p) (members_of m own r) k)
        where
          go : (F : Column) × (F ∈ members_of m own r) × (points_on_plots p F ≡ equality n) → ⊥
          go (F, j, q) = plots_few P F (member_length w.held F j) few q

      -- they are found
      found : Found both Gs R
      found = found_plots true g.plots g.only w some_plots small store room spread

      -- there is no room for E
      pub equality_over : {store' counts' : List ℕ} → NoRoom n (members_of n store r) (equality n) store' counts' → close both Gs ≡ too_many
      equality_over room = found_over both Gs R found (equality n) (given g.equal) not_equality (omega (arith, room.full, ap length members_are))

      -- with E, all pairs are combined but those of E
      pub with_equality : {q : ℕ} {store' counts' : List ℕ} {size : ℕ} → Stood n (members_of n store r) (equality n) q store' counts' size → Work n true Gs store' counts' marks size r 0
      with_equality {q} {store'} {counts'} {size} s = record {
        held = s.held;
        cells = w.cells;
        numbered = λ F k. numbered F (Memᴰ.append_cases R (cast k));
        found = subst (Found both Gs) (sym all) (found_more both Gs R (equality n) found (given g.equal) not_equality);
        given = λ G k. back (given_member G (g.given G k));
        combined = record {
          rows = λ b a ab br H k. back (Memᴰ.append_left _ (combined_plots true g.plots g.only w some_plots small store room spread b a ab br H (rw (all, before b br, before a (omega arith)) at k)));
          row = λ a h. absurd (not-suc-le-zero h);
        };
        rows = λ b a ab br. rw (all, before b br, before a (omega arith)) (rows_plots true g.plots g.only w some_plots small store room spread (counts_plots P) b a ab br);
        row = λ a h. absurd (not-suc-le-zero h);
        joins = λ a h. absurd (not-suc-le-zero h);
      }
        where
          all : members_of n store' size ≡ R ++ equality n ∷ []
          all = ⊎_elim
              (λ e. absurd (not_equality (subst (λ (X : Family). equality n ∈ X) (e ∙ members_are) (subst (λ (F : Column). F ∈ members_of n store' size) s.is (member_in (members_of n store' size) q (omega (arith, s.here, size_members s.held)))))))
              (λ e. e.0 ∙ ap (λ (X : Family). X ++ equality n ∷ []) members_are)
              s.members

          before : (i : ℕ) → i < r → member_at (R ++ equality n ∷ []) i ≡ member_at R i
          before i h = get_or-append R (equality n ∷ []) [] i (omega (arith, size_r))

          cast : {F : Column} → F ∈ members_of n store' size → F ∈ R ++ equality n ∷ []
          cast {F} k = subst (λ (X : Family). F ∈ X) all k

          back : {F : Column} → F ∈ R ++ equality n ∷ [] → F ∈ members_of n store' size
          back {F} k = subst (λ (X : Family). F ∈ X) (sym all) k

          numbered : (F : Column) → (F ∈ R) ⊎ (F ∈ equality n ∷ []) → number F ≡ F
          numbered F (inl k) = numbered_plots true g.plots g.only w some_plots small store room spread F k
          numbered F (inr k) = let e = Memᴰ.eq_of_singleton k in ap number e ∙ number_equality n ∙ sym e

          given_member : (G : Column) → (G ≡ equality n) ⊎ ((F : Column) × (F ∈ Fs) × (points_on_plots p F ≡ G)) → G ∈ R ++ equality n ∷ []
          given_member G (inl e) = Memᴰ.append_right R (Memᴰ.head e)
          given_member G (inr (F, k, e)) = Memᴰ.append_left _ (subst (λ (X : Column). X ∈ R) e (given_plots true g.plots g.only w some_plots small store room spread F k))

  -- ---- suprema of columns of points

  -- too many on points are too many on plots
  pub suprema_over : {Fs : List Column} → ((F : Column) → F ∈ Fs → length F ≡ m) → close only_supremum Fs ≡ too_many → close only_supremum (map (points_on_plots p) Fs) ≡ too_many
  suprema_over points = made_over false points (λ F k. Memᴰ.map (points_on_plots p) k)

  -- with as many plots each, what is closed on points is closed on plots
  pub spread_work : Uniform n p → {Fs : List Column} {own counts marks : List ℕ} {r : ℕ} → Work m false Fs own counts marks r r 0 → 1 ≤ n → n ≤ 240 → (store : List ℕ) → length store ≡ 7680
      → ((i : ℕ) → i < r → column_at n store i ≡ points_on_plots p (column_at 240 own i)) → ((F : Column) → F ∈ Fs → length F ≡ m) → Work n false (map (points_on_plots p) Fs) store counts marks r r 0
  spread_work even {Fs} {own} {counts} {marks} {r} w some small store room spread points = record {
    held = held_plots false points among w some small store room spread;
    cells = w.cells;
    numbered = rw all (numbered_plots false points among w some small store room spread);
    found = rw all (found_plots false points among w some small store room spread);
    given = rw all (λ G k. given_member G (Memᴰ.of_map (points_on_plots p) Fs k));
    combined = record { rows = rw all (combined_plots false points among w some small store room spread); row = λ a h. absurd (not-suc-le-zero h) };
    rows = rw all (rows_plots false points among w some small store room spread (orthogonal_plots P even));
    row = λ a h. absurd (not-suc-le-zero h);
    joins = λ a h. absurd (not-suc-le-zero h);
  }
    where
      among : (F : Column) → F ∈ Fs → points_on_plots p F ∈ map (points_on_plots p) Fs
      among F k = Memᴰ.map (points_on_plots p) k

      all : members_of n store r ≡ map (points_on_plots p) (members_of m own r)
      all = plots_members false points among w some small store room spread

      given_member : (G : Column) → (F : Column) × (F ∈ Fs) × (points_on_plots p F ≡ G) → G ∈ map (points_on_plots p) (members_of m own r)
      given_member G (F, k, e) = subst (λ (X : Column). X ∈ map (points_on_plots p) (members_of m own r)) e (given_plots false points among w some small store room spread F k)

-- ---- members are gathered one by one

-- none yet
pub gathered_none : {n m : ℕ} {p : Column} → Points n m p → 1 ≤ n → n ≤ 240 → (own counts : List ℕ) → length own ≡ 7680 → length counts ≡ 32 → Gathered n m p [] own counts 0
unfolding members_of columns_from
gathered_none {n} {m} {p} P some small own counts room places = record {
  held = held_none m own counts (points_some P some) (le_trans (points_most P) small) room places;
  distinct = none_left;
  numbered = λ F k. absurd (Memᴰ.not-nil k);
  only = λ F k. absurd (Memᴰ.not-nil k);
  given = λ G k. absurd (Memᴰ.not-nil k);
}

-- E is left out
pub gathered_same : {n m : ℕ} {p : Column} {S : Family} {own counts : List ℕ} {r : ℕ} → Gathered n m p S own counts r → (F : Column) → F ≡ equality n → Gathered n m p (S ++ F ∷ []) own counts r
gathered_same {n} {m} {p} {S} {own} {counts} {r} g F e = record {
  held = g.held;
  distinct = g.distinct;
  numbered = g.numbered;
  only = λ G k. Memᴰ.append_left _ (g.only G k);
  given = λ G k. ⊎_elim (g.given G) (λ j. inl (Memᴰ.eq_of_singleton j ∙ e)) (Memᴰ.append_cases S k);
}

-- the column X of points, which is the column F of plots, is placed
pub gathered_more : {n m : ℕ} {p : Column} {S : Family} {own counts : List ℕ} {r : ℕ} → Points n m p → Gathered n m p S own counts r → r < 32 → (X F : Column) → length X ≡ m → points_on_plots p X ≡ F → number F ≡ F
    → (q : ℕ) (own' counts' : List ℕ) → PlacedMember m (members_of m own r) X q own' counts' → Gathered n m p (S ++ F ∷ []) own' counts' (grown_to r q)
gathered_more {n} {m} {p} {S} {own} {counts} {r} P g less X F l e numbered q own' counts' placed = record {
  held = a.held;
  distinct = rw a.members (a.distinct g.distinct);
  numbered = λ G k. as_numbered G (a.only G (rw a.members at k));
  only = λ G k. as_given G (a.only G (rw a.members at k));
  given = λ G k. ⊎_elim (λ j. ⊎_elim inl (λ h. inr (still h)) (g.given G j)) (λ j. inr (X, rw a.members a.placed, e ∙ sym (Memᴰ.eq_of_singleton j))) (Memᴰ.append_cases S k);
}
  where
    a : After m own counts r g.held less X q own' counts'
    a = after_placed m own counts r g.held less X q own' counts' placed

    -- X is numbered, since F is
    same : number X ≡ X
    same = plots_apart P (number X) X (length_number X ∙ l) l (sym (number_plots P X l) ∙ ap number e ∙ numbered ∙ sym e)

    as_numbered : (G : Column) → (G ∈ members_of m own r) ⊎ (G ≡ X) → number G ≡ G
    as_numbered G (inl k) = g.numbered G k
    as_numbered G (inr z) = rw z same

    as_given : (G : Column) → (G ∈ members_of m own r) ⊎ (G ≡ X) → points_on_plots p G ∈ S ++ F ∷ []
    as_given G (inl k) = Memᴰ.append_left _ (g.only G k)
    as_given G (inr z) = Memᴰ.append_right S (Memᴰ.head (ap (points_on_plots p) z ∙ e))

    still : {G : Column} → (H : Column) × (H ∈ members_of m own r) × (points_on_plots p H ≡ G) → (H : Column) × (H ∈ members_of m own' (grown_to r q)) × (points_on_plots p H ≡ G)
    still (H, k, z) = (H, rw a.members (a.stays H k), z)

-- ---- the members gathered

module _ {n m : ℕ} {p : Column} (store counts : List ℕ) (start : ℕ) {own counts' : List ℕ} {r : ℕ} (g : Gathered n m p (members_of n store start) own counts' r) where
  -- they are begun with by themselves
  pub gathered_begun : Begun m (members_of m own r) own counts' r
  gathered_begun = record { held = g.held; most = omega (arith, size_members g.held); distinct = g.distinct; numbered = g.numbered; only = λ F k. k; given = λ F k. k }

  -- they make the columns that the family starts from, but E
  pub gathered_generates : {Gs : List Column} → equality n ∈ members_of n store start → Begun n Gs store counts start → Generates n m p (members_of m own r) Gs
  gathered_generates e b = record {
    plots = member_length g.held;
    only = λ F k. b.only (points_on_plots p F) (g.only F k);
    given = λ G k. g.given G (b.given G k);
    equal = b.only (equality n) e;
  }
