-- The two sides of a member: the infimum of the columns coarser than it, the supremum of those finer than or equivalent to it, and the columns listed
-- of them. One proof for both.
-- Assumes nothing.
use mathlib.Core.Path.{◌≡◌, refl, sym, ◌∙◌, subst}
use mathlib.Core.Logic.{◌⊎◌, inl, inr, ◌↔◌}
use mathlib.Core.Bool.{Bool, true, false, not, ◌&&◌, ◌||◌}
use mathlib.Core.List.Memᴰ
use mathlib.Core.List.{List, [], ◌∷◌}
use Prim.Native.Nat.{ℕ, zero, suc, ◌≤◌, ◌<◌}
use native.Mathlib.Nat.{not-suc-le-zero}
use native.Mathlib.Omega.{arith}
use lib.Dec.{ltb}
use lib.ListN.{length, get_or}
use borrow.Author.Tests.{ltb-true, ltb-false, lt-ltb, le-ltb, not-false}
use Rattle.rules.specs.Factor.{Column, Same, Equivalent, every, number, infimum, supremum, universal, equality}
use Rattle.rules.specs.Family.{◌∈◌, alike}
use Rattle.rules.specs.Listing.{Enumerates}
use Rattle.rules.specs.Names.{Side, coarser_side, finer_side, join_of, on_side, hides, listed, shown}
use Rattle.rules.proofs.Numbering.{by_cases, number_infimum}
use Rattle.rules.proofs.Members.{clash, alike_sound, alike_self}
use Rattle.rules.proofs.Supremum.{number_supremum, equivalent_sym, equivalent_refl}
use Rattle.rules.proofs.Bounds.{numbered_equal, finer_trans, length_infimum', length_supremum', infimum_left, infimum_right, infimum_greatest, supremum_left, supremum_right, supremum_least}
use Rattle.rules.proofs.Extremes.{length_universal, number_universal, length_equality, number_equality}
use Rattle.rules.proofs.Classes.{finer_test}
use Rattle.rules.proofs.ClassCount.{finer_universal, equality_finer}
use Rattle.rules.proofs.Tests.{every_all, every_at}
use Rattle.rules.proofs.Sheet.{and_left, and_right}
use Rattle.rules.proofs.Listing.{Passes, passing_enumerates, enumerates_as}

-- ---- what both sides have in common

pub record SideLaws (n : ℕ) (s : Side) : Type 0 where
  pub further : (F G H : Column) → s.towards F G ≡ true → s.towards G H ≡ true → s.towards F H ≡ true
  pub same : (F G : Column) → s.towards F G ≡ true → s.towards G F ≡ true → Equivalent n F G
  pub alike_there : (F G : Column) → Equivalent n F G → s.towards F G ≡ true
  -- the join is the best that lies on the other side of both
  pub none_on : length s.none ≡ n
  pub none_numbered : number s.none ≡ s.none
  pub none_last : (H : Column) → s.towards H s.none ≡ true
  pub join_on : (F G : Column) → length F ≡ n → length G ≡ n → length (s.join F G) ≡ n
  pub join_numbered : (F G : Column) → length F ≡ n → length G ≡ n → number (s.join F G) ≡ s.join F G
  pub join_first : (F G : Column) → length F ≡ n → length G ≡ n → s.towards (s.join F G) F ≡ true
  pub join_second : (F G : Column) → length F ≡ n → length G ≡ n → s.towards (s.join F G) G ≡ true
  pub join_best : (F G H : Column) → length F ≡ n → length G ≡ n → s.towards H F ≡ true → s.towards H G ≡ true → s.towards H (s.join F G) ≡ true

pub coarser_laws : (n : ℕ) → SideLaws n (coarser_side n)
coarser_laws n = record {
  further = λ F G H f g. (finer_test n F H).1 (finer_trans n F G H ((finer_test n F G).0 f) ((finer_test n G H).0 g));
  same = λ F G f g. record { to = (finer_test n F G).0 f; from = (finer_test n G F).0 g };
  alike_there = λ F G e. (finer_test n F G).1 e.to;
  none_on = length_universal n;
  none_numbered = number_universal n;
  none_last = λ H. (finer_test n H (universal n)).1 (finer_universal n H);
  join_on = length_infimum' n;
  join_numbered = λ F G l_f l_g. number_infimum F G (l_f ∙ sym l_g);
  join_first = λ F G l_f l_g. (finer_test n (infimum F G) F).1 (infimum_left n F G l_f l_g);
  join_second = λ F G l_f l_g. (finer_test n (infimum F G) G).1 (infimum_right n F G l_f l_g);
  join_best = λ F G H l_f l_g f g. (finer_test n H (infimum F G)).1 (infimum_greatest n F G l_f l_g H ((finer_test n H F).0 f) ((finer_test n H G).0 g));
}

pub finer_laws : (n : ℕ) → SideLaws n (finer_side n)
finer_laws n = record {
  further = λ F G H f g. (finer_test n H F).1 (finer_trans n H G F ((finer_test n H G).0 g) ((finer_test n G F).0 f));
  same = λ F G f g. record { to = (finer_test n F G).0 g; from = (finer_test n G F).0 f };
  alike_there = λ F G e. (finer_test n G F).1 e.from;
  none_on = length_equality n;
  none_numbered = number_equality n;
  none_last = λ H. (finer_test n (equality n) H).1 (equality_finer n H);
  join_on = length_supremum' n;
  join_numbered = λ F G l_f l_g. number_supremum F G (l_f ∙ sym l_g);
  join_first = λ F G l_f l_g. (finer_test n F (supremum F G)).1 (supremum_left n F G l_f l_g);
  join_second = λ F G l_f l_g. (finer_test n G (supremum F G)).1 (supremum_right n F G l_f l_g);
  join_best = λ F G H l_f l_g f g. (finer_test n (supremum F G) H).1 (supremum_least n F G l_f l_g H ((finer_test n F H).0 f) ((finer_test n G H).0 g));
}

-- ---- the columns on one side of a member

-- each column is on n plots
abbrev pub On : ℕ → List Column → Type 0
On n Cs = (C : Column) → C ∈ Cs → length C ≡ n

pub on_tail : {n : ℕ} {C : Column} {Cs : List Column} → On n (C ∷ Cs) → On n Cs
on_tail on D m = on D (Memᴰ.tail m)

module _ (n : ℕ) (s : Side) (laws : SideLaws n s) where
  pub length_join : (F : Column) (Cs : List Column) → On n Cs → length (join_of s F Cs) ≡ n
  unfolding join_of
  length_join F [] on = laws.none_on
  length_join F (C ∷ Cs) on =
      let rest = length_join F Cs (on_tail on) in
      by_cases (s.towards F C) (λ e. rw (e, join_of) (laws.join_on C (join_of s F Cs) (on C (Memᴰ.head refl)) rest)) (λ e. rw (e, join_of) rest)

  pub number_join : (F : Column) (Cs : List Column) → On n Cs → number (join_of s F Cs) ≡ join_of s F Cs
  unfolding join_of
  number_join F [] on = laws.none_numbered
  number_join F (C ∷ Cs) on =
      by_cases (s.towards F C)
      (λ e. rw (e, join_of) (laws.join_numbered C (join_of s F Cs) (on C (Memᴰ.head refl)) (length_join F Cs (on_tail on))))
      (λ e. rw (e, join_of) (number_join F Cs (on_tail on)))

  -- the join has every column on this side of F on its own
  pub join_towards : (F : Column) (Cs : List Column) → On n Cs → (C : Column) → C ∈ Cs → s.towards F C ≡ true → s.towards (join_of s F Cs) C ≡ true
  unfolding join_of
  join_towards F [] on C m t = absurd (Memᴰ.not-nil m)
  join_towards F (D ∷ Cs) on C m t = go (join_towards F Cs (on_tail on) C) (Memᴰ.cases_cons m)
    where
      l_d : length D ≡ n
      l_d = on D (Memᴰ.head refl)

      l_j : length (join_of s F Cs) ≡ n
      l_j = length_join F Cs (on_tail on)

      go : (C ∈ Cs → s.towards F C ≡ true → s.towards (join_of s F Cs) C ≡ true) → (C ≡ D) ⊎ (C ∈ Cs) → s.towards (join_of s F (D ∷ Cs)) C ≡ true
      go rest (inl q) = let u : s.towards F D ≡ true = rw q at t in rw (q, u, join_of) (laws.join_first D (join_of s F Cs) l_d l_j)
      go rest (inr k) =
          by_cases (s.towards F D)
          (λ e. rw (e, join_of) (laws.further (s.join D (join_of s F Cs)) (join_of s F Cs) C (laws.join_second D (join_of s F Cs) l_d l_j) (rest k t)))
          (λ e. rw (e, join_of) (rest k t))

  -- and whatever else has them all has it
  pub join_best_of : (F : Column) (Cs : List Column) → On n Cs → (H : Column) → ((i : ℕ) → i < length Cs → s.towards F (get_or Cs i []) ≡ true → s.towards H (get_or Cs i []) ≡ true) → s.towards H (join_of s F Cs) ≡ true
  unfolding join_of
  join_best_of F [] on H h = laws.none_last H
  join_best_of F (C ∷ Cs) on H h =
      let rest = join_best_of F Cs (on_tail on) H (λ i l. h (suc i) (omega arith)) in
      by_cases (s.towards F C)
      (λ e. rw (e, join_of) (laws.join_best C (join_of s F Cs) H (on C (Memᴰ.head refl)) (length_join F Cs (on_tail on)) (h 0 (omega arith) e) rest))
      (λ e. rw (e, join_of) rest)

  module _ (F : Column) (Cs : List Column) where
    abbrev column : ℕ → Column
    column i = get_or Cs i []

    abbrev free : ℕ → ℕ → Bool
    free c j = not (on_side s F Cs j && hides s Cs j c)

    -- which columns are listed, in their order, none twice: T is what the test of this side tells
    module _ (T : Column → Column → Type 0) (tells : (G H : Column) → (s.towards G H ≡ true) ↔ T G H) where
      abbrev pub Shown : ℕ → Type 0
      Shown c = (c < length Cs) × T F (column c) × ((j : ℕ) → j < length Cs → T F (column j) → T (column j) (column c) → T (column c) (column j))
          × ((j : ℕ) → j < length Cs → Equivalent n (column j) (column c) → c ≤ j)

      listed_says : (c : ℕ) → Passes (listed s F Cs) 0 (length Cs) c ↔ Shown c
      unfolding listed on_side hides
      listed_says c = (to, from)
        where
          to : Passes (listed s F Cs) 0 (length Cs) c → Shown c
          to w = (omega (arith, w.1), (tells F (column c)).0 there, none, low)
            where
              there : s.towards F (column c) ≡ true
              there = and_left (s.towards F (column c)) (every (length Cs) (free c)) w.2

              passes : (j : ℕ) → j < length Cs → free c j ≡ true
              passes = every_at (length Cs) (free c) (and_right (s.towards F (column c)) (every (length Cs) (free c)) w.2)

              none : (j : ℕ) → j < length Cs → T F (column j) → T (column j) (column c) → T (column c) (column j)
              none j h t u =
                  by_cases (s.towards (column c) (column j))
                  (λ e. (tells (column c) (column j)).0 e)
                  (λ e. clash (passes j h) (rw ((tells F (column j)).1 t, (tells (column j) (column c)).1 u, e)))

              low : (j : ℕ) → j < length Cs → Equivalent n (column j) (column c) → c ≤ j
              low j h q =
                  let b = laws.alike_there (column c) (column j) (equivalent_sym q) in
                  by_cases (ltb j c)
                  (λ e. clash (passes j h) (rw (laws.further F (column c) (column j) there b, laws.alike_there (column j) (column c) q, b, e)))
                  (λ e. ltb-false j c e)

          from : Shown c → Passes (listed s F Cs) 0 (length Cs) c
          from w = (omega arith, omega (arith, w.0), rw ((tells F (column c)).1 w.1) (every_all (length Cs) (free c) each))
            where
              each : (j : ℕ) → j < length Cs → free c j ≡ true
              each j h =
                  by_cases (s.towards F (column j))
                  (λ t. by_cases (s.towards (column j) (column c))
                  (λ u. let b = (tells (column c) (column j)).1 (w.2 j h ((tells F (column j)).0 t) ((tells (column j) (column c)).0 u)) in
                  rw (t, u, b, le-ltb j c (w.3 j h (laws.same (column j) (column c) u b))))
                  (λ u. rw (t, u)))
                  (λ t. rw t)

      pub shown_lists : Enumerates Shown (shown s F Cs)
      unfolding shown
      shown_lists = enumerates_as _ listed_says (passing_enumerates (listed s F Cs) 0 (length Cs))

    pub listed_there : (c : ℕ) → c ∈ shown s F Cs → (c < length Cs) × (s.towards F (column c) ≡ true)
    listed_there c m = let w = (shown_lists (λ G H. s.towards G H ≡ true) (λ G H. (λ e. e, λ e. e))).only c m in (w.0, w.1)

    itself : (c : ℕ) → s.towards (column c) (column c) ≡ true
    itself c = laws.alike_there (column c) (column c) equivalent_refl

    -- what hides a column hides those that it hides, and none hides itself
    hides_on : (k j i : ℕ) → hides s Cs k j ≡ true → hides s Cs j i ≡ true → hides s Cs k i ≡ true
    unfolding hides
    hides_on k j i a b =
        let kj = and_left (s.towards (column k) (column j)) (not (s.towards (column j) (column k)) || ltb k j) a in
        let ji = and_left (s.towards (column j) (column i)) (not (s.towards (column i) (column j)) || ltb j i) b in
        let ki = laws.further (column k) (column j) (column i) kj ji in
        by_cases (s.towards (column i) (column k))
        (λ e. let jk = laws.further (column j) (column i) (column k) ji e in
        let ij = laws.further (column i) (column k) (column j) e kj in
        rw (ki, e) (lt-ltb k i (omega (arith, ltb-true k j (rw (kj, jk) at a), ltb-true j i (rw (ji, ij) at b)))))
        (λ e. rw (ki, e))

    hides_not : (k : ℕ) → hides s Cs k k ≡ false
    unfolding hides
    hides_not k = rw (itself k, le-ltb k k (omega arith))

    -- a column on this side of F as near as column i or nearer, that none of the first k hides
    record Near (k i : ℕ) : Type 0 where
      place : ℕ
      less : place < length Cs
      there : on_side s F Cs place ≡ true
      nearer : s.towards (column place) (column i) ≡ true
      unhidden : (j : ℕ) → j < k → free place j ≡ true

    near : (i : ℕ) → i < length Cs → on_side s F Cs i ≡ true → (k : ℕ) → k ≤ length Cs → Near k i
    unfolding hides
    near i l t zero h = record { place = i; less = l; there = t; nearer = itself i; unhidden = λ j z. absurd (not-suc-le-zero z) }
    near i l t (suc k) h = next (near i l t k (omega arith))
      where
        -- up to k, and at k
        also : (c : ℕ) → ((j : ℕ) → j < k → free c j ≡ true) → free c k ≡ true → (j : ℕ) → j < suc k → free c j ≡ true
        also c below here j z = by_cases (ltb j k) (λ e. below j (ltb-true j k e)) (λ e. let q : j ≡ k = omega (arith, ltb-false j k e) in rw q here)

        next : Near k i → Near (suc k) i
        next b =
            by_cases (free b.place k)
            (λ e. record { place = b.place; less = b.less; there = b.there; nearer = b.nearer; unhidden = also b.place b.unhidden e })
            (λ e. let w = not-false (on_side s F Cs k && hides s Cs k b.place) e in
            let o = and_left (on_side s F Cs k) (hides s Cs k b.place) w in
            let g = and_right (on_side s F Cs k) (hides s Cs k b.place) w in
            record {
              place = k;
              less = h;
              there = o;
              nearer = laws.further (column k) (column b.place) (column i) (and_left (s.towards (column k) (column b.place)) (not (s.towards (column b.place) (column k)) || ltb k b.place) g) b.nearer;
              unhidden = also k
                  (λ j z. by_cases (free k j) (λ f. f)
                  (λ f. let v = not-false (on_side s F Cs j && hides s Cs j k) f in
                  clash (b.unhidden j z) (rw (and_left (on_side s F Cs j) (hides s Cs j k) v, hides_on j k b.place (and_right (on_side s F Cs j) (hides s Cs j k) v) g))))
                  (rw (o, hides_not k));
            })

    module _ (on : On n Cs) where
      -- F is what they make exactly when two plots share a class of F where they share one of what they make: R says where
      pub join_fits : length F ≡ n → number F ≡ F → (R : ℕ → ℕ → Type 0) → ((u v : ℕ) → u < n → v < n → Same (join_of s F Cs) u v ↔ R u v)
          → (alike (join_of s F Cs) F ≡ true) ↔ ((u v : ℕ) → u < n → v < n → Same F u v ↔ R u v)
      join_fits l_f nF R is = (
        λ e u v hu hv. subst (λ (K : Column). Same K u v ↔ R u v) (alike_sound (join_of s F Cs) F e) (is u v hu hv),
        λ h. subst (λ (K : Column). alike (join_of s F Cs) K ≡ true) (same h) (alike_self (join_of s F Cs)),
      )
        where
          same : ((u v : ℕ) → u < n → v < n → Same F u v ↔ R u v) → join_of s F Cs ≡ F
          same h =
              sym (number_join F Cs on)
              ∙ numbered_equal n (join_of s F Cs) F (length_join F Cs on) l_f (record { to = λ u v hu hv e. (h u v hu hv).1 ((is u v hu hv).0 e); from = λ u v hu hv e. (is u v hu hv).1 ((h u v hu hv).0 e) })
              ∙ nF

      -- the columns listed make what all of them make: F is the best that has those
      pub listed_best : join_of s F Cs ≡ F → (H : Column) → ((c : ℕ) → c ∈ shown s F Cs → s.towards H (column c) ≡ true) → s.towards H F ≡ true
      unfolding on_side shown listed
      listed_best is H agree = subst (λ (G : Column). s.towards H G ≡ true) is (join_best_of F Cs on H (λ i l t. each i (near i l t (length Cs) (omega arith))))
        where
          each : (i : ℕ) → Near (length Cs) i → s.towards H (column i) ≡ true
          each i b =
              laws.further H (column b.place) (column i)
              (agree b.place ((passing_enumerates (listed s F Cs) 0 (length Cs)).all b.place (omega arith, omega (arith, b.less), rw b.there (every_all (length Cs) (free b.place) b.unhidden))))
              b.nearer

      -- where none is listed F is what none make, where one is listed it is that column
      pub none_listed : join_of s F Cs ≡ F → shown s F Cs ≡ [] → Equivalent n F s.none
      none_listed is e = laws.same F s.none (laws.none_last F) (listed_best is s.none (λ c m. absurd (Memᴰ.not-nil (subst (λ (l : List ℕ). c ∈ l) e m))))

      pub one_listed : join_of s F Cs ≡ F → (c : ℕ) → shown s F Cs ≡ c ∷ [] → Equivalent n F (column c)
      one_listed is c e =
          laws.same F (column c) (listed_there c (subst (λ (l : List ℕ). c ∈ l) (sym e) (Memᴰ.head refl))).1
          (listed_best is (column c) (λ d m. only d (Memᴰ.cases_cons (subst (λ (l : List ℕ). d ∈ l) e m))))
        where
          only : (d : ℕ) → (d ≡ c) ⊎ (d ∈ []) → s.towards (column c) (column d) ≡ true
          only d (inl q) = rw q (itself c)
          only d (inr m) = absurd (Memᴰ.not-nil m)
