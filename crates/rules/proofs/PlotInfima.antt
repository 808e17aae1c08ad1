-- Laws for a program that closes the plot family from the infima of all choices of plot columns, which are closed under infimum already.
-- Assumes nothing.
use mathlib.Core.Path.{◌≡◌, refl, sym, ◌∙◌, subst}
use mathlib.Core.Logic.{◌↔◌, ◌⊎◌, inl, inr}
use mathlib.Core.List.Memᴰ
use mathlib.Core.List.{List, [], ◌∷◌, ◌++◌, map}
use Prim.Native.Nat.{ℕ, zero, ◌≤◌, ◌<◌, zero-le, suc-le-suc}
use native.Mathlib.Nat.{le_trans, le_antisymm}
use native.Mathlib.Omega.{arith}
use lib.ListN.{length}
use Rattle.rules.specs.Limits.{most_columns}
use Rattle.rules.specs.Factor.{Column, Same, number, infimum, supremum, universal, equality}
use Rattle.rules.specs.Family.{Family, ◌∈◌, insert_all, empty, Distinct}
use Rattle.rules.specs.Closing.{both, only_supremum, Made, given, made, Closing, too_many, family, close, plot_generators, plot_family, InPlotFamily, by_column, by_universal, by_equality, by_infimum, choices, infimum_all, treatment_generators, Chosen, none_of, skipping, taking}
use Rattle.rules.proofs.Numbering.{number_infimum}
use Rattle.rules.proofs.Bounds.{numbered_equal, length_infimum', infimum_same', infimum_number, infimum_comm, infimum_finer_is}
use Rattle.rules.proofs.Extremes.{length_universal, number_equality, length_equality}
use Rattle.rules.proofs.ClassCount.{finer_universal, equality_finer}
use Rattle.rules.proofs.Members.{insert_all_only, insert_all_length, insert_all_stable, ascending_insert_all}
use Rattle.rules.proofs.Closing.{pigeonhole, ascending_distinct, Closed, listed, too_many_holds, close_right, close_smallest, close_many, close_within, close_too_many}
use Rattle.rules.proofs.Families.{Lists, close_lists, in_family_made, choices_chosen, chosen_nothing, chosen_choices}
use Rattle.rules.proofs.WorkList.{length_sorted}
use Rattle.rules.proofs.Demand3.{member_length}
use Rattle.rules.proofs.Made.{chosen_on, chosen_numbered}

-- the infima of all choices of the plot columns, and E
abbrev pub plot_infima : ℕ → List Column → List Column
plot_infima n Fs = treatment_generators n most_columns Fs ++ equality n ∷ []

-- ---- closing from other columns of the smallest set

module _ (make : Column → Column → List Column) where
  -- what columns of the smallest set make is in it
  made_made : (As Bs : List Column) → ((F : Column) → F ∈ As → Made make Bs F) → (H : Column) → Made make As H → Made make Bs H
  made_made As Bs f H (given m) = f H m
  made_made As Bs f H (made {F} {G} p q k) = made (made_made As Bs f F p) (made_made As Bs f G q) k

  -- columns that make each other close to the same family
  close_same : (As Bs : List Column) → ((F : Column) → F ∈ As → Made make Bs F) → ((F : Column) → F ∈ Bs → Made make As F) → close make As ≡ close make Bs
  close_same As Bs f g = go (close make As) (close_right make As)
    where
      go : (x : Closing) → Closed make As x → x ≡ close make Bs
      go x (listed {R = R} s) = sym (close_smallest make Bs R (record { ascending = s.ascending; few = s.few; only = λ H m. made_made As Bs f H (s.only H m); all = λ H p. s.all H (made_made Bs As g H p) }))
      go x (too_many_holds m) = sym (close_many make Bs (record { some = m.some; distinct = m.distinct; many = m.many; only = λ H k. made_made As Bs f H (m.only H k) }))

-- different members of a family, as many as it has, are all of it
all_members : (S P : Family) → Distinct S → ((F : Column) → F ∈ S → F ∈ P) → length P ≡ length S → (F : Column) → F ∈ P → F ∈ S
all_members S P d f l F m = in_S F (insert_all_only S [] F (insert_all_stable P R (le_antisymm most (insert_all_length P R)) F m))
  where
    R : Family
    R = insert_all S []

    in_S : (G : Column) → (G ∈ S) ⊎ (G ∈ []) → G ∈ S
    in_S G (inl k) = k
    in_S G (inr k) = absurd (Memᴰ.not-nil k)

    in_P : (G : Column) → (G ∈ P) ⊎ (G ∈ R) → G ∈ P
    in_P G (inl k) = k
    in_P G (inr k) = f G (in_S G (insert_all_only S [] G k))

    distinct : Distinct (insert_all P R)
    distinct = ascending_distinct (ascending_insert_all P R (ascending_insert_all S [] empty))

    most : length (insert_all P R) ≤ length R
    most = rw (length_sorted S d, ← l) (pigeonhole (insert_all P R) P distinct (λ G k. in_P G (insert_all_only P R G k)))

-- ---- two choices together

-- a choice has no more columns than there are
chosen_few : {C Ts : List Column} → Chosen C Ts → length C ≤ length Ts
chosen_few none_of = zero-le
chosen_few (skipping c) = let h = chosen_few c in omega arith
chosen_few (taking c) = suc-le-suc (chosen_few c)

-- one column is a choice
chosen_one : (F : Column) (Ts : List Column) → F ∈ Ts → Chosen (F ∷ []) Ts
chosen_one F [] m = absurd (Memᴰ.not-nil m)
chosen_one F (T ∷ Ts) m = go (chosen_one F Ts) (Memᴰ.cases_cons m)
  where
    go : (F ∈ Ts → Chosen (F ∷ []) Ts) → (F ≡ T) ⊎ (F ∈ Ts) → Chosen (F ∷ []) (T ∷ Ts)
    go below (inl e) = rw e (taking (choices_chosen zero Ts [] (chosen_nothing zero Ts)).0)
    go below (inr k) = skipping (below k)

module _ (n : ℕ) where
  -- a choice of the columns in C or D: plots share a class of its infimum exactly when they do in the infima of both
  record Together (C D Ts : List Column) : Type 0 where
    chosen : List Column
    is : Chosen chosen Ts
    shares : (u v : ℕ) → u < n → v < n → Same (infimum_all n chosen) u v ↔ (Same (infimum_all n C) u v × Same (infimum_all n D) u v)

  module _ (T : Column) (Ts : List Column) (on : (F : Column) → F ∈ T ∷ Ts → length F ≡ n) where
    -- plots share a class with one column more exactly when they do in that column and without it
    more : {C : List Column} → Chosen C Ts → (u v : ℕ) → u < n → v < n → Same (infimum_all n (T ∷ C)) u v ↔ (Same T u v × Same (infimum_all n C) u v)
    unfolding infimum_all
    more {C} c u v hu hv = infimum_same' n T (infimum_all n C) (on T (Memᴰ.head refl)) (chosen_on n c (λ F m. on F (Memᴰ.tail m))) u v hu hv

    -- one column more in either of the two choices
    one_more : {C D C' D' : List Column} → Together C D Ts
        → ((u v : ℕ) → u < n → v < n → (Same T u v × Same (infimum_all n C) u v × Same (infimum_all n D) u v) ↔ (Same (infimum_all n C') u v × Same (infimum_all n D') u v))
        → Together C' D' (T ∷ Ts)
    one_more t f = record {
      chosen = T ∷ t.chosen;
      is = taking t.is;
      shares = λ u v hu hv.
          let a = more t.is u v hu hv in
          let s = t.shares u v hu hv in
          let g = f u v hu hv in
          (λ e. let r = s.0 (a.0 e).1 in g.0 ((a.0 e).0, r.0, r.1), λ e. let r = g.1 e in a.1 (r.0, s.1 (r.1, r.2)));
    }

  -- any two choices have one
  together : {C D Ts : List Column} → Chosen C Ts → Chosen D Ts → ((F : Column) → F ∈ Ts → length F ≡ n) → Together C D Ts
  together none_of none_of on = record { chosen = []; is = none_of; shares = λ u v hu hv. (λ e. (e, e), λ e. e.0) }
  together (skipping c) (skipping d) on =
      let t = together c d (λ F m. on F (Memᴰ.tail m)) in
      record { chosen = t.chosen; is = skipping t.is; shares = t.shares }
  together (taking {T = T} {Ts = Ts} c) (skipping d) on =
      one_more T Ts on (together c d (λ F m. on F (Memᴰ.tail m)))
      (λ u v hu hv. let a = more T Ts on c u v hu hv in (λ e. (a.1 (e.0, e.1), e.2), λ e. let r = a.0 e.0 in (r.0, r.1, e.1)))
  together (skipping c) (taking {T = T} {Ts = Ts} d) on =
      one_more T Ts on (together c d (λ F m. on F (Memᴰ.tail m)))
      (λ u v hu hv. let b = more T Ts on d u v hu hv in (λ e. (e.1, b.1 (e.0, e.2)), λ e. let r = b.0 e.1 in (r.0, e.0, r.1)))
  together (taking {T = T} {Ts = Ts} c) (taking d) on =
      one_more T Ts on (together c d (λ F m. on F (Memᴰ.tail m)))
      (λ u v hu hv. let a = more T Ts on c u v hu hv in let b = more T Ts on d u v hu hv in
      (λ e. (a.1 (e.0, e.1), b.1 (e.0, e.2)), λ e. let r = a.0 e.0 in (r.0, r.1, (b.0 e.1).1)))

-- ---- the infima

module _ (n : ℕ) (Fs : List Column) where
  -- columns of the smallest set, with the generators among them, close to the plot family
  pub same_family : (Ms : List Column) → ((F : Column) → F ∈ Ms → Made both (plot_generators n Fs) F) → ((G : Column) → G ∈ plot_generators n Fs → G ∈ Ms) → close both Ms ≡ plot_family n Fs
  unfolding plot_family
  same_family Ms only has = close_same both Ms (plot_generators n Fs) only (λ G m. given (has G m))

  -- each of the infima is that of a choice, or E
  infima_cases : (H : Column) → H ∈ plot_infima n Fs → ((C : List Column) × Chosen C Fs × (infimum_all n C ≡ H)) ⊎ (H ≡ equality n)
  unfolding treatment_generators
  infima_cases H m = go (Memᴰ.append_cases (treatment_generators n most_columns Fs) m)
    where
      choice : (C : List Column) × (C ∈ choices most_columns Fs) × (infimum_all n C ≡ H) → (C : List Column) × Chosen C Fs × (infimum_all n C ≡ H)
      choice (C, c, e) = (C, (choices_chosen most_columns Fs C c).0, e)

      go : (H ∈ treatment_generators n most_columns Fs) ⊎ (H ∈ equality n ∷ []) → ((C : List Column) × Chosen C Fs × (infimum_all n C ≡ H)) ⊎ (H ≡ equality n)
      go (inl k) = inl (choice (Memᴰ.of_map (infimum_all n) (choices most_columns Fs) k))
      go (inr k) = inr (Memᴰ.eq_of_singleton k)

  -- the infimum of a choice of at most six columns is among them
  infima_has : {C : List Column} → Chosen C Fs → length C ≤ most_columns → infimum_all n C ∈ plot_infima n Fs
  unfolding treatment_generators
  infima_has c h = Memᴰ.append_left _ (Memᴰ.map (infimum_all n) (chosen_choices most_columns c h))

  -- so is E
  infima_equality : equality n ∈ plot_infima n Fs
  infima_equality = Memᴰ.append_right (treatment_generators n most_columns Fs) (Memᴰ.head refl)

  module _ (on : (F : Column) → F ∈ Fs → length F ≡ n) where
    -- the infimum of a choice is in the plot family
    chosen_member : {C Us : List Column} → Chosen C Us → ((F : Column) → F ∈ Us → F ∈ Fs) → InPlotFamily n Fs (infimum_all n C)
    unfolding infimum_all
    chosen_member none_of f = by_universal
    chosen_member (skipping c) f = chosen_member c (λ F m. f F (Memᴰ.tail m))
    chosen_member (taking {T = T} {C = C} c) f =
        let t = f T (Memᴰ.head refl) in
        let l = chosen_on n c (λ F m. on F (f F (Memᴰ.tail m))) in
        subst (InPlotFamily n Fs) (infimum_number n T (infimum_all n C) (on T t) l) (by_infimum (by_column t) (chosen_member c (λ F m. f F (Memᴰ.tail m))))

    -- so is each of the infima
    infima_member : (H : Column) → H ∈ plot_infima n Fs → InPlotFamily n Fs H
    infima_member H m = go (infima_cases H m)
      where
        go : ((C : List Column) × Chosen C Fs × (infimum_all n C ≡ H)) ⊎ (H ≡ equality n) → InPlotFamily n Fs H
        go (inl (C, c, e)) = subst (InPlotFamily n Fs) e (chosen_member c (λ F k. k))
        go (inr e) = rw e by_equality

    -- each is in the smallest set
    pub infima_made : (H : Column) → H ∈ plot_infima n Fs → Made both (plot_generators n Fs) H
    infima_made H m = in_family_made n Fs H (infima_member H m)

    -- the plot columns, U and E are among them
    pub infima_given : (G : Column) → G ∈ plot_generators n Fs → G ∈ plot_infima n Fs
    unfolding plot_generators treatment_generators infimum_all
    infima_given G m = first (Memᴰ.cases_cons m)
      where
        column : (F : Column) × (F ∈ Fs) × (number F ≡ G) → G ∈ plot_infima n Fs
        column (F, k, e) =
            let i : infimum F (universal n) ≡ G = infimum_finer_is n F (universal n) (on F k) (length_universal n) (finer_universal n F) ∙ e in
            subst (λ (H : Column). H ∈ plot_infima n Fs) i (infima_has (chosen_one F Fs k) (suc-le-suc zero-le))

        second : (G ≡ equality n) ⊎ (G ∈ map number Fs) → G ∈ plot_infima n Fs
        second (inl e) = rw e infima_equality
        second (inr k) = column (Memᴰ.of_map number Fs k)

        first : (G ≡ universal n) ⊎ (G ∈ equality n ∷ map number Fs) → G ∈ plot_infima n Fs
        first (inl e) = rw e (Memᴰ.append_left _ (Memᴰ.map (infimum_all n) (chosen_nothing most_columns Fs)))
        first (inr k) = second (Memᴰ.cases_cons k)

    -- what suprema make of them is in the smallest set too
    pub suprema_made : (H : Column) → Made only_supremum (plot_infima n Fs) H → Made both (plot_generators n Fs) H
    unfolding both only_supremum
    suprema_made H (given m) = infima_made H m
    suprema_made H (made {F} {G} p q k) = made (suprema_made F p) (suprema_made G q) (Memᴰ.tail k)

    -- too many under supremum alone are too many
    pub infima_many : close only_supremum (plot_infima n Fs) ≡ too_many → plot_family n Fs ≡ too_many
    unfolding plot_family
    infima_many e = (close_too_many both (plot_generators n Fs)).1 (λ few. (close_too_many only_supremum (plot_infima n Fs)).0 e (λ S d f. few S d (λ F m. suprema_made F (f F m))))

    module _ (few : length Fs ≤ most_columns) where
      -- the infimum of two choices' infima is that of one choice
      choices_meet : {C D : List Column} → Chosen C Fs → Chosen D Fs → infimum (infimum_all n C) (infimum_all n D) ∈ plot_infima n Fs
      choices_meet {C} {D} c d = subst (λ (H : Column). H ∈ plot_infima n Fs) equal (infima_has t.is (le_trans (chosen_few t.is) few))
        where
          t : Together n C D Fs
          t = together n c d on

          l_c : length (infimum_all n C) ≡ n
          l_c = chosen_on n c on

          l_d : length (infimum_all n D) ≡ n
          l_d = chosen_on n d on

          equal : infimum_all n t.chosen ≡ infimum (infimum_all n C) (infimum_all n D)
          equal =
              sym (chosen_numbered n t.is on)
              ∙ numbered_equal n (infimum_all n t.chosen) (infimum (infimum_all n C) (infimum_all n D)) (chosen_on n t.is on) (length_infimum' n (infimum_all n C) (infimum_all n D) l_c l_d) (record {
                to = λ u v hu hv e. (infimum_same' n (infimum_all n C) (infimum_all n D) l_c l_d u v hu hv).1 ((t.shares u v hu hv).0 e);
                from = λ u v hu hv e. (t.shares u v hu hv).1 ((infimum_same' n (infimum_all n C) (infimum_all n D) l_c l_d u v hu hv).0 e);
              })
              ∙ number_infimum (infimum_all n C) (infimum_all n D) (l_c ∙ sym l_d)

      -- they are closed under infimum
      pub infima_meet : (F G : Column) → F ∈ plot_infima n Fs → G ∈ plot_infima n Fs → infimum F G ∈ plot_infima n Fs
      infima_meet F G p q = go (infima_cases F p) (infima_cases G q)
        where
          l_f : length F ≡ n
          l_f = member_length n Fs on F (infima_member F p)

          l_g : length G ≡ n
          l_g = member_length n Fs on G (infima_member G q)

          with_equality : (H : Column) → length H ≡ n → infimum (equality n) H ∈ plot_infima n Fs
          with_equality H l =
              subst (λ (K : Column). K ∈ plot_infima n Fs) (sym (infimum_finer_is n (equality n) H (length_equality n) l (equality_finer n H) ∙ number_equality n)) infima_equality

          go : ((C : List Column) × Chosen C Fs × (infimum_all n C ≡ F)) ⊎ (F ≡ equality n) → ((D : List Column) × Chosen D Fs × (infimum_all n D ≡ G)) ⊎ (G ≡ equality n) → infimum F G ∈ plot_infima n Fs
          go (inl (C, c, e)) (inl (D, d, f)) = rw (← e, ← f) (choices_meet c d)
          go (inl x) (inr f) = rw (infimum_comm n F G l_f l_g, f) (with_equality F l_f)
          go (inr e) y = rw e (with_equality G l_g)

      -- where supremum adds nothing to different ones of them, it closes them to the plot family
      pub infima_whole : (S P : Family) → Distinct S → ((F : Column) → F ∈ S → F ∈ plot_infima n Fs) → close only_supremum (plot_infima n Fs) ≡ family P → length P ≡ length S → plot_family n Fs ≡ family P
      unfolding plot_family both only_supremum
      infima_whole S P d only e l =
          close_within both (plot_generators n Fs) P (record { ascending = s.ascending; only = λ G m. suprema_made G (s.only G m); has = λ G m. s.all G (given (infima_given G m)) }) s.few closed
        where
          s : Lists (Made only_supremum (plot_infima n Fs)) P
          s = close_lists only_supremum (plot_infima n Fs) (Made only_supremum (plot_infima n Fs)) (λ F m. m) (λ F m. m) P e

          infimum_of_lem : (F : Column) → F ∈ P → F ∈ plot_infima n Fs
          infimum_of_lem F m = only F (all_members S P d (λ G k. s.all G (given (only G k))) l F m)

          closed : (F G H : Column) → F ∈ P → G ∈ P → H ∈ both F G → H ∈ P
          closed F G H p q m = go (Memᴰ.cases_cons m)
            where
              go : (H ≡ infimum F G) ⊎ (H ∈ supremum F G ∷ []) → H ∈ P
              go (inl i) = rw i (s.all (infimum F G) (given (infima_meet F G (infimum_of_lem F p) (infimum_of_lem G q))))
              go (inr k) = s.all H (made (s.only F p) (s.only G q) k)
