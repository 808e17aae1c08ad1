-- Demand 2: a full design that meets the conditions of 6 to 14 is accepted, and one that breaks any is refused at the first one broken, with its places; the families written are just those that the rules name. The first condition broken of the plot design too.
-- Assumes nothing.
use mathlib.Core.Path.{◌≡◌, refl, sym, ap, ap₂, ◌∙◌, subst}
use mathlib.Core.Logic.{◌↔◌, ◌⊎◌, inl, inr}
use mathlib.Core.Bool.{Bool, true, false, ◌&&◌}
use mathlib.Core.List.Memᴰ
use mathlib.Core.List.{List, [], ◌∷◌, ◌++◌}
use Prim.Native.Nat.{ℕ, zero, suc, ◌+◌, ◌*◌, ◌≤◌, ◌<◌, zero-le, suc-le-suc}
use native.Mathlib.Nat.{le_trans, suc-ne-zero, not-suc-le-zero, le_of_suc-le-suc, le_refl}
use native.Mathlib.Omega.{arith}
use lib.Dec.{eqb, ltb, leb, lit≤}
use lib.ListN.{length, get_or, take, drop, length-drop}
use lib.Seq.{length-take-le, get_or-take, get_or-drop}
use borrow.Author.Tests.{ltb-true, leb-true, lt-ltb, le-leb, lt-leb, leb-false, eqb-true, eqb-false, ltb-false, eq-eqb, ne_eqb}
use Rattle.rules.specs.Factor.{Column, equality, uniform, orthogonal}
use Rattle.rules.specs.Family.{Family, ◌∈◌, AtMost, Lists, columns_from, members_of}
use Rattle.rules.specs.Closing.{Closing, too_many, family, plot_family, first_treatment_family, final_treatment_family, InPlotFamily, InFirstTreatmentFamily, SupremumOfEach, by_equality}
use Rattle.rules.specs.Design.{Answer, Places, first_failing, pair_at, first_pair, first_cross, nonzero, all_nonzero, plots_within, within_limits, full_within_limits, plot_design, full_design, plot_buffer, treatment_buffer}
use Rattle.rules.specs.Strata.{all_have_stratum}
use Rattle.rules.specs.Places.{at_place, FirstPlace, FirstPlaces, FirstCross}
use Rattle.rules.specs.Asking.{Verdict, Asked, first_no, at_places, few_enough, members_in, asks6, asks7, asks8, asks9, asks10, asks11, asks12, asks13, asks14, plot_columns, treatment_columns, plot_members, first_members, full_questions, verdict_of, written_from, full_answer}
use Rattle.rules.specs.Limits.{PlotLimits}
use Rattle.rules.specs.Demand2.{read_back, Condition, condition, FirstBroken, AllHold, Within, NoneMissing, condition6, condition7, condition8, condition9, condition10, condition11, condition12, condition13, condition14, full_conditions, plot_conditions, FirstUneven, FirstApart, FirstApartAcross, Carries, Demand2}
use Rattle.rules.proofs.Numbering.{by_cases}
use Rattle.rules.proofs.Members.{clash}
use Rattle.rules.proofs.Tests.{uniform_test, orthogonal_test}
use Rattle.rules.proofs.Closing.{pigeonhole, ascending_distinct}
use Rattle.rules.proofs.Families.{plot_family_lists, plot_too_many, first_family_lists, first_too_many, final_ascending, final_only, final_all}
use Rattle.rules.proofs.Verdict.{failing_none, failing_pass, pairs_orthogonal}
use Rattle.rules.proofs.First.{failing_first, pair_first, cross_first_lem}
use Rattle.rules.proofs.Demand3.{Fits, column_length, nonzero_all}
use Rattle.rules.proofs.WellMade.{WellMade, plot_made, first_made, final_made}
use Rattle.rules.proofs.Treatments.{plot_family_strata}
use Rattle.rules.proofs.Buffer.{written_members}
use Rattle.rules.proofs.Sheet.{and_left, and_right}
use Rattle.rules.proofs.FirstNo.{EachMost, number_most, plain_pass, places_pass, places_fail, Settles, none_left, and_then, all_settled, NumberedFrom1, broken_none, reply_to, without, apart, verdict_places, plain_places, PlainOr, other_places}
use Rattle.rules.proofs.DesignAsks.{six_no, plot_design_asks, full_design_asks}

-- ---- 6

-- what question 6 of a plot design tells
pub plot_limits : (n c t b : ℕ) → within_limits n c t b ≡ true → PlotLimits n c t b
unfolding within_limits plots_within
plot_limits n c t b e =
    let w : Bool = ltb 0 n && leb n 240 in
    let w1 : Bool = w && leb c 6 in
    let w2 : Bool = w1 && leb 2880 t in
    let e2 = and_left w2 (leb 7680 b) e in
    let e1 = and_left w1 (leb 2880 t) e2 in
    let e0 = and_left w (leb c 6) e1 in
    record {
      plots_some = ltb-true 0 n (and_left (ltb 0 n) (leb n 240) e0);
      plots_few = leb-true n 240 (and_right (ltb 0 n) (leb n 240) e0);
      columns = leb-true c 6 (and_right w (leb c 6) e1);
      table = leb-true 2880 t (and_right w1 (leb 2880 t) e2);
      room = leb-true 7680 b (and_right w2 (leb 7680 b) e);
    }

module _ (n c d k : ℕ) (levels plots treatments : List ℕ) where
  -- what question 6 of a full design tells
  pub within_to : full_within_limits n c d k (length levels) (length plots) (length treatments) ≡ true → Within n c d k levels plots treatments
  unfolding full_within_limits
  within_to e =
      let w : Bool = within_limits n c (length levels) (length plots) in
      let w1 : Bool = w && leb d 6 in
      let w2 : Bool = w1 && ltb 0 k in
      let e3 = and_left (w2 && leb k 6) (leb 7680 (length treatments)) e in
      let e2 = and_left w2 (leb k 6) e3 in
      let e1 = and_left w1 (ltb 0 k) e2 in
      let l = plot_limits n c (length levels) (length plots) (and_left w (leb d 6) e1) in
      record {
        plots_least = l.plots_some;
        plots_most = l.plots_few;
        plot_columns_holds = l.columns;
        treatment_columns_holds = leb-true d 6 (and_right w (leb d 6) e1);
        level_least = ltb-true 0 k (and_right w1 (ltb 0 k) e2);
        level_most = leb-true k 6 (and_right w2 (leb k 6) e3);
        table = l.table;
        plot_family_holds = l.room;
        treatment_family = leb-true 7680 (length treatments) (and_right (w2 && leb k 6) (leb 7680 (length treatments)) e);
      }

  pub within_from : Within n c d k levels plots treatments → full_within_limits n c d k (length levels) (length plots) (length treatments) ≡ true
  unfolding full_within_limits within_limits plots_within
  within_from l =
      rw (
        lt-ltb 0 n l.plots_least,
        le-leb n 240 l.plots_most,
        le-leb c 6 l.plot_columns_holds,
        le-leb 2880 (length levels) l.table,
        le-leb 7680 (length plots) l.plot_family_holds,
        le-leb d 6 l.treatment_columns_holds,
        lt-ltb 0 k l.level_least,
        le-leb k 6 l.level_most,
        le-leb 7680 (length treatments) l.treatment_family,
      )

  pub settles_6 : Settles (asks6 (full_within_limits n c d k (length levels) (length plots) (length treatments))) (condition6 n c d k levels plots treatments)
  settles_6 = record {
    same = refl;
    to = λ e. within_to ((plain_pass _).0 e);
    from = λ l. (plain_pass _).1 (within_from l);
  }

-- ---- 7

module _ (x : ℕ) (F : Column) where
  zero_first : eqb x 0 ≡ true → nonzero (x ∷ F) ≡ false
  unfolding nonzero
  zero_first e = rw (e, nonzero)

  level_first : eqb x 0 ≡ false → nonzero (x ∷ F) ≡ nonzero F
  unfolding nonzero
  level_first e = rw (e, nonzero)

nonzero_at : (F : Column) → nonzero F ≡ true → (u : ℕ) → u < length F → get_or F u 0 ≡ 0 → ⊥
nonzero_at [] e u h z = not-suc-le-zero h
nonzero_at (x ∷ F) e zero h z = by_cases (eqb x 0) (λ f. clash e (zero_first x F f)) (λ f. eqb-false x 0 f z)
nonzero_at (x ∷ F) e (suc u) h z = by_cases (eqb x 0) (λ f. clash e (zero_first x F f)) (λ f. nonzero_at F (sym (level_first x F f) ∙ e) u (le_of_suc-le-suc h) z)

module _ (F : Column) (Fs : List Column) where
  all_yes : nonzero F ≡ true → all_nonzero (F ∷ Fs) ≡ all_nonzero Fs
  unfolding all_nonzero
  all_yes e = rw (e, all_nonzero)

  all_no : nonzero F ≡ false → all_nonzero (F ∷ Fs) ≡ false
  unfolding all_nonzero
  all_no e = rw (e, all_nonzero)

  all_both : all_nonzero (F ∷ Fs) ≡ true → (nonzero F ≡ true) × (all_nonzero Fs ≡ true)
  all_both e = by_cases (nonzero F) (λ f. (f, sym (all_yes f) ∙ e)) (λ f. clash e (all_no f))

-- the columns of both kinds
append_to : (Fs Ts : List Column) → all_nonzero (Fs ++ Ts) ≡ true → (all_nonzero Fs ≡ true) × (all_nonzero Ts ≡ true)
unfolding all_nonzero
append_to [] Ts e = (refl, e)
append_to (F ∷ Fs) Ts e =
    let w : (nonzero F ≡ true) × (all_nonzero (Fs ++ Ts) ≡ true) = all_both F (Fs ++ Ts) e in
    let r : (all_nonzero Fs ≡ true) × (all_nonzero Ts ≡ true) = append_to Fs Ts w.1 in
    (all_yes F Fs w.0 ∙ r.0, r.1)

append_from : (Fs Ts : List Column) → all_nonzero Fs ≡ true → all_nonzero Ts ≡ true → all_nonzero (Fs ++ Ts) ≡ true
append_from [] Ts e f = f
append_from (F ∷ Fs) Ts e f = let w : (nonzero F ≡ true) × (all_nonzero Fs ≡ true) = all_both F Fs e in all_yes F (Fs ++ Ts) w.0 ∙ append_from Fs Ts w.1 f

module _ (n : ℕ) (levels : List ℕ) (small : n ≤ 240) (long : 2880 ≤ length levels) where
  abbrev column : ℕ → Column
  column c = take n (drop (240 * c) levels)

  cell : (c u : ℕ) → u < n → get_or (column c) u 0 ≡ get_or levels (240 * c + u) 0
  cell c u h = get_or-take n (drop (240 * c) levels) u 0 h ∙ get_or-drop (240 * c) levels u 0

  column_long : (c : ℕ) → c < 12 → length (column c) ≡ n
  column_long c h = length-take-le n (drop (240 * c) levels) fits
    where
      fits : n ≤ length (drop (240 * c) levels)
      fits = rw length-drop (omega arith)

  -- the levels of m columns from c on
  cells_to : (m c : ℕ) → c + m ≤ 12 → all_nonzero (columns_from n levels c m) ≡ true → (j u : ℕ) → c ≤ j → j < c + m → u < n → get_or levels (240 * j + u) 0 ≡ 0 → ⊥
  unfolding columns_from
  cells_to zero c h e j u l r hu z = let q : 1 ≤ 0 = omega arith in not-suc-le-zero q
  cells_to (suc m) c h e j u l r hu z = by_cases (eqb c j) (λ f. here (eqb-true c j f)) (λ f. cells_to m (suc c) (omega arith) w.1 j u (later (eqb-false c j f)) (omega arith) hu z)
    where
      w : (nonzero (column c) ≡ true) × (all_nonzero (columns_from n levels (suc c) m) ≡ true)
      w = all_both (column c) (columns_from n levels (suc c) m) e

      later : (c ≡ j → ⊥) → suc c ≤ j
      later d = by_cases (ltb c j) (λ f. ltb-true c j f) (λ f. absurd (d (let q : j ≤ c = ltb-false c j f in omega arith)))

      here : c ≡ j → ⊥
      here q = nonzero_at (column c) w.0 u (subst (λ (x : ℕ). u < x) (sym (column_long c (omega arith))) hu) (cell c u hu ∙ ap (λ (x : ℕ). get_or levels (240 * x + u) 0) q ∙ z)

  cells_from : (m c : ℕ) → c + m ≤ 12 → ((j u : ℕ) → c ≤ j → j < c + m → u < n → get_or levels (240 * j + u) 0 ≡ 0 → ⊥) → all_nonzero (columns_from n levels c m) ≡ true
  unfolding columns_from all_nonzero
  cells_from zero c h f = refl
  cells_from (suc m) c h f =
      all_yes (column c) (columns_from n levels (suc c) m)
      (nonzero_all (column c) (λ u hu z. let un : u < n = subst (λ (x : ℕ). u < x) (column_long c (omega arith)) hu in f c u (le_refl c) (omega arith) un (sym (cell c u un) ∙ z)))
      ∙ cells_from m (suc c) (omega arith) (λ j u l r hu. f j u (omega arith) (omega arith) hu)

module _ (n c d k : ℕ) (levels plots treatments : List ℕ) (l : Within n c d k levels plots treatments) where
  pub settles_7 : Settles (asks7 (plot_columns n c levels ++ treatment_columns n d levels)) (condition7 n c d k levels plots treatments)
  settles_7 = record {
    same = refl;
    to = λ e. to (append_to (plot_columns n c levels) (treatment_columns n d levels) ((plain_pass _).0 e));
    from = λ h. (plain_pass _).1 (append_from (plot_columns n c levels) (treatment_columns n d levels)
        (cells_from n levels l.plots_most l.table c 0 (omega (arith, l.plot_columns_holds)) (λ j u a b hu z. h j u (inl (omega arith)) hu z))
        (cells_from n levels l.plots_most l.table d 6 (omega (arith, l.treatment_columns_holds)) (λ j u a b hu z. h j u (inr (a, b)) hu z)));
  }
    where
      to : (all_nonzero (plot_columns n c levels) ≡ true) × (all_nonzero (treatment_columns n d levels) ≡ true) → NoneMissing n c d levels
      to w j u (inl a) hu z = cells_to n levels l.plots_most l.table c 0 (omega (arith, l.plot_columns_holds)) w.0 j u zero-le (omega arith) hu z
      to w j u (inr a) hu z = cells_to n levels l.plots_most l.table d 6 (omega (arith, l.treatment_columns_holds)) w.1 j u a.0 a.1 hu z

-- ---- 8 and 11: families listed

-- what a list of at most 32 lists is of at most 32
pub lists_few : {Q : Column → Type 0} {R : Family} → Lists Q R → AtMost 32 Q
lists_few {Q} {R} l T d h = le_trans (pigeonhole T R d (λ F m. l.all F (h F m))) l.few

listed_is : (x : Closing) → few_enough x ≡ true → x ≡ family (members_in x)
listed_is too_many e = let z : ◌≡◌ {A = ℕ} 0 1 = cc in absurd (omega arith)
listed_is (family R) e = refl

module _ (Q : Column → Type 0) (x : Closing) (lists : (R : Family) → x ≡ family R → Lists Q R) (many : x ≡ too_many ↔ (AtMost 32 Q → ⊥)) where
  listed_to : few_enough x ≡ true → AtMost 32 Q
  listed_to e = lists_few (lists (members_in x) (listed_is x e))

  listed_from : AtMost 32 Q → few_enough x ≡ true
  listed_from h = go x refl
    where
      go : (y : Closing) → x ≡ y → few_enough x ≡ true
      go too_many e = absurd (many.0 e h)
      go (family R) e = ap few_enough e

-- ---- pairs

module _ (p : Column → Column → Bool) (S : Family) where
  pair_found : (i j : ℕ) (rest : Places) → (pair_at (suc i) j rest).first ≡ 0 → (j ≡ 0) × (rest.first ≡ 0)
  unfolding pair_at
  pair_found i zero rest e = (refl, e)
  pair_found i (suc j) rest e = absurd (suc-ne-zero i e)

  cross_each : (i : ℕ) (P : Family) → (first_cross p (suc i) P S).first ≡ 0 → (F G : Column) → F ∈ P → G ∈ S → p F G ≡ true
  unfolding first_cross
  cross_each i [] e F G m k = absurd (Memᴰ.not-nil m)
  cross_each i (H ∷ P) e F G m k = go (cross_each (suc i) P both.1 F G) (Memᴰ.cases_cons m)
    where
      both : (first_failing (p H) 1 S ≡ 0) × ((first_cross p (suc (suc i)) P S).first ≡ 0)
      both = pair_found i (first_failing (p H) 1 S) (first_cross p (suc (suc i)) P S) e

      go : (F ∈ P → G ∈ S → p F G ≡ true) → (F ≡ H) ⊎ (F ∈ P) → p F G ≡ true
      go below (inl q) = rw q (failing_none (p H) 0 S both.0 G k)
      go below (inr q) = below q k

  pub cross_pass : (i : ℕ) (P : Family) → ((F G : Column) → F ∈ P → G ∈ S → p F G ≡ true) → (first_cross p i P S).first ≡ 0
  unfolding first_cross pair_at
  cross_pass i [] h = refl
  cross_pass i (F ∷ P) h =
      ap (λ (j : ℕ). (pair_at i j (first_cross p (suc i) P S)).first) (failing_pass (p F) 1 S (λ G m. h F G (Memᴰ.head refl) m))
      ∙ cross_pass (suc i) P (λ G H m k. h G H (Memᴰ.tail m) k)

-- ---- 8 to 14

module _ (n k : ℕ) (Fs Ts : List Column) (on_f : (F : Column) → F ∈ Fs → length F ≡ n) (on_t : (F : Column) → F ∈ Ts → length F ≡ n) where
  abbrev P : Family
  P = plot_members n Fs

  abbrev S : Family
  S = first_members n k Ts

  pub settles_8 : Settles (asks8 (plot_family n Fs)) (condition8 n k Fs Ts)
  settles_8 = record {
    same = refl;
    to = λ e. listed_to (InPlotFamily n Fs) (plot_family n Fs) (plot_family_lists n Fs) (plot_too_many n Fs) ((plain_pass _).0 e);
    from = λ h. (plain_pass _).1 (listed_from (InPlotFamily n Fs) (plot_family n Fs) (plot_family_lists n Fs) (plot_too_many n Fs) h);
  }

  pub settles_11 : Settles (asks11 (first_treatment_family n k Ts)) (condition11 n k Fs Ts)
  settles_11 = record {
    same = refl;
    to = λ e. listed_to (InFirstTreatmentFamily n k Ts) (first_treatment_family n k Ts) (first_family_lists n k Ts) (first_too_many n k Ts) ((plain_pass _).0 e);
    from = λ h. (plain_pass _).1 (listed_from (InFirstTreatmentFamily n k Ts) (first_treatment_family n k Ts) (first_family_lists n k Ts) (first_too_many n k Ts) h);
  }

  plot_is : (condition8 n k Fs Ts).holds → plot_family n Fs ≡ family P
  plot_is h = listed_is (plot_family n Fs) ((plain_pass _).0 (settles_8.from h))

  first_is : (condition11 n k Fs Ts).holds → first_treatment_family n k Ts ≡ family S
  first_is h = listed_is (first_treatment_family n k Ts) ((plain_pass _).0 (settles_11.from h))

  module _ (few8 : (condition8 n k Fs Ts).holds) where
    l_p : Lists (InPlotFamily n Fs) P
    l_p = plot_family_lists n Fs P (plot_is few8)

    m_p : WellMade n P
    m_p = plot_made n Fs on_f P (plot_is few8)

    pub settles_9 : Settles (asks9 n P) (condition9 n k Fs Ts)
    settles_9 = record {
      same = refl;
      to = λ e F m. (uniform_test n F).0 (failing_none (uniform n) 0 P ((places_pass _ 0).0 e) F (l_p.all F m));
      from = λ h. (places_pass _ 0).1 (failing_pass (uniform n) 1 P (λ F m. (uniform_test n F).1 (h F (l_p.only F m))));
    }

    pub settles_10 : Settles (asks10 n P) (condition10 n k Fs Ts)
    settles_10 = record {
      same = refl;
      to = λ e F G m q. (pairs_orthogonal n P m_p.on).0 ((places_pass _ _).0 e) F G (l_p.all F m) (l_p.all G q);
      from = λ h. (places_pass _ _).1 ((pairs_orthogonal n P m_p.on).1 (λ F G m q. h F G (l_p.only F m) (l_p.only G q)));
    }

    module _ (few11 : (condition11 n k Fs Ts).holds) where
      l_s : Lists (InFirstTreatmentFamily n k Ts) S
      l_s = first_family_lists n k Ts S (first_is few11)

      m_s : WellMade n S
      m_s = first_made n k Ts on_t S (first_is few11)

      pub settles_12 : Settles (asks12 n S) (condition12 n k Fs Ts)
      settles_12 = record {
        same = refl;
        to = λ e F G m q. (pairs_orthogonal n S m_s.on).0 ((places_pass _ _).0 e) F G (l_s.all F m) (l_s.all G q);
        from = λ h. (places_pass _ _).1 ((pairs_orthogonal n S m_s.on).1 (λ F G m q. h F G (l_s.only F m) (l_s.only G q)));
      }

      pub settles_13 : Settles (asks13 n P S) (condition13 n k Fs Ts)
      settles_13 = record {
        same = refl;
        to = λ e F G m q. (orthogonal_test n F G).0 (cross_each (orthogonal n) S 0 P ((places_pass _ _).0 e) F G (l_p.all F m) (l_s.all G q));
        from = λ h. (places_pass _ _).1 (cross_pass (orthogonal n) S 1 P (λ F G m q. (orthogonal_test n F G).1 (h F G (l_p.only F m) (l_s.only G q))));
      }

      abbrev R : Family
      R = final_treatment_family P S

      -- the final treatment family has just the suprema of a plot member with a first-treatment member
      pub in_final : (H : Column) → H ∈ R → SupremumOfEach (InPlotFamily n Fs) (InFirstTreatmentFamily n k Ts) H
      in_final H m =
          let f = final_only P S H m in
          record { plot = f.plot; treatment = f.treatment; in_plot = l_p.only f.plot f.in_plot; in_treatment = l_s.only f.treatment f.in_treatment; is = f.is }

      pub final_in : (H : Column) → SupremumOfEach (InPlotFamily n Fs) (InFirstTreatmentFamily n k Ts) H → H ∈ R
      final_in H f = final_all P S H record { plot = f.plot; treatment = f.treatment; in_plot = l_p.all f.plot f.in_plot; in_treatment = l_s.all f.treatment f.in_treatment; is = f.is }

      pub settles_14 : Settles (asks14 P S) (condition14 n k Fs Ts)
      settles_14 = record {
        same = refl;
        to = λ e T d h. le_trans (pigeonhole T R d (λ F m. final_in F (h F m))) (leb-true _ _ ((plain_pass _).0 e));
        from = λ h. (plain_pass _).1 (le-leb (length R) 32 (h R (ascending_distinct (final_ascending P S)) in_final));
      }

-- what the tests find, said of factors
module _ (n : ℕ) where
  first_uneven : (P : Family) (i : ℕ) → FirstPlace (uniform n) P i → FirstUneven n P i
  first_uneven P i w = record {
    least = w.least;
    most = w.most;
    fails = λ h. clash ((uniform_test n (at_place P i)).1 h) w.fails;
    before = λ h l m. (uniform_test n (at_place P h)).0 (w.before h l m);
  }

  first_apart : (S : Family) (i j : ℕ) → FirstPlaces (orthogonal n) S i j → FirstApart n S i j
  first_apart S i j w = record {
    least = w.least;
    order = w.order;
    most = w.most;
    fails = λ h. clash ((orthogonal_test n (at_place S i) (at_place S j)).1 h) w.fails;
    before = λ h k l m r e. (orthogonal_test n (at_place S h) (at_place S k)).0 (w.before h k l m r e);
  }

  first_across : (P S : Family) (i j : ℕ) → FirstCross (orthogonal n) P S i j → FirstApartAcross n P S i j
  first_across P S i j w = record {
    least_first = w.least_first;
    least_second = w.least_second;
    most_first = w.most_first;
    most_second = w.most_second;
    fails = λ h. clash ((orthogonal_test n (at_place P i) (at_place S j)).1 h) w.fails;
    before = λ h k l m r q e. (orthogonal_test n (at_place P h) (at_place S k)).0 (w.before h k l m r q e);
  }

-- a list of questions in which 9, 10, 12 and 13 are asked of P and S, and the others carry no places
record Asks (n : ℕ) (P S : Family) (qs : List Asked) : Type 0 where
  different : apart qs ≡ true
  plain_or : PlainOr qs
  has_9 : reply_to 9 qs ≡ at_places (first_failing (uniform n) 1 P) 0
  has_10 : reply_to 10 qs ≡ at_places (first_pair (orthogonal n) 1 P).first (first_pair (orthogonal n) 1 P).second
  has_12 : reply_to 12 qs ≡ at_places (first_pair (orthogonal n) 1 S).first (first_pair (orthogonal n) 1 S).second
  has_13 : reply_to 13 qs ≡ at_places (first_cross (orthogonal n) 1 P S).first (first_cross (orthogonal n) 1 P S).second

asks_carries : (n : ℕ) (P S : Family) (qs : List Asked) → Asks n P S qs → Carries n P S (first_no qs)
asks_carries n P S qs h = record {
  nine = λ e. nine (at 9 (λ z. omega arith) e h.has_9);
  ten = λ e. ten P (at 10 (λ z. omega arith) e h.has_10);
  twelve = λ e. ten S (at 12 (λ z. omega arith) e h.has_12);
  thirteen = λ e. thirteen (at 13 (λ z. omega arith) e h.has_13);
  others = other_places qs h.plain_or;
}
  where
    p : Places
    p = (first_no qs).places

    at : (q : ℕ) → (0 ≡ q → ⊥) → (first_no qs).refusal ≡ q → {i j : ℕ} → reply_to q qs ≡ at_places i j → (p ≡ record { first = i; second = j }) × (1 ≤ i)
    at q z e {i} {j} r = places_fail i j p (sym r ∙ verdict_places qs h.different q z e)

    nine : (p ≡ record { first = first_failing (uniform n) 1 P; second = 0 }) × (1 ≤ first_failing (uniform n) 1 P) → FirstUneven n P p.first × (p.second ≡ 0)
    nine w = (subst (λ (r : Places). FirstUneven n P r.first) (sym w.0) (first_uneven n P _ (failing_first (uniform n) P w.1)), ap (λ (r : Places). r.second) w.0)

    ten : (R : Family) → (p ≡ record { first = (first_pair (orthogonal n) 1 R).first; second = (first_pair (orthogonal n) 1 R).second }) × (1 ≤ (first_pair (orthogonal n) 1 R).first) → FirstApart n R p.first p.second
    ten R w = subst (λ (r : Places). FirstApart n R r.first r.second) (sym w.0) (first_apart n R _ _ (pair_first (orthogonal n) R w.1))

    thirteen : (p ≡ record { first = (first_cross (orthogonal n) 1 P S).first; second = (first_cross (orthogonal n) 1 P S).second }) × (1 ≤ (first_cross (orthogonal n) 1 P S).first) → FirstApartAcross n P S p.first p.second
    thirteen w = subst (λ (r : Places). FirstApartAcross n P S r.first r.second) (sym w.0) (first_across n P S _ _ (cross_first_lem (orthogonal n) P S w.1))

-- ---- demand 2

-- a condition whose number is not the answer's holds, and the first broken is further on
passed : (C : Condition) (Cs : List Condition) (q : ℕ) → FirstBroken (C ∷ Cs) q → (q ≡ C.number → ⊥) → C.holds × FirstBroken Cs q
unfolding FirstBroken
passed C Cs q (inl h) d = h
passed C Cs q (inr h) d = absurd (d h.1)

-- a family that is written, and one that is not
module _ (m q : ℕ) (F : Family) where
  is_written : (q ≡ 0) ⊎ (m ≤ q) → written_from m q F ≡ F
  is_written (inl e) = rw (eq-eqb q 0 e, written_from)
  is_written (inr l) = by_cases (eqb q 0) (λ e. rw (e, written_from)) (λ e. rw (e, le-leb m q l, written_from))

  not_written : 1 ≤ q → q < m → written_from m q F ≡ []
  not_written l h = rw (ne_eqb q 0 (λ e. let z : 1 ≤ 0 = omega arith in not-suc-le-zero z), lt-leb m q h, written_from)

-- the treatment family of an answer
abbrev treatment_after : ℕ → Family → Family → Family
treatment_after q A B = elim q [ zero ↦ A | suc x ↦ written_from 12 (suc x) B ]

module _ (A B : Family) where
  first_after : (q : ℕ) → 12 ≤ q → treatment_after q A B ≡ B
  first_after zero l = let z : 1 ≤ 0 = omega arith in absurd (not-suc-le-zero z)
  first_after (suc q) l = is_written 12 (suc q) B (inr l)

  none_after : (q : ℕ) → 1 ≤ q → q ≤ 11 → treatment_after q A B ≡ []
  none_after zero l h = absurd (not-suc-le-zero l)
  none_after (suc q) l h = not_written 12 (suc q) B l (omega arith)

module _ (n c d k : ℕ) (levels plots treatments : List ℕ) where
  abbrev Fs : List Column
  Fs = plot_columns n c levels

  abbrev Ts : List Column
  Ts = treatment_columns n d levels

  on_f : Within n c d k levels plots treatments → (F : Column) → F ∈ Fs → length F ≡ n
  on_f l = column_length n levels c 0 l.plots_most l.table (omega (arith, l.plot_columns_holds))

  on_t : Within n c d k levels plots treatments → (F : Column) → F ∈ Ts → length F ≡ n
  on_t l = column_length n levels d 6 l.plots_most l.table (omega (arith, l.treatment_columns_holds))

  abbrev within : Bool
  within = full_within_limits n c d k (length levels) (length plots) (length treatments)

  abbrev conditions : List Condition
  conditions = full_conditions n c d k levels plots treatments

  abbrev verdict : Verdict
  verdict = first_no (full_questions within n k Fs Ts)

  abbrev answer : Answer
  answer = full_answer verdict (plot_members n Fs) (first_members n k Ts)

  -- the first "no" is the first condition broken
  verdict_broken : FirstBroken conditions verdict.refusal
  verdict_broken =
      all_settled (and_then (settles_6 n c d k levels plots treatments) (λ l.
      and_then (settles_7 n c d k levels plots treatments l) (λ none-missing.
      and_then (settles_8 n k Fs Ts (on_f l) (on_t l)) (λ few8.
      and_then (settles_9 n k Fs Ts (on_f l) (on_t l) few8) (λ h9.
      and_then (settles_10 n k Fs Ts (on_f l) (on_t l) few8) (λ h10.
      and_then (settles_11 n k Fs Ts (on_f l) (on_t l)) (λ few11.
      and_then (settles_12 n k Fs Ts (on_f l) (on_t l) few8 few11) (λ h12.
      and_then (settles_13 n k Fs Ts (on_f l) (on_t l) few8 few11) (λ h13.
      and_then (settles_14 n k Fs Ts (on_f l) (on_t l) few8 few11) (λ h14. none_left))))))))))

  numbered : NumberedFrom1 conditions
  unfolding NumberedFrom1
  numbered = (lit≤ tt, (lit≤ tt, (lit≤ tt, (lit≤ tt, (lit≤ tt, (lit≤ tt, (lit≤ tt, (lit≤ tt, (lit≤ tt, tt)))))))))

  -- a condition whose number is below m holds where the answer is 0 or from m on
  other : {q m b : ℕ} → (q ≡ 0) ⊎ (m ≤ q) → 1 ≤ b → b < m → q ≡ b → ⊥
  other (inl e) l h f = let z : 1 ≤ 0 = omega arith in not-suc-le-zero z
  other (inr g) l h f = let z : 1 ≤ 0 = omega arith in not-suc-le-zero z

  -- 6 to 8 are passed
  record Reached8 : Type 1 where
    limits : Within n c d k levels plots treatments
    few8 : AtMost 32 (InPlotFamily n Fs)
    rest : FirstBroken (condition9 n k Fs Ts ∷ condition10 n k Fs Ts ∷ condition11 n k Fs Ts ∷ condition12 n k Fs Ts ∷ condition13 n k Fs Ts ∷ condition14 n k Fs Ts ∷ []) verdict.refusal

  reached_8 : (verdict.refusal ≡ 0) ⊎ (9 ≤ verdict.refusal) → Reached8
  reached_8 h =
      let w6 = passed _ _ _ verdict_broken (other h (lit≤ tt) (lit≤ tt)) in
      let w7 = passed _ _ _ w6.1 (other h (lit≤ tt) (lit≤ tt)) in
      let w8 = passed _ _ _ w7.1 (other h (lit≤ tt) (lit≤ tt)) in
      record { limits = w6.0; few8 = w8.0; rest = w8.1 }

  -- the refusal is the number of the first condition broken, in the order 6 to 14
  pub full_first_broken : FirstBroken (full_conditions n c d k levels plots treatments) (full_design n c d k levels (length plots) (length treatments)).refusal
  full_first_broken = subst (FirstBroken conditions) (sym (ap (λ (a : Answer). a.refusal) (full_design_asks n c d k levels (length plots) (length treatments)))) verdict_broken

  P-lists : (verdict.refusal ≡ 0) ⊎ (9 ≤ verdict.refusal) → Lists (InPlotFamily n Fs) (plot_members n Fs)
  P-lists h = let r = reached_8 h in l_p n k Fs Ts (on_f r.limits) (on_t r.limits) r.few8

  from_9 : (verdict.refusal ≡ 0) ⊎ (12 ≤ verdict.refusal) → (verdict.refusal ≡ 0) ⊎ (9 ≤ verdict.refusal)
  from_9 (inl e) = inl e
  from_9 (inr l) = inr (omega arith)

  S-few : (verdict.refusal ≡ 0) ⊎ (12 ≤ verdict.refusal) → AtMost 32 (InFirstTreatmentFamily n k Ts)
  S-few h =
      let w9 = passed _ _ _ (reached_8 (from_9 h)).rest (other h (lit≤ tt) (lit≤ tt)) in
      let w10 = passed _ _ _ w9.1 (other h (lit≤ tt) (lit≤ tt)) in
      (passed _ _ _ w10.1 (other h (lit≤ tt) (lit≤ tt))).0

  S-lists : (verdict.refusal ≡ 0) ⊎ (12 ≤ verdict.refusal) → Lists (InFirstTreatmentFamily n k Ts) (first_members n k Ts)
  S-lists h = let r = reached_8 (from_9 h) in l_s n k Fs Ts (on_f r.limits) (on_t r.limits) r.few8 (S-few h)

  R-lists : verdict.refusal ≡ 0 → Lists (SupremumOfEach (InPlotFamily n Fs) (InFirstTreatmentFamily n k Ts)) (final_treatment_family (plot_members n Fs) (first_members n k Ts))
  unfolding AllHold
  R-lists e =
      let r = reached_8 (inl e) in
      let few11 = S-few (inl e) in
      let all = (broken_none conditions verdict.refusal numbered verdict_broken).0 e in
      record {
        ascending = final_ascending (plot_members n Fs) (first_members n k Ts);
        few = leb-true _ _ ((plain_pass _).0 ((settles_14 n k Fs Ts (on_f r.limits) (on_t r.limits) r.few8 few11).from all.1.1.1.1.1.1.1.1.0));
        only = in_final n k Fs Ts (on_f r.limits) (on_t r.limits) r.few8 few11;
        all = final_in n k Fs Ts (on_f r.limits) (on_t r.limits) r.few8 few11;
      }

  -- the places, counted in the families of the questions
  verdict_carries : Carries n (plot_members n Fs) (first_members n k Ts) verdict
  unfolding apart without PlainOr reply_to
  verdict_carries = asks_carries n (plot_members n Fs) (first_members n k Ts) (full_questions within n k Fs Ts) record {
    different = refl;
    plain_or = (inl (plain_places within), (inl (plain_places (all_nonzero (Fs ++ Ts))), (inl (plain_places (few_enough (plot_family n Fs))), (inr (inl refl), (inr (inr (inl refl)), (inl (plain_places (few_enough (first_treatment_family n k Ts))), (inr (inr (inr (inl refl))), (inr (inr (inr (inr refl))), (inl (plain_places (leb (length (final_treatment_family (plot_members n Fs) (first_members n k Ts))) 32)), tt)))))))));
    has_9 = refl;
    has_10 = refl;
    has_12 = refl;
    has_13 = refl;
  }

  -- and in the families written
  answer_carries : Carries n answer.plot answer.treatment (verdict_of answer)
  answer_carries = record {
    nine = λ e. subst (λ (A : Family). FirstUneven n A verdict.places.first × (verdict.places.second ≡ 0)) (sym (plot_is_P (omega arith))) (verdict_carries.nine e);
    ten = λ e. subst (λ (A : Family). FirstApart n A verdict.places.first verdict.places.second) (sym (plot_is_P (omega arith))) (verdict_carries.ten e);
    twelve = λ e. subst (λ (A : Family). FirstApart n A verdict.places.first verdict.places.second) (sym (first_is_S (omega arith))) (verdict_carries.twelve e);
    thirteen = λ e. subst (λ (A : Family). FirstApartAcross n A answer.treatment verdict.places.first verdict.places.second) (sym (plot_is_P (omega arith)))
        (subst (λ (B : Family). FirstApartAcross n (plot_members n Fs) B verdict.places.first verdict.places.second) (sym (first_is_S (omega arith))) (verdict_carries.thirteen e));
    others = verdict_carries.others;
  }
    where
      plot_is_P : 9 ≤ verdict.refusal → answer.plot ≡ plot_members n Fs
      plot_is_P l = is_written 9 verdict.refusal (plot_members n Fs) (inr l)

      first_is_S : 12 ≤ verdict.refusal → answer.treatment ≡ first_members n k Ts
      first_is_S l = first_after (final_treatment_family (plot_members n Fs) (first_members n k Ts)) (first_members n k Ts) verdict.refusal l

  answer_demanded : Demand2 n c d k levels plots treatments answer
  answer_demanded = record {
    accepts = broken_none conditions verdict.refusal numbered verdict_broken;
    refuses = verdict_broken;
    carries = answer_carries;
    plot_family_holds = λ h. subst (Lists (InPlotFamily n Fs)) (sym (is_written 9 verdict.refusal (plot_members n Fs) h)) (P-lists h);
    first_family = λ h. subst (Lists (InFirstTreatmentFamily n k Ts)) (sym (first_after _ (first_members n k Ts) verdict.refusal h)) (S-lists (inr h));
    final_family = λ e. subst (λ (q : ℕ). Lists (SupremumOfEach (InPlotFamily n Fs) (InFirstTreatmentFamily n k Ts)) (treatment_after q (final_treatment_family (plot_members n Fs) (first_members n k Ts)) (first_members n k Ts))) (sym e) (R-lists e);
    no_plot_family = λ l h. not_written 9 verdict.refusal (plot_members n Fs) l (omega arith);
    no_treatment_family = λ l h. none_after _ (first_members n k Ts) verdict.refusal l h;
  }

  -- ---- the families written are well made

  plot_made_in : (verdict.refusal ≡ 0) ⊎ (9 ≤ verdict.refusal) → WellMade n answer.plot
  plot_made_in h =
      let r = reached_8 h in
      subst (WellMade n) (sym (is_written 9 verdict.refusal (plot_members n Fs) h)) (m_p n k Fs Ts (on_f r.limits) (on_t r.limits) r.few8)

  treatment_made_in : (verdict.refusal ≡ 0) ⊎ (12 ≤ verdict.refusal) → WellMade n answer.treatment
  treatment_made_in h = go h
    where
      made_P : WellMade n (plot_members n Fs)
      made_P = let r = reached_8 (from_9 h) in m_p n k Fs Ts (on_f r.limits) (on_t r.limits) r.few8

      made_S : WellMade n (first_members n k Ts)
      made_S = let r = reached_8 (from_9 h) in m_s n k Fs Ts (on_f r.limits) (on_t r.limits) r.few8 (S-few h)

      go : (verdict.refusal ≡ 0) ⊎ (12 ≤ verdict.refusal) → WellMade n answer.treatment
      go (inl e) = subst (λ (q : ℕ). WellMade n (treatment_after q (final_treatment_family (plot_members n Fs) (first_members n k Ts)) (first_members n k Ts))) (sym e)
          (final_made n (plot_members n Fs) (first_members n k Ts) made_P made_S (R-lists e).few)
      go (inr l) = subst (WellMade n) (sym (first_after _ (first_members n k Ts) verdict.refusal l)) made_S

  -- written or not, they are on the plots and at most 32
  written_or_not : {q m : ℕ} → 1 ≤ m → ((q ≡ 0) ⊎ (m ≤ q)) ⊎ ((1 ≤ q) × (q < m))
  written_or_not {q} {m} s =
      by_cases (eqb q 0)
      (λ e. inl (inl (eqb-true q 0 e)))
      (λ e. by_cases (leb m q) (λ f. inl (inr (leb-true m q f))) (λ f. inr (positive q (eqb-false q 0 e), leb-false m q f)))
    where
      positive : (q : ℕ) → (q ≡ 0 → ⊥) → 1 ≤ q
      positive zero h = absurd (h refl)
      positive (suc q) h = suc-le-suc zero-le

  fits_if : {m : ℕ} {F : Family} → 1 ≤ m → ((verdict.refusal ≡ 0) ⊎ (m ≤ verdict.refusal) → WellMade n F) → (1 ≤ verdict.refusal → verdict.refusal < m → F ≡ []) → Fits n F
  fits_if {m} {F} s made none = go (written_or_not s)
    where
      go : ((verdict.refusal ≡ 0) ⊎ (m ≤ verdict.refusal)) ⊎ ((1 ≤ verdict.refusal) × (verdict.refusal < m)) → Fits n F
      go (inl h) = record { few = (made h).few; each = (made h).on }
      go (inr h) = subst (Fits n) (sym (none h.0 h.1)) (record { few = zero-le; each = λ G m. absurd (Memᴰ.not-nil m) })

  plot_fits : Fits n answer.plot
  plot_fits = fits_if {m = 9} (lit≤ tt) plot_made_in (λ l h. not_written 9 verdict.refusal (plot_members n Fs) l h)

  treatment_fits : Fits n answer.treatment
  treatment_fits = fits_if {m = 12} (lit≤ tt) treatment_made_in (λ l h. none_after _ (first_members n k Ts) verdict.refusal l (omega arith))

  -- every number of the list is at most 14
  most_14 : verdict.refusal ≤ 14
  unfolding EachMost
  most_14 = number_most 14 (full_conditions n c d k levels plots treatments) (lit≤ tt, (lit≤ tt, (lit≤ tt, (lit≤ tt, (lit≤ tt, (lit≤ tt, (lit≤ tt, (lit≤ tt, (lit≤ tt, tt))))))))) verdict.refusal verdict_broken

  abbrev full : Answer
  full = full_design n c d k levels (length plots) (length treatments)

  full_is : full ≡ answer
  full_is = full_design_asks n c d k levels (length plots) (length treatments)

  -- what the full design answers and writes
  pub full_demanded : Demand2 n c d k levels plots treatments (full_design n c d k levels (length plots) (length treatments))
  full_demanded = subst (Demand2 n c d k levels plots treatments) (sym full_is) answer_demanded

  pub record FullFamilies (a : Answer) : Type 0 where
    pub plot_made : (a.refusal ≡ 0) ⊎ (9 ≤ a.refusal) → WellMade n a.plot
    pub treatment_made : (a.refusal ≡ 0) ⊎ (12 ≤ a.refusal) → WellMade n a.treatment
    pub plot_fits : Fits n a.plot
    pub treatment_fits : Fits n a.treatment
    pub has_equality_holds : a.refusal ≡ 0 → equality n ∈ a.plot
    pub strata : a.refusal ≡ 0 → all_have_stratum n a.plot a.treatment ≡ true
    pub most : a.refusal ≤ 14

  pub full_families : FullFamilies (full_design n c d k levels (length plots) (length treatments))
  full_families = subst FullFamilies (sym full_is) record {
    plot_made = plot_made_in;
    treatment_made = treatment_made_in;
    plot_fits = plot_fits;
    treatment_fits = treatment_fits;
    has_equality_holds = λ e. (answer_demanded.plot_family_holds (inl e)).all (equality n) by_equality;
    strata = λ e. has_strata e;
    most = most_14;
  }
    where
      has_strata : verdict.refusal ≡ 0 → all_have_stratum n answer.plot answer.treatment ≡ true
      has_strata e =
          let r = reached_8 (inl e) in
          subst (λ (A : Family). all_have_stratum n A answer.treatment ≡ true) (sym (is_written 9 verdict.refusal (plot_members n Fs) (inl e)))
          (plot_family_strata n Fs (on_f r.limits) (plot_members n Fs) (plot_is n k Fs Ts (on_f r.limits) (on_t r.limits) r.few8) answer.treatment)

  -- the families written are the families read back
  pub read_back_lem : read_back n (plot_buffer plots (full_design n c d k levels (length plots) (length treatments))) (treatment_buffer treatments (full_design n c d k levels (length plots) (length treatments))) (full_design n c d k levels (length plots) (length treatments))
      ≡ full_design n c d k levels (length plots) (length treatments)
  unfolding members_of columns_from
  read_back_lem = by_cases within (λ e. inside (within_to n c d k levels plots treatments e)) (λ e. subst (λ (a : Answer). read_back n (plot_buffer plots a) (treatment_buffer treatments a) a ≡ a) (sym (six_no n c d k levels (length plots) (length treatments) e)) refl)
    where
      inside : Within n c d k levels plots treatments → read_back n (plot_buffer plots full) (treatment_buffer treatments full) full ≡ full
      inside l = let f = full_families in ap₂ (λ (A B : Family). record { refusal = full.refusal; places = full.places; plot = A; treatment = B })
          (written_members n l.plots_most full.plot plots 0 f.plot_fits.each (omega (arith, f.plot_fits.few, l.plot_family_holds)))
          (written_members n l.plots_most full.treatment treatments 0 f.treatment_fits.each (omega (arith, f.treatment_fits.few, l.treatment_family)))

  -- demand 2, of the numbers answered and the families left in the buffers
  pub demand_2 : Demand2 n c d k levels plots treatments
      (read_back n (plot_buffer plots (full_design n c d k levels (length plots) (length treatments))) (treatment_buffer treatments (full_design n c d k levels (length plots) (length treatments))) (full_design n c d k levels (length plots) (length treatments)))
  demand_2 = subst (Demand2 n c d k levels plots treatments) (sym read_back_lem) full_demanded

-- ---- the plot design

module _ (n c : ℕ) (levels plots : List ℕ) where
  plot_within_from : PlotLimits n c (length levels) (length plots) → within_limits n c (length levels) (length plots) ≡ true
  unfolding within_limits plots_within
  plot_within_from l = rw (lt-ltb 0 n l.plots_some, le-leb n 240 l.plots_few, le-leb c 6 l.columns, le-leb 2880 (length levels) l.table, le-leb 7680 (length plots) l.room)

  plot_settles_6 : Settles (asks6 (within_limits n c (length levels) (length plots))) (condition 6 (PlotLimits n c (length levels) (length plots)))
  plot_settles_6 = record { same = refl; to = λ e. plot_limits n c (length levels) (length plots) ((plain_pass _).0 e); from = λ l. (plain_pass _).1 (plot_within_from l) }

  plot_settles_7 : PlotLimits n c (length levels) (length plots) → Settles (asks7 (plot_columns n c levels)) (condition 7 (NoneMissing n c 0 levels))
  plot_settles_7 l = record {
    same = refl;
    to = λ e. to ((plain_pass _).0 e);
    from = λ h. (plain_pass _).1 (cells_from n levels l.plots_few l.table c 0 (omega (arith, l.columns)) (λ j u a b hu z. h j u (inl (omega arith)) hu z));
  }
    where
      to : all_nonzero (plot_columns n c levels) ≡ true → NoneMissing n c 0 levels
      to w j u (inl a) hu z = cells_to n levels l.plots_few l.table c 0 (omega (arith, l.columns)) w j u zero-le (omega arith) hu z
      to w j u (inr a) hu z = let q : 1 ≤ 0 = omega (arith, a.0, a.1) in not-suc-le-zero q

  -- the refusal is the number of the first condition broken, in the order 6 to 10
  pub plot_first_broken : FirstBroken (plot_conditions n c levels plots) (plot_design n c levels (length plots)).refusal
  plot_first_broken =
      subst (FirstBroken (plot_conditions n c levels plots)) (sym (ap (λ (a : Answer). a.refusal) (plot_design_asks n c levels (length plots))))
      (all_settled (and_then plot_settles_6 (λ l.
      and_then (plot_settles_7 l) (λ none-missing.
      and_then (settles_8 n 0 (plot_columns n c levels) [] (on l) nothing) (λ few8.
      and_then (settles_9 n 0 (plot_columns n c levels) [] (on l) nothing few8) (λ h9.
      and_then (settles_10 n 0 (plot_columns n c levels) [] (on l) nothing few8) (λ h10. none_left)))))))
    where
      on : PlotLimits n c (length levels) (length plots) → (F : Column) → F ∈ plot_columns n c levels → length F ≡ n
      on l = column_length n levels c 0 l.plots_few l.table (omega (arith, l.columns))

      nothing : (F : Column) → F ∈ [] → length F ≡ n
      nothing F m = absurd (Memᴰ.not-nil m)
