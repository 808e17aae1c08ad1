-- Laws of the printed table: what the entries answer and the buffers hold, as the rules' lines.
-- Assumes nothing.
use mathlib.Core.Path.{◌≡◌, refl, sym, ap, ap₂, ◌∙◌, subst}
use mathlib.Core.Bool.{true, false}
use mathlib.Core.Logic.{inl}
use mathlib.Core.List.{List, [], ◌∷◌, map}
use Prim.Native.Nat.{ℕ, zero, suc, ◌-◌, ◌≤◌, ◌<◌}
use native.Mathlib.Omega.{arith}
use lib.IntN.{pos}
use lib.ListN.{length, take, length-map, length-replicate}
use lib.Seq.{ext_get_or, get_or-take, length-take-le}
use borrow.Author.Tests.{le-leb, lt-leb, eqb-true, eqb-false}
use Rattle.rules.specs.Lists.{for_places}
use Rattle.rules.specs.Family.{Family, members_of}
use Rattle.rules.specs.Relation.{member_at}
use Rattle.rules.specs.Design.{Answer, full_design, plot_buffer, treatment_buffer}
use Rattle.rules.specs.Sheet.{Outcome, read, refused, question3, reading, levels_after}
use Rattle.rules.specs.Naming.{Kind, plot, treatment, name_at, name_on}
use Rattle.rules.specs.Table.{Row, accepted_rows, design_refused_row, design_rows, outcome_rows, table_rows, table_text, skeleton_table, table_buffer, empty_table, rows_bytes, dash, place_name, strata_rows, first_kind, second_kind, family_of, refused_row, names_from}
use Rattle.rules.specs.Degrees.{degrees}
use Rattle.rules.specs.Strata.{stratum, residuals, strata, strata_refused}
use Rattle.rules.proofs.Buffer.{member_is, length_members}
use Rattle.rules.proofs.Places.{length_places, at_places_lem}
use Rattle.rules.proofs.Sheet.{length_after}
use Rattle.rules.proofs.DegreesLaws.{length_degrees}
use Rattle.rules.proofs.Totals.{length_residuals}
use Rattle.rules.proofs.Printing.{strata_answered}
use Rattle.rules.proofs.Made.{Tells, Placed, plot_back, plot_buffer_length, treatment_back, treatment_buffer_length}
use Rattle.design.specs.Answers.{FullNumbers, full_numbers_of}
use Rattle.refusal.specs.declared.Refusal.{Refusal}
use Rattle.refusal.specs.declared.Refusal.TheVariants.{Limits}
use Rattle.refusal.specs.Numbers.{number_of}
use Rattle.refusal.proofs.Numbers.{numbered}
use Rattle.strata.specs.declared.stratum.Analysis.{Analysis}
use Rattle.strata.specs.Answers.{AnalysisAnswer, analysis_in, with_degrees}
use Rattle.std.specs.Prelude.{Result, Ok, Err}
use Rattle.table.specs.Answers.{print_numbers, print_numbers_of}
use Rattle.table.specs.Names.{Nameable, placed_name, table_of}
use Rattle.table.specs.Designs.{Accepted, buffer_for, placed_row, named_rows}

-- ---- numbers for 32 places

-- the first of them are the numbers given
pub take_places : {A : Type 0} (z : A) (xs : List A) (m : ℕ) → length xs ≡ m → m ≤ 32 → take m (for_places z xs) ≡ xs
take_places z xs m l h =
    ext_get_or z (take m (for_places z xs)) xs (long ∙ sym l)
    (λ i k. let s : i < m = subst (λ (x : ℕ). i < x) long k in get_or-take m (for_places z xs) i z s ∙ at_places_lem z xs i (omega arith))
  where
    long : length (take m (for_places z xs)) ≡ m
    long = let f = length_places z xs in length-take-le m (for_places z xs) (omega arith)

-- ---- an accepted design

-- its lines, by the names of its members
pub accepted_named : (text : List ℕ) (n : ℕ) (levels : List ℕ) (P R : Family)
    → accepted_rows text n levels P R ≡ named_rows n P R (names_from plot text n levels P 1 (length P)) (names_from treatment text n levels R 1 (length R))
unfolding accepted_rows named_rows table_of
accepted_named text n levels P R = refl

-- the names of its members worked out
pub accepted_from : (text : List ℕ) (n : ℕ) → n ≤ 240 → (levels b : List ℕ) (p : ℕ) (c : List ℕ) (r : ℕ) (ps ts : List (List ℕ))
    → ps ≡ names_from plot text n levels (members_of n b p) 1 p → ts ≡ names_from treatment text n levels (members_of n c r) 1 r
    → named_rows n (members_of n b p) (members_of n c r) ps ts ≡ accepted_rows text n levels (members_of n b p) (members_of n c r)
accepted_from text n few levels b p c r ps ts e f =
    let P = members_of n b p in
    let R = members_of n c r in
    ap₂ (λ (x y : List (List ℕ)). named_rows n P R x y) (e ∙ ap (names_from plot text n levels P 1) (sym (length_members n few b p))) (f ∙ ap (names_from treatment text n levels R 1) (sym (length_members n few c r)))
    ∙ sym (accepted_named text n levels P R)

-- degrees of freedom, strata and residuals as they are answered
module _ (n : ℕ) (b : List ℕ) (p : ℕ) (c : List ℕ) (r : ℕ) (h : Accepted n b p c r) where
  abbrev P : Family
  P = members_of n b p

  abbrev R : Family
  R = members_of n c r

  members_p : length P ≡ p
  members_p = length_members n h.few b p

  members_r : length R ≡ r
  members_r = length_members n h.few c r

  answered : strata n b p c r ≡ record { refusal = 0; places = for_places 0 (map (stratum n P) R); residuals = for_places (pos 0) (residuals n P R) }
  answered = strata_answered n h.some h.few b c h.plot_room h.treatment_room p r P R refl refl h.plot_formed h.treatment_formed h.strata

  analysed : with_degrees n P R (strata n b p c r) ≡ record {
    strata = record { refusal = 0; places = for_places 0 (map (stratum n P) R); residuals = for_places (pos 0) (residuals n P R) };
    totals = for_places (pos 0) (degrees n P);
    degrees = for_places (pos 0) (degrees n R);
  }
  unfolding with_degrees
  analysed = ap (with_degrees n P R) answered

  -- so there is an analysis
  pub answered_found : (z : Result Analysis Refusal) → analysis_in z ≡ with_degrees n P R (strata n b p c r) → (a : Analysis) × (z ≡ Ok a)
  unfolding strata_refused
  answered_found (Ok a) e = (a, refl)
  answered_found (Err q) e =
      let z : number_of q ≡ 0 = ap (λ (x : AnalysisAnswer). x.strata.refusal) (e ∙ analysed) in
      absurd (omega (arith, numbered q, z))

  -- 32 numbers each
  pub answered_lengths : (x : AnalysisAnswer) → x ≡ with_degrees n P R (strata n b p c r) → (length x.strata.places ≡ 32) × (length x.degrees ≡ 32) × (length x.totals ≡ 32) × (length x.strata.residuals ≡ 32)
  answered_lengths x e = rw (e ∙ analysed) (length_places 0 (map (stratum n P) R), length_places (pos 0) (degrees n R), length_places (pos 0) (degrees n P), length_places (pos 0) (residuals n P R))

  -- the lines from what is answered
  pub answered_rows : (x : AnalysisAnswer) → x ≡ with_degrees n P R (strata n b p c r) → (ps ts : List (List ℕ))
      → table_of n (strata_rows 1 ps (take p x.totals) (take p x.strata.residuals) ts (take r x.strata.places) (take r x.degrees)) ≡ named_rows n P R ps ts
  unfolding named_rows residuals
  answered_rows x e ps ts =
      ap (λ (y : AnalysisAnswer). table_of n (strata_rows 1 ps (take p y.totals) (take p y.strata.residuals) ts (take r y.strata.places) (take r y.degrees))) (e ∙ analysed)
      ∙ rw (
        take_places (pos 0) (degrees n P) p (length_degrees n P ∙ members_p) h.plot_few,
        take_places (pos 0) (residuals n P R) p (length_residuals 1 (degrees n P) (map (stratum n P) R) (degrees n R) ∙ length_degrees n P ∙ members_p) h.plot_few,
        take_places 0 (map (stratum n P) R) r (length-map R (stratum n P) ∙ members_r) h.treatment_few,
        take_places (pos 0) (degrees n R) r (length_degrees n R ∙ members_r) h.treatment_few,
      )

-- ---- a refused design

-- members of the family of either kind can be named
pub nameable_for : (k : Kind) (text levels plots treatments : List ℕ) (n : ℕ) → Nameable text levels plots n → Nameable text levels treatments n → Nameable text levels (buffer_for k plots treatments) n
nameable_for plot text levels plots treatments n p t = p
nameable_for treatment text levels plots treatments n p t = t

module _ (text : List ℕ) (n : ℕ) (few : n ≤ 240) (levels : List ℕ) where
  -- the name at a place of a family, read from its buffer
  pub placed_name_lem : (kind : Kind) (buffer : List ℕ) (S : Family) (i : ℕ) → members_of n buffer (length S) ≡ S → (1 ≤ i → i ≤ length S) → placed_name kind text n levels buffer i ≡ place_name kind text n levels S i
  unfolding placed_name place_name name_at
  placed_name_lem kind buffer S zero back most = refl
  placed_name_lem kind buffer S (suc i) back most =
      let before : suc i - 1 ≡ i = omega arith in
      rw before (ap (name_on kind text n levels (suc i)) (sym (member_is n few buffer (length S) i (most (omega arith))) ∙ ap (λ (T : Family). member_at T i) back))

  -- the line of a refused design
  pub refused_placed : (a : Answer) (plots treatments : List ℕ) → Tells n a → members_of n plots (length a.plot) ≡ a.plot → members_of n treatments (length a.treatment) ≡ a.treatment
      → placed_row text n levels plots treatments a.refusal a.places.first a.places.second ≡ design_refused_row text n levels a
  unfolding placed_row design_refused_row
  refused_placed a plots treatments t back_p back_t =
      ap₂ (refused_row a.refusal)
      (placed_name_lem (first_kind a.refusal) (buffer_for (first_kind a.refusal) plots treatments) (family_of (first_kind a.refusal) a) a.places.first (back (first_kind a.refusal)) (λ h. (t.first_place_holds h).most))
      (placed_name_lem (second_kind a.refusal) (buffer_for (second_kind a.refusal) plots treatments) (family_of (second_kind a.refusal) a) a.places.second (back (second_kind a.refusal)) (λ h. (t.second_place_holds h).most))
    where
      back : (k : Kind) → members_of n (buffer_for k plots treatments) (length (family_of k a)) ≡ family_of k a
      back plot = back_p
      back treatment = back_t

-- ---- a design's answer

module _ (n : ℕ) (some : 1 ≤ n) (few : n ≤ 240) (a : Answer) (t : Tells n a) (b c : List ℕ) (roomB : 7680 ≤ length b) (roomC : 7680 ≤ length c) (text levels : List ℕ) where
  -- an accepted design has the two families in its buffers
  module _ (x : FullNumbers) (e : x ≡ full_numbers_of a) (yes : x.accepted ≡ true) where
    none : a.refusal ≡ 0
    unfolding full_numbers_of
    none = eqb-true a.refusal 0 (sym (ap (λ (y : FullNumbers). y.accepted) e) ∙ yes)

    members_plot : members_of n (plot_buffer b a) x.plot ≡ a.plot
    unfolding full_numbers_of
    members_plot = ap (λ (y : FullNumbers). members_of n (plot_buffer b a) y.plot) e ∙ plot_back n few a t b roomB

    members_treatment : members_of n (treatment_buffer c a) x.treatment ≡ a.treatment
    unfolding full_numbers_of
    members_treatment = ap (λ (y : FullNumbers). members_of n (treatment_buffer c a) y.treatment) e ∙ treatment_back n few a t c roomC

    accepted_holds : Accepted n (plot_buffer b a) x.plot (treatment_buffer c a) x.treatment
    unfolding full_numbers_of
    accepted_holds = record {
      some = some;
      few = few;
      plot_room = rw (plot_buffer_length n few a t b roomB) roomB;
      treatment_room = rw (treatment_buffer_length n few a t c roomC) roomC;
      plot_few = rw e t.plot_few;
      treatment_few = rw e t.treatment_few;
      plot_formed = rw members_plot (t.plot_made (inl none)).formed;
      treatment_formed = rw members_treatment (t.treatment_made (inl none)).formed;
      strata = rw (members_plot, members_treatment) (t.strata none);
    }

    pub accepted_in : (u v : List ℕ) → u ≡ plot_buffer b a → v ≡ treatment_buffer c a → Accepted n u x.plot v x.treatment
    accepted_in u v f g = rw (f, g) accepted_holds

    -- and its lines are those of an accepted sheet
    accepted_families : (u v : List ℕ) → u ≡ plot_buffer b a → v ≡ treatment_buffer c a
        → accepted_rows text n levels (members_of n u x.plot) (members_of n v x.treatment) ≡ accepted_rows text n levels a.plot a.treatment
    accepted_families u v f g =
        ap₂ (accepted_rows text n levels) (ap (λ (y : List ℕ). members_of n y x.plot) f ∙ members_plot) (ap (λ (y : List ℕ). members_of n y x.treatment) g ∙ members_treatment)

    accepted_design : accepted_rows text n levels a.plot a.treatment ≡ design_rows text n levels a
    unfolding design_rows
    accepted_design = sym (ap (λ (k : ℕ). elim k [ zero ↦ accepted_rows text n levels a.plot a.treatment | suc y ↦ design_refused_row text n levels a ∷ [] ]) none)

    pub accepted_rows_lem : (u v : List ℕ) → u ≡ plot_buffer b a → v ≡ treatment_buffer c a
        → accepted_rows text n levels (members_of n u x.plot) (members_of n v x.treatment) ≡ design_rows text n levels a
    accepted_rows_lem u v f g = accepted_families u v f g ∙ accepted_design

  -- a refused design has its one line
  pub refused_rows : (x : FullNumbers) → x ≡ full_numbers_of a → x.accepted ≡ false → (q i j : ℕ) → q ≡ x.refusal → i ≡ x.first → j ≡ x.second
      → (u v : List ℕ) → u ≡ plot_buffer b a → v ≡ treatment_buffer c a → placed_row text n levels u v q i j ∷ [] ≡ design_rows text n levels a
  unfolding full_numbers_of design_rows
  refused_rows x e off q i j eq ei ej u v f g =
      rw (f, g, eq, ei, ej, e) (ap (λ (r : Row). r ∷ []) (refused_placed text n few levels a (plot_buffer b a) (treatment_buffer c a) t (plot_back n few a t b roomB) (treatment_back n few a t c roomC)))
      ∙ go a.refusal refl (eqb-false a.refusal 0 (sym (ap (λ (y : FullNumbers). y.accepted) e) ∙ off))
    where
      go : (m : ℕ) → a.refusal ≡ m → (a.refusal ≡ 0 → ⊥) → design_refused_row text n levels a ∷ [] ≡ design_rows text n levels a
      go zero z h = absurd (h z)
      go (suc m) z h = sym (ap (λ (k : ℕ). elim k [ zero ↦ accepted_rows text n levels a.plot a.treatment | suc y ↦ design_refused_row text n levels a ∷ [] ]) z)

  -- members of either family can be named
  module _ (form : question3 text ≡ true) (table : 2880 ≤ length levels) where
    pub plots_nameable : (u : List ℕ) → u ≡ plot_buffer b a → Nameable text levels u n
    plots_nameable u f = record { form = form; some = some; few = few; table = table; long = rw (f, plot_buffer_length n few a t b roomB) roomB }

    pub treatments_nameable : (v : List ℕ) → v ≡ treatment_buffer c a → Nameable text levels v n
    treatments_nameable v g = record { form = form; some = some; few = few; table = table; long = rw (g, treatment_buffer_length n few a t c roomC) roomC }

-- its places are at most 32
pub places_few : (n : ℕ) (a : Answer) → Tells n a → (a.places.first ≤ 32) × (a.places.second ≤ 32)
places_few n a t = (few a.places.first (λ h. le (t.first_place_holds h)), few a.places.second (λ h. le (t.second_place_holds h)))
  where
    le : {S : Family} {i : ℕ} → Placed n S i → i ≤ 32
    le w = omega (arith, w.most, w.made.few)

    few : (i : ℕ) → (1 ≤ i → i ≤ 32) → i ≤ 32
    few zero f = omega arith
    few (suc i) f = f (omega arith)

-- ---- the whole text

module _ (text : List ℕ) where
  -- of a sheet that was refused by 1 to 5
  pub refused_text : (q : ℕ) → refused q ≡ reading text empty_table → rows_bytes (refused_row q dash dash ∷ []) ≡ table_text text
  unfolding table_text table_rows outcome_rows
  refused_text q e = ap (λ (o : Outcome). rows_bytes (outcome_rows text o)) e

  pub levels_long : (levels : List ℕ) → levels ≡ levels_after (reading text empty_table) text empty_table → 2880 ≤ length levels
  unfolding empty_table
  levels_long levels e = let l : length levels ≡ 2880 = ap length e ∙ length_after (reading text empty_table) text empty_table ∙ length-replicate {A = ℕ} 2880 0 in omega arith

  -- of one that was read
  pub read_text : (n p t : ℕ) (levels : List ℕ) → read n p t ≡ reading text empty_table → levels ≡ levels_after (reading text empty_table) text empty_table
      → rows_bytes (design_rows text n levels (full_design n p t 6 levels 7680 7680)) ≡ table_text text
  unfolding table_text table_rows outcome_rows
  read_text n p t levels e l =
      ap (λ (x : List ℕ). rows_bytes (design_rows text n x (full_design n p t 6 x 7680 7680))) (l ∙ ap (λ (o : Outcome). levels_after o text empty_table) (sym e))
      ∙ ap (λ (o : Outcome). rows_bytes (outcome_rows text o)) e

  -- question 6
  pub table_short : (m : ℕ) → m < 32768 → skeleton_table text m ≡ record { refusal = 6; text = [] }
  unfolding skeleton_table
  table_short m h = rw (lt-leb 32768 m h, skeleton_table)

  -- what is answered and left where the buffer is too short
  pub short_numbers : (m : ℕ) → m < 32768 → print_numbers (Err Limits) ≡ print_numbers_of (skeleton_table text m)
  unfolding print_numbers print_numbers_of
  short_numbers m h = rw (table_short m h)

  pub short_buffer : (out : List ℕ) → length out < 32768 → out ≡ table_buffer out (skeleton_table text (length out))
  short_buffer out h = rw (table_short (length out) h)

  pub table_whole : (m : ℕ) → 32768 ≤ m → skeleton_table text m ≡ record { refusal = 0; text = table_text text }
  unfolding skeleton_table
  table_whole m h = rw (le-leb 32768 m h, skeleton_table)
