-- The designs read as lists of questions: the plot design asks 6 to 10, the full design 6 to 14.
-- Assumes nothing.
use mathlib.Core.Path.{◌≡◌, refl, sym, ap, ◌∙◌}
use mathlib.Core.Bool.{Bool, true, false}
use mathlib.Core.List.{List, [], ◌∷◌, ◌++◌}
use Prim.Native.Nat.{ℕ, zero, suc}
use lib.Dec.{leb}
use lib.ListN.{length}
use Rattle.rules.specs.Factor.{Column, uniform, orthogonal}
use Rattle.rules.specs.Family.{Family}
use Rattle.rules.specs.Closing.{Closing, too_many, family, plot_family, first_treatment_family, final_treatment_family}
use Rattle.rules.specs.Design.{Answer, Places, none, refused, first_failing, first_pair, first_cross, question7, question8, question9, question10, question11, question12, question13, question14, with_treatments, full_question7, all_nonzero, within_limits, full_within_limits, plot_design, full_design}
use Rattle.rules.specs.Asking.{Verdict, nothing_refused, fail, Asked, asked, first_no, without_places, at_places, at_both, members_in, asks6, asks7, asks8, asks9, asks10, asks11, asks12, asks13, asks14, plot_columns, treatment_columns, plot_members, first_members, answered, plot_answer, full_answer, plot_design_by, full_design_by}
use Rattle.rules.proofs.Numbering.{by_cases}
use Rattle.rules.proofs.FirstNo.{plain_pass, places_pass, first_pass, first_fail}

-- ---- replies that fail

plain_fail : (b : Bool) → b ≡ false → without_places b ≡ fail none
plain_fail b e = ap without_places e

carries_fail : (p : Places) (i : ℕ) → p.first ≡ suc i → at_both p ≡ fail p
carries_fail p i e = ap (λ (x : ℕ). at_places x p.second) e ∙ ap (λ (x : ℕ). fail (record { first = x; second = p.second })) (sym e)

-- ---- the full design

-- each step of the chain of questions, by what it looks at
module _ (n : ℕ) (P S : Family) where
  final_yes : leb (length (final_treatment_family P S)) 32 ≡ true → question14 P S (final_treatment_family P S) ≡ answered nothing_refused P (final_treatment_family P S)
  unfolding question14
  final_yes e = rw (e, question14)

  final_no : leb (length (final_treatment_family P S)) 32 ≡ false → question14 P S (final_treatment_family P S) ≡ answered (record { refusal = 14; places = none }) P S
  unfolding question14
  final_no e = rw (e, question14)

  module _ (p : Places) where
    crosses_yes : p.first ≡ 0 → question13 P S p ≡ question14 P S (final_treatment_family P S)
    unfolding question13
    crosses_yes e = rw (e, question13)

    crosses_no : (i : ℕ) → p.first ≡ suc i → question13 P S p ≡ answered (record { refusal = 13; places = p }) P S
    unfolding question13
    crosses_no i e = ap (λ (x : ℕ). elim x [ zero ↦ question14 P S (final_treatment_family P S) | suc j ↦ answered (record { refusal = 13; places = p }) P S ]) e

    treatments_yes : p.first ≡ 0 → question12 n P S p ≡ question13 P S (first_cross (orthogonal n) 1 P S)
    unfolding question12
    treatments_yes e = rw (e, question12)

    treatments_no : (i : ℕ) → p.first ≡ suc i → question12 n P S p ≡ answered (record { refusal = 12; places = p }) P S
    unfolding question12
    treatments_no i e = ap (λ (x : ℕ). elim x [ zero ↦ question13 P S (first_cross (orthogonal n) 1 P S) | suc j ↦ answered (record { refusal = 12; places = p }) P S ]) e

module _ (P : Family) (p : Places) where
  plots_yes : p.first ≡ 0 → question10 P p ≡ answered nothing_refused P []
  unfolding question10
  plots_yes e = rw (e, question10)

  plots_no : (i : ℕ) → p.first ≡ suc i → question10 P p ≡ answered (record { refusal = 10; places = p }) P []
  unfolding question10
  plots_no i e = ap (λ (x : ℕ). elim x [ zero ↦ answered nothing_refused P [] | suc j ↦ answered (record { refusal = 10; places = p }) P [] ]) e

module _ (n k : ℕ) (Ts : List Column) where
  module _ (P : Family) where
    module _ (S : Family) where
      abbrev full : Verdict → Answer
      full v = full_answer v P S

      from_14 : question14 P S (final_treatment_family P S) ≡ full_answer (first_no (asks14 P S ∷ [])) P S
      unfolding first_no
      from_14 =
          by_cases (leb (length (final_treatment_family P S)) 32)
          (λ e. final_yes n P S e ∙ ap full (sym (first_pass (asks14 P S) [] ((plain_pass _).1 e))))
          (λ e. final_no n P S e ∙ ap full (sym (first_fail (asks14 P S) [] none (plain_fail _ e))))

      from_13 : (p : Places) (i : ℕ) → p.first ≡ i → question13 P S p ≡ full_answer (first_no (asked 13 (at_both p) ∷ asks14 P S ∷ [])) P S
      from_13 p zero e = crosses_yes n P S p e ∙ from_14 ∙ ap full (sym (first_pass (asked 13 (at_both p)) (asks14 P S ∷ []) ((places_pass p.first p.second).1 e)))
      from_13 p (suc i) e = crosses_no n P S p i e ∙ ap full (sym (first_fail (asked 13 (at_both p)) (asks14 P S ∷ []) p (carries_fail p i e)))

      abbrev after12 : List Asked
      after12 = asks13 n P S ∷ asks14 P S ∷ []

      from_12 : (p : Places) (i : ℕ) → p.first ≡ i → question12 n P S p ≡ full_answer (first_no (asked 12 (at_both p) ∷ after12)) P S
      from_12 p zero e =
          treatments_yes n P S p e ∙ from_13 (first_cross (orthogonal n) 1 P S) _ refl ∙ ap full (sym (first_pass (asked 12 (at_both p)) after12 ((places_pass p.first p.second).1 e)))
      from_12 p (suc i) e = treatments_no n P S p i e ∙ ap full (sym (first_fail (asked 12 (at_both p)) after12 p (carries_fail p i e)))

    from_11 : (y : Closing) → question11 n P y ≡ full_answer (first_no (asks11 y ∷ asks12 n (members_in y) ∷ asks13 n P (members_in y) ∷ asks14 P (members_in y) ∷ [])) P (members_in y)
    unfolding question11 first_no
    from_11 too_many = refl
    from_11 (family S) = from_12 S (first_pair (orthogonal n) 1 S) _ refl

    abbrev S : Family
    S = first_members n k Ts

    abbrev after10 : List Asked
    after10 = asks11 (first_treatment_family n k Ts) ∷ asks12 n S ∷ asks13 n P S ∷ asks14 P S ∷ []

    from_10 : (p : Places) (i : ℕ) → p.first ≡ i → with_treatments n k Ts (question10 P p) ≡ full_answer (first_no (asked 10 (at_both p) ∷ after10)) P S
    unfolding with_treatments
    from_10 p zero e =
        ap (with_treatments n k Ts) (plots_yes P p e) ∙ from_11 (first_treatment_family n k Ts)
        ∙ ap (full S) (sym (first_pass (asked 10 (at_both p)) after10 ((places_pass p.first p.second).1 e)))
    from_10 p (suc i) e = ap (with_treatments n k Ts) (plots_no P p i e) ∙ ap (full S) (sym (first_fail (asked 10 (at_both p)) after10 p (carries_fail p i e)))

    from_9 : (i : ℕ) → with_treatments n k Ts (question9 n P i) ≡ full_answer (first_no (asked 9 (at_places i 0) ∷ asks10 n P ∷ after10)) P S
    unfolding question9 with_treatments first_no
    from_9 zero = from_10 (first_pair (orthogonal n) 1 P) _ refl
    from_9 (suc i) = refl

  from_8 : (x : Closing) → with_treatments n k Ts (question8 n x) ≡ full_answer (first_no (asks8 x ∷ asks9 n (members_in x) ∷ asks10 n (members_in x) ∷ after10 (members_in x))) (members_in x) (first_members n k Ts)
  unfolding question8 with_treatments first_no
  from_8 too_many = refl
  from_8 (family P) = from_9 P (first_failing (uniform n) 1 P)

-- 7 and 6, by what they look at
module _ (n k : ℕ) (Fs Ts : List Column) where
  seven_yes : all_nonzero (Fs ++ Ts) ≡ true → full_question7 n k Fs Ts ≡ with_treatments n k Ts (question8 n (plot_family n Fs))
  unfolding full_question7
  seven_yes e = rw (e, full_question7)

  seven_no : all_nonzero (Fs ++ Ts) ≡ false → full_question7 n k Fs Ts ≡ refused 7
  unfolding full_question7
  seven_no e = rw (e, full_question7)

module _ (n c d k : ℕ) (levels : List ℕ) (p r : ℕ) where
  six_yes : full_within_limits n c d k (length levels) p r ≡ true → full_design n c d k levels p r ≡ full_question7 n k (plot_columns n c levels) (treatment_columns n d levels)
  unfolding full_design
  six_yes e = rw (e, full_design)

  pub six_no : full_within_limits n c d k (length levels) p r ≡ false → full_design n c d k levels p r ≡ refused 6
  unfolding full_design
  six_no e = rw (e, full_design)

module _ (n : ℕ) (Fs : List Column) where
  plot_seven_yes : all_nonzero Fs ≡ true → question7 n Fs ≡ question8 n (plot_family n Fs)
  unfolding question7
  plot_seven_yes e = rw (e, question7)

  plot_seven_no : all_nonzero Fs ≡ false → question7 n Fs ≡ refused 7
  unfolding question7
  plot_seven_no e = rw (e, question7)

module _ (n c : ℕ) (levels : List ℕ) (r : ℕ) where
  plot_six_yes : within_limits n c (length levels) r ≡ true → plot_design n c levels r ≡ question7 n (plot_columns n c levels)
  unfolding plot_design
  plot_six_yes e = rw (e, plot_design)

  plot_six_no : within_limits n c (length levels) r ≡ false → plot_design n c levels r ≡ refused 6
  unfolding plot_design
  plot_six_no e = rw (e, plot_design)

-- the full design is the first "no" of 6 to 14, in this order, and what is written after it
pub full_design_asks : (n c d k : ℕ) (levels : List ℕ) (p r : ℕ)
    → full_design n c d k levels p r ≡ full_design_by (orthogonal n) n c d k levels p r
full_design_asks n c d k levels p r =
    by_cases b
    (λ e. six_yes n c d k levels p r e ∙ seven ∙ ap (λ (v : Verdict). full_answer v P S) (sym (first_pass (asks6 b) after6 ((plain_pass b).1 e))))
    (λ e. six_no n c d k levels p r e ∙ ap (λ (v : Verdict). full_answer v P S) (sym (first_fail (asks6 b) after6 none (plain_fail b e))))
  where
    Fs : List Column
    Fs = plot_columns n c levels

    Ts : List Column
    Ts = treatment_columns n d levels

    P : Family
    P = plot_members n Fs

    S : Family
    S = first_members n k Ts

    b : Bool
    b = full_within_limits n c d k (length levels) p r

    after7 : List Asked
    after7 = asks8 (plot_family n Fs) ∷ asks9 n P ∷ asks10 n P ∷ after10 n k Ts P

    after6 : List Asked
    after6 = asks7 (Fs ++ Ts) ∷ after7

    seven : full_question7 n k Fs Ts ≡ full_answer (first_no after6) P S
    seven =
        by_cases (all_nonzero (Fs ++ Ts))
        (λ e. seven_yes n k Fs Ts e ∙ from_8 n k Ts (plot_family n Fs) ∙ ap (λ (v : Verdict). full_answer v P S) (sym (first_pass (asks7 (Fs ++ Ts)) after7 ((plain_pass (all_nonzero (Fs ++ Ts))).1 e))))
        (λ e. seven_no n k Fs Ts e ∙ ap (λ (v : Verdict). full_answer v P S) (sym (first_fail (asks7 (Fs ++ Ts)) after7 none (plain_fail (all_nonzero (Fs ++ Ts)) e))))

-- ---- the plot design

module _ (n : ℕ) where
  plot_10 : (P : Family) (p : Places) (i : ℕ) → p.first ≡ i → question10 P p ≡ plot_answer (first_no (asked 10 (at_both p) ∷ [])) P
  unfolding first_no
  plot_10 P p zero e = plots_yes P p e ∙ ap (λ (v : Verdict). plot_answer v P) (sym (first_pass (asked 10 (at_both p)) [] ((places_pass p.first p.second).1 e)))
  plot_10 P p (suc i) e = plots_no P p i e ∙ ap (λ (v : Verdict). plot_answer v P) (sym (first_fail (asked 10 (at_both p)) [] p (carries_fail p i e)))

  plot_9 : (P : Family) (i : ℕ) → question9 n P i ≡ plot_answer (first_no (asked 9 (at_places i 0) ∷ asks10 n P ∷ [])) P
  unfolding question9 first_no
  plot_9 P zero = plot_10 P (first_pair (orthogonal n) 1 P) _ refl
  plot_9 P (suc i) = refl

  -- 8 to 10 of a closing
  pub plot_8 : (x : Closing) → question8 n x ≡ plot_answer (first_no (asks8 x ∷ asks9 n (members_in x) ∷ asks10 n (members_in x) ∷ [])) (members_in x)
  unfolding question8 first_no
  plot_8 too_many = refl
  plot_8 (family P) = plot_9 P (first_failing (uniform n) 1 P)

-- the plot design is the first "no" of 6 to 10, in this order, and what is written after it
pub plot_design_asks : (n c : ℕ) (levels : List ℕ) (r : ℕ)
    → plot_design n c levels r ≡ plot_design_by (orthogonal n) n c levels r
plot_design_asks n c levels r =
    by_cases b
    (λ e. plot_six_yes n c levels r e ∙ seven ∙ ap (λ (v : Verdict). plot_answer v P) (sym (first_pass (asks6 b) after6 ((plain_pass b).1 e))))
    (λ e. plot_six_no n c levels r e ∙ ap (λ (v : Verdict). plot_answer v P) (sym (first_fail (asks6 b) after6 none (plain_fail b e))))
  where
    Fs : List Column
    Fs = plot_columns n c levels

    P : Family
    P = plot_members n Fs

    b : Bool
    b = within_limits n c (length levels) r

    after7 : List Asked
    after7 = asks8 (plot_family n Fs) ∷ asks9 n P ∷ asks10 n P ∷ []

    after6 : List Asked
    after6 = asks7 Fs ∷ after7

    seven : question7 n Fs ≡ plot_answer (first_no after6) P
    seven =
        by_cases (all_nonzero Fs)
        (λ e. plot_seven_yes n Fs e ∙ plot_8 n (plot_family n Fs) ∙ ap (λ (v : Verdict). plot_answer v P) (sym (first_pass (asks7 Fs) after7 ((plain_pass (all_nonzero Fs)).1 e))))
        (λ e. plot_seven_no n Fs e ∙ ap (λ (v : Verdict). plot_answer v P) (sym (first_fail (asks7 Fs) after7 none (plain_fail (all_nonzero Fs) e))))
