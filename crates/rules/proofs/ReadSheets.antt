-- Laws of a sheet that was read: questions 2, 3, 6 and 7 do not refuse it any more, and its design is decided by questions 8 to 14.
-- Assumes nothing.
use mathlib.Core.Path.{◌≡◌, refl, sym, ap, ◌∙◌, subst}
use mathlib.Core.Logic.{◌⊎◌, inl, inr}
use mathlib.Core.Bool.{true}
use mathlib.Core.List.{List, [], ◌∷◌, ◌++◌}
use Prim.Native.Nat.{ℕ, zero, suc, ◌≤◌}
use native.Mathlib.Omega.{arith}
use lib.Dec.{leb, lit≤}
use lib.ListN.{length}
use borrow.Author.Tests.{le-leb}
use Rattle.rules.specs.Factor.{Column, uniform, orthogonal}
use Rattle.rules.specs.Family.{Family, columns_from}
use Rattle.rules.specs.Closing.{plot_family, first_treatment_family, final_treatment_family, Closing, too_many, family}
use Rattle.rules.specs.Design.{Answer, nonzero, all_nonzero, within_limits, full_within_limits, full_question7, full_design, Places, first_failing, first_pair, first_cross, question8, question9, question10, question11, question12, question13, question14, with_treatments}
use Rattle.rules.specs.Sheet.{Outcome, read, question1, question2, question3, reading_from3, reading_to, reading, levels_after}
use Rattle.rules.proofs.Numbering.{by_cases}
use Rattle.rules.proofs.Members.{clash}
use Rattle.rules.proofs.Sheet.{not_read, read_accepts, length_after, read_limits, plot_levels_nonzero, treatment_levels_nonzero}

-- accepted, or refused by a question from 8 on
abbrev pub Late : Answer → Type 0
Late a = (a.refusal ≡ 0) ⊎ (8 ≤ a.refusal)

late_14 : (P S R : Family) → Late (question14 P S R)
unfolding question14
late_14 P S R = by_cases (leb (length R) 32) (λ e. rw (e, question14) (inl refl)) (λ e. rw (e, question14) (inr (lit≤ tt)))

late_13 : (P S : Family) (p : Places) (i : ℕ) → p.first ≡ i → Late (question13 P S p)
unfolding question13
late_13 P S p zero e = rw (e, question13) (late_14 P S (final_treatment_family P S))
late_13 P S p (suc i) e = rw (e, question13) (inr (lit≤ tt))

late_12 : (n : ℕ) (P S : Family) (p : Places) (i : ℕ) → p.first ≡ i → Late (question12 n P S p)
unfolding question12
late_12 n P S p zero e = rw (e, question12) (late_13 P S (first_cross (orthogonal n) 1 P S) _ refl)
late_12 n P S p (suc i) e = rw (e, question12) (inr (lit≤ tt))

late_11 : (n : ℕ) (P : Family) (x : Closing) → Late (question11 n P x)
unfolding question11
late_11 n P too_many = inr (lit≤ tt)
late_11 n P (family S) = late_12 n P S (first_pair (orthogonal n) 1 S) _ refl

late_10 : (n k : ℕ) (Ts : List Column) (P : Family) (p : Places) (i : ℕ) → p.first ≡ i → Late (with_treatments n k Ts (question10 P p))
unfolding question10 with_treatments
late_10 n k Ts P p zero e = rw (e, question10) (late_11 n P (first_treatment_family n k Ts))
late_10 n k Ts P p (suc i) e = rw (e, question10) (inr (lit≤ tt))

late_8 : (n k : ℕ) (Ts : List Column) (x : Closing) → Late (with_treatments n k Ts (question8 n x))
unfolding question8 question9 with_treatments
late_8 n k Ts too_many = inr (lit≤ tt)
late_8 n k Ts (family P) = nine (first_failing (uniform n) 1 P)
  where
    nine : (i : ℕ) → Late (with_treatments n k Ts (question9 n P i))
    nine zero = late_10 n k Ts P (first_pair (orthogonal n) 1 P) _ refl
    nine (suc i) = inr (lit≤ tt)

module _ (text levels : List ℕ) (n p t : ℕ) (e : reading text levels ≡ read n p t) where
  -- questions 2 and 3 hold of a sheet that was read
  pub read_questions : (question2 text ≡ true) × (question3 text ≡ true)
  unfolding reading_to reading_from3
  read_questions =
      by_cases (question1 levels)
      (λ q1. by_cases (question2 text)
      (λ q2. by_cases (question3 text)
      (λ q3. (q2, q3))
      (λ q3. not_read 3 n p t (sym (rw (q1, q2, q3, reading_to, reading_from3)) ∙ e)))
      (λ q2. not_read 2 n p t (sym (rw (q1, q2, reading_to)) ∙ e)))
      (λ q1. not_read 1 n p t (sym (rw (q1, reading_to)) ∙ e))

  -- the level table after the reading
  abbrev table : List ℕ
  table = levels_after (read n p t) text levels

  same_table : levels_after (reading text levels) text levels ≡ table
  same_table = ap (λ (o : Outcome). levels_after o text levels) e

  pub length_table : length table ≡ length levels
  length_table = length_after (read n p t) text levels

  -- question 6 holds with level 6 and buffers long enough
  pub read_within : (b c : ℕ) → 7680 ≤ b → 7680 ≤ c → full_within_limits n p t 6 (length table) b c ≡ true
  unfolding full_within_limits
  read_within b c hb hc =
      let s = read_accepts text levels n p t e in
      let l : within_limits n p (length table) b ≡ true = ap (λ (x : List ℕ). within_limits n p (length x) b) (sym same_table) ∙ read_limits text levels n p t e b ∙ le-leb 7680 b hb in
      rw (l, le-leb t 6 (omega (arith, s.treatment_columns_holds, s.header_good.treatments)), le-leb 7680 c hc)

  -- question 7 holds
  pub read_nonzero : all_nonzero (columns_from n table 0 p ++ columns_from n table 6 t) ≡ true
  unfolding all_nonzero
  read_nonzero =
      both (columns_from n table 0 p) (columns_from n table 6 t)
      (ap (λ (x : List ℕ). all_nonzero (columns_from n x 0 p)) (sym same_table) ∙ plot_levels_nonzero text levels n p t e)
      (ap (λ (x : List ℕ). all_nonzero (columns_from n x 6 t)) (sym same_table) ∙ treatment_levels_nonzero text levels n p t e)
    where
      both : (Fs Ts : List Column) → all_nonzero Fs ≡ true → all_nonzero Ts ≡ true → all_nonzero (Fs ++ Ts) ≡ true
      both [] Ts f g = g
      both (F ∷ Fs) Ts f g = by_cases (nonzero F) (λ h. rw (h, all_nonzero) (both Fs Ts (rw (h, all_nonzero) at f) g)) (λ h. clash f (rw (h, all_nonzero)))

  -- the design of a sheet that was read goes on from question 8
  pub read_design : (b c : ℕ) → 7680 ≤ b → 7680 ≤ c
      → full_design n p t 6 table b c ≡ with_treatments n 6 (columns_from n table 6 t) (question8 n (plot_family n (columns_from n table 0 p)))
  unfolding full_design full_question7
  read_design b c hb hc = rw (read_within b c hb hc, full_design) (rw (read_nonzero, full_question7))

  -- so it is accepted, or refused by 8 to 14
  pub read_late : (b c : ℕ) → 7680 ≤ b → 7680 ≤ c → Late (full_design n p t 6 table b c)
  read_late b c hb hc = subst Late (sym (read_design b c hb hc)) (late_8 n 6 (columns_from n table 6 t) (plot_family n (columns_from n table 0 p)))
