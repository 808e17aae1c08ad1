-- Laws of what is printed for an answer, by each of its cases.
-- Assumes nothing.
use mathlib.Core.Path.{◌≡◌, refl, sym, ap, ◌∙◌}
use mathlib.Core.Bool.{true, false}
use mathlib.Core.List.{List, [], ◌∷◌, ◌++◌}
use Prim.Native.Nat.{ℕ, zero, suc, ◌≤◌}
use native.Mathlib.Nat.{suc-ne-zero}
use lib.Dec.{eqb}
use lib.ListN.{length, drop}
use Rattle.rules.specs.SheetText.{SheetAnswer, sheet_buffer}
use Rattle.rules.specs.Table.{rows_bytes, refused_row, dash}
use Rattle.rules.proofs.Members.{clash}
use Rattle.std.specs.Prelude.{Result, Ok, Err}
use Rattle.refusal.specs.declared.Refusal.{Refusal}
use Rattle.refusal.specs.Numbers.{number_of}
use Rattle.decimal.specs.Writing.{Wrote, place_after, written}
use Rattle.decimal.proofs.Writing.{wrote_as, written_all, place_all}
use Rattle.writer.specs.Answers.{SheetNumbers, writing_numbers, answer_numbers, answer_text, Printed}

module _ (a : SheetAnswer) where
  text_0 : a.refusal ≡ 0 → answer_text a ≡ a.sheet
  unfolding answer_text
  text_0 e = rw (e, answer_text)

  text_refused : (q : ℕ) → a.refusal ≡ suc q → answer_text a ≡ rows_bytes (refused_row (suc q) dash dash ∷ [])
  unfolding answer_text
  text_refused q e = rw (e, answer_text)

  -- a sheet is written
  sheet_printed : (out after : List ℕ) (m : ℕ) → length a.sheet ≤ length out → record { accepted = true; refusal = 0; size = m } ≡ answer_numbers a → after ≡ sheet_buffer out a
      → Wrote out 0 (answer_text a) after m
  unfolding answer_numbers
  sheet_printed out after m fits e k =
      wrote_as out 0 (sym (text_0 (sym (ap (λ (n : SheetNumbers). n.refusal) e))))
      (ap (λ (n : SheetNumbers). n.size) e ∙ sym (place_all out a.sheet fits), k ∙ sym (written_all out a.sheet fits))

  -- none is
  module _ (q : ℕ) (e : record { accepted = false; refusal = q; size = 0 } ≡ answer_numbers a) where
    refused_kept : (out after : List ℕ) → after ≡ sheet_buffer out a → after ≡ out
    unfolding answer_numbers
    refused_kept out after k = k ∙ none a.sheet (ap (λ (n : SheetNumbers). n.size) e)
      where
        none : (s : List ℕ) → 0 ≡ length s → s ++ drop (length s) out ≡ out
        none [] z = refl
        none (x ∷ s) z = absurd (suc-ne-zero (length s) (sym z))

    refused_printed : rows_bytes (refused_row q dash dash ∷ []) ≡ answer_text a
    unfolding answer_numbers
    refused_printed = some a.refusal refl
      where
        some : (x : ℕ) → a.refusal ≡ x → rows_bytes (refused_row q dash dash ∷ []) ≡ answer_text a
        some zero z = clash (ap (λ (y : ℕ). eqb y 0) z) (sym (ap (λ (n : SheetNumbers). n.accepted) e))
        some (suc x) z = ap (λ (y : ℕ). rows_bytes (refused_row y dash dash ∷ [])) (ap (λ (n : SheetNumbers). n.refusal) e ∙ z) ∙ sym (text_refused x z)

  -- an entry that writes a sheet, and then what is printed for its answer
  pub answer_printed : (w : Result ℕ Refusal) (out mid : List ℕ) {after : List ℕ} {r : ℕ} → length a.sheet ≤ length out → writing_numbers w ≡ answer_numbers a → mid ≡ sheet_buffer out a → Printed w mid after r
      → Wrote out 0 (answer_text a) after r
  unfolding writing_numbers
  answer_printed (Ok m) out mid fits e k p = let s = sheet_printed out mid m fits e k in (p.0 ∙ s.0, p.1 ∙ s.1)
  answer_printed (Err q) out mid fits e k p =
      let kept = refused_kept (number_of q) e out mid k in
      let text : List ℕ = rows_bytes (refused_row (number_of q) dash dash ∷ []) in
      wrote_as out 0 (refused_printed (number_of q) e) (p.0 ∙ ap (λ (o : List ℕ). place_after o 0 text) kept, p.1 ∙ ap (λ (o : List ℕ). written o 0 text) kept)
