-- What an entry that writes a sheet answers, and what a program prints for it.
-- Assumes nothing.
use Rattle.std.specs.Prelude.{Bool, true, false, List, [], ◌∷◌, ◌≡◌, ℕ, zero, suc, eqb, length, Result, Ok, Err}
use Rattle.rules.specs.SheetText.{SheetAnswer}
use Rattle.rules.specs.Table.{rows_bytes, refused_row, dash}
use Rattle.refusal.specs.declared.Refusal.{Refusal}
use Rattle.refusal.specs.Numbers.{number_of}
use Rattle.decimal.specs.Writing.{Wrote}

-- whether a sheet is written, the number of the question that failed or 0, and how many bytes the sheet has
pub record SheetNumbers : Type 0 where
  pub accepted : Bool
  pub refusal : ℕ
  pub size : ℕ

-- how many bytes were written, or what is refused
unfoldable pub writing_numbers : Result ℕ Refusal → SheetNumbers
writing_numbers (Ok m) = record { accepted = true; refusal = 0; size = m }
writing_numbers (Err q) = record { accepted = false; refusal = number_of q; size = 0 }

-- an answer of the rules
unfoldable pub answer_numbers : SheetAnswer → SheetNumbers
answer_numbers a = record { accepted = eqb a.refusal 0; refusal = a.refusal; size = length a.sheet }

-- what is printed: the sheet, or the line of the refusal, without names
unfoldable pub answer_text : SheetAnswer → List ℕ
unfolding rows_bytes refused_row
answer_text a = elim a.refusal [ zero ↦ a.sheet | suc q ↦ rows_bytes (refused_row (suc q) dash dash ∷ []) ]

-- printing, once the entry was called: the sheet stands in the output already; a refusal left that as it was, and its line is written
abbrev pub Printed : Result ℕ Refusal → List ℕ → List ℕ → ℕ → Type 0
Printed (Ok m) before after answer = (answer ≡ m) × (after ≡ before)
Printed (Err q) before after answer = Wrote before 0 (rows_bytes (refused_row (number_of q) dash dash ∷ [])) after answer
