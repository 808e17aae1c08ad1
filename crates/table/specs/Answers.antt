-- What the entry answers, by the rules' definitions, and what is printed for the answer of another.
-- Assumes nothing.
use Rattle.std.specs.Prelude.{Bool, true, false, List, [], ◌∷◌, ◌≡◌, ℕ, eqb, length, Result, Ok, Err}
use Rattle.rules.specs.Sheet.{Outcome, read, refused}
use Rattle.rules.specs.Table.{TableAnswer, rows_bytes, refused_row, dash}
use Rattle.decimal.specs.Writing.{Wrote}
use Rattle.refusal.specs.declared.Refusal.{Refusal}
use Rattle.refusal.specs.Numbers.{number_of}

-- whether the text is written, the number of the question that failed or 0, and how many bytes the text has
pub record PrintNumbers : Type 0 where
  pub accepted : Bool
  pub refusal : ℕ
  pub size : ℕ

-- the bytes written, or the refusal
unfoldable pub print_numbers : Result ℕ Refusal → PrintNumbers
print_numbers (Ok m) = record { accepted = true; refusal = 0; size = m }
print_numbers (Err q) = record { accepted = false; refusal = number_of q; size = 0 }

-- an answer of the rules
unfoldable pub print_numbers_of : TableAnswer → PrintNumbers
print_numbers_of a = record { accepted = eqb a.refusal 0; refusal = a.refusal; size = length a.text }

-- the number of a refused reading, 0 for a sheet that was read
abbrev pub refused_number : Outcome → ℕ
refused_number (read n p t) = 0
refused_number (refused q) = q

-- printing, once an entry that writes a sheet was called: the sheet stands in the output already; a refusal, by any number, left that as it
-- was, and its line is written
abbrev pub Printed : Result ℕ ℕ → List ℕ → List ℕ → ℕ → Type 0
Printed (Ok m) before after answer = (answer ≡ m) × (after ≡ before)
Printed (Err q) before after answer = Wrote before 0 (rows_bytes (refused_row q dash dash ∷ [])) after answer

-- an entry's answer, with the number of what is refused
abbrev pub with_number : Result ℕ Refusal → Result ℕ ℕ
with_number (Ok m) = Ok m
with_number (Err q) = Err (number_of q)
