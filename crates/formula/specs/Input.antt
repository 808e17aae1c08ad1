-- The formula in a program's input, and what is printed for it.
-- Assumes nothing.
use Rattle.std.specs.Prelude.{true, false, List, ℕ, ◌-◌, eqb, length, get_or, take}
use Rattle.rules.specs.Sheet.{newline}
use Rattle.rules.specs.Formula.{formula_sheet}
use Rattle.writer.specs.Answers.{answer_text}

-- the input without the byte 10 at its end, if it has one
unfoldable pub without_end : List ℕ → List ℕ
without_end input = elim (eqb (get_or input (length input - 1) 0) newline) [ true ↦ take (length input - 1) input | false ↦ input ]

-- what is printed for an input, with so many bytes for the text
abbrev pub formula_text : List ℕ → ℕ → List ℕ
formula_text input outLength = answer_text (formula_sheet (without_end input) outLength)
