-- What the output holds after a conversion.
-- Assumes nothing.
use Rattle.std.specs.Prelude.{List, ◌≡◌, ℕ, ◌≤◌, length, take}
use Rattle.rules.specs.Limits.{table_cells}
use Rattle.rules.specs.Parents.{conversion, Converted}

-- "Converting the result again changes nothing.": what an output that begins with a converted sheet holds, for any
-- level table that it may be read into
abbrev pub HoldsConverted : List ℕ → ℕ → List ℕ → Type 0
HoldsConverted old outLength out =
    (conversion old outLength).refusal ≡ 0 → (levels : List ℕ) → table_cells ≤ length levels → Converted old (take (length (conversion old outLength).sheet) out) levels
