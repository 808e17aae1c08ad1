-- Text written into a lent buffer from a place on.
-- Assumes nothing.
use Rattle.std.specs.Prelude.{List, ◌≡◌, ℕ, ◌+◌, ◌-◌, min, length}
use Rattle.std.proofs.Math.Seq.{paste}

-- how many bytes of a text there is room for from place `at` on
unfoldable pub fits : List ℕ → ℕ → List ℕ → ℕ
fits out at text = min (length text) (length out - at)

-- what the buffer holds when a text was written from place `at` on, as much as there is room for
unfoldable pub written : List ℕ → ℕ → List ℕ → List ℕ
unfolding fits
written out at text = paste out at text (fits out at text)

-- the place after what was written
unfoldable pub place_after : List ℕ → ℕ → List ℕ → ℕ
unfolding fits
place_after out at text = at + fits out at text

-- a text is written from place `at` on, as much of it as there is room for, and the answer is the place after it
abbrev pub Wrote : List ℕ → ℕ → List ℕ → List ℕ → ℕ → Type 0
Wrote before at text after answer = (answer ≡ place_after before at text) × (after ≡ written before at text)
