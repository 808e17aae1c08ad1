-- A list of names, written name by name.
-- Assumes nothing.
use Rattle.std.specs.Prelude.{Bool, true, false, List, [], ◌∷◌, ◌++◌, Option, None, Some, ◌≡◌, ℕ, get_or}
use Rattle.rules.specs.Names.{with_commas}
use Rattle.decimal.specs.Writing.{written, place_after}

-- a name as the list goes on with it: after a comma, unless it is the first
abbrev pub separated : Bool → List ℕ → List ℕ
separated true name = name
separated false name = 44 ∷ name

-- names that each follow a comma
unfoldable pub after_commas : List (List ℕ) → List ℕ → List ℕ
after_commas names [] = []
after_commas names (c ∷ cs) = 44 ∷ get_or names c [] ++ after_commas names cs

-- what is still to be written, when the first name is or is not
abbrev pub listing : Bool → List (List ℕ) → List ℕ → List ℕ
listing true names cs = with_commas names cs
listing false names cs = after_commas names cs

-- a text written from the start on, and the place after it; or no text, and a buffer that is as it was
abbrev pub WroteIfAny : List ℕ → Option (List ℕ) → List ℕ → Option ℕ → Type 0
WroteIfAny before None after answer = (answer ≡ None) × (after ≡ before)
WroteIfAny before (Some text) after answer = (answer ≡ Some (place_after before 0 text)) × (after ≡ written before 0 text)
