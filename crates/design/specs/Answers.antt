-- The answers of the designs as the rules count them: the number of the refusal, its places and the sizes, of an acceptance and of a refusal.
-- Assumes nothing.
use Rattle.std.specs.Prelude.{◌≡◌, Bool, true, false, List, ℕ, eqb, Result, Ok, Err}
use Rattle.rules.specs.Family.{members_of}
use Rattle.rules.specs.Design.{Answer, plot_size, treatment_size}
use Rattle.rules.specs.Degrees.{TrustedStrata}
use Rattle.rules.specs.Strata.{Trusted}
use Rattle.refusal.specs.Numbers.{number_of}
use Rattle.design.specs.declared.PlotRefusal.{PlotRefusal}
use Rattle.design.specs.declared.FullRefusal.{FullRefusal}
use Rattle.design.specs.declared.Sizes.{Sizes}

-- whether it is accepted, the number of the question that failed or 0, the places, and the size of the plot family
pub record PlotNumbers : Type 0 where
  pub accepted : Bool
  pub refusal : ℕ
  pub first : ℕ
  pub second : ℕ
  pub size : ℕ

-- of an acceptance, and of a refusal
unfoldable pub plot_numbers : Result ℕ PlotRefusal → PlotNumbers
plot_numbers (Ok size) = record { accepted = true; refusal = 0; first = 0; second = 0; size = size }
plot_numbers (Err r) = record { accepted = false; refusal = number_of r.question; first = r.first; second = r.second; size = r.size }

-- an answer of the rules
unfoldable pub plot_numbers_of : Answer → PlotNumbers
plot_numbers_of a = record { accepted = eqb a.refusal 0; refusal = a.refusal; first = a.places.first; second = a.places.second; size = plot_size a }

-- C-13 of what a plot design leaves: the numbers answered, and the family in the buffer afterwards, as many members as the size answered
abbrev pub PlotTrusted : ℕ → PlotNumbers → List ℕ → Type 0
PlotTrusted n r buffer = r.refusal ≡ 0 → TrustedStrata n (members_of n buffer r.size)

-- ---- the full design

-- whether it is accepted, the number of the question that failed or 0, the places, and the sizes of the two families
pub record FullNumbers : Type 0 where
  pub accepted : Bool
  pub refusal : ℕ
  pub first : ℕ
  pub second : ℕ
  pub plot : ℕ
  pub treatment : ℕ

-- of an acceptance, and of a refusal
unfoldable pub full_numbers : Result Sizes FullRefusal → FullNumbers
full_numbers (Ok s) = record { accepted = true; refusal = 0; first = 0; second = 0; plot = s.plot; treatment = s.treatment }
full_numbers (Err r) = record { accepted = false; refusal = number_of r.question; first = r.first; second = r.second; plot = r.plot; treatment = r.treatment }

-- an answer of the rules
unfoldable pub full_numbers_of : Answer → FullNumbers
full_numbers_of a = record { accepted = eqb a.refusal 0; refusal = a.refusal; first = a.places.first; second = a.places.second; plot = plot_size a; treatment = treatment_size a }

-- what a full design leaves: the numbers answered, and the families in the two buffers afterwards, as many members as the sizes answered
abbrev pub full_left : ℕ → FullNumbers → List ℕ → List ℕ → Answer
full_left n r plots treatments = record { refusal = r.refusal; places = record { first = r.first; second = r.second }; plot = members_of n plots r.plot; treatment = members_of n treatments r.treatment }

-- C-13 of it
abbrev pub FullTrusted : ℕ → FullNumbers → List ℕ → List ℕ → Type 0
FullTrusted n r plots treatments = r.refusal ≡ 0 → Trusted n (members_of n plots r.plot) (members_of n treatments r.treatment)

-- a refusal by question q, with its places and the sizes of the two families
abbrev pub full_refusing : ℕ → ℕ → ℕ → ℕ → ℕ → FullNumbers
full_refusing q i j plot treatment = record { accepted = false; refusal = q; first = i; second = j; plot = plot; treatment = treatment }
