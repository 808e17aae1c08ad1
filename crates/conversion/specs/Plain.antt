-- An old sheet without its slash parts, which any reader of sheets reads, and where its parents stand.
-- Assumes nothing.
use Rattle.std.specs.Prelude.{true, false, List, ◌∷◌, ◌++◌, map, ◌≡◌, ℕ, ◌≤◌, ◌<◌, ltb, length, take, Option, Some, None, IfSome, Result, Ok, Err}
use Rattle.rules.specs.Limits.{most_text, most_fields}
use Rattle.rules.specs.Sheet.{newline, same_bytes, past, has, all, Field, joined, header, question2, read, reading, levels_after}
use Rattle.rules.specs.Parents.{slash, slash_form, plain_header, parent_place, parents_left}
use Rattle.rules.specs.Factor.{index_of}
use Rattle.rules.specs.SheetText.{plot_heading}
use Rattle.refusal.specs.declared.Refusal.{Refusal}
use Rattle.refusal.specs.declared.Refusal.TheVariants.{Parent}
use Rattle.sheet.specs.declared.Counts.{Counts}

-- the text of an old sheet whose first line ends, without its slash parts
unfoldable pub plain_text : List ℕ → List ℕ
unfolding joined plain_header past
plain_text text = joined (plain_header text) ++ newline ∷ past newline text

-- the name after a field's slash
abbrev pub named_parent : Field → Option (List ℕ)
named_parent f = elim (has slash f) [ true ↦ Some (past slash f) | false ↦ None ]

-- the place of the plot column with this name among fields, if there is one
abbrev pub heading_in : List Field → List ℕ → Option ℕ
heading_in fs name = elim (ltb (index_of same_bytes fs (plot_heading name)) (length fs)) [ true ↦ Some (index_of same_bytes fs (plot_heading name)) | false ↦ None ]

-- the place of a field's parent, if it has one
unfoldable pub parent_of : List Field → Field → Option ℕ
unfolding has parent_place
parent_of ps f = elim (has slash f) [ true ↦ Some (parent_place ps f) | false ↦ None ]

abbrev pub parents_of : List Field → List Field → List (Option ℕ)
parents_of ps fs = map (parent_of ps) fs

-- what is found of field i: its parent further left, if it has one; or one that is not there or not further left
abbrev pub ParentFound : Result (Option ℕ) Refusal → List Field → Field → ℕ → Type 0
ParentFound (Ok parent) ps f i = (parent ≡ parent_of ps f) × IfSome parent (λ p. p < i)
ParentFound (Err q) ps f i = (q ≡ Parent) × (has slash f ≡ true) × (i ≤ parent_place ps f)

-- what question 23 asks: a first line that ends, at most 12 fields, a plain text that a sheet may have, with as many fields
pub record Searchable (old plain : List ℕ) : Type 0 where
  pub ended : has newline old ≡ true
  pub few : length (header old) ≤ most_fields
  pub alike : length (header old) ≤ length (header plain)
  pub size : length plain ≤ most_text

-- what is found of all fields: the places of their parents, which stand further left; or one that does not
abbrev pub ParentsFound : Result (List (Option ℕ)) Refusal → List ℕ → List ℕ → Type 0
ParentsFound (Ok parents) old plain = (parents_left (header plain) 0 (header old) ≡ true) × (take (length (header old)) parents ≡ parents_of (header plain) (header old))
ParentsFound (Err q) old plain = (q ≡ Parent) × (parents_left (header plain) 0 (header old) ≡ false)

-- what is known once the slash parts have their form: questions 6, 2 and half of 3
pub record Formed (old : List ℕ) (outLength : ℕ) : Type 0 where
  pub room : most_text ≤ outLength
  pub size : question2 old ≡ true
  pub ended : has newline old ≡ true
  pub slashes : all slash_form (header old) ≡ true

-- and once the plain text was read into a level table
pub record PlainRead (old plain : List ℕ) (counts : Counts) (levels : List ℕ) (outLength : ℕ) : Type 0 where
  pub formed : Formed old outLength
  pub is_plain : plain ≡ plain_text old
  pub before : List ℕ
  pub is_read : reading plain before ≡ read counts.plots counts.plot_columns counts.treatment_columns
  pub table : levels ≡ levels_after (reading plain before) plain before
