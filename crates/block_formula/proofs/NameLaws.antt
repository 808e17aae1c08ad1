-- Laws of the names of a formula: what each byte adds to the headings, and names that differ.
-- Assumes nothing.
use mathlib.Core.Path.{◌≡◌, refl, sym, ap, ◌∙◌}
use mathlib.Core.Bool.{Bool, true, false, not, ◌&&◌}
use mathlib.Core.List.{List, [], ◌∷◌, ◌++◌, map}
use Prim.Native.Nat.{ℕ, ◌+◌, ◌≤◌, ◌<◌}
use native.Mathlib.Numerals.{add-one}
use lib.Dec.{eqb}
use lib.Pointwise.{pointwise}
use lib.ListN.{length, get_or, drop, drop_of_length-le}
use lib.Seq.{drop-cons}
use borrow.Author.Tests.{eq-eqb, ne_eqb}
use Rattle.rules.proofs.Numbering.{by_cases}
use Rattle.rules.specs.Sheet.{letter_or_digit, tab, plot_mark, same_bytes, new_name, names_differ}
use Rattle.rules.specs.SheetText.{plot_heading}
use Rattle.rules.specs.Formula.{equals}
use Rattle.block_formula.specs.Text.{in_count, heading_part, headings_from}

-- ---- a byte more

module _ (b : Bool) (x : ℕ) where
  pub part_next : x ≡ equals → heading_part b x ≡ tab ∷ plot_mark ∷ 58 ∷ []
  unfolding heading_part
  part_next e = rw (eq-eqb x equals e, heading_part)

  pub part_counted : (x ≡ equals → ⊥) → b ≡ true → heading_part b x ≡ []
  unfolding heading_part
  part_counted n c = rw (ne_eqb x equals n, c, heading_part)

  pub part_other : (x ≡ equals → ⊥) → letter_or_digit x ≡ false → heading_part b x ≡ []
  unfolding heading_part
  part_other n l = rw (ne_eqb x equals n, l, and_none (not b), heading_part)
    where
      and_none : (a : Bool) → a && false ≡ false
      and_none true = refl
      and_none false = refl

  pub part_named : (x ≡ equals → ⊥) → b ≡ false → letter_or_digit x ≡ true → heading_part b x ≡ x ∷ []
  unfolding heading_part
  part_named n c l = rw (ne_eqb x equals n, c, l, heading_part)

module _ (text : List ℕ) (i : ℕ) (b : Bool) where
  pub headings_step : i < length text → headings_from b (drop i text) ≡ heading_part b (get_or text i 0) ++ headings_from (in_count b (get_or text i 0)) (drop (i + 1) text)
  unfolding headings_from
  headings_step h = ap (headings_from b) (drop-cons text i 0 h) ∙ ap (λ (m : ℕ). heading_part b (get_or text i 0) ++ headings_from (in_count b (get_or text i 0)) (drop m text)) (sym (add-one i))

  pub headings_end : length text ≤ i → headings_from b (drop i text) ≡ []
  unfolding headings_from
  headings_end h = ap (headings_from b) (drop_of_length-le text h)

-- ---- names that differ

-- slices that are equal have the same bytes
pub equal_bytes : (xs ys : List ℕ) → pointwise eqb xs ys ≡ same_bytes xs ys
unfolding same_bytes
equal_bytes [] [] = refl
equal_bytes [] (y ∷ ys) = refl
equal_bytes (x ∷ xs) [] = refl
equal_bytes (x ∷ xs) (y ∷ ys) = by_cases (eqb x y) (λ e. rw e (equal_bytes xs ys)) (λ e. rw e)

module _ (ns : List (List ℕ)) where
  module _ (name : List ℕ) (j : ℕ) where
    pub new_here : j < length ns → same_bytes name (get_or ns j []) ≡ true → new_name (plot_heading name) (map plot_heading (drop j ns)) ≡ false
    unfolding new_name
    new_here h e = ap (λ (l : List (List ℕ)). new_name (plot_heading name) (map plot_heading l)) (drop-cons ns j [] h) ∙ rw e

    pub new_on : j < length ns → same_bytes name (get_or ns j []) ≡ false → new_name (plot_heading name) (map plot_heading (drop j ns)) ≡ new_name (plot_heading name) (map plot_heading (drop (j + 1) ns))
    unfolding new_name
    new_on h e = ap (λ (l : List (List ℕ)). new_name (plot_heading name) (map plot_heading l)) (drop-cons ns j [] h) ∙ rw (e, add-one)

    pub new_end : length ns ≤ j → new_name (plot_heading name) (map plot_heading (drop j ns)) ≡ true
    unfolding new_name
    new_end h = ap (λ (l : List (List ℕ)). new_name (plot_heading name) (map plot_heading l)) (drop_of_length-le ns h)

  module _ (i : ℕ) where
    abbrev later : Bool
    later = new_name (plot_heading (get_or ns i [])) (map plot_heading (drop (i + 1) ns))

    differ_step : i < length ns → names_differ (map plot_heading (drop i ns)) ≡ later && names_differ (map plot_heading (drop (i + 1) ns))
    unfolding names_differ
    differ_step h =
        ap (λ (l : List (List ℕ)). names_differ (map plot_heading l)) (drop-cons ns i [] h)
        ∙ ap (λ (m : ℕ). new_name (plot_heading (get_or ns i [])) (map plot_heading (drop m ns)) && names_differ (map plot_heading (drop m ns))) (sym (add-one i))

    pub differ_no : i < length ns → later ≡ false → names_differ (map plot_heading (drop i ns)) ≡ false
    differ_no h e = differ_step h ∙ rw e

    pub differ_on : i < length ns → later ≡ true → names_differ (map plot_heading (drop i ns)) ≡ names_differ (map plot_heading (drop (i + 1) ns))
    differ_on h e = differ_step h ∙ rw e

    pub differ_end : length ns ≤ i → names_differ (map plot_heading (drop i ns)) ≡ true
    unfolding names_differ
    differ_end h = ap (λ (l : List (List ℕ)). names_differ (map plot_heading l)) (drop_of_length-le ns h)
