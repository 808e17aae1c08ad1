-- Arrays of 32 places filled from the start.
-- Assumes nothing.
use mathlib.Core.Path.{◌≡◌, sym, ap, ◌∙◌}
use mathlib.Core.List.{List}
use Prim.Native.Nat.{ℕ, ◌+◌, ◌≤◌, ◌<◌}
use lib.ListN.{length, get_or, set, take, replicate}
use lib.Seq.{get_or-take, ext_get_or}
use Rattle.rules.specs.Lists.{tabulate, for_places}
use Rattle.rules.proofs.Lists.{length_tabulate, get_d_tabulate}
use Rattle.rules.proofs.Places.{at_places_lem, places_start, places_step, places_end}

module _ {A : Type 0} (z : A) (f : ℕ → A) where
  -- f 0, .., f (i - 1), then z
  unfoldable pub up_to : ℕ → ℕ → List A
  unfolding tabulate for_places
  up_to n i = for_places z (take i (tabulate f n))

  pub up_start : (n : ℕ) → replicate 32 z ≡ up_to n 0
  unfolding up_to
  up_start n = places_start z (tabulate f n)

  pub up_step : (n i : ℕ) → i < n → i < 32 → set (up_to n i) i (f i) ≡ up_to n (i + 1)
  unfolding up_to
  up_step n i h l = ap (λ (x : A). set (for_places z (take i (tabulate f n))) i x) (sym (get_d_tabulate f n i z h)) ∙ places_step z (tabulate f n) i l

  -- one of the first
  pub up_at : (n i k : ℕ) → k < i → k < n → k < 32 → get_or (up_to n i) k z ≡ f k
  unfolding up_to
  up_at n i k h l m = at_places_lem z (take i (tabulate f n)) k m ∙ get_or-take i (tabulate f n) k z h ∙ get_d_tabulate f n k z l

  pub up_end : (n i : ℕ) → n ≤ i → up_to n i ≡ for_places z (tabulate f n)
  unfolding up_to
  up_end n i h = places_end z (tabulate f n) i (rw (length_tabulate f n) h)

-- an array that is known place by place
pub tabulated : {A : Type 0} (f : ℕ → A) (xs : List A) (n : ℕ) (z : A) → length xs ≡ n → ((k : ℕ) → k < n → get_or xs k z ≡ f k) → xs ≡ tabulate f n
tabulated f xs n z l h =
    ext_get_or z xs (tabulate f n) (l ∙ sym (length_tabulate f n)) (λ k m. let i : k < n = rw l at m in h k i ∙ sym (get_d_tabulate f n k z i))
