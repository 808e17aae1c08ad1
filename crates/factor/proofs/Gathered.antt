-- Laws of a walk over a whole list that gathers whether an item passes a test.
-- Assumes nothing.
use mathlib.Core.Path.{◌≡◌, refl, ◌∙◌}
use mathlib.Core.Bool.{Bool, true, false, ◌||◌}
use mathlib.Core.List.{List, [], ◌∷◌}
use Prim.Native.Nat.{ℕ, suc, ◌<◌}
use native.Mathlib.Omega.{arith}
use lib.ListN.{length, get_or}
use Rattle.rules.proofs.Numbering.{by_cases}
use Rattle.std.specs.List.{fold, list_any}
use Rattle.std.proofs.lemmas.List.Folds.{list_any_at}

module _ {X : Type 0} (p : X → Bool) where
  gathered_from : (b : Bool) (xs : List X) → fold (λ (a : Bool) (x : X). a || p x) b xs ≡ (b || list_any p xs)
  gathered_from b [] = or_false b
    where
      or_false : (b : Bool) → b ≡ (b || false)
      or_false true = refl
      or_false false = refl
  gathered_from b (x ∷ xs) = gathered_from (b || p x) xs ∙ assoc b (p x) (list_any p xs)
    where
      assoc : (a b c : Bool) → ((a || b) || c) ≡ (a || (b || c))
      assoc true b c = refl
      assoc false b c = refl

  -- what is gathered is whether some item passes
  pub gathered : (xs : List X) → fold (λ (a : Bool) (x : X). a || p x) false xs ≡ list_any p xs
  gathered xs = gathered_from false xs

  -- none passes
  pub passed_by_none : (xs : List X) (d : X) → list_any p xs ≡ false → (i : ℕ) → i < length xs → p (get_or xs i d) ≡ false
  passed_by_none xs d h i l = by_cases (p (get_or xs i d)) (λ e. let s = list_any_at p xs i d l e in cc) (λ e. e)

  -- one passes
  pub passed_by : (xs : List X) (d : X) → list_any p xs ≡ true → (i : ℕ) × (i < length xs) × (p (get_or xs i d) ≡ true)
  passed_by [] d h = absurd cc
  passed_by (x ∷ xs) d h = by_cases (p x) (λ e. (0, omega arith, e)) (λ e. let r = passed_by xs d (rw e at h) in (suc r.0, omega (arith, r.1), r.2))
