-- Laws of questions 8 to 10 of a plot family: what the first failing places tell.
-- Assumes nothing.
use mathlib.Core.Path.{◌≡◌, refl, sym, ap, ◌∙◌}
use mathlib.Core.Logic.{◌↔◌, ◌⊎◌, inl, inr}
use mathlib.Core.Bool.{Bool, true, false}
use mathlib.Core.List.Memᴰ
use mathlib.Core.List.{[], ◌∷◌}
use Prim.Native.Nat.{ℕ, zero, suc}
use native.Mathlib.Nat.{suc-ne-zero}
use lib.ListN.{length}
use Rattle.rules.specs.Factor.{Column, Orthogonal, uniform, orthogonal}
use Rattle.rules.specs.Family.{Family, ◌∈◌}
use Rattle.rules.specs.Design.{first_failing, first_pair, pair_at, Places, none, question10, question9, question8}
use Rattle.rules.specs.Closing.{family}
use Rattle.rules.proofs.Numbering.{by_cases}
use Rattle.rules.proofs.Tests.{orthogonal_test, orthogonal_sym, orthogonal_self}

module _ (p : Column → Bool) where
  failing_yes : (i : ℕ) (F : Column) (S : Family) → p F ≡ true → first_failing p i (F ∷ S) ≡ first_failing p (suc i) S
  unfolding first_failing
  failing_yes i F S e = rw (e, first_failing)

  failing_no : (i : ℕ) (F : Column) (S : Family) → p F ≡ false → first_failing p i (F ∷ S) ≡ i
  unfolding first_failing
  failing_no i F S e = rw (e, first_failing)

  -- no place: all pass
  pub failing_none : (i : ℕ) (S : Family) → first_failing p (suc i) S ≡ 0 → (F : Column) → F ∈ S → p F ≡ true
  failing_none i [] e F m = absurd (Memᴰ.not-nil m)
  failing_none i (G ∷ S) e F m =
      by_cases (p G)
      (λ f. go f (failing_none (suc i) S (sym (failing_yes (suc i) G S f) ∙ e) F) (Memᴰ.cases_cons m))
      (λ f. absurd (suc-ne-zero i (sym (failing_no (suc i) G S f) ∙ e)))
    where
      go : p G ≡ true → (F ∈ S → p F ≡ true) → (F ≡ G) ⊎ (F ∈ S) → p F ≡ true
      go f below (inl q) = rw q f
      go f below (inr m') = below m'

  pub failing_pass : (i : ℕ) (S : Family) → ((F : Column) → F ∈ S → p F ≡ true) → first_failing p i S ≡ 0
  unfolding first_failing
  failing_pass i [] h = refl
  failing_pass i (G ∷ S) h = failing_yes i G S (h G (Memᴰ.head refl)) ∙ failing_pass (suc i) S (λ F m. h F (Memᴰ.tail m))

module _ (p : Column → Column → Bool) where
  -- each member passes with each that follows it
  pub data Pairwise : Family → Type 0 where
    nil : Pairwise []
    cons : {F : Column} {S : Family} → ((G : Column) → G ∈ S → p F G ≡ true) → Pairwise S → Pairwise (F ∷ S)

  pair_none : (i : ℕ) (j : ℕ) (rest : Places) → (pair_at (suc i) j rest).first ≡ 0 → (j ≡ 0) × (rest.first ≡ 0)
  unfolding pair_at
  pair_none i zero rest e = (refl, e)
  pair_none i (suc j) rest e = absurd (suc-ne-zero i e)

  pub pairs_none : (i : ℕ) (S : Family) → (first_pair p (suc i) S).first ≡ 0 → Pairwise S
  unfolding first_pair
  pairs_none i [] e = nil
  pairs_none i (F ∷ S) e =
      cons (failing_none (p F) (suc i) S both.0) (pairs_none (suc i) S both.1)
    where
      both : (first_failing (p F) (suc (suc i)) S ≡ 0) × ((first_pair p (suc (suc i)) S).first ≡ 0)
      both = pair_none i (first_failing (p F) (suc (suc i)) S) (first_pair p (suc (suc i)) S) e

  pub pairs_pass : (i : ℕ) (S : Family) → ((F G : Column) → F ∈ S → G ∈ S → p F G ≡ true) → first_pair p i S ≡ none
  unfolding first_pair pair_at
  pairs_pass i [] h = refl
  pairs_pass i (F ∷ S) h =
      ap (λ (j : ℕ). pair_at i j (first_pair p (suc i) S)) (failing_pass (p F) (suc i) S (λ G m. h F G (Memᴰ.head refl) (Memᴰ.tail m)))
      ∙ pairs_pass (suc i) S (λ G H m k. h G H (Memᴰ.tail m) (Memᴰ.tail k))

  -- two members: one, or a pair in one order or the other
  pub pairwise_cases : {S : Family} → Pairwise S → (F G : Column) → F ∈ S → G ∈ S → (F ≡ G) ⊎ ((p F G ≡ true) ⊎ (p G F ≡ true))
  pairwise_cases nil F G m k = absurd (Memᴰ.not-nil m)
  pairwise_cases (cons {F = H} {S} h w) F G m k = go (pairwise_cases w F G) (Memᴰ.cases_cons m) (Memᴰ.cases_cons k)
    where
      go : (F ∈ S → G ∈ S → (F ≡ G) ⊎ ((p F G ≡ true) ⊎ (p G F ≡ true))) → (F ≡ H) ⊎ (F ∈ S) → (G ≡ H) ⊎ (G ∈ S) → (F ≡ G) ⊎ ((p F G ≡ true) ⊎ (p G F ≡ true))
      go below (inl e) (inl f) = inl (e ∙ sym f)
      go below (inl e) (inr k') = inr (inl (rw e (h G k')))
      go below (inr m') (inl f) = inr (inr (rw f (h F m')))
      go below (inr m') (inr k') = below m' k'

-- ---- questions 9 and 10 of a family

pub verdict_members : (n : ℕ) (S : Family) → (question8 n (family S)).plot ≡ S
unfolding question8 question9 question10
verdict_members n S = go (first_failing (uniform n) 1 S)
  where
    ten : (p : Places) → (i : ℕ) → p.first ≡ i → (question10 S p).plot ≡ S
    ten p zero e = rw (e, question10)
    ten p (suc i) e = rw (e, question10)

    go : (i : ℕ) → (question9 n S i).plot ≡ S
    go zero = ten (first_pair (orthogonal n) 1 S) _ refl
    go (suc i) = refl

-- an accepted family passed both tests
pub verdict_accepts : (n : ℕ) (S : Family) → (question8 n (family S)).refusal ≡ 0 → (first_failing (uniform n) 1 S ≡ 0) × ((first_pair (orthogonal n) 1 S).first ≡ 0)
unfolding question8 question9 question10
verdict_accepts n S e = nine (first_failing (uniform n) 1 S) refl e
  where
    ten : (p : Places) (i : ℕ) → p.first ≡ i → (question10 S p).refusal ≡ 0 → p.first ≡ 0
    ten p zero q r = q
    ten p (suc i) q r = absurd (suc-ne-zero 9 (rw (q, question10) at r))

    nine : (i : ℕ) → first_failing (uniform n) 1 S ≡ i → (question9 n S i).refusal ≡ 0 → (first_failing (uniform n) 1 S ≡ 0) × ((first_pair (orthogonal n) 1 S).first ≡ 0)
    nine zero q r = (q, ten (first_pair (orthogonal n) 1 S) _ refl r)
    nine (suc i) q r = absurd (suc-ne-zero 8 r)

pub verdict_passes : (n : ℕ) (S : Family) → first_failing (uniform n) 1 S ≡ 0 → first_pair (orthogonal n) 1 S ≡ none → (question8 n (family S)).refusal ≡ 0
unfolding question8 question9 question10
verdict_passes n S e f = ap (λ (i : ℕ). (question9 n S i).refusal) e ∙ ap (λ (p : Places). (question10 S p).refusal) f

-- a family is accepted, or refused by 9 or 10
pub verdict_number : (n : ℕ) (S : Family) → ((question8 n (family S)).refusal ≡ 0) ⊎ (((question8 n (family S)).refusal ≡ 9) ⊎ ((question8 n (family S)).refusal ≡ 10))
unfolding question8 question9 question10
verdict_number n S = nine (first_failing (uniform n) 1 S)
  where
    ten : (p : Places) (i : ℕ) → p.first ≡ i → ((question10 S p).refusal ≡ 0) ⊎ (((question10 S p).refusal ≡ 9) ⊎ ((question10 S p).refusal ≡ 10))
    ten p zero q = inl (rw (q, question10))
    ten p (suc i) q = inr (inr (rw (q, question10)))

    nine : (i : ℕ) → ((question9 n S i).refusal ≡ 0) ⊎ (((question9 n S i).refusal ≡ 9) ⊎ ((question9 n S i).refusal ≡ 10))
    nine zero = ten (first_pair (orthogonal n) 1 S) _ refl
    nine (suc i) = inr (inl refl)

-- ---- orthogonality

-- every two members of a family on n plots are orthogonal exactly where no pair fails
pub pairs_orthogonal : (n : ℕ) (R : Family) → ((F : Column) → F ∈ R → length F ≡ n) → (first_pair (orthogonal n) 1 R).first ≡ 0 ↔ ((F G : Column) → F ∈ R → G ∈ R → Orthogonal n F G)
pairs_orthogonal n R on = (
  λ e F G m k. two F G m k (pairwise_cases (orthogonal n) (pairs_none (orthogonal n) 0 R e) F G m k),
  λ h. ap (λ (p : Places). p.first) (pairs_pass (orthogonal n) 1 R (λ F G m k. (orthogonal_test n F G).1 (h F G m k))),
)
  where
    two : (F G : Column) → F ∈ R → G ∈ R → (F ≡ G) ⊎ ((orthogonal n F G ≡ true) ⊎ (orthogonal n G F ≡ true)) → Orthogonal n F G
    two F G m k (inl q) = rw q (orthogonal_self n G (on G k))
    two F G m k (inr (inl q)) = (orthogonal_test n F G).0 q
    two F G m k (inr (inr q)) = orthogonal_sym n G F (on G k) (on F m) ((orthogonal_test n G F).0 q)
