-- Laws of the degrees of freedom: in an ascending family each is the number of classes less those of all strictly coarser members.
-- Assumes nothing.
use mathlib.Core.Path.{◌≡◌, refl, sym, ap, ◌∙◌}
use mathlib.Core.Logic.{◌⊎◌, inl, inr}
use mathlib.Core.Bool.{Bool, true, false, not, ◌&&◌, ◌||◌}
use mathlib.Core.List.Memᴰ
use mathlib.Core.List.{List, [], ◌∷◌, ◌++◌}
use Prim.Native.Nat.{ℕ, zero, suc, ◌+◌, ◌≤◌, ◌<◌}
use native.Mathlib.Nat.{not-suc-le-zero, le_of_suc-le-suc, suc_inj, suc-ne-zero}
use native.Mathlib.Omega.{arith}
use lib.IntN.{ℤ, pos, ◌+ℤ◌, ◌-ℤ◌}
use lib.ListN.{length, get_or, length-append}
use lib.Seq.{append_snoc}
use borrow.Author.Tests.{eqb-true, eqb-false}
use Rattle.rules.specs.Factor.{Column, same, classes, every, finer, coarser}
use Rattle.rules.specs.Family.{Family, ◌∈◌, Ascending}
use Rattle.rules.specs.Degrees.{coarser_sum, remainder, remainders_after, remainders, class_number, degrees}
use Rattle.rules.proofs.Numbering.{by_cases}
use Rattle.rules.proofs.Members.{clash, before_classes, ascending_head, ascending_tail}
use Rattle.rules.proofs.Tests.{Fails, every_false}
use Rattle.rules.proofs.Classes.{finer_test, classes_lt}

and_parts : (a b : Bool) → a && b ≡ true → (a ≡ true) × (b ≡ true)
and_parts true b e = (refl, e)
and_parts false b e = clash e refl

or_parts : (a b : Bool) → not a || b ≡ false → (a ≡ true) × (b ≡ false)
or_parts true b e = (refl, e)
or_parts false b e = clash refl e

not_parts : (a : Bool) → not a ≡ true → a ≡ false
not_parts true e = clash refl (sym e)
not_parts false e = refl

-- a strictly coarser factor has fewer classes
pub coarser_fewer : (n : ℕ) (F G : Column) → length F ≡ n → length G ≡ n → coarser n F G ≡ true → classes G < classes F
unfolding coarser finer
coarser_fewer n F G l_f l_g e = classes_lt n F G l_f l_g ((finer_test n F G).0 parts.0) a.plot b.plot a.less b.less (eqb-true _ _ c.0) (eqb-false _ _ c.1)
  where
    parts : (finer n F G ≡ true) × (not (finer n G F) ≡ true)
    parts = and_parts (finer n F G) _ e

    a : Fails n (λ u. every n (λ v. not (same G u v) || same F u v))
    a = every_false n _ (not_parts (finer n G F) parts.1)

    b : Fails n (λ v. not (same G a.plot v) || same F a.plot v)
    b = every_false n _ a.fails

    c : (same G a.plot b.plot ≡ true) × (same F a.plot b.plot ≡ false)
    c = or_parts (same G a.plot b.plot) _ b.fails

-- ---- sums

module _ (n : ℕ) (F : Column) where
  pub sum_yes : (G : Column) (S : Family) (d : ℤ) (ds : List ℤ) → coarser n F G ≡ true → coarser_sum n F (G ∷ S) (d ∷ ds) ≡ d +ℤ coarser_sum n F S ds
  unfolding coarser_sum
  sum_yes G S d ds e = rw (e, coarser_sum)

  pub sum_no : (G : Column) (S : Family) (d : ℤ) (ds : List ℤ) → coarser n F G ≡ false → coarser_sum n F (G ∷ S) (d ∷ ds) ≡ coarser_sum n F S ds
  unfolding coarser_sum
  sum_no G S d ds e = rw (e, coarser_sum)

  sum_none : (S : Family) (ds : List ℤ) → ((G : Column) → G ∈ S → coarser n F G ≡ false) → coarser_sum n F S ds ≡ pos 0
  unfolding coarser_sum
  sum_none [] ds h = refl
  sum_none (G ∷ S) [] h = refl
  sum_none (G ∷ S) (d ∷ ds) h = sum_no G S d ds (h G (Memᴰ.head refl)) ∙ sum_none S ds (λ H m. h H (Memᴰ.tail m))

  sum_before : (S R : Family) (ds es : List ℤ) → length S ≡ length ds → ((G : Column) → G ∈ R → coarser n F G ≡ false) → coarser_sum n F (S ++ R) (ds ++ es) ≡ coarser_sum n F S ds
  unfolding coarser_sum
  sum_before [] R [] es l h = sum_none R es h
  sum_before [] R (d ∷ ds) es l h = absurd (suc-ne-zero _ (sym l))
  sum_before (G ∷ S) R [] es l h = absurd (suc-ne-zero _ l)
  sum_before (G ∷ S) R (d ∷ ds) es l h =
      by_cases (coarser n F G)
      (λ e. sum_yes G (S ++ R) d (ds ++ es) e ∙ ap (λ (z : ℤ). d +ℤ z) (sum_before S R ds es (suc_inj l) h) ∙ sym (sum_yes G S d ds e))
      (λ e. sum_no G (S ++ R) d (ds ++ es) e ∙ sum_before S R ds es (suc_inj l) h ∙ sym (sum_no G S d ds e))

-- ---- the equation

module _ (own : Column → ℤ) (n : ℕ) where
  -- neither the first member nor one that follows is strictly coarser than the first
  none_follows : (F : Column) (S : Family) → Ascending (F ∷ S) → ((G : Column) → G ∈ F ∷ S → length G ≡ n) → (G : Column) → G ∈ F ∷ S → coarser n F G ≡ false
  none_follows F S a on G m =
      by_cases (coarser n F G)
      (λ e. absurd (go (coarser_fewer n F G (on F (Memᴰ.head refl)) (on G m) e) (Memᴰ.cases_cons m)))
      (λ e. e)
    where
      go : classes G < classes F → (G ≡ F) ⊎ (G ∈ S) → ⊥
      go h (inl e) = let q : classes G ≡ classes F = ap classes e in omega arith
      go h (inr k) = let q : classes F ≤ classes G = before_classes F G (ascending_head a G k) in omega arith

  equation : (S done : Family) (ds : List ℤ) → length done ≡ length ds → Ascending S → ((G : Column) → G ∈ S → length G ≡ n) → (i : ℕ) → i < length S
      → get_or (remainders_after own n done ds S) i (pos 0) ≡ remainder own n (get_or S i []) (done ++ S) (ds ++ remainders_after own n done ds S)
  unfolding remainders_after remainder
  equation [] done ds l a on i h = absurd (not-suc-le-zero h)
  equation (F ∷ S) done ds l a on zero h =
      ap (λ (z : ℤ). own F -ℤ z) (sym (sum_before n F done (F ∷ S) ds (remainders_after own n done ds (F ∷ S)) l (none_follows F S a on)))
  equation (F ∷ S) done ds l a on (suc i) h =
      rw (append_snoc done F S, append_snoc ds (remainder own n F done ds) (remainders_after own n (done ++ F ∷ []) (ds ++ remainder own n F done ds ∷ []) S)) at
      (equation S (done ++ F ∷ []) (ds ++ remainder own n F done ds ∷ []) (length-append done (F ∷ []) ∙ ap (λ (x : ℕ). x + 1) l ∙ sym (length-append ds _)) (ascending_tail a) (λ G m. on G (Memᴰ.tail m)) i (le_of_suc-le-suc h))

  -- each number is the member's own less those of all strictly coarser members of the family
  pub remainders_equation : (S : Family) → Ascending S → ((G : Column) → G ∈ S → length G ≡ n) → (i : ℕ) → i < length S
      → get_or (remainders own n S) i (pos 0) ≡ remainder own n (get_or S i []) S (remainders own n S)
  unfolding remainders
  remainders_equation S a on i h = equation S [] [] refl a on i h

-- "its number of classes less those of all strictly coarser members of its family"
pub degrees_equation : (n : ℕ) (S : Family) → Ascending S → ((G : Column) → G ∈ S → length G ≡ n) → (i : ℕ) → i < length S
    → get_or (degrees n S) i (pos 0) ≡ pos (classes (get_or S i [])) -ℤ coarser_sum n (get_or S i []) S (degrees n S)
unfolding degrees remainder
degrees_equation n S a on i h = remainders_equation class_number n S a on i h
