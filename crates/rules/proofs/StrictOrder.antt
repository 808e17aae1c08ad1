-- Laws of the relation in a family that question 15 accepts: it is a strict order that lies below the diagonal.
-- Assumes nothing.
use mathlib.Core.Path.{◌≡◌, refl, sym, ◌∙◌}
use mathlib.Core.Bool.{Bool, true, false, not, ◌&&◌, ◌||◌}
use mathlib.Core.List.{[]}
use Prim.Native.Nat.{ℕ, ◌≤◌, ◌<◌, ◌^◌}
use native.Mathlib.Nat.{lt_irrefl}
use native.Mathlib.Omega.{arith}
use lib.Dec.{eqb, ltb}
use lib.ListN.{length, get_or}
use borrow.Author.Tests.{eqb-true, eqb-false, ltb-true, ltb-false}
use Rattle.rules.specs.Factor.{Column, classes, finer, coarser}
use Rattle.rules.specs.Family.{Family}
use Rattle.rules.specs.Relation.{member_at, coarser_at, coarser_words}
use Rattle.rules.specs.Lists.{word_of}
use Rattle.rules.proofs.Numbering.{by_cases}
use Rattle.rules.proofs.Members.{clash, before_self, before_classes}
use Rattle.rules.proofs.Classes.{finer_test}
use Rattle.rules.proofs.Bounds.{finer_refl, finer_trans, numbered_equal}
use Rattle.rules.proofs.Degrees.{coarser_fewer}
use Rattle.rules.proofs.Sheet.{and_left}
use Rattle.rules.proofs.Lists.{get_d_tabulate}
use Rattle.rules.proofs.Words.{word_lt}
use Rattle.rules.proofs.Bits.{word_more}
use Rattle.rules.proofs.WellFormed.{Accepted, numbered_at, ascending_at}

-- what a strictly coarser factor is
and_true : (a b : Bool) → a ≡ true → b ≡ false → a && not b ≡ true
and_true a b e f = rw (e, f)

not_right : (a b : Bool) → a && not b ≡ true → b ≡ false
not_right true true e = clash refl (sym e)
not_right true false e = refl
not_right false b e = clash e refl

-- ---- any factors

module _ (n : ℕ) where
  -- nothing is strictly coarser than itself
  pub coarser_irreflexive : (F : Column) → coarser n F F ≡ false
  unfolding coarser
  coarser_irreflexive F = rw ((finer_test n F F).1 (finer_refl n F))

  pub coarser_finer : (F G : Column) → coarser n F G ≡ true → finer n F G ≡ true
  unfolding coarser
  coarser_finer F G e = and_left (finer n F G) _ e

  -- what is strictly coarser than a strictly coarser factor is strictly coarser
  pub coarser_transitive : (F G H : Column) → coarser n F G ≡ true → coarser n G H ≡ true → coarser n F H ≡ true
  unfolding coarser
  coarser_transitive F G H e f =
      by_cases (finer n H F)
      (λ b. clash ((finer_test n H G).1 (finer_trans n H F G ((finer_test n H F).0 b) ((finer_test n F G).0 (and_left (finer n F G) _ e)))) (not_right (finer n G H) (finer n H G) f))
      (λ b. and_true (finer n F H) (finer n H F) ((finer_test n F H).1 (finer_trans n F G H ((finer_test n F G).0 (and_left (finer n F G) _ e)) ((finer_test n G H).0 (and_left (finer n G H) _ f)))) b)

-- ---- members of a family that question 15 accepts

module _ (n : ℕ) (S : Family) (is : Accepted S) (on : (i : ℕ) → i < length S → length (get_or S i []) ≡ n) where
  -- members that are finer than each other are one member
  pub finer_equal_places : (i j : ℕ) → i < length S → j < length S → finer n (member_at S i) (member_at S j) ≡ true → finer n (member_at S j) (member_at S i) ≡ true → i ≡ j
  finer_equal_places i j hi hj e f =
      by_cases (ltb i j)
      (λ l. absurd (apart i j (ltb-true i j l) hj same))
      (λ l. by_cases (ltb j i) (λ m. absurd (apart j i (ltb-true j i m) hi (sym same))) (λ m. let p : j ≤ i = ltb-false i j l in let q : i ≤ j = ltb-false j i m in omega arith))
    where
      same : get_or S i [] ≡ get_or S j []
      same =
          sym (numbered_at S is.numbered i hi)
          ∙ numbered_equal n (get_or S i []) (get_or S j []) (on i hi) (on j hj) (record { to = (finer_test n (get_or S i []) (get_or S j [])).0 e; from = (finer_test n (get_or S j []) (get_or S i [])).0 f })
          ∙ numbered_at S is.numbered j hj

      apart : (a b : ℕ) → a < b → b < length S → get_or S a [] ≡ get_or S b [] → ⊥
      apart a b l h q = clash (ascending_at S is.ascending a b l h) (rw q (before_self (get_or S b [])))

  -- a member that stands later is not coarser
  pub later_not_coarser : (i j : ℕ) → i ≤ j → j < length S → coarser_at n S i j ≡ false
  unfolding coarser_at
  later_not_coarser i j l h =
      by_cases (ltb i j)
      (λ b. by_cases (coarser n (member_at S i) (member_at S j))
      (λ e. let p : classes (get_or S i []) ≤ classes (get_or S j []) = before_classes (get_or S i []) (get_or S j []) (ascending_at S is.ascending i j (ltb-true i j b) h) in
      let q : classes (get_or S j []) < classes (get_or S i []) = coarser_fewer n (get_or S i []) (get_or S j []) (on i (omega arith)) (on j h) e in
      absurd (omega arith))
      (λ e. e))
      (λ b. let p : j ≤ i = ltb-false i j b in let q : i ≡ j = omega arith in rw q (coarser_irreflexive n (member_at S j)))

  -- the relation lies below the diagonal
  pub coarser_below : (i j : ℕ) → j < length S → coarser_at n S i j ≡ true → j < i
  coarser_below i j h e = by_cases (ltb j i) (λ b. ltb-true j i b) (λ b. clash e (later_not_coarser i j (ltb-false j i b) h))

  -- so a member's word has bits of earlier members only
  pub word_below : (i : ℕ) → i < length S → get_or (coarser_words n S) i 0 < 2 ^ i
  unfolding coarser_words
  word_below i h =
      let e : word_of (coarser_at n S i) i ≡ word_of (coarser_at n S i) (length S) = word_more (coarser_at n S i) i (length S) (omega arith) (λ j l k. later_not_coarser i j l k) in
      rw (get_d_tabulate (λ k. word_of (coarser_at n S k) (length S)) (length S) i 0 h, ← e) (word_lt (coarser_at n S i) i)

  -- a member that stands earlier is coarser exactly when the later one is finer
  pub earlier_coarser : (i j : ℕ) → j < i → i < length S → coarser_at n S i j ≡ finer n (member_at S i) (member_at S j)
  unfolding coarser_at coarser
  earlier_coarser i j l h =
      by_cases (finer n (member_at S i) (member_at S j))
      (λ e. by_cases (finer n (member_at S j) (member_at S i))
      (λ f. absurd (lt_irrefl i (let q : i ≡ j = finer_equal_places i j h (omega arith) e f in omega arith)))
      (λ f. rw (e, f)))
      (λ e. rw e)

  -- a member is finer than or equivalent to itself and to the strictly coarser ones
  pub finer_places : (i j : ℕ) → i < length S → j < length S → finer n (member_at S i) (member_at S j) ≡ eqb i j || coarser_at n S i j
  unfolding coarser_at coarser
  finer_places i j hi hj =
      by_cases (eqb i j)
      (λ e. rw (e, eqb-true i j e) ((finer_test n (member_at S j) (member_at S j)).1 (finer_refl n (member_at S j))))
      (λ e. by_cases (finer n (member_at S i) (member_at S j))
      (λ f. by_cases (finer n (member_at S j) (member_at S i)) (λ g. absurd (eqb-false i j e (finer_equal_places i j hi hj f g))) (λ g. rw (e, f, g)))
      (λ f. rw (e, f)))

  -- a strict order
  pub places_irreflexive : (i : ℕ) → coarser_at n S i i ≡ false
  unfolding coarser_at
  places_irreflexive i = coarser_irreflexive n (member_at S i)

  pub places_transitive : (i j k : ℕ) → coarser_at n S i j ≡ true → coarser_at n S j k ≡ true → coarser_at n S i k ≡ true
  unfolding coarser_at
  places_transitive i j k e f = coarser_transitive n (member_at S i) (member_at S j) (member_at S k) e f
