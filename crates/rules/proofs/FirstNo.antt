-- Laws of questions asked in turn: the first "no" gives the verdict.
-- Assumes nothing.
use mathlib.Core.Path.{◌≡◌, refl, sym, ap, ◌∙◌, subst}
use mathlib.Core.Logic.{◌↔◌, ◌⊎◌, inl, inr}
use mathlib.Core.Bool.{Bool, true, false, not, ◌&&◌}
use mathlib.Core.List.{List, [], ◌∷◌}
use Prim.Native.Nat.{ℕ, zero, suc, ◌≤◌}
use native.Mathlib.Omega.{arith}
use lib.Dec.{eqb}
use borrow.Author.Tests.{eq-eqb, ne_eqb, eqb-false, not-true}
use Rattle.rules.specs.Design.{Places, none}
use Rattle.rules.specs.Asking.{Verdict, Reply, pass, fail, Asked, first_no, without_places, at_places}
use Rattle.rules.specs.Demand2.{Condition, FirstBroken, AllHold, WithPlaces}
use Rattle.rules.proofs.Sheet.{and_left, and_right}

-- ---- replies

-- a reply that fails is none that passes
mark : Reply → ℕ
mark pass = 0
mark (fail p) = 1

pub pass_not_fail : {A : Type 0} (r : Reply) (p : Places) → r ≡ pass → r ≡ fail p → A
unfolding mark
pass_not_fail r p e f = let z : ◌≡◌ {A = ℕ} 0 1 = ap mark (sym e ∙ f) in absurd (omega arith)

pub data Replied (r : Reply) : Type 0 where
  passed : r ≡ pass → Replied r
  failed : (p : Places) → r ≡ fail p → Replied r

pub replied : (r : Reply) → Replied r
replied pass = passed refl
replied (fail p) = failed p refl

-- a plain reply passes exactly where its test does
pub plain_pass : (b : Bool) → without_places b ≡ pass ↔ b ≡ true
plain_pass true = (λ e. refl, λ e. refl)
plain_pass false = (λ e. pass_not_fail (fail none) none e refl, λ e. ap without_places e)

-- a reply with places passes exactly where the first place is 0
pub places_pass : (i j : ℕ) → at_places i j ≡ pass ↔ i ≡ 0
places_pass zero j = (λ e. refl, λ e. refl)
places_pass (suc i) j = (λ e. pass_not_fail _ (record { first = suc i; second = j }) e refl, λ e. ap (λ (x : ℕ). at_places x j) e)

-- and fails at the places found
pub places_fail : (i j : ℕ) (p : Places) → at_places i j ≡ fail p → (p ≡ record { first = i; second = j }) × (1 ≤ i)
places_fail zero j p e = pass_not_fail pass p refl e
places_fail (suc i) j p e = (sym (ap (found none) e), omega arith)
  where
    found : Places → Reply → Places
    found o pass = o
    found o (fail q) = q

-- ---- the first "no"

module _ (a : Asked) (rest : List Asked) where
  pub first_pass : a.reply ≡ pass → first_no (a ∷ rest) ≡ first_no rest
  unfolding first_no
  first_pass e = rw (e, first_no)

  pub first_fail : (p : Places) → a.reply ≡ fail p → first_no (a ∷ rest) ≡ record { refusal = a.number; places = p }
  unfolding first_no
  first_fail p e = rw (e, first_no)

-- no question of the list has the number b, so it is not the answer
unfoldable pub without : ℕ → List Asked → Bool
without b [] = true
without b (a ∷ rest) = not (eqb a.number b) && without b rest

pub never : (b : ℕ) (qs : List Asked) → without b qs ≡ true → (0 ≡ b → ⊥) → (first_no qs).refusal ≡ b → ⊥
unfolding without first_no
never b [] w z e = z e
never b (a ∷ rest) w z e = go (never b rest (and_right (not (eqb a.number b)) (without b rest) w) z) (replied a.reply)
  where
    here : a.number ≡ b → ⊥
    here = eqb-false a.number b (not-true (eqb a.number b) (and_left (not (eqb a.number b)) (without b rest) w))

    go : ((first_no rest).refusal ≡ b → ⊥) → Replied a.reply → ⊥
    go below (passed f) = below (sym (ap (λ (v : Verdict). v.refusal) (first_pass a rest f)) ∙ e)
    go below (failed p f) = here (sym (ap (λ (v : Verdict). v.refusal) (first_fail a rest p f)) ∙ e)

-- ---- the places

-- the reply to the first question that has the number q
unfoldable pub reply_to : ℕ → List Asked → Reply
reply_to q [] = pass
reply_to q (a ∷ rest) = elim (eqb a.number q) [ true ↦ a.reply | false ↦ reply_to q rest ]

-- no two questions have the same number
unfoldable pub apart : List Asked → Bool
unfolding without
apart [] = true
apart (a ∷ rest) = without a.number rest && apart rest

-- the places of a verdict are those of the question whose number it gives
pub verdict_places : (qs : List Asked) → apart qs ≡ true → (q : ℕ) → (0 ≡ q → ⊥) → (first_no qs).refusal ≡ q → reply_to q qs ≡ fail (first_no qs).places
unfolding apart reply_to first_no
verdict_places [] h q z e = absurd (z e)
verdict_places (a ∷ rest) h q z e = go (verdict_places rest (and_right (without a.number rest) (apart rest) h) q z) (replied a.reply)
  where
    here : a.number ≡ q → reply_to q (a ∷ rest) ≡ a.reply
    here f = rw (eq-eqb a.number q f, reply_to)

    later : (a.number ≡ q → ⊥) → reply_to q (a ∷ rest) ≡ reply_to q rest
    later f = rw (ne_eqb a.number q f, reply_to)

    go : ((first_no rest).refusal ≡ q → reply_to q rest ≡ fail (first_no rest).places) → Replied a.reply → reply_to q (a ∷ rest) ≡ fail (first_no (a ∷ rest)).places
    go below (passed f) =
        let r : (first_no rest).refusal ≡ q = sym (ap (λ (v : Verdict). v.refusal) (first_pass a rest f)) ∙ e in
        later (λ g. never q rest (subst (λ (x : ℕ). without x rest ≡ true) g (and_left (without a.number rest) (apart rest) h)) z r)
        ∙ below r ∙ ap (λ (v : Verdict). fail v.places) (sym (first_pass a rest f))
    go below (failed p f) =
        here (sym (ap (λ (v : Verdict). v.refusal) (first_fail a rest p f)) ∙ e)
        ∙ f ∙ ap (λ (v : Verdict). fail v.places) (sym (first_fail a rest p f))

-- the places of a plain reply are 0 and 0
pub plain_places : (b : Bool) (p : Places) → without_places b ≡ fail p → p ≡ none
plain_places true p e = pass_not_fail pass p refl e
plain_places false p e = sym (ap found e)
  where
    found : Reply → Places
    found pass = none
    found (fail q) = q

-- a question fails at 0 and 0, unless it is one of those
unfoldable pub PlainOr : List Asked → Type 0
PlainOr [] = Unit {0}
PlainOr (a ∷ rest) = (((p : Places) → a.reply ≡ fail p → p ≡ none) ⊎ WithPlaces a.number) × PlainOr rest

-- so all other refusals carry 0 and 0
pub other_places : (qs : List Asked) → PlainOr qs → (WithPlaces (first_no qs).refusal → ⊥) → (first_no qs).places ≡ none
unfolding PlainOr first_no
other_places [] h other = refl
other_places (a ∷ rest) h other = go (other_places rest h.1) (replied a.reply) h.0
  where
    go : ((WithPlaces (first_no rest).refusal → ⊥) → (first_no rest).places ≡ none) → Replied a.reply → ((p : Places) → a.reply ≡ fail p → p ≡ none) ⊎ WithPlaces a.number → (first_no (a ∷ rest)).places ≡ none
    go below (passed f) w =
        ap (λ (v : Verdict). v.places) (first_pass a rest f) ∙ below (λ x. other (subst (λ (v : Verdict). WithPlaces v.refusal) (sym (first_pass a rest f)) x))
    go below (failed p f) (inl g) = ap (λ (v : Verdict). v.places) (first_fail a rest p f) ∙ g p f
    go below (failed p f) (inr g) = absurd (other (subst (λ (v : Verdict). WithPlaces v.refusal) (sym (first_fail a rest p f)) g))

-- ---- conditions

-- a question with the number of a condition passes exactly where it holds
pub record Settles (a : Asked) (C : Condition) : Type 0 where
  pub same : a.number ≡ C.number
  pub to : a.reply ≡ pass → C.holds
  pub from : C.holds → a.reply ≡ pass

-- so the first "no" is the first condition broken, if the rest is so where it holds
pub settle : (a : Asked) (rest : List Asked) (C : Condition) (Cs : List Condition) → Settles a C → (C.holds → FirstBroken Cs (first_no rest).refusal) → FirstBroken (C ∷ Cs) (first_no (a ∷ rest)).refusal
unfolding FirstBroken
settle a rest C Cs s below = go (replied a.reply)
  where
    go : Replied a.reply → FirstBroken (C ∷ Cs) (first_no (a ∷ rest)).refusal
    go (passed f) = inl (s.to f, rw (first_pass a rest f) (below (s.to f)))
    go (failed p f) = inr (λ h. pass_not_fail a.reply p (s.from h) f, ap (λ (v : Verdict). v.refusal) (first_fail a rest p f) ∙ s.same)

-- each question settles its condition, where those before it hold
pub data AllSettle : List Asked → List Condition → Type 1 where
  none_left : AllSettle [] []
  and_then : {a : Asked} {rest : List Asked} {C : Condition} {Cs : List Condition} → Settles a C → (C.holds → AllSettle rest Cs) → AllSettle (a ∷ rest) (C ∷ Cs)

-- so the first "no" is the first condition broken
pub all_settled : {qs : List Asked} {Cs : List Condition} → AllSettle qs Cs → FirstBroken Cs (first_no qs).refusal
unfolding FirstBroken first_no
all_settled none_left = refl
all_settled (and_then {a} {rest} {C} {Cs} s f) = settle a rest C Cs s (λ h. all_settled (f h))

-- ---- the first condition broken

-- there is only one
pub broken_unique : (Cs : List Condition) (q r : ℕ) → FirstBroken Cs q → FirstBroken Cs r → q ≡ r
unfolding FirstBroken
broken_unique [] q r e f = e ∙ sym f
broken_unique (C ∷ Cs) q r (inl e) (inl f) = broken_unique Cs q r e.1 f.1
broken_unique (C ∷ Cs) q r (inl e) (inr f) = absurd (f.0 e.0)
broken_unique (C ∷ Cs) q r (inr e) (inl f) = absurd (e.0 f.0)
broken_unique (C ∷ Cs) q r (inr e) (inr f) = e.1 ∙ sym f.1

-- every condition has a number from 1
unfoldable pub NumberedFrom1 : List Condition → Type 0
NumberedFrom1 [] = Unit {0}
NumberedFrom1 (C ∷ Cs) = (1 ≤ C.number) × NumberedFrom1 Cs

-- none is broken exactly where all hold
pub broken_none : (Cs : List Condition) (q : ℕ) → NumberedFrom1 Cs → FirstBroken Cs q → q ≡ 0 ↔ AllHold Cs
unfolding FirstBroken AllHold NumberedFrom1
broken_none [] q h e = (λ z. tt, λ z. e)
broken_none (C ∷ Cs) q h (inl e) = (
  λ z. (e.0, (broken_none Cs q h.1 e.1).0 z),
  λ w. (broken_none Cs q h.1 e.1).1 w.1,
)
broken_none (C ∷ Cs) q h (inr e) = (
  λ z. let l : 1 ≤ C.number = h.0 in let f : q ≡ C.number = e.1 in absurd (omega (arith, l, f, z)),
  λ w. absurd (e.0 w.0),
)

-- no number of the list is above m, so the answer is not
unfoldable pub EachMost : ℕ → List Condition → Type 0
EachMost m [] = Unit {0}
EachMost m (C ∷ Cs) = (C.number ≤ m) × EachMost m Cs

pub number_most : (m : ℕ) (Cs : List Condition) → EachMost m Cs → (q : ℕ) → FirstBroken Cs q → q ≤ m
unfolding FirstBroken EachMost
number_most m [] h q e = omega arith
number_most m (C ∷ Cs) h q (inl e) = number_most m Cs h.1 q e.1
number_most m (C ∷ Cs) h q (inr e) = let l : C.number ≤ m = h.0 in let f : q ≡ C.number = e.1 in omega (arith, l, f)
