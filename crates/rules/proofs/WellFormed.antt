-- Laws of question 15: what it tells of a family, and how it is asked member by member.
-- Assumes nothing.
use mathlib.Core.Path.{◌≡◌, refl, sym, ap, ◌∙◌}
use mathlib.Core.Bool.{Bool, true, false, ◌&&◌}
use mathlib.Core.List.Memᴰ
use mathlib.Core.List.{[], ◌∷◌}
use Prim.Native.Nat.{ℕ, zero, suc, ◌≤◌, ◌<◌}
use native.Mathlib.Nat.{not-suc-le-zero, le_of_suc-le-suc}
use native.Mathlib.Omega.{arith}
use lib.Dec.{ltb, leb}
use lib.ListN.{length, drop, get_or, drop_of_length-le}
use lib.Seq.{drop-cons}
use borrow.Author.Tests.{ltb-true, leb-true}
use Rattle.rules.specs.Factor.{Column, number}
use Rattle.rules.specs.Family.{Family, ◌∈◌, Ascending, alike, before, ordered, all_numbered, well_formed}
use Rattle.rules.proofs.Numbering.{by_cases}
use Rattle.rules.proofs.Members.{clash, alike_sound, ascending_head, ascending_tail, ordered_ascending}

-- the member at a place is a member
pub member_at_lem : (S : Family) (i : ℕ) → i < length S → get_or S i [] ∈ S
member_at_lem [] i h = absurd (not-suc-le-zero h)
member_at_lem (F ∷ S) zero h = Memᴰ.head refl
member_at_lem (F ∷ S) (suc i) h = Memᴰ.tail (member_at_lem S i (le_of_suc-le-suc h))

-- ---- numbering, member by member

module _ (F : Column) (S : Family) where
  numbered_yes : alike (number F) F ≡ true → all_numbered (F ∷ S) ≡ all_numbered S
  unfolding all_numbered
  numbered_yes e = rw (e, all_numbered)

  numbered_no : alike (number F) F ≡ false → all_numbered (F ∷ S) ≡ false
  unfolding all_numbered
  numbered_no e = rw (e, all_numbered)

module _ (S : Family) (i : ℕ) (h : i < length S) where
  -- the member at i is numbered: the rest decides
  pub numbered_on : alike (number (get_or S i [])) (get_or S i []) ≡ true → all_numbered (drop i S) ≡ all_numbered (drop (suc i) S)
  numbered_on e = ap all_numbered (drop-cons S i [] h) ∙ numbered_yes (get_or S i []) (drop (suc i) S) e

  pub numbered_here : alike (number (get_or S i [])) (get_or S i []) ≡ false → all_numbered (drop i S) ≡ false
  numbered_here e = ap all_numbered (drop-cons S i [] h) ∙ numbered_no (get_or S i []) (drop (suc i) S) e

pub numbered_end : (S : Family) (i : ℕ) → length S ≤ i → all_numbered (drop i S) ≡ true
unfolding all_numbered
numbered_end S i h = ap all_numbered (drop_of_length-le S h)

-- each member is its own numbering
pub numbered_at : (S : Family) → all_numbered S ≡ true → (i : ℕ) → i < length S → number (get_or S i []) ≡ get_or S i []
numbered_at [] e i h = absurd (not-suc-le-zero h)
numbered_at (F ∷ S) e zero h = by_cases (alike (number F) F) (λ f. alike_sound (number F) F f) (λ f. clash e (numbered_no F S f))
numbered_at (F ∷ S) e (suc i) h = by_cases (alike (number F) F) (λ f. numbered_at S (sym (numbered_yes F S f) ∙ e) i (le_of_suc-le-suc h)) (λ f. clash e (numbered_no F S f))

-- ---- order, member by member

module _ (F G : Column) (S : Family) where
  ordered_yes : before F G ≡ true → ordered (F ∷ G ∷ S) ≡ ordered (G ∷ S)
  unfolding ordered
  ordered_yes e = rw (e, ordered)

  ordered_no : before F G ≡ false → ordered (F ∷ G ∷ S) ≡ false
  unfolding ordered
  ordered_no e = rw (e, ordered)

module _ (S : Family) (i : ℕ) (h : suc i < length S) where
  two : drop i S ≡ get_or S i [] ∷ get_or S (suc i) [] ∷ drop (suc (suc i)) S
  two = drop-cons S i [] (omega arith) ∙ ap (λ (l : Family). get_or S i [] ∷ l) (drop-cons S (suc i) [] h)

  -- the member at i stands before the next: the rest decides
  pub ordered_on : before (get_or S i []) (get_or S (suc i) []) ≡ true → ordered (drop i S) ≡ ordered (drop (suc i) S)
  ordered_on e = ap ordered two ∙ ordered_yes (get_or S i []) (get_or S (suc i) []) (drop (suc (suc i)) S) e ∙ sym (ap ordered (drop-cons S (suc i) [] h))

  pub ordered_here : before (get_or S i []) (get_or S (suc i) []) ≡ false → ordered (drop i S) ≡ false
  ordered_here e = ap ordered two ∙ ordered_no (get_or S i []) (get_or S (suc i) []) (drop (suc (suc i)) S) e

pub ordered_last : (S : Family) (i : ℕ) → suc i ≡ length S → ordered (drop i S) ≡ true
unfolding ordered
ordered_last S i h =
    ap ordered (drop-cons S i [] (omega arith) ∙ ap (λ (l : Family). get_or S i [] ∷ l) (drop_of_length-le S (end)))
  where
    end : length S ≤ suc i
    end = omega arith

-- of two members the one at the smaller place stands before
pub ascending_at : (S : Family) → Ascending S → (i j : ℕ) → i < j → j < length S → before (get_or S i []) (get_or S j []) ≡ true
ascending_at [] a i j h l = absurd (not-suc-le-zero l)
ascending_at (F ∷ S) a i zero h l = absurd (not-suc-le-zero h)
ascending_at (F ∷ S) a zero (suc j) h l = ascending_head a (get_or S j []) (member_at_lem S j (le_of_suc-le-suc l))
ascending_at (F ∷ S) a (suc i) (suc j) h l = ascending_at S (ascending_tail a) i j (le_of_suc-le-suc h) (le_of_suc-le-suc l)

-- ---- what question 15 tells

pub record Accepted (S : Family) : Type 0 where
  pub some : 0 < length S
  pub few : length S ≤ 32
  pub numbered : all_numbered S ≡ true
  pub ascending : Ascending S

left : (a b : Bool) → a && b ≡ true → a ≡ true
left true b e = refl
left false b e = e

right : (a b : Bool) → a && b ≡ true → b ≡ true
right true b e = e
right false b e = clash e refl

pub accepted : (S : Family) → well_formed S ≡ true → Accepted S
unfolding well_formed
accepted S e =
    let three = left (ltb 0 (length S) && leb (length S) 32 && all_numbered S) (ordered S) e in
    let two = left (ltb 0 (length S) && leb (length S) 32) (all_numbered S) three in
    record {
      some = ltb-true 0 (length S) (left (ltb 0 (length S)) (leb (length S) 32) two);
      few = leb-true (length S) 32 (right (ltb 0 (length S)) (leb (length S) 32) two);
      numbered = right (ltb 0 (length S) && leb (length S) 32) (all_numbered S) three;
      ascending = ordered_ascending S (right (ltb 0 (length S) && leb (length S) 32 && all_numbered S) (ordered S) e);
    }
