-- Laws of a store of members: the search for a column, and a column placed after the last member.
-- Assumes nothing.
use Rattle.std.specs.Prelude.{Option, None, Some, MatchOption}
use mathlib.Core.Path.{◌≡◌, refl, sym, ap, ◌∙◌, subst}
use mathlib.Core.Bool.{Bool, true, false}
use mathlib.Core.List.{List, [], ◌∷◌, ◌++◌}
use Prim.Native.Nat.{ℕ, zero, suc, ◌+◌, ◌*◌, ◌≤◌, ◌<◌, zero-le, suc-le-suc}
use native.Mathlib.Nat.{lt_irrefl, not-suc-le-zero, le_of_suc-le-suc}
use native.Mathlib.Omega.{arith}
use lib.Dec.{ltb}
use lib.ListN.{length, get_or, set, length-set, get_or-append}
use lib.Seq.{paste, take-length, get_or-set_same, get_or-set_other, get_or_at}
use borrow.Author.Tests.{eq-eqb, ne_eqb, ltb-true, ltb-false}
use Rattle.rules.specs.Factor.{Column, classes, index_of}
use Rattle.rules.specs.Family.{Family, ◌∈◌, alike, members_of}
use Rattle.rules.specs.Relation.{member_at}
use Rattle.rules.proofs.Numbering.{by_cases, place_yes, place_no}
use Rattle.rules.proofs.Members.{alike_sound, alike_self}
use Rattle.rules.proofs.WorkList.{place_of}
use Rattle.rules.proofs.Buffer.{put, length_put, length_members, member_is, members_add}
use Rattle.design.specs.State.{column_at, Held, PlacedMember, old, new, NoRoom, grown_to, FirstAt}

-- ---- the search for a column

-- columns with different numbers of classes are not alike
pub unlike_counts : (G F : Column) → (classes G ≡ classes F → ⊥) → alike G F ≡ false
unlike_counts G F n = by_cases (alike G F) (λ e. absurd (n (ap classes (alike_sound G F e)))) (λ e. e)

-- a column that stands at no place is no member
pub absent_lem : (S : Family) (F : Column) → ((k : ℕ) → k < length S → member_at S k ≡ F → ⊥) → F ∈ S → ⊥
absent_lem S F h m = let p = place_of S F m in h p.place p.less p.is

-- a column that stands at place i, and at none before it, is found there
pub first_at : (S : Family) (F : Column) (i : ℕ) → i < length S → member_at S i ≡ F → ((k : ℕ) → k < i → member_at S k ≡ F → ⊥) → i ≡ index_of alike S F
first_at [] F i l e h = absurd (not-suc-le-zero l)
first_at (G ∷ S) F zero l e h = sym (place_yes alike alike_sound alike_self G S F (rw e (alike_self F)))
first_at (G ∷ S) F (suc i) l e h =
    let other : alike G F ≡ false = by_cases (alike G F) (λ t. absurd (h 0 (suc-le-suc zero-le) (alike_sound G F t))) (λ f. f) in
    ap suc (first_at S F i (le_of_suc-le-suc l) e (λ k m. h (suc k) (suc-le-suc m))) ∙ sym (place_no alike alike_sound alike_self G S F other)

-- what is found first is found
pub found_first : (S : Family) (size : ℕ) (F : Column) (r : Option ℕ) → FirstAt S size F r → MatchOption r (F ∈ S → ⊥) (λ i. (i < size) × (member_at S i ≡ F))
found_first S size F None f = f
found_first S size F (Some i) q = (q.0, q.1)

-- ---- a column after the last member

-- pasting a whole column is putting it
paste_put : (n : ℕ) (small : n ≤ 240) (store : List ℕ) (i : ℕ) (F : Column) → length F ≡ n → paste store (240 * i) F (length F) ≡ put n small store i F
paste_put n small store i F l = rw (take-length F)

module _ (n : ℕ) (store counts : List ℕ) (size : ℕ) (h : Held n store counts size) (F : Column) (l : length F ≡ n) where
  abbrev S : Family
  S = members_of n store size

  ends : length S ≡ size
  ends = length_members n h.most store size

  module _ (less : size < 32) where
    counts_fit : size < length counts
    counts_fit = rw h.places less

    abbrev more : List ℕ
    more = put n h.most store size F

    fits : 240 * size + 240 ≤ length store
    fits = rw h.room (omega arith)

    longer : members_of n more (suc size) ≡ S ++ F ∷ []
    longer = members_add n h.most store size F l fits

    column_more : (i : ℕ) → i < suc size → column_at n more i ≡ get_or (S ++ F ∷ []) i []
    column_more i k = sym (member_is n h.most more (suc size) i k) ∙ ap (λ (T : Family). get_or T i []) longer

    counted_more : (i : ℕ) → i < suc size → (b : Bool) → ltb i size ≡ b → get_or (set counts size (classes F)) i 0 ≡ classes (column_at n more i)
    counted_more i k true e =
        let q : i < size = ltb-true i size e in
        get_or-set_other counts size i (classes F) 0 (λ p. lt_irrefl size (rw p at q))
        ∙ h.counted i q
        ∙ ap classes (sym (column_more i k ∙ get_or-append S (F ∷ []) [] i (rw ends q) ∙ member_is n h.most store size i q))
    counted_more i k false e =
        let q : i ≡ size = omega (arith, ltb-false i size e) in
        rw q (get_or-set_same counts size (classes F) 0 counts_fit ∙ ap classes (sym (column_more size (omega arith) ∙ get_or_at S F [] [] size ends)))

    -- the store with the column after its last member
    held_more : Held n more (set counts size (classes F)) (suc size)
    held_more = record {
      some = h.some;
      most = h.most;
      room = length_put n h.most store size F l fits ∙ h.room;
      places = length-set counts size (classes F) ∙ h.places;
      few = less;
      counted = λ i k. counted_more i k (ltb i size) refl;
    }

  -- ---- what placing leaves

  -- the column is a member
  pub placed_old : (r : ℕ) → r < size → member_at S r ≡ F → PlacedMember n S F r store counts
  placed_old r q e = old (rw ends q) e (rw ends h) (ap (members_of n store) ends)

  -- it is none, and there is no room
  pub no_room : size ≡ 32 → (F ∈ S → ⊥) → NoRoom n S F store counts
  no_room e f = record { full = ends ∙ e; fresh = f; held = rw ends h; members = ap (members_of n store) ends }

  -- the same by what a search finds
  pub placed_found : (r : Option ℕ) → size ≡ 32 → MatchOption r (F ∈ S → ⊥) (λ i. (i < size) × (member_at S i ≡ F)) → MatchOption r (NoRoom n S F store counts) (λ i. PlacedMember n S F i store counts)
  placed_found None e f = no_room e f
  placed_found (Some i) e q = placed_old i q.0 q.1

  -- it is put after the last member
  pub placed_new : size < 32 → (F ∈ S → ⊥) → (after : List ℕ) → after ≡ paste store (240 * size) F (length F) → (count : ℕ) → count ≡ classes F → PlacedMember n S F size after (set counts size count)
  placed_new less f after p count q =
      subst (λ (t : List ℕ). PlacedMember n S F size t (set counts size count)) (sym (p ∙ paste_put n h.most store size F l))
      (new (sym ends) less f (rw q (held_more less)) (longer less))

-- ---- the size

-- the column stands after the last member
pub grown_new : (size place : ℕ) → place ≡ size → grown_to size place ≡ size + 1
grown_new size place e = rw (eq-eqb place size e, grown_to)

-- the column stands elsewhere
pub grown_old : (size place : ℕ) → (place ≡ size → ⊥) → grown_to size place ≡ size
grown_old size place n = rw (ne_eqb place size n, grown_to)
