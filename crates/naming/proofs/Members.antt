-- Laws of the names of all members: the bytes of each name, and the room for them.
-- Assumes nothing.
use mathlib.Core.Path.{◌≡◌, refl, sym, ap, ap₂, ◌∙◌}
use mathlib.Core.Bool.{true, ◌&&◌}
use mathlib.Core.List.{List, [], ◌∷◌, ◌++◌, append_assoc}
use Prim.Native.Nat.{ℕ, zero, suc, ◌+◌, ◌-◌, ◌*◌, ◌≤◌, ◌<◌, min}
use native.Mathlib.Nat.{not-suc-le-zero}
use native.Mathlib.Numerals.{add-one}
use native.Mathlib.Omega.{arith}
use lib.Dec.{leb}
use lib.ListN.{length, take, drop, set, length-take, take-append-drop}
use lib.Seq.{take-take, take-length}
use borrow.Author.Tests.{leb-true}
use borrow.Rule.Slice.PartMut.{mid_of, put_mid}
use Rattle.rules.proofs.Sheet.{and_left, and_right}
use Rattle.decimal.specs.Writing.{fits, written, place_after}
use Rattle.naming.specs.declared.columns.Look.{Look}
use Rattle.naming.specs.Answers.{starting_with, look_fits}
use Rattle.naming.specs.Members.{names_written, lengths_written, members_fit}

-- as much of a text as there is room for
module _ (out W : List ℕ) where
  held_length : length (take (length out) W) ≡ min (length W) (length out - 0)
  held_length = omega (arith, length-take (length out) W)

  pub written_held : written out 0 W ≡ starting_with (take (length out) W) out
  unfolding written fits
  written_held =
      let X = take (length out) W in
      let front : take (length X) W ≡ X = sym (take-take (length X) (length out) W (omega (arith, held_length))) ∙ take-length X in
      let z : 0 + length X ≡ length X = omega arith in
      rw (← held_length, z, front)

  pub place_held : place_after out 0 W ≡ length (take (length out) W)
  unfolding place_after fits
  place_held = omega (arith, held_length)

-- ---- names side by side

-- a name that is written into its part of the buffer
pub slot_put : (i k : ℕ) (b W : List ℕ) → k ≡ 160 → 160 * i + 160 ≤ length b → length W ≤ 160 → put_mid (160 * i) k b (starting_with W (mid_of (160 * i) k b)) ≡ take (160 * i) b ++ starting_with W (drop (160 * i) b)
slot_put i k b W e room short =
    ap (λ (x : List ℕ). take (160 * i) b ++ x)
    (append_assoc W (drop (length W) (take k (drop (160 * i) b))) (drop k (drop (160 * i) b))
    ∙ ap (λ (x : List ℕ). W ++ x) (drop_part (length W) k (drop (160 * i) b) (omega arith)))
  where
    drop_part : (l k : ℕ) (x : List ℕ) → l ≤ k → drop l (take k x) ++ drop k x ≡ drop l x
    drop_part zero k x h = take-append-drop k x
    drop_part (suc l) zero x h = absurd (not-suc-le-zero h)
    drop_part (suc l) (suc k) [] h = refl
    drop_part (suc l) (suc k) (y ∷ x) h = drop_part l k x (omega arith)

module _ (f : ℕ → List ℕ) (names lengths : List ℕ) where
  pub names_turn : (i : ℕ) → names_written f names (i + 1) ≡ take (160 * i) (names_written f names i) ++ starting_with (f i) (drop (160 * i) (names_written f names i))
  unfolding names_written
  names_turn i = rw add-one

  pub lengths_turn : (i : ℕ) → lengths_written f lengths (i + 1) ≡ set (lengths_written f lengths i) i (length (f i))
  unfolding lengths_written
  lengths_turn i = rw add-one

-- names that agree
pub names_ext : (f g : ℕ → List ℕ) (names : List ℕ) (m : ℕ) → ((i : ℕ) → i < m → f i ≡ g i) → names_written f names m ≡ names_written g names m
unfolding names_written
names_ext f g names zero h = refl
names_ext f g names (suc m) h =
    ap₂ (λ (b W : List ℕ). take (160 * m) b ++ starting_with W (drop (160 * m) b)) (names_ext f g names m (λ i l. h i (omega arith))) (h m (omega arith))

pub lengths_ext : (f g : ℕ → List ℕ) (lengths : List ℕ) (m : ℕ) → ((i : ℕ) → i < m → f i ≡ g i) → lengths_written f lengths m ≡ lengths_written g lengths m
unfolding lengths_written
lengths_ext f g lengths zero h = refl
lengths_ext f g lengths (suc m) h =
    ap₂ (λ (l W : List ℕ). set l m (length W)) (lengths_ext f g lengths m (λ i l. h i (omega arith))) (h m (omega arith))

-- ---- what the members of a family are named by

pub record FamilyFits (look : Look) (size tableLength familyLength nameLength lengths : ℕ) : Type 0 where
  pub columns : look_fits look tableLength ≡ true
  pub few : size ≤ 32
  pub long : 7680 ≤ familyLength
  pub room : 160 * size ≤ nameLength
  pub counted : size ≤ lengths

pub family_fits_lem : (look : Look) (size t f r l : ℕ) → members_fit look size t f r l ≡ true → FamilyFits look size t f r l
unfolding members_fit
family_fits_lem look size t f r l e =
    let e1 = and_left (look_fits look t && leb size 32 && leb 7680 f && leb (160 * size) r) (leb size l) e in
    let e2 = and_left (look_fits look t && leb size 32 && leb 7680 f) (leb (160 * size) r) e1 in
    let e3 = and_left (look_fits look t && leb size 32) (leb 7680 f) e2 in
    record {
      columns = and_left (look_fits look t) (leb size 32) e3;
      few = leb-true size 32 (and_right (look_fits look t) (leb size 32) e3);
      long = leb-true 7680 f (and_right (look_fits look t && leb size 32) (leb 7680 f) e2);
      room = leb-true (160 * size) r (and_right (look_fits look t && leb size 32 && leb 7680 f) (leb (160 * size) r) e1);
      counted = leb-true size l (and_right (look_fits look t && leb size 32 && leb 7680 f && leb (160 * size) r) (leb size l) e);
    }
