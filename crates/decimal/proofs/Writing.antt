-- Laws of text written from a place on.
-- Assumes nothing.
use mathlib.Core.Path.{◌≡◌, refl, sym, ap, ap₂, ◌∙◌, subst}
use mathlib.Core.Bool.{Bool, true, false}
use mathlib.Core.List.{List, [], ◌∷◌, ◌++◌, append_assoc}
use Prim.Native.Nat.{ℕ, ◌+◌, ◌-◌, ◌<◌, ◌≤◌, min}
use native.Mathlib.Nat.{add_assoc}
use native.Mathlib.Omega.{arith}
use lib.Dec.{leb}
use lib.ListN.{length, take, drop, set, length-append}
use lib.Seq.{paste, paste-zero, paste-suc, length-paste, take-paste, drop-paste, drop-drop, take-append-le, take-append-add, take-length, take_all, length-take-le}
use borrow.Rule.Slice.PartMut.{put_mid}
use Rattle.std.proofs.lemmas.Slice.{put_mid-paste}
use borrow.Author.Tests.{leb-true, leb-false}
use Rattle.decimal.specs.Writing.{fits, written, place_after, Wrote}

-- two copies, one after the other
paste_paste : (d : List ℕ) (at : ℕ) (s t : List ℕ) (k : ℕ) → at + length s ≤ length d
    → paste (paste d at s (length s)) (at + length s) t k ≡ paste d at (s ++ t) (length s + k)
paste_paste d at s t k h =
    let n = length s in
    let p = paste d at s n in
    let front : take (at + n) p ≡ take at d ++ s = take-paste d at s n (omega arith) (omega arith) ∙ ap (λ (r : List ℕ). take at d ++ r) (take-length s) in
    let back : drop (at + n + k) p ≡ drop (at + (n + k)) d =
    sym (drop-drop k (at + n) p) ∙ ap (drop k) (drop-paste d at s n (omega arith) (omega arith)) ∙ drop-drop k (at + n) d ∙ ap (λ (i : ℕ). drop i d) (add_assoc at n k) in
    ap₂ (λ (x y : List ℕ). x ++ take k t ++ y) front back
    ∙ ap (λ (x : List ℕ). x ++ drop (at + (n + k)) d) (append_assoc (take at d) s (take k t) ∙ ap (λ (x : List ℕ). take at d ++ x) (sym (take-append-add s t k)))

-- room for two texts, where the first fits
both_fit : (n m r at : ℕ) → at + n ≤ r → min (n + m) (r - at) ≡ n + min m (r - (at + n))
both_fit n m r at h = omega arith

module _ (out : List ℕ) (at : ℕ) where
  -- writing changes no length
  pub length_written : (text : List ℕ) → length (written out at text) ≡ length out
  unfolding written fits
  length_written text = go (leb at (length out)) refl
    where
      go : (b : Bool) → leb at (length out) ≡ b → length (paste out at text (min (length text) (length out - at))) ≡ length out
      go true e = let h = leb-true at (length out) e in length-paste out at text (min (length text) (length out - at)) (omega arith) (omega arith)
      go false e =
          let h = leb-false at (length out) e in
          let z : min (length text) (length out - at) ≡ 0 = omega arith in
          rw z (ap length (sym (paste-zero out at text)))

  -- a text and then another is the two in one
  module _ (s t : List ℕ) where
    abbrev Both : Type 0
    Both = (written (written out at s) (place_after out at s) t ≡ written out at (s ++ t)) × (place_after (written out at s) (place_after out at s) t ≡ place_after out at (s ++ t))

    room : at + length s ≤ length out → Both
    unfolding written place_after fits
    room h =
        let n = length s in
        let k = min (length t) (length out - (at + n)) in
        let f : min n (length out - at) ≡ n = omega arith in
        let l : length (paste out at s n) ≡ length out = length-paste out at s n h (omega arith) in
        let g : min (length t) (length (paste out at s n) - (at + n)) ≡ k = ap (λ (x : ℕ). min (length t) (x - (at + n))) l in
        let e : min (length (s ++ t)) (length out - at) ≡ n + k = ap (λ (x : ℕ). min x (length out - at)) (length-append s t) ∙ both_fit n (length t) (length out) at h in
        (rw (f, g, e) (paste_paste out at s t k h), rw (f, g, e) (omega arith))

    no_room : length out < at + length s → Both
    unfolding written place_after fits
    no_room h =
        let m = length out - at in
        let f : min (length s) m ≡ m = omega arith in
        let l : length (paste out at s m) ≡ length out = subst (λ (x : ℕ). length (paste out at s x) ≡ length out) f (length_written s) in
        let g : min (length t) (length (paste out at s m) - (at + m)) ≡ 0 = omega arith in
        let e : min (length (s ++ t)) (length out - at) ≡ m = omega (arith, length-append s t) in (
          rw (f, g, e) (sym (paste-zero (paste out at s m) (at + m) t) ∙ ap (λ (x : List ℕ). take at out ++ x ++ drop (at + m) out) (sym (take-append-le m s t (omega arith)))),
          rw (f, g, e) (omega arith),
        )

    pub written_append : Both
    written_append = go (leb (at + length s) (length out)) refl
      where
        go : (b : Bool) → leb (at + length s) (length out) ≡ b → Both
        go true e = room (leb-true (at + length s) (length out) e)
        go false e = no_room (leb-false (at + length s) (length out) e)

-- a text with room for it
pub written_all : (out : List ℕ) (text : List ℕ) → length text ≤ length out → written out 0 text ≡ text ++ drop (length text) out
unfolding written fits
written_all out text h =
    let e : min (length text) (length out - 0) ≡ length text = omega arith in
    let z : 0 + length text ≡ length text = omega arith in
    rw (e, z, take-length text)

pub place_all : (out : List ℕ) (text : List ℕ) → length text ≤ length out → place_after out 0 text ≡ length text
unfolding place_after fits
place_all out text h = omega arith

-- nothing is written
pub written_nil : (out : List ℕ) (at : ℕ) → written out at [] ≡ out
unfolding written fits
written_nil out at =
    let e : min 0 (length out - at) ≡ 0 = omega arith in
    rw e (sym (paste-zero out at []))

pub place_nil : (out : List ℕ) (at : ℕ) → place_after out at [] ≡ at
unfolding place_after fits
place_nil out at = omega arith

-- ---- one writer after another

-- nothing
pub wrote_nil : (out : List ℕ) (at : ℕ) → Wrote out at [] out at
wrote_nil out at = (sym (place_nil out at), sym (written_nil out at))

-- one byte, where there is room for it
pub wrote_byte : (out : List ℕ) (at b : ℕ) → at < length out → Wrote out at (b ∷ []) (set out at b) (at + 1)
unfolding written place_after fits
wrote_byte out at b h =
    let e : min 1 (length out - at) ≡ 1 = omega arith in
    let z : at + 0 ≡ at = omega arith in
    let l : at + 0 < length out = omega arith in
    let k : 0 < length (b ∷ []) = omega arith in
    (rw e, rw e (ap₂ (λ (o : List ℕ) (i : ℕ). set o i b) (paste-zero out at (b ∷ [])) (sym z) ∙ paste-suc out at (b ∷ []) 0 0 l k))

-- and any text, where there is none
pub wrote_none : (out : List ℕ) (at : ℕ) (text : List ℕ) → length out ≤ at → Wrote out at text out at
unfolding written place_after fits
wrote_none out at text h =
    let e : min (length text) (length out - at) ≡ 0 = omega arith in
    (rw e (omega arith), rw e (paste-zero out at text))

pub wrote_past : (out : List ℕ) (at b : ℕ) → length out ≤ at → Wrote out at (b ∷ []) out at
wrote_past out at b h = wrote_none out at (b ∷ []) h

-- the start of a text that there is room for, put in the place of as many bytes
pub wrote_part : (out : List ℕ) (at : ℕ) (text : List ℕ) (n k : ℕ) (part : List ℕ) → at ≤ length out → n ≡ min (length text) (length out - at) → n ≡ k → part ≡ take n text
    → Wrote out at text (put_mid at k out part) (at + n)
unfolding written place_after fits
wrote_part out at text n k part h e l p =
    let q : n ≡ length (take n text) = sym (length-take-le n text (omega arith)) in
    (rw e, put_mid-paste at k out part (take n text) n p l q ∙ ap (λ (x : List ℕ). take at out ++ x ++ drop (at + n) out) (take_all n (take n text) (omega arith)) ∙ ap (paste out at text) e)

-- the same text
pub wrote_as : (out : List ℕ) (at : ℕ) {s t : List ℕ} {left : List ℕ} {r : ℕ} → s ≡ t → Wrote out at s left r → Wrote out at t left r
wrote_as out at e w = (w.0 ∙ ap (place_after out at) e, w.1 ∙ ap (written out at) e)

-- a text and then another
pub wrote_then : (out : List ℕ) (at : ℕ) (s t : List ℕ) {mid left : List ℕ} {p r : ℕ} → Wrote out at s mid p → Wrote mid p t left r → Wrote out at (s ++ t) left r
wrote_then out at s t v w = (
  w.0 ∙ ap₂ (λ (o : List ℕ) (i : ℕ). place_after o i t) v.1 v.0 ∙ (written_append out at s t).1,
  w.1 ∙ ap₂ (λ (o : List ℕ) (i : ℕ). written o i t) v.1 v.0 ∙ (written_append out at s t).0,
)

-- what is still to be written, from a later place, is the rest of the whole
abbrev pub Rest : List ℕ → ℕ → List ℕ → List ℕ → ℕ → List ℕ → Type 0
Rest left r rest out at whole = (place_after left r rest ≡ place_after out at whole) × (written left r rest ≡ written out at whole)

module _ (out : List ℕ) (at : ℕ) (whole : List ℕ) where
  -- a part of the rest is written
  pub rest_then : (left : List ℕ) (r : ℕ) (s t : List ℕ) {all next : List ℕ} {q : ℕ} → all ≡ s ++ t → Wrote left r s next q → Rest left r all out at whole → Rest next q t out at whole
  rest_then left r s t e w h = (
    ap₂ (λ (o : List ℕ) (i : ℕ). place_after o i t) w.1 w.0 ∙ (written_append left r s t).1 ∙ sym (ap (place_after left r) e) ∙ h.0,
    ap₂ (λ (o : List ℕ) (i : ℕ). written o i t) w.1 w.0 ∙ (written_append left r s t).0 ∙ sym (ap (written left r) e) ∙ h.1,
  )

  -- the rest in other words
  pub rest_as : (left : List ℕ) (r : ℕ) {s t : List ℕ} → s ≡ t → Rest left r s out at whole → Rest left r t out at whole
  rest_as left r e h = (sym (ap (place_after left r) e) ∙ h.0, sym (ap (written left r) e) ∙ h.1)

  -- nothing is left to write
  pub rest_end : (left : List ℕ) (r : ℕ) {s : List ℕ} → s ≡ [] → Rest left r s out at whole → Wrote out at whole left r
  rest_end left r e h =
      (sym (place_nil left r) ∙ sym (ap (place_after left r) e) ∙ h.0, sym (written_nil left r) ∙ sym (ap (written left r) e) ∙ h.1)

-- writing keeps the buffer's length
pub wrote_length : (out : List ℕ) (at : ℕ) (text : List ℕ) {left : List ℕ} {r : ℕ} → Wrote out at text left r → length left ≡ length out
wrote_length out at text w = ap length w.1 ∙ length_written out at text

-- what was written from the start on is within the buffer
pub wrote_within : (out text : List ℕ) {left : List ℕ} {r : ℕ} → Wrote out 0 text left r → r ≤ length left
unfolding place_after fits
wrote_within out text w = omega (arith, w.0, wrote_length out 0 text w)
