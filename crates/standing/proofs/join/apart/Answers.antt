use mathlib.Core.Path.{◌≡◌, ap, ◌∙◌}
use mathlib.Core.List.{List, ◌++◌}
use Prim.Native.Nat.{ℕ, ◌+◌, ◌-◌, ◌≤◌, ◌<◌}
use native.Mathlib.Omega.{arith}
use lib.Dec.{ltb}
use lib.ListN.{length, take, drop, replicate, length-replicate, length-append, length-drop, get_or-replicate, get_or-append}
use lib.Seq.{length-take-le}
use borrow.Author.Tests.{ltb-true, ltb-false}
use Rattle.std.proofs.lemmas.List.{get_or-drop, get_or-append_right}
use Rattle.rules.specs.Factor.{at}
use Rattle.rules.proofs.Numbering.{by_cases}
use Rattle.standing.proofs.join.apart.Goals as goal

-- a table whose first entries are stored in turn, and of which the first ones get the entry low again
module _ (low top : ℕ) (items : List ℕ) (few : top ≤ 256) (byte : low < 256) (long : length items ≡ top) (own : (y : ℕ) → y < top → at items y ≡ y) where
  abbrev whole : List ℕ
  whole = items ++ drop top (replicate 256 low)

  abbrev cut : List ℕ
  cut = replicate low low ++ drop low whole

  length_whole : length whole ≡ 256
  length_whole = simp (length-append, length-drop, length-replicate) (omega arith)

  length_cut : length cut ≡ 256
  length_cut = simp (length-append, length-drop, length-replicate) (omega (arith, length_whole))

  kept : (x : ℕ) → low ≤ x → at cut x ≡ at whole x
  kept x h =
      let e : low + (x - low) ≡ x = omega arith in
      get_or-append_right (replicate low low) (drop low whole) low x 0 (length-replicate low low) h ∙ get_or-drop low whole (x - low) 0 ∙ ap (at whole) e

  stored : (x : ℕ) → x < top → at whole x ≡ x
  stored x h = get_or-append items (drop top (replicate 256 low)) 0 x (omega arith) ∙ own x h

  past : (x : ℕ) → top ≤ x → x < 256 → at whole x ≡ low
  past x h k =
      let e : top + (x - top) ≡ x = omega arith in
      get_or-append_right items (drop top (replicate 256 low)) top x 0 long h ∙ get_or-drop top (replicate 256 low) (x - top) 0
      ∙ ap (at (replicate 256 low)) e ∙ get_or-replicate 256 x low 0 k

  own_cut : (x : ℕ) → low ≤ x → x < top → at cut x ≡ x
  own_cut x h k = kept x h ∙ stored x k

  bytes_cut : (x : ℕ) → x < 256 → at cut x < 256
  bytes_cut x h =
      by_cases (ltb x low)
      (λ e. let k : x < length (replicate low low) = rw (length-replicate low low) (ltb-true x low e) in
      let q : at cut x ≡ low = get_or-append (replicate low low) (drop low whole) 0 x k ∙ get_or-replicate low x low 0 (ltb-true x low e) in
      omega arith)
      (λ e. let q = kept x (ltb-false x low e) in
      by_cases (ltb x top)
      (λ f. let p = stored x (ltb-true x top f) in omega arith)
      (λ f. let p = past x (ltb-false x top f) h in omega arith))

pub returns : goal.returns
returns c =
    let low = c.args.low in
    let top = c.args.top in
    let items = c.loop-x.entry-items in
    let whole : List ℕ = items ++ drop top (replicate 256 low) in
    let part : length (take top (replicate 256 low)) ≡ top = length-take-le top (replicate 256 low) (omega (arith, length-replicate 256 low)) in
    let long : length items ≡ top = c.loop-x.auto.entry-items ∙ part in
    let end : c.loop-x.x ≡ top = omega (arith, c.loop-x-test.false, c.loop-x.auto.x-end, part, long) in
    let own : (y : ℕ) → y < top → at items y ≡ y = rw (← end) c.loop-x.invariant in
    let byte : low < 256 = omega (arith, c.ranges.low) in
    let start : length (take low whole) ≡ low = length-take-le low whole (omega (arith, length_whole low top items c.requires byte long own)) in
    let e : c.fill.new.self ≡ replicate low low = c.fill.ensures.after (λ y e. e) ∙ ap (λ (n : ℕ). replicate n low) start in
    rw e (record {
      long = length_cut low top items c.requires byte long own;
      own = own_cut low top items c.requires byte long own;
      bytes = bytes_cut low top items c.requires byte long own;
    })
