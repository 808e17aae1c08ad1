use mathlib.Core.Path.{◌≡◌, sym, ap, ◌∙◌}
use Prim.Native.Nat.{ℕ, suc, ◌≤◌, ◌<◌}
use native.Mathlib.Omega.{arith}
use lib.ListN.{get_or}
use Rattle.numbering.specs.Seen.{class_numbers, look_up, found}
use Rattle.numbering.proofs.Chain.{bucket_less, look_hit, look_miss, look_end, look_enough, found_some}
use Rattle.numbering.proofs.Classes.look_up.Goals as goal

pub bounds-self-bucket : goal.bounds-self-bucket
bounds-self-bucket c = rw c.bucket.ensures (bucket_less _)

pub loop-c-init : goal.loop-c-init
loop-c-init c =
    let s = c.args.self.now in
    let held = s.chained in
    let start = get_or s.last c.bucket.result 0 in
    let h : start ≤ s.count = held.heads c.bucket.result in
    let few = s.few in (
      h,
      look_enough s.labels s.chain c.args.x s.count held.descends (suc start) class_numbers start h (omega arith) (omega (arith, h, few))
          ∙ ap (λ (b : ℕ). look_up s.labels s.chain c.args.x class_numbers (get_or s.last b 0)) c.bucket.ensures,
    )

pub returns-then-self-c : goal.returns-then-self-c
returns-then-self-c c =
    let s = c.args.self.now in
    found_some c.loop-c.c _ c.loop-c-test.true (sym (look_hit s.labels s.chain c.args.x c.loop-c.c c.loop-c.c c.loop-c-test.true c.if-self-c.true) ∙ c.loop-c.invariant.1)

pub loop-c-preserved : goal.loop-c-preserved
loop-c-preserved c =
    let s = c.args.self.now in
    let held = s.chained in
    let n = get_or s.chain c.loop-c.c 0 in
    let l : n < c.loop-c.c = held.descends c.loop-c.c (omega arith) (omega arith) in (
      omega (arith, l),
      look_enough s.labels s.chain c.args.x s.count held.descends (suc n) c.loop-c.c n (omega (arith, l)) (omega arith) l
          ∙ sym (look_miss s.labels s.chain c.args.x c.loop-c.c c.loop-c.c c.loop-c-test.true c.if-self-c.false)
          ∙ c.loop-c.invariant.1,
    )

pub loop-c-smaller : goal.loop-c-smaller
loop-c-smaller c =
    c.args.self.now.chained.descends c.loop-c.c (omega arith) (omega arith)

pub returns : goal.returns
returns c =
    let s = c.args.self.now in
    let z : c.loop-c.c ≡ 0 = omega arith in
    ap found (sym (look_end s.labels s.chain c.args.x 1) ∙ rw z at c.loop-c.invariant.1)
