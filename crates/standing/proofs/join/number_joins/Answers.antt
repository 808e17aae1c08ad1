use mathlib.Core.Path.{◌≡◌, refl, sym, ap, ap₂, ◌∙◌}
use mathlib.Core.List.{List, ◌++◌}
use Prim.Native.Nat.{ℕ, ◌<◌, ◌≤◌}
use native.Mathlib.Omega.{arith}
use lib.ListN.{length, set, drop, replicate, length-set}
use lib.Seq.{take-length, length-take-le}
use Rattle.rules.specs.Factor.{universal}
use Rattle.rules.proofs.Extremes.{length_universal}
use Rattle.factor.specs.Lent.{overlay}
use Rattle.factor.proofs.Fill.{filled_step}
use Rattle.standing.specs.Joining.{spread}
use Rattle.standing.proofs.Joining.{length_spread, spread_at, one_entry, number_one, classes_one, classes_listed, number_listed}
use Rattle.standing.proofs.join.number_joins.Goals as goal

-- an array that begins with so many 1 is that with the universal factor
ones : (n : ℕ) (new old : List ℕ) → new ≡ replicate n 1 → new ++ drop n old ≡ overlay old (universal n)
unfolding universal
ones n new old e = ap₂ (λ (a b : List ℕ). a ++ b) e (ap (λ (k : ℕ). drop k old) (sym (length_universal n)))

pub returns-then-joins : goal.returns-then-joins
returns-then-joins c =
    let f = c.args.f.now in
    let j = c.args.joins.now in
    let one = one_entry f j.top j.entries c.requires.below (j.joined c.if-joins.true) in
    let room : length f ≤ length c.args.out.now = omega arith in
    record {
      answer = sym (classes_one j.entries f one (c.requires.some c.if-joins.true));
      numbers = ones (length f) _ c.args.out.now (c.fill.ensures.after (λ y e. e) ∙ ap (λ (n : ℕ). replicate n 1) (length-take-le (length f) c.args.out.now room))
          ∙ ap (overlay c.args.out.now) (sym (number_one j.entries f one));
    }

pub loop-u-init : goal.loop-u-init
loop-u-init c = (omega arith, refl)

pub loop-u-preserved : goal.loop-u-preserved
loop-u-preserved c =
    let f = c.args.f.now in
    let numbers = c.number_labels-count.result.0 in
    let u = c.loop-u.u in
    let h : u < length f = omega arith in
    let k : u < length c.args.out.now = omega arith in (
      simp length-set c.loop-u.invariant.0,
      ap₂ (λ (l : List ℕ) (y : ℕ). set l u y) c.loop-u.invariant.1 (sym (spread_at numbers f u h)) ∙ filled_step c.args.out.now (spread numbers f) u 0 (rw length_spread h) k,
    )

pub returns : goal.returns
returns c =
    let f = c.args.f.now in
    let x = c.args.x.now in
    let t = c.args.joins.now.entries in
    let r = c.number_labels-count.ensures in
    let row = spread c.number_labels-count.result.0 f in
    let e : c.loop-u.u ≡ length row = omega (arith, length_spread c.number_labels-count.result.0 f) in
    record {
      answer = r.count ∙ classes_listed t f x c.requires.among c.requires.order;
      numbers = c.loop-u.invariant.1 ∙ rw (e, take-length row) (ap (overlay c.args.out.now) (number_listed t f x c.requires.among c.requires.order c.number_labels-count.result.0 r.numbers));
    }
