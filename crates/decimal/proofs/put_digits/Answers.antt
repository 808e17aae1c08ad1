use mathlib.Core.Path.{◌≡◌, sym, ◌∙◌}
use mathlib.Core.List.{◌∷◌}
use Prim.Native.Nat.{suc, ◌+◌, ◌-◌, ◌%◌, ◌≤◌}
use native.Mathlib.Omega.{arith}
use borrow.Author.Rules.{rules}
use lib.ListN.{length, drop, set, length-set, drop_of_length-le}
use Rattle.decimal.proofs.Digits.{digits_more, digits_one, decimal_start, drop_set, two_places, place_fewer}
use Rattle.decimal.proofs.put_digits.Goals as goal

pub loop-rest-init : goal.loop-rest-init
loop-rest-init c =
    let ds = c.args.digits.now in
    let l : length ds ≡ 20 = search rules in
    let h : length ds ≤ 20 = omega arith in
    (omega arith, omega arith, l, omega arith, rw (drop_of_length-le ds h) (decimal_start c.args.n))

pub loop-rest-preserved : goal.loop-rest-preserved
loop-rest-preserved c =
    let b = c.loop-rest in
    let v = 48 + b.rest % 10 in
    let two : 2 ≤ b.first = two_places b.rest b.first (omega arith) b.invariant.3 in
    let e : suc (b.first - 1) ≡ b.first = omega arith in
    let d : drop (b.first - 1) (set b.digits (b.first - 1) v) ≡ v ∷ drop b.first b.digits =
    drop_set b.digits (b.first - 1) v (omega arith) ∙ rw e in (
      omega arith,
      omega arith,
      simp length-set b.invariant.2,
      place_fewer b.rest b.first (omega arith) b.invariant.3,
      rw d (sym (digits_more b.rest (drop b.first b.digits) (omega arith)) ∙ b.invariant.4),
    )

pub returns : goal.returns
returns c =
    let b = c.loop-rest in
    let v = 48 + b.rest in
    let e : suc (b.first - 1) ≡ b.first = omega arith in
    let d : drop (b.first - 1) (set b.digits (b.first - 1) v) ≡ v ∷ drop b.first b.digits =
    drop_set b.digits (b.first - 1) v (omega arith) ∙ rw e in
    record {
      place = omega arith;
      digits = d ∙ sym (digits_one b.rest (drop b.first b.digits) (omega arith)) ∙ b.invariant.4;
    }
