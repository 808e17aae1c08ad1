-- `write_bytes`: nothing past the buffer, and else a copy of as many bytes as fit.
use mathlib.Core.Path.{◌≡◌, refl, ap, ◌∙◌}
use Prim.Native.Nat.{◌+◌, ◌-◌, ◌<◌, min}
use native.Mathlib.Numerals.{add-one}
use native.Mathlib.Omega.{arith}
use lib.ListN.{length, get_or, take, length-set}
use lib.Seq.{paste, paste-zero, paste-suc, get_or-take, length-take-le}
use Rattle.decimal.specs.Writing.{fits, written, place_after}
use Rattle.decimal.proofs.Writing.{wrote_none}
use Rattle.decimal.proofs.write_bytes.Goals as goal

pub returns-then-out-at : goal.returns-then-out-at
returns-then-out-at c =
    let a = c.args in
    let whole = wrote_none a.out.now a.at a.from.now c.if-out-at.true in record { answer = whole.0; bytes = whole.1 }

pub loop-i-init : goal.loop-i-init
loop-i-init c = let a = c.args in (refl, paste-zero a.out.now a.at a.from.now)

pub loop-i-preserved : goal.loop-i-preserved
loop-i-preserved c =
    let a = c.args in
    let d = a.out.now in
    let f = a.from.now in
    let i = c.loop-i.i in
    let n = c.min-n.result in
    let part : length (take n f) ≡ n = length-take-le n f (omega arith) in
    let h : a.at + i < length d = omega (arith, part) in
    let k : i < length f = omega (arith, part) in
    let item : get_or (take n f) i 0 ≡ get_or f i 0 = get_or-take n f i 0 (omega (arith, part)) in
    (simp length-set c.loop-i.invariant.0, rw (c.loop-i.invariant.1, item, add-one) (paste-suc d a.at f i 0 h k))

pub returns : goal.returns
unfolding written place_after fits
returns c =
    let a = c.args in
    let n = c.min-n.result in
    let part : length (take n a.from.now) ≡ n = length-take-le n a.from.now (omega arith) in
    let e : c.loop-i.i ≡ min (length a.from.now) (length a.out.now - a.at) = omega (arith, part) in
    record {
      answer = omega (arith, e, part);
      bytes = c.loop-i.invariant.1 ∙ ap (paste a.out.now a.at a.from.now) e;
    }
