-- `write_signed`: a minus sign and then the magnitude is the whole number.
use mathlib.Core.Path.{◌≡◌, ap, ◌∙◌, subst}
use mathlib.Core.Bool.{true, false}
use mathlib.Core.List.{[], ◌∷◌}
use lib.IntN.{ℤ, pos, nat_abs}
use lib.Signed.{lt_z}
use Rattle.rules.specs.Lists.{decimal_of}
use Rattle.decimal.proofs.Writing.{written_append}
use Rattle.decimal.proofs.Signed.{back, signed_below, signed_above}
use Rattle.decimal.proofs.write_signed.Goals as goal

pub returns-then-d-lt0 : goal.returns-then-d-lt0
returns-then-d-lt0 c =
    let d = c.write_decimal in
    let m = c.unsigned_abs in
    let w = c.write_byte-next in
    let t = c in
    let s = t in
    let a = s.args in
    let size : m.result ≡ nat_abs a.d = m.ensures.value ∙ ap nat_abs (back a.d s.ranges.d) in
    let e = signed_below a.d (subst (λ (x : ℤ). lt_z x (pos 0) ≡ true) (back a.d s.ranges.d) t.if-d-lt0.true) in
    let two = written_append a.out.now a.at (45 ∷ []) (decimal_of (nat_abs a.d)) in
    record {
      answer = rw e (d.ensures.answer ∙ rw (w.ensures.answer, w.ensures.bytes, size) two.1);
      bytes = rw e (d.ensures.bytes ∙ rw (w.ensures.answer, w.ensures.bytes, size) two.0);
    }

pub returns : goal.returns
returns c =
    let d = c.write_decimal-2 in
    let m = c.unsigned_abs-2 in
    let t = c in
    let s = t in
    let a = s.args in
    let size : m.result ≡ nat_abs a.d = m.ensures.value ∙ ap nat_abs (back a.d s.ranges.d) in
    let e = signed_above a.d (subst (λ (x : ℤ). lt_z x (pos 0) ≡ false) (back a.d s.ranges.d) t.if-d-lt0.false) in
    record {
      answer = rw e (d.ensures.answer ∙ rw size);
      bytes = rw e (d.ensures.bytes ∙ rw size);
    }
