-- `infimum_many` meets its contract: the numbers of the plots have the classes of the infimum.
use mathlib.Core.Path.{◌≡◌, sym, ap, ◌∙◌}
use Prim.Native.Nat.{ℕ, ◌<◌}
use native.Mathlib.Omega.{arith}
use lib.ListN.{length, take}
use lib.Seq.{take_all}
use Rattle.rules.specs.Factor.{Column, at, number, classes}
use Rattle.factor.specs.Lent.{plots_of, overlay}
use Rattle.standing.proofs.Codes.{codes_of, take_codes, number_codes, classes_codes}
use Rattle.standing.proofs.many.infimum_many.Goals as goal

pub returns : goal.returns
returns c =
    let k = c.args.columns in
    let r = k.in_ranges in
    let f = k.f.now in
    let g = k.g.now in
    let w = k.past_g in
    let l : length f ≡ length g = sym r.even in
    let bytes : (u : ℕ) → u < length f → at g u < w = λ u h. r.below_g u (rw r.even h) in
    let codes = c.coded.result in
    let long = c.coded.ensures.long in
    let e : take (length f) codes ≡ codes_of w f g = take_codes w f g l codes (omega (arith, long, r.few)) c.coded.ensures.codes in
    let q : take (length f) (plots_of codes) ≡ codes_of w f g = ap (take (length f)) (take_all 240 codes (omega (arith, long))) ∙ e in
    record {
      answer = c.number_levels.ensures.answer ∙ ap classes q ∙ classes_codes w f g l bytes;
      numbers = c.number_levels.ensures.numbers ∙ ap (λ (x : Column). overlay c.args.out.now x) (ap number q ∙ number_codes w f g l bytes);
    }
