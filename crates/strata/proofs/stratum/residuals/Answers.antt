use mathlib.Core.Path.{◌≡◌, ap, ap₂, ◌∙◌}
use Prim.Native.Nat.{ℕ}
use native.Mathlib.Omega.{arith}
use lib.IntN.{ℤ, pos, ◌-ℤ◌}
use lib.ListN.{get_or, length}
use mir.Syntax.{w64}
use mir.Val.{of_z, to_z}
use mir.ValLaws.{to_z-of_z}
use Rattle.rules.specs.Lists.{bit_at}
use Rattle.strata.specs.Sums.{sum_passing, residual_at}
use Rattle.strata.proofs.Fill.{up_start, up_step, up_end}
use Rattle.strata.proofs.Sums.{small_fits}
use Rattle.strata.proofs.StratumLaws.{residual_turn, residual_fits}
use Rattle.strata.proofs.stratum.residuals.Goals as goal

pub loop-p-init : goal.loop-p-init
loop-p-init c =
    let a = c.args in
    up_start (pos 0) (residual_at a.own.now a.numbers.now a.places.now (length a.places.now)) (length a.own.now)

pub less-number-requires : goal.less-number-requires
less-number-requires c =
    let x = get_or c.args.own.now c.loop-p.p (pos 0) in
    let h = c.requires.3 c.loop-p.p in
    (omega arith, rw (to_z-of_z w64 x (small_fits x h)) h, c.requires.4)

pub loop-p-preserved : goal.loop-p-preserved
loop-p-preserved c =
    let a = c.args in
    let p = c.loop-p.p in
    let m = length a.places.now in
    let x = get_or a.own.now p (pos 0) in
    let f = residual_at a.own.now a.numbers.now a.places.now m in
    let e : c.less-number.result ≡ f p =
    c.less-number.ensures
    ∙ ap (λ (k : ℕ). to_z w64 (of_z w64 x) -ℤ sum_passing (bit_at c.stratum_word.result) (λ j. get_or a.numbers.now j (pos 0)) k) c.requires.2
    ∙ ap₂ (λ (z : ℤ) (w : ℕ). z -ℤ sum_passing (bit_at w) (λ j. get_or a.numbers.now j (pos 0)) m) (to_z-of_z w64 x (small_fits x (c.requires.3 p))) c.stratum_word.ensures
    ∙ residual_turn a.own.now a.numbers.now a.places.now m p in
    let v : to_z w64 (of_z w64 c.less-number.result) ≡ f p =
    ap (λ (z : ℤ). to_z w64 (of_z w64 z)) e ∙ to_z-of_z w64 (f p) (residual_fits a.own.now a.numbers.now a.places.now m p (omega arith) c.requires.3 c.requires.4) in
    rw (c.loop-p.invariant, v) (up_step (pos 0) f (length a.own.now) p (omega arith) (omega arith))

pub returns : goal.returns
returns c =
    let a = c.args in
    c.loop-p.invariant ∙ up_end (pos 0) (residual_at a.own.now a.numbers.now a.places.now (length a.places.now)) (length a.own.now) c.loop-p.p (omega arith)
